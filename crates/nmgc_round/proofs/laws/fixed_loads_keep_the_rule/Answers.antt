use Rattle.nmgc_round.proofs.Fixes.{fix_keeps}
use Rattle.nmgc_round.proofs.laws.fixed_loads_keep_the_rule.Goals as goal

pub returns : goal.returns
returns c o words views id v p at offset h here is can = fix_keeps o words views h id v here p is at offset can
