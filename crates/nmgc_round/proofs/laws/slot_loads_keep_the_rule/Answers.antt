use Rattle.nmgc_round.proofs.Pushes.{peek_keeps}
use Rattle.nmgc_round.proofs.laws.slot_loads_keep_the_rule.Goals as goal

pub returns : goal.returns
returns c o words views id v p at slot h here is can = peek_keeps o words views h id v here p is at slot can
