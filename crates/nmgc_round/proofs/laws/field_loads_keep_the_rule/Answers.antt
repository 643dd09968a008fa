use Rattle.nmgc_round.proofs.Writes.{load_keeps}
use Rattle.nmgc_round.proofs.laws.field_loads_keep_the_rule.Goals as goal

pub returns : goal.returns
returns c o words views id v p at index command h here is can = load_keeps o words views h id v here p is at index command can
