use Rattle.nmgc_round.proofs.Barred.{barred_keeps}
use Rattle.nmgc_round.proofs.laws.slot_refusals_keep_the_rule.Goals as goal

pub returns : goal.returns
returns c o words views id v p at command h here is can = barred_keeps o words views h id v here p is at command can
