use Rattle.nmgc_round.proofs.Pushes.{slot_keeps}
use Rattle.nmgc_round.proofs.laws.slot_swaps_keep_the_rule.Goals as goal

pub returns : goal.returns
returns c o words views id v p at slot w command h here is can = slot_keeps o words views h id v here p is at slot w command can
