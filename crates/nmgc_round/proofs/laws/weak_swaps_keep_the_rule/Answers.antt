use Rattle.nmgc_round.proofs.Weakens.{finalise_keeps}
use Rattle.nmgc_round.proofs.laws.weak_swaps_keep_the_rule.Goals as goal

pub returns : goal.returns
returns c o words views id v p at command h here is can = finalise_keeps o words views h id v here p is at command can
