use Rattle.nmgc_round.proofs.Writes.{swap_keeps}
use Rattle.nmgc_round.proofs.laws.field_swaps_keep_the_rule.Goals as goal

pub returns : goal.returns
returns c o words views id v p at index w command h here is can = swap_keeps o words views h id v here p is at index w command can
