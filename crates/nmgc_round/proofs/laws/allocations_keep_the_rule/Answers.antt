use Rattle.nmgc_round.proofs.Moves.{birth_keeps}
use Rattle.nmgc_round.proofs.laws.allocations_keep_the_rule.Goals as goal

pub returns : goal.returns
returns c o words views id v p at header command h here is can = birth_keeps o words views h id v here p is at header command can
