use Rattle.nmgc_round.proofs.Thunks.{update_keeps}
use Rattle.nmgc_round.proofs.laws.result_exchanges_keep_the_rule.Goals as goal

pub returns : goal.returns
returns c o words views id v p at w command h here is can = update_keeps o words views h id v here p is at w command can
