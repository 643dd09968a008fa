use Rattle.nmgc_round.proofs.Exchanges.{exchange_keeps}
use Rattle.nmgc_round.proofs.laws.field_exchanges_keep_the_rule.Goals as goal

pub returns : goal.returns
returns c o words views id v p at index expected w command h here is can = exchange_keeps o words views h id v here p is at index expected w command can
