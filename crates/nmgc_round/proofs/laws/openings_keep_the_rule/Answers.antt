use Rattle.nmgc_round.proofs.Openings.{opens}
use Rattle.nmgc_round.proofs.laws.openings_keep_the_rule.Goals as goal

pub returns : goal.returns
returns c = λ o words h. opens o words h
