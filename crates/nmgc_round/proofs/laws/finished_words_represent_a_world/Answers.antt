use Rattle.nmgc_round.proofs.Finishings.{leaves}
use Rattle.nmgc_round.proofs.laws.finished_words_represent_a_world.Goals as goal

pub returns : goal.returns
returns c = λ o words v h each. leaves o words v h each
