use Rattle.nmgc_heap_spec.specs.laws.Meanings.{one_wording}
use Rattle.nmgc_heap_spec.proofs.laws.the_world_determines_words.Goals as goal

pub returns : goal.returns
returns g c = λ layout earlier other. one_wording layout earlier other g.K.KnownNodes.knows g.L.KnownNodes.knows
