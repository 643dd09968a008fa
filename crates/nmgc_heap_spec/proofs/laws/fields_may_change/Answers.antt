use Rattle.nmgc_heap_spec.proofs.Vocabulary.{field_changed, changed_one}
use Rattle.nmgc_heap_spec.proofs.laws.fields_may_change.Goals as goal

pub returns : goal.returns
returns g c = record { words = λ layout earlier. field_changed layout earlier g.K.KnownNodes.knows; commands = changed_one }
