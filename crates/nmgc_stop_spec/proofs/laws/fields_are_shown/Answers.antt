use Rattle.nmgc_stop_spec.proofs.Vocabulary.{NoNode, field_in, field_out}
use Rattle.nmgc_stop_spec.proofs.laws.fields_are_shown.Goals as goal

pub returns-clause-sound : goal.returns-clause-sound
returns-clause-sound c = λ layout earlier places w words. field_in layout earlier NoNode places w words c.words_differ.ensures.headers

pub returns-clause-complete : goal.returns-clause-complete
returns-clause-complete c = λ layout earlier places w words. field_out layout earlier NoNode places w words c.words_differ.ensures.headers
