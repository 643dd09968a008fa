use Rattle.nmgc_field_checker.proofs.{Vocabulary.refl}
use Rattle.nmgc_field_checker.proofs.cycle.FieldCycle.make_object.Goals as goal

pub returns-clause-rest : goal.returns-clause-rest
returns-clause-rest c = rw (← c.self.view_is) refl

pub returns-in_err-make-clause-rest : goal.returns-in_err-make-clause-rest
returns-in_err-make-clause-rest c = rw (← c.self.view_is) refl

pub returns-clause-made : goal.returns-clause-made
returns-clause-made c = rw (← c.self.view_is) c.in_ok-make.ensures.made

pub returns-clause-stores : goal.returns-clause-stores
returns-clause-stores c = rw (← c.self.view_is) c.in_ok-make.ensures.stores
