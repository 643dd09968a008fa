use Rattle.nmgc_field_checker.proofs.{Vocabulary.refl}
use Rattle.nmgc_field_checker.proofs.cycle.FieldCycle.write_fields.Goals as goal

pub returns-clause-rest : goal.returns-clause-rest
returns-clause-rest c = rw (← c.self.view_is) refl

pub returns-clause-written : goal.returns-clause-written
returns-clause-written c = rw (← c.self.view_is) c.write.ensures.written

pub returns-clause-stores : goal.returns-clause-stores
returns-clause-stores c = rw (← c.self.view_is) c.write.ensures.stores
