use Rattle.nmgc_field_checker.proofs.cycle.FieldCycle.first_unscanned.Goals as goal

pub returns : goal.returns
returns c = rw (← c.self.view_is) c.first.ensures
