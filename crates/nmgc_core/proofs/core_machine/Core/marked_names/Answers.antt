use Rattle.nmgc_core.proofs.Closes.{marked_there}
use Rattle.nmgc_core.proofs.core_machine.Core.marked_names.Goals as goal

pub returns-clause-there : goal.returns-clause-there
returns-clause-there c = rw (← c.self.view_is) (marked_there c.self.inside.marks _ c.self.invariant)
