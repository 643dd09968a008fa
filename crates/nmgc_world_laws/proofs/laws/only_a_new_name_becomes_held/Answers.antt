use Rattle.nmgc_world_laws.specs.{Reachable.Passes, laws.HeldSteps.step_holds_only, laws.Reached.closed_holds}
use Rattle.nmgc_world_laws.proofs.laws.only_a_new_name_becomes_held.Goals as goal

pub returns : goal.returns
returns c = record { step = λ test. step_holds_only (Passes test); closing = λ test. closed_holds (Passes test) }
