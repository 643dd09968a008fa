use Rattle.nmgc_barrier_laws.specs.laws.CoreIsLax.{core_is_lax}
use Rattle.nmgc_barrier_laws.proofs.laws.a_machine_event_is_lax.Goals as goal

pub returns : goal.returns
returns c = core_is_lax
