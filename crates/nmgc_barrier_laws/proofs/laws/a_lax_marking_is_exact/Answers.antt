use Rattle.nmgc_barrier_laws.specs.laws.LaxRuns.{lax_theorem}
use Rattle.nmgc_barrier_laws.proofs.laws.a_lax_marking_is_exact.Goals as goal

pub returns : goal.returns
returns c = lax_theorem
