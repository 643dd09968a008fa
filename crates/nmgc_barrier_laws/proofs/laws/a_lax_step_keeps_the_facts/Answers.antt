use Rattle.nmgc_barrier_laws.specs.laws.LaxRuns.{lax_keeps_facts}
use Rattle.nmgc_barrier_laws.proofs.laws.a_lax_step_keeps_the_facts.Goals as goal

pub returns : goal.returns
returns c = lax_keeps_facts
