use Rattle.nmgc_barrier_checker.proofs.Reasons.{closed_later_is_exact}
use Rattle.nmgc_barrier_checker.proofs.laws.a_closed_hybrid_cycle_marked_what_it_had_to.Goals as goal

pub returns : goal.returns
returns c = closed_later_is_exact
