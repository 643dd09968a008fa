use Rattle.nmgc_barrier_laws.specs.laws.Beside.{barrier_theorem}
use Rattle.nmgc_barrier_laws.proofs.laws.a_barrier_without_debts_is_exact.Goals as goal

pub returns : goal.returns
returns c = barrier_theorem
