use Rattle.nmgc_barrier_checker.proofs.Vocabulary.{refl}
use Rattle.nmgc_barrier_checker.proofs.cycle.Cycle.new.Goals as goal

pub with_snapshot-requires : goal.with_snapshot-requires
with_snapshot-requires c = rw c.in_ok-snapshot.ensures (record { count = refl; nodes = λ name. refl })
