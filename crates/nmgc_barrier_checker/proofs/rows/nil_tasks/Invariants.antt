use Rattle.nmgc_barrier_checker.proofs.Vocabulary.{◌≡◌, emptied}
use Rattle.nmgc_barrier_checker.proofs.rows.nil_tasks.Given as goal

abbrev pub invariant-loop-register : goal.invariant-loop-register
invariant-loop-register l = l.tasks ≡ emptied l.register
