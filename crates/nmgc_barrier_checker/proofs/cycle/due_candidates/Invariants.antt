use Rattle.nmgc_barrier_checker.proofs.Vocabulary.{◌≡◌, take, targets}
use Rattle.nmgc_barrier_checker.proofs.cycle.due_candidates.Given as goal

abbrev pub invariant-loop-field : goal.invariant-loop-field
invariant-loop-field l = l.names.items ≡ targets (take l.field-index l.lost)
