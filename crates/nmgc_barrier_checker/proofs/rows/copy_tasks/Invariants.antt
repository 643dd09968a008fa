use Rattle.nmgc_barrier_checker.proofs.Vocabulary.{◌≡◌, copied}
use Rattle.nmgc_barrier_checker.proofs.rows.copy_tasks.Given as goal

abbrev pub invariant-loop-turn : goal.invariant-loop-turn
invariant-loop-turn l = l.tasks ≡ copied l.copying l.turn
