use Rattle.nmgc_barrier_checker.proofs.Vocabulary.{◌≡◌, ◌++◌, filled}
use Rattle.nmgc_barrier_checker.proofs.rows.add_fill.Given as goal

abbrev pub invariant-loop-turn : goal.invariant-loop-turn
invariant-loop-turn l = l.tasks ≡ l.fn.tasks ++ filled l.filling l.turn
