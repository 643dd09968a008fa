use Rattle.nmgc_cycle.proofs.Vocabulary.{◌≡◌, ◌++◌, length, All, HasNamesOnce}
use Rattle.nmgc_cycle.proofs.ended_cycles.add_rows.Given as goal

abbrev pub invariant-loop-row : goal.invariant-loop-row
invariant-loop-row l = (l.rows ++ l.more ≡ l.fn.rows ++ l.fn.more) × All HasNamesOnce l.rows × All HasNamesOnce l.more

abbrev pub decreases-loop-row : goal.decreases-loop-row
decreases-loop-row l = length l.more
