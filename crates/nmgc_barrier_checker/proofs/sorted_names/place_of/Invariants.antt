use Rattle.nmgc_barrier_checker.proofs.Vocabulary.{◌≤◌, ◌-◌, IsBetween}
use Rattle.nmgc_barrier_checker.proofs.sorted_names.place_of.Given as goal

abbrev pub invariant-loop-least : goal.invariant-loop-least
invariant-loop-least l = (l.least ≤ l.end) × IsBetween l.names l.name l.least l.end

abbrev pub decreases-loop-least : goal.decreases-loop-least
decreases-loop-least l = l.end - l.least
