use Rattle.std.proofs.Common.{◌≡◌, ◌+◌, ◌≤◌}
use Rattle.nmgc_low_tests.proofs.of_updrem.push_all.Given as goal

-- there is room for the rest, and the ring is the same
abbrev pub invariant-loop-number : goal.invariant-loop-number
invariant-loop-number l = (l.from + l.count ≤ l.number + l.kept.spare) × (l.sender.ring ≡ l.initial.sender.ring)
