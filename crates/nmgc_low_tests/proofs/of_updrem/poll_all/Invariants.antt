use Rattle.std.proofs.Common.{◌≡◌}
use Rattle.nmgc_low_tests.proofs.of_updrem.poll_all.Given as goal

-- the ring is the same
abbrev pub invariant-loop-turn : goal.invariant-loop-turn
invariant-loop-turn l = l.receiver.ring ≡ l.initial.receiver.ring
