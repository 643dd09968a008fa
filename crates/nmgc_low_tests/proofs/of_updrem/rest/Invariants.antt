use Rattle.nmgc_updrem.specs.Rings.{IsPair}
use Rattle.nmgc_low_tests.proofs.of_updrem.rest.Given as goal

-- the two are ends of one ring
abbrev pub invariant-loop-turn : goal.invariant-loop-turn
invariant-loop-turn l = IsPair l.sender l.receiver
