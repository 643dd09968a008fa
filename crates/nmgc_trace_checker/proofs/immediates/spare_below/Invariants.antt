use Rattle.std.proofs.Common.{◌≡◌, map}
use Rattle.nmgc_trace_checker.specs.Immediates.{spare_below}
use Rattle.nmgc_trace_checker.proofs.immediates.spare_below.Given as goal

-- all registers from here on are named
abbrev pub invariant-loop-spare : goal.invariant-loop-spare
invariant-loop-spare l = spare_below (map (λ w. w.now) l.words) l.spare ≡ spare_below (map (λ w. w.now) l.words) l.bound

abbrev pub decreases-loop-spare : goal.decreases-loop-spare
decreases-loop-spare l = l.spare
