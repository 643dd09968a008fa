use Rattle.nmgc_weak.proofs.Entries.{ComeAfter}
use Rattle.nmgc_weak.proofs.row.place_from_end.Given as goal

abbrev pub invariant-loop-place : goal.invariant-loop-place
invariant-loop-place l = ComeAfter l.entries l.weak l.place

abbrev pub decreases-loop-place : goal.decreases-loop-place
decreases-loop-place l = l.place
