use Rattle.nmgc_field_checker.proofs.{FollowLaws.Followed}
use Rattle.nmgc_field_checker.proofs.search.follow.Given as goal

abbrev pub invariant-loop-place : goal.invariant-loop-place
invariant-loop-place l = Followed l.heap l.fn.found l.place l.found
