use Rattle.std.proofs.Common.{length, ◌-◌}
use Rattle.nmgc_image.proofs.Searching.{IsGoing}
use Rattle.nmgc_image.proofs.search.Search.run.Given as goal

abbrev pub invariant-loop-next : goal.invariant-loop-next
invariant-loop-next l = IsGoing l.words l.initial.self l.self l.next

abbrev pub decreases-loop-next : goal.decreases-loop-next
decreases-loop-next l = length l.words - l.next
