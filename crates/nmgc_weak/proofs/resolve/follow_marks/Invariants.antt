use Rattle.nmgc_weak.proofs.{Vocabulary.◌+◌, Vocabulary.◌-◌, Vocabulary.places_of, Passing.HasGone}
use Rattle.nmgc_weak.proofs.resolve.follow_marks.Given as goal

abbrev pub invariant-loop-at : goal.invariant-loop-at
invariant-loop-at g l =
    HasGone (g.W.HeapWords.words l.fn.words) (g.W.HeapWords.words l.words) l.fn.segments l.segments l.fn.marker l.marker (places_of l.list)

-- each mark takes room, and there is no more room than before
abbrev pub decreases-loop-at : goal.decreases-loop-at
decreases-loop-at g l = (l.marker.marked + l.marker.spare) - l.number
