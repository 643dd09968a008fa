use Rattle.nmgc_weak.proofs.{Vocabulary.◌-◌, Vocabulary.length, Vocabulary.places_of, Passing.HasGone}
use Rattle.nmgc_weak.proofs.resolve.keep_waiting.Given as goal

abbrev pub invariant-loop-next : goal.invariant-loop-next
invariant-loop-next g l =
    HasGone (g.W.HeapWords.words l.fn.words) (g.W.HeapWords.words l.words) l.fn.segments l.segments l.fn.marker l.marker (places_of l.list)

abbrev pub decreases-loop-next : goal.decreases-loop-next
decreases-loop-next g l = length l.waiting - l.next
