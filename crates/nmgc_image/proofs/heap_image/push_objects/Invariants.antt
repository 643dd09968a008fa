use Rattle.nmgc_image.proofs.{Vocabulary.take, Written.IsWrittenTo}
use Rattle.nmgc_image.proofs.heap_image.push_objects.Given as goal

-- the lines of the objects before this one were appended, and the last one's name is known
abbrev pub invariant-loop-at : goal.invariant-loop-at
invariant-loop-at l = IsWrittenTo l.words (take l.at-index l.places) l.initial.out.items l.out.items l.last
