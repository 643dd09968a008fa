use Rattle.nmgc_image.proofs.Vocabulary.{◌≡◌, map, take, keyed_at}
use Rattle.nmgc_image.proofs.heap_image.keyed_of.Given as goal

abbrev pub invariant-loop-at : goal.invariant-loop-at
invariant-loop-at l = l.keyed.items ≡ map (keyed_at l.words) (take l.at-index l.places)
