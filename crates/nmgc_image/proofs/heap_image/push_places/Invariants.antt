use Rattle.nmgc_image.proofs.{Vocabulary.◌≡◌, Vocabulary.◌++◌, Vocabulary.drop, Listing.places_of}
use Rattle.nmgc_image.proofs.heap_image.push_places.Given as goal

-- the addresses so far and the addresses of the objects left are all addresses
abbrev pub invariant-loop-object : goal.invariant-loop-object
invariant-loop-object l = l.places.items ++ places_of (drop l.object-index l.keyed) ≡ l.initial.places.items ++ places_of l.keyed
