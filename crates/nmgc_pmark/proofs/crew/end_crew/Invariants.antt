use Rattle.nmgc_pmark.proofs.{Vocabulary.◌≡◌, Vocabulary.◌∷◌, Vocabulary.◌++◌, Vocabulary.map, Vocabulary.into_iter_items, Vocabulary.seen, Vocabulary.IsAt, Vocabulary.found_of, Crews.Gathers}
use Rattle.nmgc_pmark.proofs.crew.end_crew.Given as goal

-- the last marker's seat has the parts of the markers that came
abbrev pub invariant-loop-marker : goal.invariant-loop-marker
invariant-loop-marker l = record {
  all : l.yielded ++ into_iter_items l.marker-iterator ≡ into_iter_items l.initial.marker-iterator;
  seat_at : IsAt l.fn.table l.last.seat;
  gathers : Gathers (seen l.last.seat) (l.initial.last ∷ l.yielded);
  lists_are : l.lists.items ≡ map found_of l.yielded;
  found_is : l.last.found ≡ l.initial.last.found;
}
