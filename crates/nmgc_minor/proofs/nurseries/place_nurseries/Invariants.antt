use Rattle.nmgc_minor.proofs.Vocabulary.{◌≡◌, ◌+◌, ◌*◌, ◌≤◌, ◌⊎◌, ◌++◌, List, length, map, nursery_place, IsSegments, KeepsReserve, AreEmpty, Move, PlacesRange}
use Rattle.nmgc_minor.proofs.nurseries.place_nurseries.Given as goal

abbrev pub invariant-loop-maker : goal.invariant-loop-maker
invariant-loop-maker g l = record {
  sound : IsSegments l.segments;
  count : length l.mutators ≡ l.initial.segments.layout.mutators;
  layout : l.segments.layout ≡ l.initial.segments.layout;
  placed : (added : List Move) × (l.moves.items ≡ l.initial.moves.items ++ added) ×
      PlacesRange l.base (g.W.HeapWords.words l.initial.words) l.initial.segments l.segments l.initial.table l.table added l.base
      (nursery_place l.initial.segments.layout l.maker);
  spare : length l.initial.table + l.base ≤ l.moves.spare + nursery_place l.initial.segments.layout l.maker;
  room : l.moves.spare + length l.moves.items ≡ l.initial.moves.spare + length l.initial.moves.items;
  reserve : KeepsReserve l.segments.layout l.segments.segments (l.maker * l.initial.segments.layout.nursery) ⊎
      AreEmpty (map g.M.MutatorRoots.nursery l.mutators);
  same : g.W.HeapWords.words l.words ≡ g.W.HeapWords.words l.initial.words;
}
