use Rattle.nmgc_minor.proofs.Vocabulary.{◌≡◌, ◌+◌, ◌-◌, ◌*◌, ◌≤◌, ◌++◌, List, length, IsSegments, KeepsReserve, Move, PlacesRange, Reaches}
use Rattle.nmgc_minor.proofs.nurseries.place_nursery.Given as goal

abbrev pub invariant-loop-at : goal.invariant-loop-at
invariant-loop-at g l = record {
  low : l.nursery.base ≤ l.at;
  high : l.at ≤ l.nursery.top;
  sound : IsSegments l.segments;
  layout : l.segments.layout ≡ l.initial.segments.layout;
  placed : (added : List Move) × (l.moves.items ≡ l.initial.moves.items ++ added) ×
      PlacesRange l.base (g.W.HeapWords.words l.initial.words) l.initial.segments l.segments l.initial.table l.table added l.nursery.base l.at;
  spare : l.initial.moves.spare + l.nursery.base ≤ l.moves.spare + l.at;
  room : l.moves.spare + length l.moves.items ≡ l.initial.moves.spare + length l.initial.moves.items;
  reaches : KeepsReserve l.initial.segments.layout l.initial.segments.segments (l.maker * l.initial.segments.layout.nursery) →
      Reaches l.initial.segments.layout l.base (g.W.HeapWords.words l.initial.words) l.initial.table l.segments
      (l.maker * l.initial.segments.layout.nursery) l.nursery.base l.at l.nursery.top;
  same : g.W.HeapWords.words l.words ≡ g.W.HeapWords.words l.initial.words;
}

abbrev pub decreases-loop-at : goal.decreases-loop-at
decreases-loop-at g l = l.nursery.top - l.at
