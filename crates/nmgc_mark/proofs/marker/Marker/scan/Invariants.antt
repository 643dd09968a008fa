use Rattle.nmgc_mark.proofs.Vocabulary.{◌≡◌, Seen, HasMarked, IsScanning, IsAtField}
use Rattle.nmgc_mark.proofs.marker.Marker.scan.Given as goal

abbrev pub invariant-loop-field : goal.invariant-loop-field
invariant-loop-field g l = record {
  marked : HasMarked l.fn.segments l.segments l.fn.self l.self 0;
  turns : l.self.turns ≡ l.fn.self.turns;
  each : (v : Seen) → g.L.ScanLoad.shows l.loads l.fn.source l.fn.source v → IsScanning v l.fn.segments l.fn.self l.fn.at.0 0 → (u : Seen) ×
      g.L.ScanLoad.shows l.loads l.fn.source l.source u × IsAtField v u l.segments l.self l.fn.at.0 l.fields l.field;
}
