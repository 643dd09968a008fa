use Rattle.std.proofs.Common.{◌≡◌}
use Rattle.nmgc_minor.specs.Young.{Notes}
use Rattle.nmgc_stop_spec.specs.Strong.{IsAmong}
use Rattle.nmgc_minor.proofs.young.Young.note_range.Given as goal

abbrev pub invariant-loop-at : goal.invariant-loop-at
invariant-loop-at g l = record {
  notes : Notes l.initial.self l.self (IsAmong (g.W.HeapWords.words l.initial.words) l.from l.at);
  same : g.W.HeapWords.words l.words ≡ g.W.HeapWords.words l.initial.words;
}
