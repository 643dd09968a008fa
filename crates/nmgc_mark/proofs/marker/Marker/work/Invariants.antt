use Rattle.nmgc_mark.proofs.Vocabulary.{◌≡◌, passed, HasWorked, HavePolled}
use Rattle.nmgc_mark.proofs.marker.Marker.work.Given as goal

abbrev pub invariant-loop-scanned : goal.invariant-loop-scanned
invariant-loop-scanned g l = record {
  worked : HasWorked l.round l.initial.seat l.seat l.fn.segments l.segments l.initial.self l.self l.scanned;
  turns : l.self.turns ≡ passed l.initial.self.turns l.scanned;
  polled : HavePolled l.initial.inbox l.inbox;
}
