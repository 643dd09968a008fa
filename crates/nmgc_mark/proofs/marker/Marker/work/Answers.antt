use Rattle.nmgc_mark.proofs.{Vocabulary.◌∙◌, Vocabulary.◌∷◌, Vocabulary.ap, Vocabulary.refl, Vocabulary.subst, Vocabulary.sym, Vocabulary.next_turn, Vocabulary.seen, Vocabulary.Seen, Vocabulary.MarkerSeen, Vocabulary.IsTied, Vocabulary.Segments, Vocabulary.HasMarked, Vocabulary.HasWorked, Vocabulary.marks_seen, Vocabulary.marked_none, Vocabulary.passed_more, Vocabulary.polled_all_none, Vocabulary.polled_all_then, Scanning.begins, Fields.object_marked, Fields.room_taken, Fields.passed_taken, Fields.same_seat, Fields.later_seat, Fields.still_worked}
use Rattle.nmgc_mark.proofs.marker.Marker.work.Goals as goal

pub loop-scanned-init : goal.loop-scanned-init
loop-scanned-init g c = record {
  worked = record {
    collector = c.requires.collector;
    later = same_seat c.args.seat.now;
    marked = subst (λ (s : Segments). HasMarked c.args.segments.now s c.args.self.now c.args.self.now 0) (sym c.catch_up.ensures)
        (marked_none c.args.segments.now c.args.self.now c.requires.room);
    tied = subst (λ (s : Segments). IsTied (seen c.args.seat.now).opening (marks_seen (seen c.args.seat.now)) s c.args.self.now)
        (sym c.catch_up.ensures) c.requires.tied;
  };
  turns = refl;
  polled = polled_all_none c.args.inbox.now;
}

pub look_ahead-requires : goal.look_ahead-requires
look_ahead-requires g c = c.loop-scanned.invariant.worked.collector.0

pub returns-in-None-clause-worked : goal.returns-in-None-clause-worked
returns-in-None-clause-worked g c =
    subst (λ (m : MarkerSeen).
    HasWorked c.args.round.now c.args.seat.now c.look_ahead.new.seat c.args.segments.now c.loop-scanned.segments c.args.self.now m
    c.loop-scanned.scanned) (sym c.in-None.ensures.none.1)
    (still_worked c.args.round.now c.args.seat.now c.loop-scanned.seat c.look_ahead.new.seat c.args.segments.now c.loop-scanned.segments
    c.args.self.now c.loop-scanned.self c.loop-scanned.scanned c.loop-scanned.invariant.worked c.look_ahead.ensures)

pub scan-requires-clause-room : goal.scan-requires-clause-room
scan-requires-clause-room g c =
    room_taken c.loop-scanned.segments c.loop-scanned.self c.pass.new.self c.loop-scanned.invariant.worked.marked.room
    (passed_taken c.loop-scanned.self c.take_first.new.self c.pass.new.self (next_turn c.take_first.new.self.turns) c.in-Some.ensures.some.1 c.pass.ensures)

pub scan-requires-clause-scanning : goal.scan-requires-clause-scanning
scan-requires-clause-scanning g c =
    let s = c.in-Some.ensures.some in
    let seat = c.look_ahead.new.seat in
    let first = s.0 ∙ ap (λ (m : MarkerSeen). c.in-Some.at.0 ∷ m.queue) (sym c.pass.ensures) in
    let inv = still_worked c.args.round.now c.args.seat.now c.loop-scanned.seat seat c.args.segments.now
    c.loop-scanned.segments c.args.self.now c.loop-scanned.self c.loop-scanned.scanned c.loop-scanned.invariant.worked c.look_ahead.ensures in (
      seen seat,
      (inv.collector, same_seat seat, refl),
      begins (seen seat) c.loop-scanned.segments c.loop-scanned.self c.pass.new.self c.in-Some.at.0 inv.collector.1 inv.tied first
          (passed_taken c.loop-scanned.self c.take_first.new.self c.pass.new.self (next_turn c.take_first.new.self.turns) s.1 c.pass.ensures),
    )

pub loop-scanned-preserved : goal.loop-scanned-preserved
loop-scanned-preserved g c =
    let s = c.in-Some.ensures.some in
    let seat = c.look_ahead.new.seat in
    let first = s.0 ∙ ap (λ (m : MarkerSeen). c.in-Some.at.0 ∷ m.queue) (sym c.pass.ensures) in
    let inv = still_worked c.args.round.now c.args.seat.now c.loop-scanned.seat seat c.args.segments.now
    c.loop-scanned.segments c.args.self.now c.loop-scanned.self c.loop-scanned.scanned c.loop-scanned.invariant.worked c.look_ahead.ensures in
    let taken = passed_taken c.loop-scanned.self c.take_first.new.self c.pass.new.self (next_turn c.take_first.new.self.turns) s.1 c.pass.ensures in
    let done = c.scan.ensures.done (seen seat) (inv.collector, same_seat seat, refl)
    (begins (seen seat) c.loop-scanned.segments c.loop-scanned.self c.pass.new.self c.in-Some.at.0 inv.collector.1 inv.tied first taken) in
    record {
      worked = record {
        collector = done.1.0;
        later = later_seat c.args.seat.now seat c.scan.new.source inv.later done.1.1;
        marked = object_marked c.args.segments.now c.loop-scanned.segments c.scan.new.segments c.args.self.now c.loop-scanned.self c.pass.new.self
            c.scan.new.self c.in-Some.at.0 c.loop-scanned.scanned inv.marked first taken c.scan.ensures.marked;
        tied = subst (λ (v : Seen). IsTied v.opening (marks_seen v) c.scan.new.segments c.scan.new.self) (sym done.1.2) done.2.tied;
      };
      turns = c.scan.ensures.turns ∙ ap (λ (m : MarkerSeen). m.turns) c.pass.ensures ∙
          ap (λ n. next_turn n) (ap (λ (m : MarkerSeen). m.turns) s.1 ∙ c.loop-scanned.invariant.turns) ∙
          passed_more c.args.self.now.turns c.loop-scanned.scanned;
      polled = polled_all_then c.args.inbox.now c.loop-scanned.inbox c.poll_each.new.self c.loop-scanned.invariant.polled c.poll_each.ensures;
    }
