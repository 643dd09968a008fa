use Rattle.nmgc_mark.proofs.{Vocabulary.ℕ, Vocabulary.◌+◌, Vocabulary.◌∙◌, Vocabulary.List, Vocabulary.refl, Vocabulary.sym, Vocabulary.ap, Vocabulary.subst, Vocabulary.Opening, Vocabulary.Seen, Vocabulary.whole, Vocabulary.Segments, Vocabulary.MarkerSeen, Vocabulary.IsAlone, Vocabulary.IsReady, Vocabulary.HasFinished, Vocabulary.IsTied, Vocabulary.marks_seen, Vocabulary.marked_none, Scanning.begins, Fields.object_marked, Fields.room_taken, Fields.queue_taken, Alone.alone_opens, Alone.alone_ends, Alone.alone_shows, Alone.shows_alone}
use Rattle.nmgc_mark.proofs.marker.Marker.finish.Goals as goal

pub loop-at-init : goal.loop-at-init
loop-at-init g c = record {
  words = refl;
  count = 0;
  marked = marked_none c.args.segments.now c.args.self.now c.requires.room;
  turns = refl;
  each = λ o r. (whole o, alone_opens c.openings_keep_the_rule.ensures o (g.W.HeapWords.words c.args.words.now) r.opens, r.tied);
}

pub scan-requires-clause-room : goal.scan-requires-clause-room
scan-requires-clause-room g c =
    room_taken c.loop-at.segments c.loop-at.self c.take_first.new.self c.loop-at.invariant.marked.room
    (queue_taken c.loop-at.self c.take_first.new.self c.in-Some.ensures.some.1)

tied_as : (o : Opening) (ws : List ℕ) (u : Seen) (s : Segments) (m : MarkerSeen) → IsAlone o ws u → IsTied o (marks_seen u) s m →
    IsTied u.opening (marks_seen u) s m
tied_as o ws u s m a t = subst (λ (y : Opening). IsTied y (marks_seen u) s m) (sym a.opening) t

pub scan-requires-clause-scanning : goal.scan-requires-clause-scanning
scan-requires-clause-scanning g c =
    let ws = g.W.HeapWords.words c.args.words.now in
    let now = g.W.HeapWords.words c.loop-at.words in
    let inv = c.loop-at.invariant in
    let r = c.requires.ready in
    let u = inv.each r.0 r.1 in
    let s = c.in-Some.ensures.some in (
      u.0,
      alone_shows r.0 ws now u.0 inv.words u.1,
      begins u.0 c.loop-at.segments c.loop-at.self c.take_first.new.self c.in-Some.at.0 u.1.collects
          (tied_as r.0 ws u.0 c.loop-at.segments c.loop-at.self u.1 u.2) s.0 (queue_taken c.loop-at.self c.take_first.new.self s.1),
    )

pub loop-at-preserved : goal.loop-at-preserved
loop-at-preserved g c =
    let ws = g.W.HeapWords.words c.args.words.now in
    let now = g.W.HeapWords.words c.loop-at.words in
    let new = g.W.HeapWords.words c.scan.new.source in
    let inv = c.loop-at.invariant in
    let s = c.in-Some.ensures.some in
    let taken = queue_taken c.loop-at.self c.take_first.new.self s.1 in
    let next = λ (o : Opening) (r : IsReady o ws c.args.segments.now c.args.self.now).
    let u = inv.each o r in
    c.scan.ensures.done u.0 (alone_shows o ws now u.0 inv.words u.1)
    (begins u.0 c.loop-at.segments c.loop-at.self c.take_first.new.self c.in-Some.at.0 u.1.collects
    (tied_as o ws u.0 c.loop-at.segments c.loop-at.self u.1 u.2) s.0 taken) in
    record {
      words = (next c.requires.ready.0 c.requires.ready.1).1.0 ∙ inv.words;
      count = inv.count + 1;
      marked = object_marked c.args.segments.now c.loop-at.segments c.scan.new.segments c.args.self.now c.loop-at.self c.take_first.new.self
          c.scan.new.self c.in-Some.at.0 inv.count inv.marked s.0 taken c.scan.ensures.marked;
      turns = c.scan.ensures.turns ∙ ap (λ (m : MarkerSeen). m.turns) s.1 ∙ inv.turns;
      each = λ o r.
          let u = inv.each o r in
          let n = next o r in
          let a = shows_alone o ws now new u.0 n.0 inv.words u.1 n.2.opening n.1 in
          (n.0, a, subst (λ (y : Opening). IsTied y (marks_seen n.0) c.scan.new.segments c.scan.new.self) a.opening n.2.tied);
    }

pub returns-clause-turns : goal.returns-clause-turns
returns-clause-turns g c = ap (λ (m : MarkerSeen). m.turns) c.in_default.ensures.none.1 ∙ c.loop-at.invariant.turns

pub returns-clause-finished : goal.returns-clause-finished
returns-clause-finished g c = λ o r.
    let ws = g.W.HeapWords.words c.args.words.now in
    let u = c.loop-at.invariant.each o r in
    let none = c.in_default.ensures.none in
    subst (λ (m : MarkerSeen). HasFinished o c.loop-at.segments m) (sym none.1) (alone_ends o ws u.0 c.loop-at.segments c.loop-at.self u.1 u.2 none.0)
