use Rattle.nmgc_weak.proofs.{Vocabulary.ℕ, Vocabulary.List, Vocabulary.refl, Vocabulary.sym, Vocabulary.subst, Vocabulary.◌∙◌, Vocabulary.CanResolve, Vocabulary.HasPassed, Vocabulary.IsWithin, Vocabulary.places_of, Vocabulary.names_of, Vocabulary.marked_none, Counting.marked_sum, Passing.stays, Passing.then_goes, Passing.saturated, Passing.revived_then}
use Rattle.nmgc_weak.proofs.resolve.pass_until_none.Goals as goal

pub loop-before-init : goal.loop-before-init
loop-before-init g c = record {
  words = refl;
  marked = (0, marked_none c.args.segments.now c.args.marker.now c.requires.room);
  turns = refl;
  each = λ o h. (o, stays o (g.W.HeapWords.words c.args.words.now) c.args.segments.now c.args.marker.now (places_of c.args.list.now) h);
}

pub pass-requires-clause-room : goal.pass-requires-clause-room
pass-requires-clause-room g c = c.loop-before.invariant.marked.1.room

pub pass-requires-clause-within : goal.pass-requires-clause-within
pass-requires-clause-within g c = λ weak k. subst (λ (l : List ℕ). IsWithin l weak.at.0) (sym c.loop-before.invariant.words) (c.requires.within weak k)

pub pass-requires-clause-can : goal.pass-requires-clause-can
pass-requires-clause-can g c =
    let r = c.requires.can in
    let p = c.loop-before.invariant.each r.0 r.1 in (
      p.0,
      subst (λ (l : List ℕ).
          CanResolve p.0 l c.loop-before.segments c.loop-before.marker (places_of c.args.list.now)) (sym c.loop-before.invariant.words) p.1.can,
    )

pub loop-before-preserved : goal.loop-before-preserved
loop-before-preserved g c =
    let ws = g.W.HeapWords.words c.args.words.now in
    let inv = c.loop-before.invariant in
    record {
      words = c.pass.ensures.words ∙ inv.words;
      marked = marked_sum c.args.segments.now c.loop-before.segments c.pass.new.segments c.args.marker.now c.loop-before.marker c.pass.new.marker
          inv.marked c.pass.ensures.marked;
      turns = c.pass.ensures.turns ∙ inv.turns;
      each = λ o h.
          let p = inv.each o h in
          let can = subst (λ (l : List ℕ). CanResolve p.0 l c.loop-before.segments c.loop-before.marker (places_of c.args.list.now)) (sym inv.words) p.1.can in
          let q = subst (λ (l : List ℕ).
          HasPassed p.0 l c.pass.new.segments c.pass.new.marker (places_of c.args.list.now) (names_of c.args.list.now)) inv.words
          (c.pass.ensures.passed p.0 can) in (
            q.next,
            then_goes o p.0 q.next ws c.loop-before.segments c.pass.new.segments c.loop-before.marker c.pass.new.marker
                (places_of c.args.list.now) p.1 q.goes,
          );
    }

pub returns-clause-marked : goal.returns-clause-marked
returns-clause-marked g c =
    marked_sum c.args.segments.now c.loop-before.segments c.pass.new.segments c.args.marker.now c.loop-before.marker c.pass.new.marker
    c.loop-before.invariant.marked c.pass.ensures.marked

pub returns-clause-revived : goal.returns-clause-revived
returns-clause-revived g c = λ o h.
    let ws = g.W.HeapWords.words c.args.words.now in
    let inv = c.loop-before.invariant in
    let p = inv.each o h in
    let can = subst (λ (l : List ℕ). CanResolve p.0 l c.loop-before.segments c.loop-before.marker (places_of c.args.list.now)) (sym inv.words) p.1.can in
    let q = subst (λ (l : List ℕ).
    HasPassed p.0 l c.pass.new.segments c.pass.new.marker (places_of c.args.list.now) (names_of c.args.list.now)) inv.words
    (c.pass.ensures.passed p.0 can) in
    let count = sym c.marked.ensures ∙ c.if-marked-before.true ∙ c.marked-before.ensures in
    revived_then o p.0 ws c.loop-before.segments c.pass.new.segments c.loop-before.marker c.pass.new.marker (places_of c.args.list.now) p.1
    (saturated p.0 ws c.loop-before.segments c.pass.new.segments c.loop-before.marker c.pass.new.marker c.args.list.now p.1.can count q)
