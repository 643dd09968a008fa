use Rattle.nmgc_weak.proofs.{Vocabulary.ℕ, Vocabulary.List, Vocabulary.[], Vocabulary.◌∷◌, Vocabulary.take, Vocabulary.get_or, Vocabulary.refl, Vocabulary.sym, Vocabulary.subst, Vocabulary.◌∙◌, Vocabulary.Name, Vocabulary.OldWeak, Vocabulary.CanResolve, Vocabulary.HasPassed, Vocabulary.IsWithin, Vocabulary.places_of, Vocabulary.names_of, Vocabulary.marked_none, Counting.marked_sum, Finding.at_contains, Passing.pass_none, Passing.pass_more, Passing.names_more, Saving.has_place}
use Rattle.nmgc_weak.proofs.resolve.pass.Goals as goal

abbrev nobody : OldWeak
nobody = record { weak = record { maker = 0; serial = 0 }; at = record { 0 = 0 } }

pub loop-weak-init : goal.loop-weak-init
loop-weak-init g c = record {
  words = refl;
  marked = (0, marked_none c.args.segments.now c.args.marker.now c.requires.room);
  turns = refl;
  each = λ o h. pass_none o (g.W.HeapWords.words c.args.words.now) c.args.segments.now c.args.marker.now (places_of c.args.list.now) h;
}

pub keep_if_key_marked-requires-clause-room : goal.keep_if_key_marked-requires-clause-room
keep_if_key_marked-requires-clause-room g c = c.loop-weak.invariant.marked.1.room

pub keep_if_key_marked-requires-clause-within : goal.keep_if_key_marked-requires-clause-within
keep_if_key_marked-requires-clause-within g c =
    let x = get_or c.args.list.now c.loop-weak.weak-index nobody in
    subst (λ (l : List ℕ).
    IsWithin l x.at.0) (sym c.loop-weak.invariant.words) (c.requires.within x
    (at_contains c.args.list.now c.loop-weak.weak-index nobody c.loop-weak-test.true))

pub keep_if_key_marked-requires-clause-can : goal.keep_if_key_marked-requires-clause-can
keep_if_key_marked-requires-clause-can g c =
    let x = get_or c.args.list.now c.loop-weak.weak-index nobody in
    let r = c.requires.can in
    let p = c.loop-weak.invariant.each r.0 r.1 in (
      p.next,
      places_of c.args.list.now,
      subst (λ (l : List ℕ).
          CanResolve p.next l c.loop-weak.segments c.loop-weak.marker (places_of c.args.list.now)) (sym c.loop-weak.invariant.words) p.goes.can,
      has_place c.args.list.now x (at_contains c.args.list.now c.loop-weak.weak-index nobody c.loop-weak-test.true),
    )

pub loop-weak-preserved : goal.loop-weak-preserved
loop-weak-preserved g c =
    let ws = g.W.HeapWords.words c.args.words.now in
    let x = get_or c.args.list.now c.loop-weak.weak-index nobody in
    let inv = c.loop-weak.invariant in
    record {
      words = c.keep_if_key_marked.ensures.words ∙ inv.words;
      marked = marked_sum c.args.segments.now c.loop-weak.segments c.keep_if_key_marked.new.segments c.args.marker.now c.loop-weak.marker
          c.keep_if_key_marked.new.marker inv.marked c.keep_if_key_marked.ensures.marked;
      turns = c.keep_if_key_marked.ensures.turns ∙ inv.turns;
      each = λ o h.
          let p = inv.each o h in
          let here = has_place c.args.list.now x (at_contains c.args.list.now c.loop-weak.weak-index nobody c.loop-weak-test.true) in
          let can = subst (λ (l : List ℕ).
          CanResolve p.next l c.loop-weak.segments c.loop-weak.marker (places_of c.args.list.now)) (sym inv.words) p.goes.can in
          let q = c.keep_if_key_marked.ensures.passed p.next (places_of c.args.list.now) can here in
          let at_ws = subst (λ (l : List ℕ).
          HasPassed p.next l c.keep_if_key_marked.new.segments c.keep_if_key_marked.new.marker (places_of c.args.list.now) (x.weak ∷ [])) inv.words q in
          let more = pass_more o ws c.loop-weak.segments c.keep_if_key_marked.new.segments c.loop-weak.marker c.keep_if_key_marked.new.marker
          (places_of c.args.list.now) (names_of (take c.loop-weak.weak-index c.args.list.now)) x.weak p at_ws in
          subst (λ (l : List Name).
          HasPassed o ws c.keep_if_key_marked.new.segments c.keep_if_key_marked.new.marker (places_of c.args.list.now) l)
          (sym (names_more c.args.list.now c.loop-weak.weak-index nobody c.loop-weak-test.true)) more;
    }
