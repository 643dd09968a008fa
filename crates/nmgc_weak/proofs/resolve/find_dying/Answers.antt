use Rattle.nmgc_weak.proofs.{Vocabulary.◌≡◌, Vocabulary.◌≤◌, Vocabulary.ℕ, Vocabulary.List, Vocabulary.[], Vocabulary.◌∷◌, Vocabulary.zero, Vocabulary.suc, Vocabulary.get_or, Vocabulary.refl, Vocabulary.sym, Vocabulary.subst, Vocabulary.◌∙◌, Vocabulary.arith, Vocabulary.take, Vocabulary.drop, Vocabulary.length, Vocabulary.take_all, Vocabulary.slice_index, Vocabulary.OldWeak, Vocabulary.IsWithin, Vocabulary.key_place, Vocabulary.IsLostAt, Finding.IsFinding, Finding.finding_begins, Finding.found_one, Finding.found_none, Finding.found_all, Finding.at_contains, resolve.find_dying.Goals.then-is_lost, resolve.find_dying.Goals.else-is_lost}
use Rattle.nmgc_weak.proofs.resolve.find_dying.Goals as goal

abbrev nobody : OldWeak
nobody = record { weak = record { maker = 0; serial = 0 }; at = record { 0 = 0 } }

pub loop-weak-init : goal.loop-weak-init
loop-weak-init g c = record {
  words = refl;
  capacity = refl;
  few = omega (arith, c.requires.none);
  each = λ o h. subst (λ (l : List OldWeak).
      IsFinding o c.args.list.now l 0) (sym c.requires.empty)
      (finding_begins o (g.W.HeapWords.words c.args.words.now) c.args.segments.now c.args.marker.now c.args.list.now h);
}

pub is_lost-requires : goal.is_lost-requires
is_lost-requires g c =
    let x = get_or c.args.list.now c.loop-weak.weak-index nobody in
    subst (λ (l : List ℕ).
    IsWithin l x.at.0) (sym c.loop-weak.invariant.words) (c.requires.within x
    (at_contains c.args.list.now c.loop-weak.weak-index nobody c.loop-weak-test.true))

-- the answer of the test, at the words of the start
known_at : (words now : List ℕ) (P : ℕ → Type 0) (at : ℕ) → now ≡ words → P (slice_index now (key_place at)) → P (slice_index words (key_place at))
known_at words now P at e p = subst (λ (l : List ℕ). P (slice_index l (key_place at))) e p

pub loop-weak-preserved : goal.loop-weak-preserved
loop-weak-preserved g c =
    let ws = g.W.HeapWords.words c.args.words.now in
    let now = g.W.HeapWords.words c.loop-weak.words in
    let s = c.args.segments.now in
    let k = c.args.marker.now in
    let i : ℕ = c.loop-weak.weak-index in
    let x = get_or c.args.list.now i nobody in
    let inv = c.loop-weak.invariant in
    elim c.if-is_lost.branch [
      | then-is_lost w ↦ record {
        words = c.is_lost.ensures.words ∙ inv.words;
        capacity = rw w.dying-is (w.push_reserved.ensures.capacity ∙ inv.capacity);
        few = rw w.dying-is (let l = w.push_reserved.ensures.len in let f = inv.few in omega arith);
        each = λ o h.
            let lost = known_at ws now (λ y. IsLostAt s k.epoch x.at.0 y) x.at.0 inv.words (c.is_lost.ensures.lost.0 w.if-is_lost.true) in
            rw (w.dying-is, w.push_reserved.ensures.items) (found_one o ws s k c.args.list.now c.loop-weak.dying.items i nobody h
            c.loop-weak-test.true c.is_lost.ensures.epoch (inv.each o h) lost);
      }
      | else-is_lost w ↦ record {
        words = c.is_lost.ensures.words ∙ inv.words;
        capacity = rw w.dying-is inv.capacity;
        few = rw w.dying-is (let f = inv.few in omega arith);
        each = λ o h.
            let hidden = λ (lost : IsLostAt s k.epoch x.at.0 (slice_index ws (key_place x.at.0))).
            let t = c.is_lost.ensures.lost.1 (known_at now ws (λ y. IsLostAt s k.epoch x.at.0 y) x.at.0 (sym inv.words) lost) in
            let f = w.if-is_lost.false in (let bad : ⊥ = cc in bad) in
            rw w.dying-is (found_none o ws s k c.args.list.now c.loop-weak.dying.items i nobody h c.loop-weak-test.true c.is_lost.ensures.epoch
            (inv.each o h) hidden);
      }
    ]

pub returns-clause-found : goal.returns-clause-found
returns-clause-found g c = λ o h.
    let i : ℕ = c.loop-weak.weak-index in
    let past : length c.args.list.now ≤ i = c.loop-weak-test.false in
    found_all o c.args.list.now c.loop-weak.dying.items i (whole c.args.list.now i past) (nothing c.args.list.now i past) (c.loop-weak.invariant.each o h)
  where
    whole : (l : List OldWeak) (i : ℕ) → length l ≤ i → take i l ≡ l
    whole l i le = take_all i l le

    nothing : (l : List OldWeak) (i : ℕ) → length l ≤ i → drop i l ≡ []
    nothing [] zero le = refl
    nothing [] (suc i) le = refl
    nothing (x ∷ l) zero le = absurd (omega arith)
    nothing (x ∷ l) (suc i) le = nothing l i (omega arith)
