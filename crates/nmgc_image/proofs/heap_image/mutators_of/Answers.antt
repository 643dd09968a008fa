use Rattle.nmgc_image.proofs.Vocabulary.{ℕ, zero, suc, ◌≡◌, ◌<◌, ◌+◌, ◌∙◌, List, [], ◌∷◌, ◌++◌, length, get_or, refl, sym, ap, subst, arith, Some, inl, inr, slice_get, length_push, same_Some, none-some, slice_get-get_or, item_cases, MutatorEnd, ImageMutator, ShowsOwn}
use Rattle.nmgc_image.proofs.heap_image.mutators_of.Goals as goal

one : (x y : ImageMutator) (j : ℕ) → slice_get (x ∷ []) j ≡ Some y → (j ≡ 0) × (x ≡ y)
one x y zero e = (refl, same_Some x y e)
one x y (suc j) e = absurd (none-some y e)

-- one more is shown
shown_more : (words : List ℕ) (mutators : List MutatorEnd) (shown : List ImageMutator) (i : ℕ) (d : MutatorEnd) (x : ImageMutator) →
    length shown ≡ i → i < length mutators → ((m : ℕ) (own : MutatorEnd) (image : ImageMutator) → slice_get mutators m ≡ Some own →
    slice_get shown m ≡ Some image → ShowsOwn words own image) → ShowsOwn words (get_or mutators i d) x →
    (m : ℕ) (own : MutatorEnd) (image : ImageMutator) → slice_get mutators m ≡ Some own → slice_get (shown ++ x ∷ []) m ≡ Some image → ShowsOwn words own image
shown_more words mutators shown i d x count lt before now m own image e f = elim (item_cases shown (x ∷ []) m image f) [
  | inl old ↦ before m own image e old
  | inr (j, at, last) ↦
      let o = one x image j last in
      let z = o.0 in
      let m_is : m ≡ i = omega (arith, at, count, z) in
      let own_is : get_or mutators i d ≡ own = same_Some (get_or mutators i d) own (sym (slice_get-get_or mutators i d lt) ∙
      subst (λ (k : ℕ). slice_get mutators k ≡ Some own) m_is e) in
      subst (λ (y : ImageMutator). ShowsOwn words own y) o.1 (subst (λ (y : MutatorEnd). ShowsOwn words y x) own_is now)
]

pub loop-own-preserved : goal.loop-own-preserved
loop-own-preserved c =
    let grown = c.in_ok-push.ensures.ok in
    let count = c.loop-own.invariant.count in
    let longer : length c.push.new.self ≡ length c.loop-own.shown + 1 = ap length grown ∙ length_push c.loop-own.shown c.in_ok-own_of.field-0 in
    let now : ShowsOwn c.args.words.now (get_or c.args.mutators.now c.loop-own.own-index c.own-item.result) c.in_ok-own_of.field-0 =
    subst (λ (m : MutatorEnd). ShowsOwn c.args.words.now m c.in_ok-own_of.field-0) c.own-item.is c.in_ok-own_of.ensures in
    record {
      count = omega (arith, longer, count);
      shows = λ m own image e f.
          shown_more c.args.words.now c.args.mutators.now c.loop-own.shown c.loop-own.own-index c.own-item.result c.in_ok-own_of.field-0 count
          c.loop-own-test.true c.loop-own.invariant.shows now m own image e (subst (λ (l : List ImageMutator). slice_get l m ≡ Some image) grown f);
    }
