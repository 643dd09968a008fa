use Rattle.nmgc_weak.proofs.Vocabulary.{◌≡◌, ◌≢◌, ◌⊎◌, ◌↔◌, ◌<◌, ℕ, List, [], ◌∷◌, ◌++◌, get_or, length, take, inl, inr, refl, sym, ap, subst, ◌∙◌, arith, Contains, get_or-map, get_or_default, length-map, take-map, take_all, take_more, Contains-append_left, Contains-append_right, Contains-append_cases, Name, IsInOrder, in_order_apart, contains_map, contains_one, nothing_in, one_is, OldWeak, Weaks, names_of}
use Rattle.nmgc_weak.proofs.{Finding.at_contains, RowLaws.list_ordered}
use Rattle.nmgc_weak.proofs.weaks.Weaks.add_all.Goals as goal

abbrev nobody : OldWeak
nobody = record { weak = record { maker = 0; serial = 0 }; at = record { 0 = 0 } }

-- the first names don't contain the next one
apart : (fresh : List OldWeak) (i : ℕ) (x other : OldWeak) → IsInOrder (names_of fresh) → i < length fresh → x ≡ get_or fresh i x →
    Contains (take i fresh) other → other.weak ≢ x.weak
apart fresh i x other ordered lt is c same =
    let names : List Name = names_of fresh in
    let first : Contains (take i names) other.weak =
    subst (λ (l : List Name). Contains l other.weak) (sym (take-map (λ (w : OldWeak). w.weak) i fresh)) (contains_map (λ (w : OldWeak). w.weak) (take i fresh) other c) in
    let here : get_or names i x.weak ≡ x.weak = get_or-map (λ (w : OldWeak). w.weak) fresh i x x.weak lt ∙ ap (λ (w : OldWeak). w.weak) (sym is) in
    in_order_apart i names x.weak ordered (let long = length-map fresh (λ (w : OldWeak). w.weak) in omega (arith, lt, long))
    (subst (λ (n : Name). Contains (take i names) n) (same ∙ sym here) first)

-- a further weak pointer that joins
one_more : (old now next first : List OldWeak) (x other : OldWeak) → (Contains now other ↔ (Contains old other ⊎ Contains first other)) →
    (Contains next other ↔ (Contains now other ⊎ (other ≡ x))) → Contains next other ↔ (Contains old other ⊎ Contains (first ++ x ∷ []) other)
one_more old now next first x other before step = (
  λ c. elim (step.0 c) [
    | inl was ↦ elim (before.0 was) [
      | inl a ↦ inl a
      | inr b ↦ inr (Contains-append_left first (x ∷ []) other b)
    ]
    | inr e ↦ inr (Contains-append_right first (x ∷ []) other (subst (λ (y : OldWeak). Contains (x ∷ []) y) (sym e) (contains_one x)))
  ],
  λ c. elim c [
    | inl a ↦ step.1 (inl (before.1 (inl a)))
    | inr b ↦ elim (Contains-append_cases first (x ∷ []) other b) [
      | inl d ↦ step.1 (inl (before.1 (inr d)))
      | inr e ↦ step.1 (inr (sym (one_is x other e)))
    ]
  ],
)

pub loop-weak-init : goal.loop-weak-init
loop-weak-init c = record {
  list = λ other. (λ a. inl a, λ a. elim a [ inl b ↦ b | inr none ↦ absurd (nothing_in other none) ]);
  ordered = list_ordered c.self.inside.rows.items c.self.inside.room c.args.self.now.list c.self.invariant.0 (ap (λ (a : Weaks). a.list) c.self.view_is);
  spare = omega arith;
  deaths = refl;
}

pub add-requires-clause-room : goal.add-requires-clause-room
add-requires-clause-room c =
    let room = c.requires.room in
    let spare = c.loop-weak.invariant.spare in
    let lt = c.loop-weak-test.true in
    omega (arith, room, spare, lt)

pub add-requires-clause-new : goal.add-requires-clause-new
add-requires-clause-new c other there =
    let fresh : List OldWeak = c.args.fresh.now in
    let i : ℕ = c.loop-weak.weak-index in
    let lt = c.loop-weak-test.true in
    let x : OldWeak = get_or fresh i nobody in
    let same : x ≡ get_or fresh i x = get_or_default fresh i nobody x lt in
    elim ((c.loop-weak.invariant.list other).0 there) [
      | inl was ↦ c.requires.new x other (at_contains fresh i nobody lt) was
      | inr first ↦ apart fresh i x other c.requires.ordered lt same first
    ]

pub loop-weak-preserved : goal.loop-weak-preserved
loop-weak-preserved c =
    let fresh : List OldWeak = c.args.fresh.now in
    let i : ℕ = c.loop-weak.weak-index in
    let lt = c.loop-weak-test.true in
    let x : OldWeak = get_or fresh i nobody in
    let inv = c.loop-weak.invariant in
    let less = c.add.ensures.spare in
    record {
      list = λ other. subst (λ (l : List OldWeak). Contains c.add.new.self.list other ↔ (Contains c.args.self.now.list other ⊎ Contains l other))
          (sym (take_more fresh i nobody lt)) (one_more c.args.self.now.list c.loop-weak.self.list c.add.new.self.list (take i fresh) x other
          (inv.list other) (c.add.ensures.list other));
      ordered = c.add.ensures.ordered;
      spare = let spare = inv.spare in omega (arith, spare, less);
      deaths = c.add.ensures.deaths ∙ inv.deaths;
    }

pub returns-clause-list : goal.returns-clause-list
returns-clause-list c = λ other.
    subst (λ (l : List OldWeak). Contains c.loop-weak.self.list other ↔ (Contains c.args.self.now.list other ⊎ Contains l other))
    (take_all c.loop-weak.weak-index c.args.fresh.now c.loop-weak-test.false) (c.loop-weak.invariant.list other)
