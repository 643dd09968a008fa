-- Lists of names without duplicates, and ascending numbers.
use Rattle.std.proofs.{Common.ℕ, Common.zero, Common.suc, Common.◌≡◌, Common.◌<◌, Common.◌∙◌, Common.inl, Common.inr, Common.refl, Common.sym, Common.ap, Common.subst, Common.arith, Common.List, Common.[], Common.◌∷◌, Common.◌++◌, Common.Option, Common.Some, Common.None, lemmas.Option.slice_get-get_or, lemmas.List.Elements.Contains-append_cases}
use Rattle.std.specs.Prelude.{Contains, slice_get}
use Rattle.nmgc_world_spec.specs.{declared.value.Name.Name, Reach.Ascends, Reach.AreDistinct}
use Rattle.nmgc_lists.specs.{laws.Items.contains_head, laws.Items.contains_tail, laws.Items.contains_cases, laws.Options.some_is as same_some}
use Rattle.nmgc_sweep.specs.Sweeping.{IsWithoutDoubles}

pub get_contains : (xs : List Name) (i : ℕ) (x : Name) → slice_get xs i ≡ Some x → Contains xs x
get_contains [] i x e = absurd (let f : ◌≡◌ {A = Option Name} None (Some x) = e in cc)
get_contains (y ∷ ys) zero x e = subst (λ (z : Name). Contains (y ∷ ys) z) (same_some y x e) (contains_head y ys)
get_contains (y ∷ ys) (suc i) x e = contains_tail y ys x (get_contains ys i x e)

pub contains_get : (xs : List Name) (x : Name) → Contains xs x → (i : ℕ) × (slice_get xs i ≡ Some x)
contains_get xs x c = (c.0, slice_get-get_or xs c.0 x c.1 ∙ ap (λ (y : Name). Some y) c.2)

pub distinct_once : (xs : List Name) → AreDistinct xs → IsWithoutDoubles xs
distinct_once [] d i j x e f = absurd (let g : ◌≡◌ {A = Option Name} None (Some x) = e in cc)
distinct_once (y ∷ ys) d zero zero x e f = refl
distinct_once (y ∷ ys) d zero (suc j) x e f = absurd (d.0 (subst (λ (z : Name). Contains ys z) (sym (same_some y x e)) (get_contains ys j x f)))
distinct_once (y ∷ ys) d (suc i) zero x e f = absurd (d.0 (subst (λ (z : Name). Contains ys z) (sym (same_some y x f)) (get_contains ys i x e)))
distinct_once (y ∷ ys) d (suc i) (suc j) x e f = ap suc (distinct_once ys d.1 i j x e f)

pub once_distinct : (xs : List Name) → IsWithoutDoubles xs → AreDistinct xs
once_distinct [] o = tt
once_distinct (y ∷ ys) o = (
  (λ c. let g = contains_get ys y c in let z : 0 ≡ suc g.0 = o 0 (suc g.0) y refl g.1 in absurd (omega (arith, z))),
  once_distinct ys (λ i j x e f. let s : suc i ≡ suc j = o (suc i) (suc j) x e f in omega (arith, s)),
)

pub distinct_append : (xs ys : List Name) → AreDistinct xs → AreDistinct ys → ((n : Name) → Contains xs n → Contains ys n → ⊥) → AreDistinct (xs ++ ys)
distinct_append [] ys a b apart = b
distinct_append (x ∷ xs) ys a b apart = (
  (λ c. elim (Contains-append_cases xs ys x c) [ inl l ↦ a.0 l | inr r ↦ apart x (contains_head x xs) r ]),
  distinct_append xs ys a.1 b (λ n c d. apart n (contains_tail x xs n c) d),
)

-- ascending numbers

pub ascends_rest : (n : ℕ) (ns : List ℕ) → Ascends (n ∷ ns) → Ascends ns
ascends_rest n [] a = tt
ascends_rest n (m ∷ ms) a = a.1

pub ascends_first : (n : ℕ) (ns : List ℕ) → Ascends (n ∷ ns) → (m : ℕ) → Contains ns m → n < m
ascends_first n [] a m c = absurd (omega (arith, c.1))
ascends_first n (k ∷ ks) a m c = elim (contains_cases k ks m c) [
  | inl e ↦ let low = a.0 in omega (arith, low, e)
  | inr d ↦ let low = a.0 in let rest = ascends_first k ks a.1 m d in omega (arith, low, rest)
]

pub ascends_push : (ns : List ℕ) (m : ℕ) → Ascends ns → ((n : ℕ) → Contains ns n → n < m) → Ascends (ns ++ m ∷ [])
ascends_push [] m a below = tt
ascends_push (n ∷ []) m a below = (below n (contains_head n []), tt)
ascends_push (n ∷ k ∷ ks) m a below = (a.0, ascends_push (k ∷ ks) m a.1 (λ x c. below x (contains_tail n (k ∷ ks) x c)))
