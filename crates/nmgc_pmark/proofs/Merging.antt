-- The names of all claims, put in order.
use Rattle.std.proofs.{Common.ℕ, Common.suc, Common.◌≡◌, Common.inl, Common.inr, Common.refl, Common.sym, Common.subst, Common.arith, Common.List, Common.[], Common.◌∷◌, Common.◌++◌, Common.Some, lemmas.Option.slice_get_within, lemmas.Option.get_or_from_slice_get, lemmas.List.Elements.Contains-append_cases}
use Rattle.std.specs.{Prelude.Contains, Prelude.slice_get, List.flat_map, List.Sorted.IsPermutation}
use Rattle.nmgc_world_spec.specs.{declared.value.Name.Name, declared.value.Value.Value, World.World, Reach.IsBefore, Reach.IsInOrder, Reach.Lists, laws.Orders.before_trans, laws.Orders.not_before_itself as never_before}
use Rattle.nmgc_lists.specs.laws.Items.{contains_head, contains_tail, contains_cases, place_of, contains_flat, flat_contains}
use Rattle.nmgc_pmark.specs.{Strong.IsStrong, Claims.AreClaims, Marker.AreDistinct, Names.AreSorted}
use Rattle.nmgc_pmark.proofs.Orders.{distinct_once, sort_orders, permuted_has, permuted_had}

abbrev pub all : List (List Name) → List Name
all by = flat_map (λ (own : List Name). own) by

-- names in order are distinct
before_all : (name next : Name) (names : List Name) → IsBefore name next → IsInOrder (next ∷ names) → (other : Name) →
    Contains (next ∷ names) other → IsBefore name other
before_all name next [] first ordered other c = elim (contains_cases next [] other c) [
  | inl e ↦ subst (λ (n : Name). IsBefore name n) e first
  | inr d ↦ absurd (omega (arith, d.1))
]
before_all name next (more ∷ names) first ordered other c = elim (contains_cases next (more ∷ names) other c) [
  | inl e ↦ subst (λ (n : Name). IsBefore name n) e first
  | inr d ↦ before_all name more names (before_trans name next more first ordered.0) ordered.1 other d
]

ordered_distinct : (names : List Name) → IsInOrder names → AreDistinct names
ordered_distinct [] o = tt
ordered_distinct (name ∷ []) o = (λ c. let lt = c.1 in absurd (omega (arith, lt)), tt)
ordered_distinct (name ∷ next ∷ names) o = ((λ c. never_before name (before_all name next names o.0 o.1 name c)), ordered_distinct (next ∷ names) o.1)

-- lists without doubles that share nothing have none together
both_distinct : (xs ys : List Name) → AreDistinct xs → AreDistinct ys → ((name : Name) → Contains xs name → Contains ys name → ⊥) → AreDistinct (xs ++ ys)
both_distinct [] ys a b apart = b
both_distinct (x ∷ xs) ys a b apart = (
  (λ c. elim (Contains-append_cases xs ys x c) [ inl d ↦ a.0 d | inr d ↦ apart x (contains_head x xs) d ]),
  both_distinct xs ys a.1 b (λ name c d. apart name (contains_tail x xs name c) d),
)

all_distinct : (by : List (List Name)) → ((k : ℕ) (names : List Name) → slice_get by k ≡ Some names → IsInOrder names) →
    ((j k : ℕ) (xs ys : List Name) (name : Name) → slice_get by j ≡ Some xs → slice_get by k ≡ Some ys → Contains xs name → Contains ys name →
    j ≡ k) → AreDistinct (all by)
all_distinct [] ordered once = tt
all_distinct (names ∷ by) ordered once =
    both_distinct names (all by) (ordered_distinct names (ordered 0 names refl)) (all_distinct by (λ k own e.
    ordered (suc k) own e) (λ j k xs ys name e f c d. let same : suc j ≡ suc k = once (suc j) (suc k) xs ys name e f c d in omega (arith, same)))
    (λ name c d.
    let own = flat_contains (λ (xs : List Name). xs) by name d in
    let at = place_of by own.0 own.1 in
    let same : 0 ≡ suc at.0 = once 0 (suc at.0) names own.0 name refl at.1 c own.2 in
    absurd (omega (arith, same)))

pub merged : (by : List (List Name)) (names sorted : List Name) → names ≡ all by → IsPermutation names sorted → AreSorted sorted →
    (w : World) (roots : List Value) (markers : ℕ) → AreClaims w roots markers by → Lists (IsStrong w roots) sorted
merged by names sorted is moved order w roots markers claims = record {
  ordered = sort_orders names sorted moved order (distinct_once names (subst (λ (l : List Name).
      AreDistinct l) (sym is) (all_distinct by claims.ordered claims.once)));
  sound = λ name c.
      let own = flat_contains (λ (xs : List Name). xs) by name (subst (λ (l : List Name). Contains l name) is (permuted_had names sorted name moved c)) in
      let at = place_of by own.0 own.1 in
      claims.sound at.0 own.0 name at.1 own.2;
  complete = λ name strong.
      let k = claims.complete name strong in
      let own : Contains by k.1 = (k.0, slice_get_within by k.0 k.1 k.2, get_or_from_slice_get by k.0 k.1 k.1 k.2) in
      permuted_has names sorted name moved (subst (λ (l : List Name). Contains l name) (sym is) (contains_flat (λ (xs : List Name). xs) by k.1 name own k.3));
}
