-- The dying, found one by one: in order, since the list is.
use Rattle.nmgc_weak.proofs.Vocabulary.{◌≡◌, ◌+◌, ◌<◌, ℕ, zero, suc, List, [], ◌∷◌, ◌++◌, length, take, drop, get_or, refl, sym, ap, subst, ◌∙◌, append-nil, append_assoc, arith, inl, inr, ◌⊎◌, Contains, slice_index, Contains-append_left, Contains-push, Contains-push_cases, Name, IsInOrder, contains_head, contains_tail, contains_cases, in_order_first, in_order_rest, in_order_cons, IsEpoch, Segments, Place, Opening, MarkerSeen, OldWeak, CanResolve, IsLostAt, IsLost, AreLost, place_of, places_of, names_of, key_place, names_same}
use Rattle.nmgc_weak.proofs.{Showing.lost_is, Saving.has_place}

pub names_append : (xs ys : List OldWeak) → names_of (xs ++ ys) ≡ names_of xs ++ names_of ys
names_append [] ys = refl
names_append (x ∷ xs) ys = ap (λ (l : List Name). x.weak ∷ l) (names_append xs ys)

pub places_append : (xs ys : List OldWeak) → places_of (xs ++ ys) ≡ places_of xs ++ places_of ys
places_append [] ys = refl
places_append (x ∷ xs) ys = ap (λ (l : List Place). place_of x ∷ l) (places_append xs ys)

-- an ordered list with an item left out
before_all : (xs : List Name) (y : Name) (ys : List Name) (n : Name) → Contains (xs ++ ys) n → Contains (xs ++ y ∷ ys) n
before_all [] y ys n c = contains_tail y ys n c
before_all (x ∷ xs) y ys n c = elim (contains_cases x (xs ++ ys) n c) [
  | inl e ↦ subst (λ (m : Name). Contains (x ∷ (xs ++ y ∷ ys)) m) e (contains_head x (xs ++ y ∷ ys))
  | inr d ↦ contains_tail x (xs ++ y ∷ ys) n (before_all xs y ys n d)
]

pub in_order_without : (xs : List Name) (y : Name) (ys : List Name) → IsInOrder (xs ++ y ∷ ys) → IsInOrder (xs ++ ys)
in_order_without [] y ys o = in_order_rest y ys o
in_order_without (x ∷ xs) y ys o = in_order_cons x (xs ++ ys) (in_order_without xs y ys (in_order_rest x (xs ++ y ∷ ys) o)) (λ n c.
    in_order_first x (xs ++ y ∷ ys) o n (before_all xs y ys n c))

-- the search so far: the lost weak pointers among the first `i`, with the rest in order
pub record IsFinding (o : Opening) (list dying : List OldWeak) (i : ℕ) : Type 0 where
  pub ordered : IsInOrder (names_of dying ++ names_of (drop i list))
  pub sound : (p : Place) → Contains (places_of dying) p → Contains (places_of list) p × IsLost o.core p.name
  pub complete : (p : Place) → Contains (places_of (take i list)) p → IsLost o.core p.name → Contains (places_of dying) p

pub finding_begins : (o : Opening) (words : List ℕ) (s : Segments) (k : MarkerSeen) (list : List OldWeak) →
    CanResolve o words s k (places_of list) → IsFinding o list [] 0
finding_begins o words s k list h = record {
  ordered = subst IsInOrder (names_same list) h.listed.ordered;
  sound = λ p c. absurd (omega (arith, c.1));
  complete = λ p c lost. absurd (omega (arith, c.1));
}

drop_at : (list : List OldWeak) (i : ℕ) (d : OldWeak) → i < length list → drop i list ≡ get_or list i d ∷ drop (i + 1) list
drop_at [] i d lt = absurd (omega arith)
drop_at (x ∷ xs) zero d lt = refl
drop_at (x ∷ xs) (suc i) d lt =
    let z : suc (i + 1) ≡ suc i + 1 = omega arith in
    drop_at xs i d (omega arith) ∙ ap (λ n. get_or xs i d ∷ drop n (x ∷ xs)) z

pub take_at : (list : List OldWeak) (i : ℕ) (d : OldWeak) → i < length list → take (i + 1) list ≡ take i list ++ get_or list i d ∷ []
take_at [] i d lt = absurd (omega arith)
take_at (x ∷ xs) zero d lt = refl
take_at (x ∷ xs) (suc i) d lt =
    let z : suc i + 1 ≡ suc (i + 1) = omega arith in
    ap (λ n. take n (x ∷ xs)) z ∙ ap (λ (l : List OldWeak). x ∷ l) (take_at xs i d (omega arith))

pub at_contains : (list : List OldWeak) (i : ℕ) (d : OldWeak) → i < length list → Contains list (get_or list i d)
at_contains [] i d lt = absurd (omega arith)
at_contains (x ∷ xs) zero d lt = contains_head x xs
at_contains (x ∷ xs) (suc i) d lt = contains_tail x xs (get_or xs i d) (at_contains xs i d (omega arith))

passed_more : (list : List OldWeak) (i : ℕ) (d : OldWeak) (p : Place) → i < length list → Contains (places_of (take (i + 1) list)) p →
    Contains (places_of (take i list)) p ⊎ (place_of (get_or list i d) ≡ p)
passed_more list i d p lt c =
    let e : places_of (take (i + 1) list) ≡ places_of (take i list) ++ place_of (get_or list i d) ∷ [] = ap places_of (take_at list i d lt) ∙
    places_append (take i list) (get_or list i d ∷ []) in
    Contains-push_cases (places_of (take i list)) (place_of (get_or list i d)) p (subst (λ (l : List Place). Contains l p) e c)

module _ (o : Opening) (words : List ℕ) (s : Segments) (k : MarkerSeen) (list dying : List OldWeak) (i : ℕ) (d : OldWeak)
    (can : CanResolve o words s k (places_of list)) (lt : i < length list) (epoch : IsEpoch k.epoch) (h : IsFinding o list dying i) where
  abbrev x : OldWeak
  x = get_or list i d

  here : Contains (places_of list) (place_of x)
  here = has_place list x (at_contains list i d lt)

  rest_is : names_of (drop i list) ≡ x.weak ∷ names_of (drop (i + 1) list)
  rest_is = ap names_of (drop_at list i d lt)

  pub found_one : IsLostAt s k.epoch x.at.0 (slice_index words (key_place x.at.0)) → IsFinding o list (dying ++ x ∷ []) (i + 1)
  found_one lost =
      let is : IsLost o.core x.weak = (lost_is o words s k (places_of list) can epoch x.at.0 x.weak here).0 lost in
      let names : names_of (dying ++ x ∷ []) ++ names_of (drop (i + 1) list) ≡ names_of dying ++ names_of (drop i list) =
      cc (names_append dying (x ∷ []), append_assoc (names_of dying) (x.weak ∷ []) (names_of (drop (i + 1) list)), rest_is) in
      let places : places_of (dying ++ x ∷ []) ≡ places_of dying ++ place_of x ∷ [] = places_append dying (x ∷ []) in
      record {
        ordered = subst IsInOrder (sym names) h.ordered;
        sound = λ p c. elim (Contains-push_cases (places_of dying) (place_of x) p (subst (λ (l : List Place). Contains l p) places c)) [
          | inl old ↦ h.sound p old
          | inr same ↦ subst (λ (q : Place). Contains (places_of list) q × IsLost o.core q.name) same (here, is)
        ];
        complete = λ p c l. rw places (elim (passed_more list i d p lt c) [
          | inl old ↦ Contains-append_left (places_of dying) (place_of x ∷ []) p (h.complete p old l)
          | inr same ↦ subst (λ (q : Place). Contains (places_of dying ++ place_of x ∷ []) q) same (Contains-push (places_of dying) (place_of x))
        ]);
      }

  pub found_none : (IsLostAt s k.epoch x.at.0 (slice_index words (key_place x.at.0)) → ⊥) → IsFinding o list dying (i + 1)
  found_none not_ = record {
    ordered = in_order_without (names_of dying) x.weak (names_of (drop (i + 1) list)) (subst (λ (l : List Name).
        IsInOrder (names_of dying ++ l)) rest_is h.ordered);
    sound = h.sound;
    complete = λ p c l. elim (passed_more list i d p lt c) [
      | inl old ↦ h.complete p old l
      | inr same ↦ absurd (not_ ((lost_is o words s k (places_of list) can epoch x.at.0 x.weak here).1 (subst (λ (q : Place).
          IsLost o.core q.name) (sym same) l)))
    ];
  }

-- all were looked at
pub found_all : (o : Opening) (list dying : List OldWeak) (i : ℕ) → take i list ≡ list → drop i list ≡ [] → IsFinding o list dying i →
    AreLost o (places_of list) dying
found_all o list dying i all none h = record {
  ordered = subst IsInOrder (append-nil (names_of dying)) (subst (λ (l : List OldWeak). IsInOrder (names_of dying ++ names_of l)) none h.ordered);
  sound = h.sound;
  complete = λ p c l. h.complete p (subst (λ (x : List OldWeak). Contains (places_of x) p) (sym all) c) l;
}
