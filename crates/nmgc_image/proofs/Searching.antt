-- A search goes on: the addresses that it adds.
use Rattle.nmgc_image.proofs.Vocabulary.{◌≡◌, ◌⊎◌, ◌↔◌, ◌<◌, ◌≤◌, ◌+◌, ◌/◌, ◌^◌, ℕ, zero, suc, List, [], ◌∷◌, ◌++◌, length, get_or, set, take, replicate, refl, sym, ap, subst, ◌∙◌, arith, inl, inr, Bool, true, false, cond, Some, Contains, slice_get, count_by, cases_eq, length-replicate, length-set, append-nil, take_more, Contains-append_left, Contains-push, Contains-push_cases, Contains-get_or, slice_get_within, slice_get-get_or, get_or_from_slice_get, sum_by-cons, slice_get-set_other, contains_head, contains_tail, place_of, nothing_in, set_counts, Search, IsObjectAt, is_pointer, pointers, value_words_at, Reaches, ReachesObjects, IsSearch, Visits, ArePointers, PointWithin, length-append, not, append_assoc}

-- the number of flags that aren't set, flag by flag
pub counts : (x : Bool) (xs : List Bool) → count_by not (x ∷ xs) ≡ cond (not x) 1 0 + count_by not xs
counts x xs = sum_by-cons (λ (y : Bool). cond (not y) 1 0) x xs

-- a search that has found nothing
none_seen : (n : ℕ) → count_by not (replicate n false) ≡ n
none_seen zero = refl
none_seen (suc n) = let r = none_seen n in omega (arith, r, counts false (replicate n false))

unseen : (n at : ℕ) → slice_get (replicate n false) at ≡ Some true → ⊥
unseen zero at e = cc
unseen (suc n) zero e = cc
unseen (suc n) (suc at) e = unseen n at e

pub search_starts : (s : Search) (n : ℕ) → s.seen.items ≡ replicate n false → s.order.items ≡ [] → IsSearch s
search_starts s n seen order =
    let a : count_by not s.seen.items ≡ n = ap (count_by not) seen ∙ none_seen n in
    let b : length s.seen.items ≡ n = ap length seen ∙ length-replicate n false in
    let c : length s.order.items ≡ 0 = ap length order in
    record {
      listed = λ at e. absurd (unseen n at (sym (ap (λ (l : List Bool). slice_get l at) seen) ∙ e));
      within = λ at held. absurd (nothing_in at (subst (λ (l : List ℕ). Contains l at) order held));
      counted = omega (arith, a, b, c);
    }

-- nothing is added
pub visits_none : (P : ℕ → Type 0) (s : Search) → IsSearch s → ((at : ℕ) → P at → Contains s.order.items at) → Visits P s s
visits_none P s i all = record {
  sound = i;
  room = refl;
  more = [];
  order = sym (append-nil s.order.items);
  all = all;
  only = λ at c. inl c;
}

-- additions in sequence
pub visits_then : (P Q R : ℕ → Type 0) (a b c : Search) → Visits P a b → Visits Q b c → ((at : ℕ) → R at → P at ⊎ Q at) →
    ((at : ℕ) → P at ⊎ Q at → R at) → Visits R a c
visits_then P Q R a b c v w to from = record {
  sound = w.sound;
  room = w.room ∙ v.room;
  more = v.more ++ w.more;
  order = w.order ∙ ap (λ (l : List ℕ). l ++ w.more) v.order ∙ append_assoc a.order.items v.more w.more;
  all = λ at r. elim (to at r) [
    | inl p ↦ subst (λ (l : List ℕ). Contains l at) (sym w.order) (Contains-append_left b.order.items w.more at (v.all at p))
    | inr q ↦ w.all at q
  ];
  only = λ at held. elim (w.only at held) [
    | inl old ↦ elim (v.only at old) [ inl older ↦ inl older | inr p ↦ inr (from at (inl p)) ]
    | inr q ↦ inr (from at (inr q))
  ];
}

-- an addition under an equivalent property
pub visits_same : (P Q : ℕ → Type 0) (a b : Search) → Visits P a b → ((at : ℕ) → P at → Q at) → ((at : ℕ) → Q at → P at) → Visits Q a b
visits_same P Q a b v to from = record {
  sound = v.sound;
  room = v.room;
  more = v.more;
  order = v.order;
  all = λ at q. v.all at (from at q);
  only = λ at held. elim (v.only at held) [ inl old ↦ inl old | inr p ↦ inr (to at p) ];
}

-- an address that was seen before
pub found_before : (s : Search) (at : ℕ) → IsSearch s → at < length s.seen.items → get_or s.seen.items at false ≡ true → Visits (λ p. p ≡ at) s s
found_before s at i lt e = visits_none (λ p. p ≡ at) s i (λ p same.
    rw same (i.listed at (slice_get-get_or s.seen.items at false lt ∙ ap Some e)))

-- an address that is seen now
pub found_now : (s t : Search) (at : ℕ) → IsSearch s → at < length s.seen.items → get_or s.seen.items at false ≡ false →
    t.seen.items ≡ set s.seen.items at true → t.order.items ≡ s.order.items ++ at ∷ [] → Visits (λ p. p ≡ at) s t
found_now s t at i lt e seen order =
    let room : length t.seen.items ≡ length s.seen.items = ap length seen ∙ length-set s.seen.items at true in
    record {
      sound = record {
        listed = λ p h. elim (cases_eq p at) [
          | inl same ↦ rw order (rw same (Contains-push s.order.items at))
          | inr other ↦
              let there : slice_get s.seen.items p ≡ Some true = cc (slice_get-set_other s.seen.items at p true other, seen, h) in
              subst (λ (l : List ℕ). Contains l p) (sym order) (Contains-append_left s.order.items (at ∷ []) p (i.listed p there))
        ];
        within = λ p c. elim (Contains-push_cases s.order.items at p (subst (λ (l : List ℕ). Contains l p) order c)) [
          | inl old ↦ let b = i.within p old in omega (arith, b, room)
          | inr same ↦ omega (arith, same, lt, room)
        ];
        counted =
            let n : length t.order.items ≡ length s.order.items + 1 = ap length order ∙ length-append s.order.items (at ∷ []) in
            let k : count_by not t.seen.items ≡ count_by not (set s.seen.items at true) = ap (count_by not) seen in
            let one = set_counts s.seen.items at lt e in
            let all = i.counted in
            omega (arith, n, k, one, all, room);
      };
      room = room;
      more = at ∷ [];
      order = order;
      all = λ p same. rw order (rw same (Contains-push s.order.items at));
      only = λ p c. elim (Contains-push_cases s.order.items at p (subst (λ (l : List ℕ). Contains l p) order c)) [
        | inl old ↦ inl old
        | inr same ↦ inr (sym same)
      ];
    }

-- pointers of words, one more
pub pointers_append : (xs ys : List ℕ) → pointers (xs ++ ys) ≡ pointers xs ++ pointers ys
pointers_append [] ys = refl
pointers_append (x ∷ xs) ys = by (is_pointer x) (pointers_append xs ys)
  where
    by : (b : Bool) → pointers (xs ++ ys) ≡ pointers xs ++ pointers ys →
        cond b (x / 2 ∷ pointers (xs ++ ys)) (pointers (xs ++ ys)) ≡ cond b (x / 2 ∷ pointers xs) (pointers xs) ++ pointers ys
    by true e = ap (λ (l : List ℕ). x / 2 ∷ l) e
    by false e = e

-- a word that is no pointer
pub pointer_no : (s t : Search) (ws : List ℕ) (i d : ℕ) → i < length ws → is_pointer (get_or ws i d) ≡ false →
    Visits (ArePointers (take i ws)) s t → Visits (ArePointers (take (i + 1) ws)) s t
pointer_no s t ws i d lt other v =
    let none : pointers (get_or ws i d ∷ []) ≡ [] = rw other refl in
    let e : pointers (take (i + 1) ws) ≡ pointers (take i ws) = cc (take_more ws i d lt, pointers_append (take i ws) (get_or ws i d ∷ []), none, append-nil (pointers (take i ws))) in
    visits_same (ArePointers (take i ws)) (ArePointers (take (i + 1) ws)) s t v (λ at c. subst (λ (l : List ℕ). Contains l at) (sym e) c) (λ at c.
    subst (λ (l : List ℕ). Contains l at) e c)

-- a pointer
pub pointer_yes : (s t u : Search) (ws : List ℕ) (i d : ℕ) → i < length ws → is_pointer (get_or ws i d) ≡ true →
    Visits (ArePointers (take i ws)) s t → Visits (λ p. p ≡ get_or ws i d / 2) t u → Visits (ArePointers (take (i + 1) ws)) s u
pointer_yes s t u ws i d lt one_is v w =
    let one : pointers (get_or ws i d ∷ []) ≡ get_or ws i d / 2 ∷ [] = rw one_is refl in
    let e : pointers (take (i + 1) ws) ≡ pointers (take i ws) ++ get_or ws i d / 2 ∷ [] = cc (take_more ws i d lt, pointers_append (take i ws) (get_or ws i d ∷ []), one) in
    visits_then (ArePointers (take i ws)) (λ p. p ≡ get_or ws i d / 2) (ArePointers (take (i + 1) ws)) s t u v w
    (λ at c. elim (Contains-push_cases (pointers (take i ws)) (get_or ws i d / 2) at (subst (λ (l : List ℕ). Contains l at) e c)) [
      | inl old ↦
          inl old
      | inr same ↦ inr (sym same)
    ])
    (λ at pq. rw e (elim pq [
      | inl old ↦ Contains-append_left (pointers (take i ws)) (get_or ws i d / 2 ∷ []) at old
      | inr same ↦ rw same (Contains-push (pointers (take i ws)) (get_or ws i d / 2))
    ]))

-- an address in words lies within the heap
pub pointer_within : (room : ℕ) (ws : List ℕ) (i d : ℕ) → i < length ws → is_pointer (get_or ws i d) ≡ true → PointWithin room ws →
    (get_or ws i d / 2 < room) × (get_or ws i d / 2 < 2 ^ 32)
pointer_within room [] i d lt one_is h = absurd (omega arith)
pointer_within room (w ∷ ws) zero d lt one_is h = h (w / 2) (rw one_is (contains_head (w / 2) (pointers ws)))
pointer_within room (w ∷ ws) (suc i) d lt one_is h = pointer_within room ws i d (omega arith) one_is (λ at c. h at (more (is_pointer w) at c))
  where
    more : (b : Bool) (at : ℕ) → Contains (pointers ws) at → Contains (cond b (w / 2 ∷ pointers ws) (pointers ws)) at
    more true at c = contains_tail (w / 2) (pointers ws) at c
    more false at c = c

-- THE WHOLE SEARCH

-- the progress of a search: all that it has found is reachable, and it has found every address in the objects that are done
pub record IsGoing (words : List ℕ) (old s : Search) (next : ℕ) : Type 0 where
  pub sound : IsSearch s
  pub room : length s.seen.items ≡ length words
  pub roots : (at : ℕ) → Contains old.order.items at → Contains s.order.items at
  pub reached : (at : ℕ) → Contains s.order.items at → Reaches words (Contains old.order.items) at
  pub closed : (i at to : ℕ) (object : IsObjectAt words at) → i < next → slice_get s.order.items i ≡ Some at →
      Contains (pointers (value_words_at words at object.header)) to → Contains s.order.items to

pub going_starts : (words : List ℕ) (s : Search) → IsSearch s → length s.seen.items ≡ length words → IsGoing words s s 0
going_starts words s sound room = record {
  sound = sound;
  room = room;
  roots = λ at c. c;
  reached = λ at c. Reaches.root at c;
  closed = λ i at to object lt e c. absurd (omega arith);
}

left_item : (xs ys : List ℕ) (i : ℕ) → i < length xs → slice_get (xs ++ ys) i ≡ slice_get xs i
left_item [] ys i lt = absurd (omega arith)
left_item (x ∷ xs) ys zero lt = refl
left_item (x ∷ xs) ys (suc i) lt = left_item xs ys i (omega arith)

module _ (words : List ℕ) (old s : Search) (next : ℕ) (going : IsGoing words old s next) where
  -- an object begins at a reachable address
  pub going_object : ReachesObjects words (Contains old.order.items) → (at : ℕ) → Contains s.order.items at → IsObjectAt words at
  going_object objects at c = objects at (going.reached at c)

  pub going_within : ReachesObjects words (Contains old.order.items) → (at : ℕ) → Contains s.order.items at → (object : IsObjectAt words at) →
      PointWithin (length s.seen.items) (value_words_at words at object.header)
  going_within objects at c object to p =
      let there = objects to (Reaches.field at to object (going.reached at c) p) in
      let fits = there.within in
      let room = going.room in
      let small = there.named.small in
      (omega (arith, fits, room), omega (arith, small))

  pub going_ends : next < length s.order.items → next < length words
  going_ends lt =
      let counted = going.sound.counted in
      let room = going.room in
      omega (arith, lt, counted, room)

  pub going_on : (t : Search) (d : ℕ) → next < length s.order.items → (at : ℕ) → at ≡ get_or s.order.items next d →
      ((object : IsObjectAt words at) → Visits (ArePointers (value_words_at words at object.header)) s t) → IsObjectAt words at → IsGoing words old t (next + 1)
  going_on t d lt at at_is visits object =
      let v = visits object in
      let keeps : (to : ℕ) → Contains s.order.items to → Contains t.order.items to = λ to c.
      subst (λ (l : List ℕ). Contains l to) (sym v.order) (Contains-append_left s.order.items v.more to c) in
      record {
        sound = v.sound;
        room = v.room ∙ going.room;
        roots = λ to c. keeps to (going.roots to c);
        reached = λ to c. elim (v.only to c) [
          | inl before ↦ going.reached to before
          | inr points ↦ Reaches.field at to object (going.reached at (rw at_is (Contains-get_or s.order.items next d lt))) points
        ];
        closed = λ i from to it below e c.
            let here : slice_get (s.order.items ++ v.more) i ≡ Some from = rw v.order at e in
            let mine : slice_get s.order.items i ≡ Some from = sym (left_item s.order.items v.more i (omega arith)) ∙ here in
            elim (cases_eq i next) [
              | inl same ↦
                  let is : at ≡ from = at_is ∙ get_or_from_slice_get s.order.items next from d (rw same at mine) in
                  last from to it is c
              | inr other ↦ keeps to (going.closed i from to it (omega (arith, below, other)) mine c)
            ];
      }
    where
      last : (from to : ℕ) (it : IsObjectAt words from) → at ≡ from → Contains (pointers (value_words_at words from it.header)) to → Contains t.order.items to
      last from to it is c = subst (λ (k : ℕ). (o : IsObjectAt words k) → Contains (pointers (value_words_at words k o.header)) to →
          Contains t.order.items to) is (λ o p. (visits o).all to p) it c

  -- at the end it has found exactly the reachable addresses
  pub going_done : length s.order.items ≤ next → (at : ℕ) → Contains s.order.items at ↔ Reaches words (Contains old.order.items) at
  going_done all at = (going.reached at, λ r. back at r)
    where
      back : (at : ℕ) → Reaches words (Contains old.order.items) at → Contains s.order.items at
      back at (Reaches.root _ c) = going.roots at c
      back at (Reaches.field from _ object r c) =
          let i = place_of s.order.items from (back from r) in
          let lt = slice_get_within s.order.items i.0 from i.1 in
          going.closed i.0 from at object (omega (arith, lt)) i.1 c
