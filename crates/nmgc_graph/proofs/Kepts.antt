-- From the live names to the dead weak pointers and the kept names.
use Rattle.nmgc_graph.proofs.Vocabulary.{◌≡◌, ◌<◌, ◌≤◌, ◌+◌, ℕ, List, [], ◌∷◌, ◌++◌, length, inl, inr, refl, sym, ap, subst, ◌∙◌, arith, Bool, true, false, not, Option, Some, None, Contains, IsSome, filter, is_some, false≢true, and_parts, and_from, not-true, not_from_false, false_from_ne_true, All-nil, All-tail, All-append, All-get_or, Contains-append_left, Contains-append_right, Contains-append_cases, Contains-push, Contains-push_cases, Name, Value, Nil, Number, Ref, Parts, Search, World, node_of, serial_of, IsKnown, AreKnown, IsWorld, parts_held, mark_of, IsMarked, IsPlaced, HasPlaces, with_mark, IsReached, IsAliveWeak, IsDead, IsKept, Lists, ListsBefore, with_values, parts_of, is_key_marked, is_lost, IsLost, IsSetOf, finaliser_in, finalisers_of, IsSearch, IsFollowed, IsLiveFound, IsKeptFound, contains_head, contains_tail, contains_cases, contains_filter, filter_contains, in_order_filter, lists_maker, lists_all, name_cases, added, kept_others, places_kept, makers_kept, name_placed, weak_within, weak_maker, alive_from_parts, parts_from_alive}
use Rattle.nmgc_graph.proofs.{Searches.Marks, Searches.values_mark, Searches.are_placed, Searches.known_placed, Follows.places_stay, Follows.search_stays, Weaks.parts_known}

-- a weak pointer that has parts is alive
pub weak_some : (w : World) (weak : Name) (o : Option Parts) → o ≡ parts_of w weak → is_some o ≡ true → IsAliveWeak w weak
weak_some w weak None e t = absurd cc
weak_some w weak (Some parts) e t = (parts, alive_from_parts w weak parts (sym e))

pub weak_none : (w : World) (weak : Name) (o : Option Parts) → o ≡ parts_of w weak → is_some o ≡ false → IsAliveWeak w weak → ⊥
weak_none w weak None e t a = let there = parts_from_alive w weak a.0 a.1 in cc
weak_none w weak (Some parts) e t a = cc

-- all weak pointers of a maker were passed
pub weaks_listed : (w : World) → IsWorld w → (maker serial : ℕ) (weaks : List Name) → serial_of w maker ≤ serial →
    ListsBefore (IsAliveWeak w) maker serial weaks → ListsBefore (IsAliveWeak w) (maker + 1) 0 weaks
weaks_listed w h maker serial weaks le l =
    lists_maker (IsAliveWeak w) maker serial weaks (λ n a e. let p : n.serial < serial_of w n.maker = weak_within w h n a in let q = rw e at p in omega arith) l

pub all_weaks_listed : (w : World) → IsWorld w → (maker : ℕ) (weaks : List Name) → length w.mutators ≤ maker →
    ListsBefore (IsAliveWeak w) maker 0 weaks → Lists (IsAliveWeak w) weaks
all_weaks_listed w h maker weaks le l = lists_all (IsAliveWeak w) maker weaks (λ n a. let p = weak_maker w h n a in omega arith) l

-- the finalisers of weak pointers are known
module _ (w : World) (h : IsWorld w) where
  finaliser_known : (weak : Name) (o : Option Parts) → parts_of w weak ≡ o → AreKnown w (finaliser_in o)
  finaliser_known weak None e = All-nil (IsKnown w)
  finaliser_known weak (Some parts) e =
      let known = parts_known w (node_of w weak) (h.nodes weak) parts e in
      All-tail (IsKnown w) parts.value (parts.finaliser ∷ []) (All-tail (IsKnown w) parts.key (parts.value ∷ parts.finaliser ∷ []) known)

  pub finalisers_known : (weaks : List Name) → AreKnown w (finalisers_of w weaks)
  finalisers_known [] = All-nil (IsKnown w)
  finalisers_known (weak ∷ weaks) =
      All-append (IsKnown w) (finaliser_in (parts_of w weak)) (finalisers_of w weaks) (finaliser_known weak (parts_of w weak) refl) (finalisers_known weaks)

  -- marking finalisers
  module _ (s : Search) (places : HasPlaces w s.marks) (weaks : List Name) where
    pub finalisers_mark : Marks s (with_values s (finalisers_of w weaks)) (finalisers_of w weaks)
    finalisers_mark = values_mark (finalisers_of w weaks) s (are_placed w s.marks places (finalisers_of w weaks) (finalisers_known weaks))

    pub finaliser_placed : (parts : Parts) → AreKnown w (parts_held (Some parts)) → IsPlaced (with_values s (finalisers_of w weaks)).marks parts.finaliser
    finaliser_placed parts known =
        let t : Search = with_values s (finalisers_of w weaks) in
        known_placed w t.marks (places_stay w s t (finalisers_of w weaks) finalisers_mark places) parts.finaliser
        (All-get_or (IsKnown w) (parts_held (Some parts)) 2 Nil (omega arith) known)

-- a set of the names that are in the map
pub set_more : (w : World) (done : List Name) (marks : List (List Bool)) (name : Name) → IsSetOf w done marks → IsSome (node_of w name) →
    IsSetOf w (done ++ name ∷ []) (with_mark marks name)
set_more w done marks name s there =
    let place = name_placed w marks s.places name there in
    record {
      places = record { makers = makers_kept marks name place ∙ s.places.makers; counts = λ maker. places_kept marks name place maker ∙ s.places.counts maker };
      sound = λ n m. elim (name_cases n name) [
        | inl e ↦ rw e (Contains-push done name)
        | inr ne ↦ Contains-append_left done (name ∷ []) n (s.sound n (sym (kept_others marks name place n ne) ∙ m))
      ];
      complete = λ n c known. elim (name_cases n name) [
        | inl e ↦ rw e (added marks name place)
        | inr ne ↦ elim (Contains-push_cases done name n c) [
          | inl d ↦ kept_others marks name place n ne ∙ s.complete n d known
          | inr e ↦ absurd (ne (sym e))
        ]
      ];
    }

pub set_same : (w : World) (done : List Name) (marks : List (List Bool)) (name : Name) → IsSetOf w done marks → (IsSome (node_of w name) → ⊥) →
    IsSetOf w (done ++ name ∷ []) marks
set_same w done marks name s lacks = record {
  places = s.places;
  sound = λ n m. Contains-append_left done (name ∷ []) n (s.sound n m);
  complete = λ n c known. elim (Contains-push_cases done name n c) [
    | inl d ↦ s.complete n d known
    | inr e ↦ let P : Name → Type 0 = λ m. IsSome (node_of w m) in absurd (lacks (subst P (sym e) known))
  ];
}

-- the lost weak pointers are those that pass the test
module _ (w : World) (marks set : List (List Bool)) (finalised : List Name) (s : IsSetOf w finalised set) where
  test : Name → Bool
  test weak = is_lost marks set weak (parts_of w weak)

  lost_parts : (weak : Name) (o : Option Parts) → parts_of w weak ≡ o → is_lost marks set weak o ≡ true → IsLost w marks finalised weak
  lost_parts weak None e t = absurd (false≢true t)
  lost_parts weak (Some parts) e t =
      let both = and_parts (not (is_key_marked marks parts.key)) (not (mark_of set weak)) t in
      let alive = alive_from_parts w weak parts e in
      record {
        parts = parts;
        alive = alive;
        not_finalised = λ c. false≢true (sym (not-true (mark_of set weak) both.1) ∙ s.complete weak c (rw alive refl));
        hidden = not-true (is_key_marked marks parts.key) both.0;
      }

  parts_lost : (weak : Name) (l : IsLost w marks finalised weak) → is_lost marks set weak (Some l.parts) ≡ true
  parts_lost weak l =
      let absent : mark_of set weak ≡ false = false_from_ne_true (mark_of set weak) (λ m. l.not_finalised (s.sound weak m)) in
      and_from (not (is_key_marked marks l.parts.key)) (not (mark_of set weak)) (not_from_false (is_key_marked marks l.parts.key) l.hidden)
      (not_from_false (mark_of set weak) absent)

  pub lost_listed : (weaks : List Name) → Lists (IsAliveWeak w) weaks →
      Lists (IsLost w marks finalised) (filter (λ weak. is_lost marks set weak (parts_of w weak)) weaks)
  lost_listed weaks l = record {
    ordered = in_order_filter (λ weak. is_lost marks set weak (parts_of w weak)) weaks l.ordered;
    sound = λ weak c. lost_parts weak (parts_of w weak) refl (filter_contains (λ weak. is_lost marks set weak (parts_of w weak)) weaks weak c).1;
    complete = λ weak k. contains_filter (λ weak. is_lost marks set weak (parts_of w weak)) weaks weak (l.complete weak (
      k.parts,
      k.alive,
    )) (rw (parts_from_alive w weak k.parts k.alive) (parts_lost weak k));
  }

-- the lost weak pointers are the dead weak pointers if the marked names are the live names
module _ (w : World) (extra finalised : List Name) (s : Search) (f : IsLiveFound w extra s) where
  hidden_key : (marks : List (List Bool)) (v : Value) → is_key_marked marks v ≡ false → (key : Name) × (v ≡ Ref key) × (mark_of marks key ≡ false)
  hidden_key marks Nil e = absurd (false≢true (sym e))
  hidden_key marks (Number n) e = absurd (false≢true (sym e))
  hidden_key marks (Ref key) e = (key, refl, e)

  pub lost_dead : (weak : Name) → IsLost w s.marks finalised weak → IsDead w extra finalised weak
  lost_dead weak l =
      let k = hidden_key s.marks l.parts.key l.hidden in
      record {
        parts = l.parts;
        alive = l.alive;
        not_finalised = l.not_finalised;
        key = k.0;
        key_is = k.1;
        lost = λ is. false≢true (sym k.2 ∙ f.complete k.0 is);
      }

  pub dead_lost : (weak : Name) → IsDead w extra finalised weak → IsLost w s.marks finalised weak
  dead_lost weak d = record {
    parts = d.parts;
    alive = d.alive;
    not_finalised = d.not_finalised;
    hidden = rw d.key_is (false_from_ne_true (mark_of s.marks d.key) (λ m. d.lost (f.sound d.key m)));
  }

  pub dead_listed : (names : List Name) → Lists (IsLost w s.marks finalised) names → Lists (IsDead w extra finalised) names
  dead_listed names l = record {
    ordered = l.ordered;
    sound = λ weak c. lost_dead weak (l.sound weak c);
    complete = λ weak d. l.complete weak (dead_lost weak d);
  }

-- a finaliser in the list of weak pointers' finalisers is the finaliser of such a weak pointer
finalisers_contain : (w : World) (weaks : List Name) (v : Value) → Contains (finalisers_of w weaks) v → (weak : Name) × Contains weaks weak ×
    Contains (finaliser_in (parts_of w weak)) v
finalisers_contain w [] v c = absurd (omega (arith, c.1))
finalisers_contain w (weak ∷ weaks) v c = elim (Contains-append_cases (finaliser_in (parts_of w weak)) (finalisers_of w weaks) v c) [
  | inl d ↦ (weak, contains_head weak weaks, d)
  | inr d ↦ let t = finalisers_contain w weaks v d in (t.0, contains_tail weak weaks t.0 t.1, t.2)
]

contains_finaliser : (w : World) (weaks : List Name) (weak : Name) (parts : Parts) → Contains weaks weak → parts_of w weak ≡ Some parts →
    Contains (finalisers_of w weaks) parts.finaliser
contains_finaliser w [] weak parts c e = absurd (omega (arith, c.1))
contains_finaliser w (x ∷ xs) weak parts c e = elim (contains_cases x xs weak c) [
  | inl same ↦
      let P : List Value → Type 0 = λ values. Contains (values ++ finalisers_of w xs) parts.finaliser in
      subst P (ap finaliser_in (sym (ap (λ (n : Name). parts_of w n) same ∙ e))) (contains_head parts.finaliser (finalisers_of w xs))
  | inr d ↦ Contains-append_right (finaliser_in (parts_of w x)) (finalisers_of w xs) parts.finaliser (contains_finaliser w xs weak parts d e)
]

-- following the names reachable from the finalisers of the dead finds the kept names
module _ (w : World) (h : IsWorld w) (extra finalised : List Name) (s : Search) (f : IsLiveFound w extra s) (dead : List Name)
    (l : Lists (IsLost w s.marks finalised) dead) where
  begun : Search
  begun = with_values s (finalisers_of w dead)

  marks : Marks s (with_values s (finalisers_of w dead)) (finalisers_of w dead)
  marks = finalisers_mark w h s f.search.places dead

  pub kept_search : IsSearch w (with_values s (finalisers_of w dead))
  kept_search = search_stays w s (with_values s (finalisers_of w dead)) (finalisers_of w dead) marks f.search

  module _ (t : Search) (d : IsFollowed w (with_values s (finalisers_of w dead)) t) (empty : t.work ≡ []) where
    one_finaliser : (o : Option Parts) (parts : Parts) (v : Value) → o ≡ Some parts → Contains (finaliser_in o) v → parts.finaliser ≡ v
    one_finaliser None parts v e c = absurd cc
    one_finaliser (Some found) parts v e c = elim (contains_cases found.finaliser [] v c) [
      | inl is ↦ let same : found ≡ parts = cc in ap (λ (p : Parts). p.finaliser) (sym same) ∙ is
      | inr none ↦ absurd (omega (arith, none.1))
    ]

    begun_kept : (n : Name) → IsMarked (with_values s (finalisers_of w dead)).marks n → IsKept w extra finalised n
    begun_kept n m = elim (marks.fresh n m) [
      | inl old ↦ IsKept.live n (f.sound n old)
      | inr new ↦
          let t = finalisers_contain w dead (Ref n) new.0 in
          let is = lost_dead w extra finalised s f t.0 (l.sound t.0 t.1) in
          IsKept.finaliser t.0 n is (one_finaliser (parts_of w t.0) is.parts (Ref n) (parts_from_alive w t.0 is.parts is.alive) t.2)
    ]

    reached_kept : (n : Name) → IsReached w (IsMarked (with_values s (finalisers_of w dead)).marks) n → IsKept w extra finalised n
    reached_kept n (IsReached.start _ m) = begun_kept n m
    reached_kept n (IsReached.field name _ r refers) = IsKept.field name n (reached_kept name r) refers

    kept_marked : (n : Name) → IsKept w extra finalised n → IsMarked t.marks n
    kept_marked n (IsKept.live _ is) = d.kept n (marks.kept n (f.complete n is))
    kept_marked n (IsKept.finaliser weak _ is e) =
        let P : Value → Type 0 = Contains (finalisers_of w dead) in
        d.kept n (marks.hit n (subst P e (contains_finaliser w dead weak is.parts (l.complete weak (dead_lost w extra finalised s f weak is))
        (parts_from_alive w weak is.parts is.alive))))
    kept_marked n (IsKept.field name _ from refers) = elim (d.search.traced name n (kept_marked name from) refers) [
      | inl c ↦ absurd (let bad = rw empty at c in omega (arith, bad.1))
      | inr m ↦ m
    ]

    pub kept_found : IsKeptFound w extra finalised t
    kept_found = record { places = d.search.places; sound = λ n m. reached_kept n (d.sound n m); complete = kept_marked }
