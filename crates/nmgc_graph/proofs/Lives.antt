-- From a search to the live names: its starts, and the marked names in the end.
use Rattle.nmgc_graph.proofs.Vocabulary.{◌≡◌, ◌+◌, ℕ, zero, suc, List, [], ◌∷◌, ◌++◌, length, map, get_or, inl, inr, refl, sym, ap, subst, ◌∙◌, arith, Bool, true, false, Some, Contains, All, IsSome, flat_map, false≢true, get_or_read, All-cons, All-nil, All-head, All-tail, All-append, All-contains, All-from_get_or, All-weaker, Contains-append_left, Contains-append_right, Contains-append_cases, Name, Value, Nil, Number, Ref, Parts, Search, World, node_of, state_of, no_mutator, IsKnown, AreKnown, IsWorld, shared_name, mark_of, IsMarked, HasPlace, unmarked_count, HasPlaces, IsRoot, IsLive, IsAlive, IsAliveWeak, IsKeptBy, IsPlain, with_name, with_values, with_weaks, values_held, starts_of, is_key_marked, fields_in, IsLiveSearch, AreRevived, IsLiveFound, key_of, weak_at, IsRevival, contains_head, contains_tail, contains_cases, name_placed}
use Rattle.nmgc_graph.proofs.{Searches.Marks, Searches.same_ref, Searches.values_mark, Searches.name_marks, Searches.are_placed, Searches.then_marks, Follows.places_stay, Follows.search_stays, Follows.refers_in, Follows.fields_refer, Follows.fields_mark, Follows.was_marked, Follows.still_waits, Follows.search_goes_on, Follows.one_less, Weaks.weaks_mark, Weaks.weaks_sound, Weaks.weaks_begun, Weaks.key_cases, Weaks.key_from_alive, Weaks.revived}

-- an element of one of the lists that are joined
contains_flat_map : {A B : Type 0} (f : A → List B) (xs : List A) (i : ℕ) (d : A) (y : B) → f d ≡ [] → Contains (f (get_or xs i d)) y →
    Contains (flat_map f xs) y
contains_flat_map f [] i d y none c = absurd (let bad = rw none at c in omega (arith, bad.1))
contains_flat_map f (x ∷ xs) zero d y none c = Contains-append_left (f x) (flat_map f xs) y c
contains_flat_map f (x ∷ xs) (suc i) d y none c = Contains-append_right (f x) (flat_map f xs) y (contains_flat_map f xs i d y none c)

flat_map_contains : {A B : Type 0} (f : A → List B) (xs : List A) (d : A) (y : B) → Contains (flat_map f xs) y → (i : ℕ) × Contains (f (get_or xs i d)) y
flat_map_contains f [] d y c = absurd (omega (arith, c.1))
flat_map_contains f (x ∷ xs) d y c = elim (Contains-append_cases (f x) (flat_map f xs) y c) [
  | inl l ↦ (0, l)
  | inr r ↦ let t = flat_map_contains f xs d y r in (suc t.0, t.1)
]

contains_refs : (names : List Name) (n : Name) → Contains names n → Contains (map Ref names) (Ref n)
contains_refs [] n c = absurd (omega (arith, c.1))
contains_refs (x ∷ xs) n c = elim (contains_cases x xs n c) [
  | inl e ↦ let P : Name → Type 0 = λ m. Contains (map Ref (x ∷ xs)) (Ref m) in subst P e (contains_head (Ref x) (map Ref xs))
  | inr d ↦ contains_tail (Ref x) (map Ref xs) (Ref n) (contains_refs xs n d)
]

refs_contain : (names : List Name) (n : Name) → Contains (map Ref names) (Ref n) → Contains names n
refs_contain [] n c = absurd (omega (arith, c.1))
refs_contain (x ∷ xs) n c = elim (contains_cases (Ref x) (map Ref xs) (Ref n) c) [
  | inl e ↦ let P : Name → Type 0 = Contains (x ∷ xs) in subst P (same_ref x n e) (contains_head x xs)
  | inr d ↦ contains_tail x xs n (refs_contain xs n d)
]

-- a root is among the starts of the search
root_starts : (w : World) (extra : List Name) (n : Name) → IsRoot w n → Contains (starts_of w extra) (Ref n)
root_starts w extra n (inl e) = rw e (contains_head (Ref shared_name) (flat_map values_held w.mutators ++ map Ref extra))
root_starts w extra n (inr r) =
    let held : Contains (flat_map values_held w.mutators) (Ref n) = contains_flat_map values_held w.mutators r.0 no_mutator (Ref n) refl r.1 in
    contains_tail (Ref shared_name) (flat_map values_held w.mutators ++
    map Ref extra) (Ref n) (Contains-append_left (flat_map values_held w.mutators) (map Ref extra) (Ref n) held)

extra_starts : (w : World) (extra : List Name) (n : Name) → Contains extra n → Contains (starts_of w extra) (Ref n)
extra_starts w extra n c =
    contains_tail (Ref shared_name) (flat_map values_held w.mutators ++
    map Ref extra) (Ref n) (Contains-append_right (flat_map values_held w.mutators) (map Ref extra) (Ref n) (contains_refs extra n c))

-- the search begins with live names only
starts_live : (w : World) (extra : List Name) → All (λ name. IsSome (node_of w name)) extra → (n : Name) → Contains (starts_of w extra) (Ref n) →
    IsLive w extra n
starts_live w extra there n c = elim (contains_cases (Ref shared_name) (flat_map values_held w.mutators ++ map Ref extra) (Ref n) c) [
  | inl e ↦ IsLive.root n (inl (sym (same_ref shared_name n e)))
  | inr d ↦ elim (Contains-append_cases (flat_map values_held w.mutators) (map Ref extra) (Ref n) d) [
    | inl l ↦ IsLive.root n (inr (flat_map_contains values_held w.mutators no_mutator (Ref n) l))
    | inr r ↦ let k = refs_contain extra n r in IsLive.further n k (All-contains (λ name. IsSome (node_of w name)) extra n there k)
  ]
]

-- a property of each element of each list holds for the lists joined
pub All-flat_map : {A B : Type 0} (P : B → Type 0) (f : A → List B) (xs : List A) → All (λ x. All P (f x)) xs → All P (flat_map f xs)
All-flat_map P f [] all = All-nil P
All-flat_map P f (x ∷ xs) all = All-append P (f x) (flat_map f xs) (All-head (λ y.
    All P (f y)) x xs all) (All-flat_map P f xs (All-tail (λ y. All P (f y)) x xs all))

refs_known : (w : World) (names : List Name) → All (λ name. IsSome (node_of w name)) names → AreKnown w (map Ref names)
refs_known w [] there = All-nil (IsKnown w)
refs_known w (n ∷ ns) there = All-cons (IsKnown w) (Ref n) (map Ref ns) (All-head (λ name.
    IsSome (node_of w name)) n ns there) (refs_known w ns (All-tail (λ name. IsSome (node_of w name)) n ns there))

module _ (w : World) (h : IsWorld w) (extra : List Name) where
  pub each_known : All (λ state. AreKnown w (values_held state)) w.mutators
  each_known = All-from_get_or (λ state. AreKnown w (values_held state)) w.mutators no_mutator (λ m lt.
      All-append (IsKnown w) (state_of w m).registers (state_of w m).queue (h.known_registers m) (h.known_queue m))

  mutators_known : AreKnown w (flat_map values_held w.mutators)
  mutators_known = All-flat_map (IsKnown w) values_held w.mutators each_known

  module _ (there : All (λ name. IsSome (node_of w name)) extra) where
    pub starts_known : AreKnown w (starts_of w extra)
    starts_known = All-cons (IsKnown w) (Ref shared_name) (flat_map values_held w.mutators ++
        map Ref extra) refl (All-append (IsKnown w) (flat_map values_held w.mutators) (map Ref extra) mutators_known (refs_known w extra there))

    -- the further names have a place in the search that has marked all other starts
    pub extra_placed : (s : Search) → HasPlaces w s.marks → All (HasPlace (with_values (with_name s shared_name) (flat_map values_held w.mutators)).marks) extra
    extra_placed s places =
        let t : Search = with_name s shared_name in
        let placed : HasPlaces w t.marks = places_stay w s t (Ref shared_name ∷
        []) (name_marks s shared_name (name_placed w s.marks places shared_name refl)) places in
        let u : Search = with_values t (flat_map values_held w.mutators) in
        let last : HasPlaces w u.marks =
        places_stay w t u (flat_map values_held w.mutators)
        (values_mark (flat_map values_held w.mutators) t (are_placed w t.marks placed (flat_map values_held w.mutators) mutators_known)) placed in
        All-weaker (λ name. IsSome (node_of w name)) (HasPlace u.marks) (name_placed w u.marks last) extra there

    -- the search that has marked its starts
    pub live_begun : (marks : List (List Bool)) → HasPlaces w marks → ((n : Name) → mark_of marks n ≡ false) →
        IsLiveSearch w extra (with_values (record { marks = marks; work = [] }) (starts_of w extra))
    live_begun marks places none =
        let s : Search = record { marks = marks; work = [] } in
        let t : Search = with_values s (starts_of w extra) in
        let m : Marks s t (starts_of w extra) = values_mark (starts_of w extra) s (are_placed w marks places (starts_of w extra) starts_known) in
        record {
          search = search_stays w s t (starts_of w extra) m (record {
            places = places;
            waiting = λ n c. absurd (omega (arith, c.1));
            traced = λ n target k r. absurd (false≢true (sym (none n) ∙ k));
          });
          sound = λ n k. elim (m.fresh n k) [
            | inl old ↦ absurd (false≢true (sym (none n) ∙ old))
            | inr new ↦ starts_live w extra there n new.0
          ];
          begun = λ n c. m.hit n c;
        }

  -- a pass over the weak pointers keeps a search for live names
  module _ (weaks : List Name) (s : Search) (l : IsLiveSearch w extra s) where
    marks : (values : List Value) × Marks s (with_weaks w s weaks) values
    marks = weaks_mark w h weaks s l.search.places

    pub live_passed : IsLiveSearch w extra (with_weaks w s weaks)
    live_passed = record {
      search = search_stays w s (with_weaks w s weaks) marks.0 marks.1 l.search;
      sound = weaks_sound w h extra weaks s l.search.places l.sound;
      begun = λ n c. marks.1.kept n (l.begun n c);
    }

    pub pass_revives : ((weak : Name) → IsAliveWeak w weak → Contains weaks weak) → AreRevived w (with_weaks w s weaks)
    pass_revives all = revived w h weaks s l.search.places all

  -- a name comes off the worklist: its fields are marked, and the weak pointers that wait for it have marked their parts
  module _ (s : Search) (rest : List Name) (name : Name) (off : s.work ≡ rest ++ name ∷ []) (l : IsLiveSearch w extra s) where
    abbrev fields : List Value
    fields = fields_in (node_of w name)

    abbrev taken : Search
    taken = record { marks = s.marks; work = rest }

    abbrev scanned : Search
    scanned = with_values taken fields

    fields_marks : Marks taken scanned fields
    fields_marks = fields_mark w s rest name off l.search h

    pub scanned_places : HasPlaces w (with_values (record { marks = s.marks; work = rest }) (fields_in (node_of w name))).marks
    scanned_places = places_stay w taken scanned fields fields_marks l.search.places

    scanned_sound : (n : Name) → IsMarked scanned.marks n → IsLive w extra n
    scanned_sound n k = elim (fields_marks.fresh n k) [
      | inl old ↦ l.sound n old
      | inr new ↦ IsLive.field name n (l.sound name (was_marked w s rest name off l.search)) (fields_refer w name n new.0)
    ]

    module _ (weaks : List Name) (t : Search) (v : IsRevival w weaks name (with_values (record { marks = s.marks; work = rest }) (fields_in (node_of w name))) t) where
      passed : (values : List Value) × Marks scanned (with_weaks w scanned v.passed) values
      passed = weaks_mark w h v.passed scanned scanned_places

      both : Marks taken t (fields ++ passed.0)
      both =
          let P : Search → Type 0 = λ u. Marks taken u (fields ++ passed.0) in
          subst P (sym v.is) (then_marks taken scanned (with_weaks w scanned v.passed) fields passed.0 fields_marks passed.1)

      kept_on : (n : Name) → IsMarked scanned.marks n → IsMarked t.marks n
      kept_on n k = rw v.is (passed.1.kept n k)

      pub live_goes_on : IsLiveSearch w extra t
      live_goes_on = record {
        search = search_goes_on w s rest name off l.search t (fields ++ passed.0) both (λ target r. kept_on target (fields_marks.hit target (refers_in w name target r)));
        sound = rw v.is (weaks_sound w h extra v.passed scanned scanned_places scanned_sound);
        begun = λ n c. both.kept n (l.begun n c);
      }

      pub live_count : unmarked_count t.marks + length t.work + 1 ≡ unmarked_count s.marks + length s.work
      live_count = one_less w s rest name off l.search t (fields ++ passed.0) both

      module _ (complete : (weak : Name) → IsAliveWeak w weak → Contains weaks weak) where
        -- the weak pointers that waited for the name have marked their parts
        woken : (weak target : Name) (parts : Parts) → IsAlive w weak parts → parts.key ≡ Ref name → IsKeptBy weak parts target → IsMarked t.marks target
        woken weak target parts alive e kept =
            let none : Name = record { maker = 0; serial = 0 } in
            let c = complete weak (parts, alive) in
            let there : weak ≡ weak_at weaks c.0 = get_or_read weaks c.0 weak c.1 (sym c.2) none in
            let P : Name → Type 0 = λ n. key_of w n ≡ Some name in
            let Q : Name → Type 0 = Contains v.passed in
            let d : Contains v.passed weak = subst Q (sym there) (v.all c.0 c.1 (subst P there (key_from_alive w weak name parts alive e))) in
            let shown : is_key_marked scanned.marks parts.key ≡ true = rw e (fields_marks.kept name (was_marked w s rest name off l.search)) in
            rw v.is (weaks_begun w h v.passed scanned scanned_places weak target parts d alive shown kept)

        pub revival_goes_on : AreRevived w s → AreRevived w t
        revival_goes_on r weak target parts alive shown kept = elim (key_cases w h taken t (fields ++ passed.0) both parts.key shown) [
          | inl before ↦ elim (r weak target parts alive before kept) [
            | inl x ↦ elim (still_waits w s rest name off l.search x.0 x.2) [
              | inl d ↦ inl (x.0, x.1, both.waits x.0 d)
              | inr e ↦ inr (woken weak target parts alive (x.1 ∙ ap Ref (sym e)) kept)
            ]
            | inr k ↦ inr (both.kept target k)
          ]
          | inr waits ↦ inl waits
        ]

  -- if nothing waits and each weak pointer has marked its parts, all live names are marked
  module _ (s : Search) (l : IsLiveSearch w extra s) (r : AreRevived w s) (empty : s.work ≡ []) where
    none_waits : (n : Name) → Contains s.work n → ⊥
    none_waits n c = let bad = rw empty at c in omega (arith, bad.1)

    plain_shown : (v : Value) → IsPlain v → is_key_marked s.marks v ≡ true
    plain_shown Nil p = refl
    plain_shown (Number n) p = refl
    plain_shown (Ref name) p = absurd p

    all_marked : (n : Name) → IsLive w extra n → IsMarked s.marks n
    all_marked n (IsLive.root _ root) = l.begun n (root_starts w extra n root)
    all_marked n (IsLive.further _ c there) = l.begun n (extra_starts w extra n c)
    all_marked n (IsLive.field name _ from refers) = elim (l.search.traced name n (all_marked name from) refers) [
      | inl c ↦ absurd (none_waits name c)
      | inr m ↦ m
    ]
    all_marked n (IsLive.plain_key weak _ parts alive plain kept) = elim (r weak n parts alive (plain_shown parts.key plain) kept) [
      | inl x ↦ absurd (none_waits x.0 x.2)
      | inr m ↦ m
    ]
    all_marked n (IsLive.live_key weak _ key parts alive is from kept) =
        let shown : is_key_marked s.marks parts.key ≡ true = rw is (all_marked key from) in
        elim (r weak n parts alive shown kept) [
          | inl x ↦ absurd (none_waits x.0 x.2)
          | inr m ↦ m
        ]

    pub live_found : IsLiveFound w extra s
    live_found = record { search = l.search; empty = empty; sound = l.sound; complete = all_marked }
