-- Names that join a list and its set.
use Rattle.nmgc_barrier_checker.proofs.Vocabulary.{◌≡◌, ◌<◌, ℕ, List, [], ◌∷◌, ◌++◌, ◌+◌, length, take, get_or, refl, sym, subst, ◌∙◌, arith, Bool, true, false, not, cond, inl, inr, ◌⊎◌, All, Contains, IsSome, is_some, ◌&&◌, ◌↔◌, and_cases, and_parts, not-false, eqb_tells, take_more, Contains-get_or, Contains-append_left, Contains-append_right, Contains-append_cases, SHARED_MAKER, Name, World, state_of, node_of, HasPlace, HasPlaces, IsMarked, mark_of, with_mark, marked_place, added, kept_others, places_kept, makers_kept, name_placed, name_cases, is_some_get, nothing_in, one_is, contains_one, NameSet, IsListed, Joins, joined}

-- a name in a set with a position for each name of a world is a name of that world
pub marked_there : (w : World) (marks : List (List Bool)) (name : Name) → HasPlaces w marks → IsMarked marks name → IsSome (node_of w name)
marked_there w marks name h m = by_maker (marked_place marks name m)
  where
    by_maker : HasPlace marks name → IsSome (node_of w name)
    by_maker place = elim (eqb_tells name.maker SHARED_MAKER) [
      | inl p ↦
          let few : name.serial < 1 = rw p.0 at (rw (h.counts name.maker) at place) in
          let zero_is : name.serial ≡ 0 = omega arith in
          rw (p.0, zero_is) refl
      | inr p ↦ rw p.0 (is_some_get (state_of w name.maker).nodes name.serial (rw p.0 at (rw (h.counts name.maker) at place)))
    ]

-- without names
pub none_listed : (w : World) (listed : NameSet) → HasPlaces w listed.set → ((name : Name) → mark_of listed.set name ≡ false) → listed.names ≡ [] →
    IsListed w listed
none_listed w listed places free none = record {
  places = places;
  same = λ n. (
    λ m. absurd (let bad : false ≡ true = sym (free n) ∙ m in cc),
    λ c. absurd (nothing_in n (subst (λ (l : List Name). Contains l n) none c)),
  );
}

module _ (w : World) (k : NameSet) (is : IsListed w k) where
  -- a listed name is a name of the world
  pub listed_there : (n : Name) → Contains k.names n → IsSome (node_of w n)
  listed_there n c = marked_there w k.set n is.places ((is.same n).1 c)

  pub all_listed : All (λ n. IsSome (node_of w n)) k.names
  all_listed i d lt = listed_there (get_or k.names i d) (Contains-get_or k.names i d lt)

  module _ (name : Name) where
    abbrev more : NameSet
    more = record { set = with_mark k.set name; names = k.names ++ name ∷ [] }

    -- the name joins
    module _ (there : IsSome (node_of w name)) where
      placed : HasPlace k.set name
      placed = name_placed w k.set is.places name there

      is_more : IsListed w more
      is_more = record {
        places = record {
          makers = makers_kept k.set name placed ∙ is.places.makers;
          counts = λ maker. places_kept k.set name placed maker ∙
              is.places.counts maker;
        };
        same = λ n. (
          λ m. elim (name_cases n name) [
            | inl e ↦ Contains-append_right k.names (name ∷ []) n (subst (λ (x : Name). Contains (name ∷ []) x) (sym e) (contains_one name))
            | inr ne ↦ Contains-append_left k.names (name ∷ []) n ((is.same n).0 (sym (kept_others k.set name placed n ne) ∙ m))
          ],
          λ c. elim (name_cases n name) [
            | inl e ↦ subst (λ (x : Name). IsMarked (with_mark k.set name) x) (sym e) (added k.set name placed)
            | inr ne ↦ elim (Contains-append_cases k.names (name ∷ []) n c) [
              | inl old ↦ kept_others k.set name placed n ne ∙ (is.same n).1 old
              | inr new ↦ absurd (ne (sym (one_is name n new)))
            ]
          ],
        );
      }

      names_more : (n : Name) → Contains more.names n ↔ (Contains k.names n ⊎ ((n ≡ name) × IsSome (node_of w n)))
      names_more n = (
        λ c. elim (Contains-append_cases k.names (name ∷ []) n c) [
          | inl old ↦ inl old
          | inr new ↦ inr (sym (one_is name n new), subst (λ (x : Name). IsSome (node_of w x)) (one_is name n new) there)
        ],
        λ c. elim c [
          | inl old ↦ Contains-append_left k.names (name ∷ []) n old
          | inr p ↦ Contains-append_right k.names (name ∷ []) n (subst (λ (x : Name). Contains (name ∷ []) x) (sym p.0) (contains_one name))
        ],
      )

    -- the name doesn't join
    same_names : (is_some (node_of w name) && not (mark_of k.set name)) ≡ false → (n : Name) → Contains k.names n ↔
        (Contains k.names n ⊎ ((n ≡ name) × IsSome (node_of w n)))
    same_names h n = (
      λ c. inl c,
      λ c. elim c [
        | inl old ↦ old
        | inr p ↦ elim (and_cases (is_some (node_of w name)) (not (mark_of k.set name)) h) [
          | inl refused ↦ absurd (let yes : is_some (node_of w name) ≡ true = subst (λ (x : Name). IsSome (node_of w x)) p.0 p.1 in
              let bad : true ≡ false = sym yes ∙ refused in cc)
          | inr y ↦ (is.same n).0 (subst (λ (x : Name). mark_of k.set x ≡ true) (sym p.0) (not-false (mark_of k.set name) y))
        ]
      ],
    )

    pub joined_is : IsListed w (joined w k name)
    joined_is = by_test (is_some (node_of w name) && not (mark_of k.set name)) refl
      where
        by_test : (b : Bool) → (is_some (node_of w name) && not (mark_of k.set name)) ≡ b → IsListed w (cond b more k)
        by_test true e = is_more (and_parts (is_some (node_of w name)) (not (mark_of k.set name)) e).0
        by_test false e = is

    pub joined_names : (n : Name) → Contains (joined w k name).names n ↔ (Contains k.names n ⊎ ((n ≡ name) × IsSome (node_of w n)))
    joined_names n = by_test (is_some (node_of w name) && not (mark_of k.set name)) refl
      where
        by_test : (b : Bool) → (is_some (node_of w name) && not (mark_of k.set name)) ≡ b → Contains (cond b more k).names n ↔
            (Contains k.names n ⊎ ((n ≡ name) × IsSome (node_of w n)))
        by_test true e = names_more (and_parts (is_some (node_of w name)) (not (mark_of k.set name)) e).0 n
        by_test false e = same_names e n

    -- marks are kept
    pub joined_keeps : (n : Name) → IsMarked k.set n → IsMarked (joined w k name).set n
    joined_keeps n m = (joined_is.same n).1 ((joined_names n).1 (inl ((is.same n).0 m)))

    -- and a new mark is the name's
    pub joined_marks : (n : Name) → IsMarked (joined w k name).set n → IsMarked k.set n ⊎ (n ≡ name)
    joined_marks n m = elim ((joined_names n).0 ((joined_is.same n).0 m)) [ inl old ↦ inl ((is.same n).1 old) | inr p ↦ inr p.0 ]

    pub joined_marked : IsSome (node_of w name) → IsMarked (joined w k name).set name
    joined_marked there = (joined_is.same name).1 ((joined_names name).1 (inr (refl, there)))

-- names joined, and one more
pub joins_none : (w : World) (before : List Name) → Joins w before [] before
joins_none w before n = (λ c. inl c, λ c. elim c [ inl old ↦ old | inr p ↦ absurd (nothing_in n p.0) ])

pub joins_more : (w : World) (before names : List Name) (k : NameSet) (name : Name) → IsListed w k → Joins w before names k.names →
    Joins w before (names ++ name ∷ []) (joined w k name).names
joins_more w before names k name is j n = (
  λ c. elim ((joined_names w k is name n).0 c) [
    | inl old ↦ elim ((j n).0 old) [ inl x ↦ inl x | inr p ↦ inr (Contains-append_left names (name ∷ []) n p.0, p.1) ]
    | inr p ↦ inr (Contains-append_right names (name ∷ []) n (subst (λ (x : Name). Contains (name ∷ []) x) (sym p.0) (contains_one name)), p.1)
  ],
  λ c. (joined_names w k is name n).1 (elim c [
    | inl x ↦ inl ((j n).1 (inl x))
    | inr p ↦ elim (Contains-append_cases names (name ∷ []) n p.0) [
      | inl old ↦ inl ((j n).1 (inr (old, p.1)))
      | inr new ↦ inr (sym (one_is name n new), p.1)
    ]
  ]),
)

pub listed_more : (w : World) (before names : List Name) (i : ℕ) (blank : Name) (k k' : NameSet) → i < length names → IsListed w k →
    Joins w before (take i names) k.names → k' ≡ joined w k (get_or names i blank) → (IsListed w k') × Joins w before (take (i + 1) names) k'.names
listed_more w before names i blank k k' lt is j e = (
  subst (IsListed w) (sym e) (joined_is w k is (get_or names i blank)),
  rw e (rw (take_more names i blank lt) (joins_more w before (take i names) k (get_or names i blank) is j)),
)
