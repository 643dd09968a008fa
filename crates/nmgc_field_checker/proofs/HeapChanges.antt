-- The two changes of a heap, a new object and a store, change no other fields.
use Rattle.nmgc_field_checker.proofs.Vocabulary.{IsStore, List, None, Option, Some, [], ap, arith, cases_eq, cases_lt, drop, get-append_cases, inl, inr, item, length, length-append, length-drop, length-take, refl, replicate, set, slice_get, slice_get-append, slice_get-append_last, slice_get-set_other, slice_get-set_same, slice_get-take, slice_get_past, slice_get_within, some_is, subst, suc, sym, take, with_rest, world_of, zero, ℕ, ◌++◌, ◌+◌, ◌-◌, ◌<◌, ◌∙◌, ◌∷◌, ◌≡◌, ◌≢◌, ◌≤◌, ◌⊎◌}
use Rattle.nmgc_field_checker.specs.laws.Heaps.{stored_over}
use Rattle.nmgc_field_checker.proofs.HeapStores.{IsListStore, in_replicate, store_is}

-- an item of two lists together
get_left : {A : Type 0} (xs ys : List A) (i : ℕ) → i < length xs → slice_get (xs ++ ys) i ≡ slice_get xs i
get_left [] ys i lt = absurd (omega arith)
get_left (x ∷ xs) ys zero lt = refl
get_left (x ∷ xs) ys (suc i) lt = get_left xs ys i (omega arith)

get_right : {A : Type 0} (xs ys : List A) (i j : ℕ) → j ≡ length xs + i → slice_get (xs ++ ys) j ≡ slice_get ys i
get_right [] ys i j e = ap (λ (k : ℕ). slice_get ys k) (let f : j ≡ i = omega arith in f)
get_right (x ∷ xs) ys i zero e = absurd (omega arith)
get_right (x ∷ xs) ys i (suc j) e = get_right xs ys i j (omega arith)

get_drop : {A : Type 0} (n : ℕ) (xs : List A) (i j : ℕ) → j ≡ n + i → slice_get (drop n xs) i ≡ slice_get xs j
get_drop zero xs i j e = ap (λ (k : ℕ). slice_get xs k) (let f : i ≡ j = omega arith in f)
get_drop (suc n) [] i j e = refl
get_drop (suc n) (x ∷ xs) i zero e = absurd (omega arith)
get_drop (suc n) (x ∷ xs) i (suc j) e = get_drop n xs i j (omega arith)

-- the fields of an object after a store: the fields before the place, the stored values, and the fields after them
module _ (place : ℕ) (own fields : List (Option ℕ)) (fits : place + length fields ≤ length own) where
  front : length (take place own) ≡ place
  front = omega (arith, length-take place own)

  both : length (take place own ++ fields) ≡ place + length fields
  both = omega (arith, length-append (take place own) fields, front)

  over_before : (i : ℕ) → i < place → slice_get (stored_over place own fields) i ≡ slice_get own i
  over_before i lt =
      get_left (take place own ++ fields) (drop (place + length fields) own) i (omega (arith, both)) ∙
      get_left (take place own) fields i (omega (arith, front)) ∙ slice_get-take place own i lt

  over_within : (at i : ℕ) → at < length fields → i ≡ place + at → slice_get (stored_over place own fields) i ≡ slice_get fields at
  over_within at i lt e =
      get_left (take place own ++ fields) (drop (place + length fields) own) i (omega (arith, both)) ∙
      get_right (take place own) fields at i (omega (arith, front))

  over_after : (i : ℕ) → place + length fields ≤ i → slice_get (stored_over place own fields) i ≡ slice_get own i
  over_after i le =
      get_right (take place own ++ fields) (drop (place + length fields) own) (i - (place + length fields)) i (omega (arith, both)) ∙
      get_drop (place + length fields) own (i - (place + length fields)) i (omega arith)

  -- a position is outside the stored fields, or one of them
  over_cases : (i : ℕ) → (slice_get (stored_over place own fields) i ≡ slice_get own i) ⊎
      ((at : ℕ) × (i ≡ place + at) × (at < length fields) × (slice_get (stored_over place own fields) i ≡ slice_get fields at))
  over_cases i = elim (cases_lt i place) [
    | inl lt ↦ inl (over_before i lt)
    | inr le ↦ elim (cases_lt i (place + length fields)) [
      | inl lt ↦
          let within : i - place < length fields = omega arith in
          let e : i ≡ place + (i - place) = omega arith in
          inr (i - place, e, within, over_within (i - place) i within e)
      | inr after ↦ inl (over_after i after)
    ]
  ]

-- a field has an object, or another value
has_or : (field : Option ℕ) (n : ℕ) → (field ≡ Some n) ⊎ (field ≢ Some n)
has_or None n = inr (λ e. absurd cc)
has_or (Some m) n = elim (cases_eq m n) [
  | inl e ↦ inl (ap (λ (k : ℕ). Some k) e)
  | inr ne ↦ inr (λ e. ne (some_is m n e))
]

-- a store
pub store_of : (objects : List (List (Option ℕ))) (object place : ℕ) (own fields : List (Option ℕ)) → slice_get objects object ≡ Some own →
    place + length fields ≤ length own → IsStore (world_of objects) object place fields (world_of (set objects object (stored_over place own fields)))
store_of objects object place own fields is fits =
    let within : object < length objects = slice_get_within objects object own is in
    store_is objects object place fields own (stored_over place own fields) (set objects object (stored_over place own fields)) (record {
      others = λ k ne. slice_get-set_other objects object k (stored_over place own fields) ne;
      new_is = slice_get-set_same objects object (stored_over place own fields) within;
      own_is = inl is;
      within = λ at field e. over_within place own fields fits at (place + at) (slice_get_within fields at field e) refl ∙ e;
      came = λ i n e. elim (over_cases place own fields fits i) [
        | inl same ↦ inl (sym same ∙ e)
        | inr p ↦ inr (p.0, p.1, sym p.3 ∙ e)
      ];
      went = λ i n e. elim (over_cases place own fields fits i) [
        | inl same ↦ inl (same ∙ e)
        | inr p ↦
            let x = item fields p.0 p.2 in
            elim (has_or x.0 n) [
              | inl has ↦ inl (p.3 ∙ x.1 ∙ ap (λ (o : Option ℕ). Some o) has)
              | inr other ↦ inr (p.0, x.0, p.1, x.1, other)
            ]
      ];
    })

-- a new object
pub making_of : (objects : List (List (Option ℕ))) (count object : ℕ) (fields : List (Option ℕ)) → object ≡ length objects →
    IsStore (world_of objects) object 0 fields (world_of (objects ++ with_rest count fields ∷ []))
making_of objects count object fields last =
    store_is objects object 0 fields [] (with_rest count fields) (objects ++ with_rest count fields ∷ []) (record {
      others = λ k ne. elim (get-append_cases objects (with_rest count fields) k) [
        | inl p ↦ absurd (ne (p.0 ∙ sym last))
        | inr same ↦ same
      ];
      new_is = subst (λ (k : ℕ). slice_get (objects ++ with_rest count fields ∷ []) k ≡ Some (with_rest count fields)) (sym last)
          (slice_get-append_last objects (with_rest count fields));
      own_is = inr (slice_get_past objects object (let le : length objects ≤ object = omega arith in le), refl);
      within = λ at field e. subst (λ (k : ℕ). slice_get (with_rest count fields) k ≡ Some field) (let z : at ≡ 0 + at = omega arith in z)
          (slice_get-append fields (replicate (count - length fields) None) at field e);
      came = λ i n e. elim (cases_lt i (length fields)) [
        | inl lt ↦ inr (i, (let z : i ≡ 0 + i = omega arith in z), sym (get_left fields (replicate (count - length fields) None) i lt) ∙ e)
        | inr le ↦
            let rest : slice_get (replicate (count - length fields) None) (i - length fields) ≡ Some (Some n) =
            sym (get_right fields (replicate (count - length fields) None) (i - length fields) i (omega arith)) ∙ e in
            let bad : None ≡ Some n = in_replicate (count - length fields) (i - length fields) (Some n) None rest in
            absurd cc
      ];
      went = λ i n e. absurd (let bad : None ≡ Some (Some n) = e in cc);
    })
