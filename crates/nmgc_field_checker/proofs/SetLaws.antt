-- Objects that join a set.
use Rattle.nmgc_field_checker.proofs.Vocabulary.{All, Contains-get_or, cases_lt, false≢true, get_or_past, slice_index_or, AreFlags, Bool, Contains, Contains-append_cases, Contains-append_left, Contains-append_right, Grows, Joins, List, Objects, [], ap, append-nil, append_assoc, cases_eq, contains_one, false, get_or, get_or-set_other, get_or-set_same, inl, inr, length, length-set, nothing_in, one_is, refill, refill_whole, refl, slice_set, subst, sym, take, take_more, true, ℕ, ◌++◌, ◌+◌, ◌<◌, ◌∙◌, ◌∷◌, ◌≡◌, ◌⊎◌, ◌↔◌}

-- no objects join
pub joins_none : (s : Objects) → Joins s [] s
joins_none s = record {
  bound = refl;
  items = λ n. (λ c. inl c, λ c. elim c [ inl old ↦ old | inr p ↦ absurd (nothing_in n p.0) ]);
}

-- objects join, and then others
pub joins_lists : (s t u : Objects) (objects others : List ℕ) → Joins s objects t → Joins t others u → Joins s (objects ++ others) u
joins_lists s t u objects others j k = record {
  bound = k.bound ∙ j.bound;
  items = λ n. (
    λ c. elim ((k.items n).0 c) [
      | inl old ↦ elim ((j.items n).0 old) [ inl x ↦ inl x | inr p ↦ inr (Contains-append_left objects others n p.0, p.1) ]
      | inr p ↦ inr (Contains-append_right objects others n p.0, subst (λ (b : ℕ). n < b) j.bound p.1)
    ],
    λ c. elim c [
      | inl x ↦ (k.items n).1 (inl ((j.items n).1 (inl x)))
      | inr p ↦ elim (Contains-append_cases objects others n p.0) [
        | inl old ↦ (k.items n).1 (inl ((j.items n).1 (inr (old, p.1))))
        | inr new ↦ (k.items n).1 (inr (new, subst (λ (b : ℕ). n < b) (sym j.bound) p.1))
      ]
    ],
  );
}

-- the objects up to a position join, and the next one
pub joins_next : (s t u : Objects) (objects : List ℕ) (i d : ℕ) → i < length objects → Joins s (take i objects) t → Joins t (get_or objects i d ∷ []) u →
    Joins s (take (i + 1) objects) u
joins_next s t u objects i d lt j k = rw (take_more objects i d lt) (joins_lists s t u (take i objects) (get_or objects i d ∷ []) j k)

-- the set with one more object
abbrev with_object : Objects → ℕ → Objects
with_object s object = record { items = s.items ++ object ∷ []; bound = s.bound }

-- an object below the bound joins
joins_one : (s : Objects) (object : ℕ) → object < s.bound → Joins s (object ∷ []) (with_object s object)
joins_one s object lt = record {
  bound = refl;
  items = λ n. (
    λ c. elim (Contains-append_cases s.items (object ∷ []) n c) [
      | inl old ↦ inl old
      | inr new ↦ inr (new, subst (λ (x : ℕ). x < s.bound) (one_is object n new) lt)
    ],
    λ c. elim c [
      | inl old ↦ Contains-append_left s.items (object ∷ []) n old
      | inr p ↦ Contains-append_right s.items (object ∷ []) n p.0
    ],
  );
}

-- the flags after an object joined
flags_more : (flags : List Bool) (objects : List ℕ) (object : ℕ) → AreFlags flags objects → object < length flags →
    AreFlags (slice_set flags object true) (objects ++ object ∷ [])
flags_more flags objects object are lt n = elim (cases_eq n object) [
  | inl e ↦ (
    λ s. Contains-append_right objects (object ∷ []) n (subst (λ (x : ℕ). Contains (object ∷ []) x) (sym e) (contains_one object)),
    λ c. rw e (get_or-set_same flags object true false lt),
  )
  | inr ne ↦ (
    λ s. Contains-append_left objects (object ∷ []) n ((are n).0 (sym (get_or-set_other flags object n true false ne) ∙ s)),
    λ c. elim (Contains-append_cases objects (object ∷ []) n c) [
      | inl old ↦ get_or-set_other flags object n true false ne ∙ (are n).1 old
      | inr new ↦ absurd (ne (sym (one_is object n new)))
    ],
  )
]

-- the number of flags stays after one of them was set through a loan
pub lent_length : (flags lent : List Bool) (object : ℕ) → lent ≡ flags → length (refill (length flags) flags (slice_set lent object true)) ≡ length flags
lent_length flags lent object same =
    ap (λ (l : List Bool). length l) (refill_whole flags (slice_set lent object true) (length-set lent object true ∙ ap (λ (l : List Bool). length l) same)) ∙
    length-set lent object true ∙ ap (λ (l : List Bool). length l) same

-- a set after an object joined it, whose flag was set through a loan
module _ (flags lent : List Bool) (objects pushed : List ℕ) (object : ℕ) (lt : object < length flags) (same : lent ≡ flags) (more : pushed ≡ objects ++ object ∷ []) where
  lent_flags : refill (length flags) flags (slice_set lent object true) ≡ slice_set flags object true
  lent_flags = refill_whole flags (slice_set lent object true) (length-set lent object true ∙ ap (λ (l : List Bool). length l) same) ∙
      ap (λ (l : List Bool). slice_set l object true) same

  pub flags_added : AreFlags flags objects → AreFlags (refill (length flags) flags (slice_set lent object true)) pushed
  flags_added are =
      subst (λ (l : List Bool). AreFlags l pushed) (sym lent_flags)
      (subst (λ (l : List ℕ). AreFlags (slice_set flags object true) l) (sym more) (flags_more flags objects object are lt))

  pub object_added : Joins (record { items = objects; bound = length flags }) (object ∷ [])
      (record { items = pushed; bound = length (refill (length flags) flags (slice_set lent object true)) })
  object_added = record {
    bound = lent_length flags lent object same;
    items = λ n. subst (λ (l : List ℕ). Contains l n ↔ (Contains objects n ⊎ (Contains (object ∷ []) n × (n < length flags)))) (sym more)
        ((joins_one (record { items = objects; bound = length flags }) object lt).items n);
  }

-- a list that grows twice grows
pub grows_more : (before between after : List ℕ) → Grows before between → Grows between after → Grows before after
grows_more before between after g h = (g.0 ++ h.0, h.1 ∙ ap (λ (l : List ℕ). l ++ h.0) g.1 ∙ append_assoc before g.0 h.0)

-- a list grows by nothing
pub grows_none : (items : List ℕ) → Grows items items
grows_none items = ([], sym (append-nil items))

-- an object with a flag is below the number of flags
flag_below : (flags : List Bool) (object : ℕ) → slice_index_or flags object false ≡ true → object < length flags
flag_below flags object set_is = elim (cases_lt object (length flags)) [
  | inl lt ↦ lt
  | inr le ↦ absurd (false≢true (sym (get_or_past flags object false le) ∙ set_is))
]

pub flags_below : (flags : List Bool) (objects : List ℕ) → AreFlags flags objects → All (λ (n : ℕ). n < length flags) objects
flags_below flags objects are = λ k d lt.
    flag_below flags (get_or objects k d) ((are (get_or objects k d)).1 (Contains-get_or objects k d lt))
