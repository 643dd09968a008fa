-- The objects that lines stored.
use Rattle.nmgc_field_checker.proofs.Vocabulary.{AddsStores, AreFlags, Bool, Contains, Contains-append_cases, Contains-append_left, Contains-append_right, Contains-push, Contains-push_cases, FieldStore, List, Stored, [], ap, contains_map, inl, inr, length, map, map-append, nothing_in, object_of, one_is, refill, refl, slice_set, subst, sym, true, ℕ, ◌++◌, ◌<◌, ◌∙◌, ◌∷◌, ◌≡◌, ◌⊎◌, ◌↔◌}
use Rattle.nmgc_field_checker.proofs.SetLaws.{flags_added, lent_length}

-- no objects are stored
pub stores_none : (line : ℕ) (s : Stored) → AddsStores line [] s s
stores_none line s = record {
  bound = refl;
  old = λ x c. c;
  new = λ x c. inl c;
  objects_are = λ n. (λ c. inl c, λ c. elim c [ inl old ↦ old | inr none ↦ absurd (nothing_in n none) ]);
}

-- objects are stored, and then others
pub stores_lists : (line : ℕ) (s t u : Stored) (objects others : List ℕ) → AddsStores line objects s t → AddsStores line others t u →
    AddsStores line (objects ++ others) s u
stores_lists line s t u objects others j k = record {
  bound = k.bound ∙ j.bound;
  old = λ x c. k.old x (j.old x c);
  new = λ x c. elim (k.new x c) [ inl was ↦ j.new x was | inr e ↦ inr e ];
  objects_are = λ n. (
    λ c. elim ((k.objects_are n).0 c) [
      | inl was ↦ elim ((j.objects_are n).0 was) [ inl old ↦ inl old | inr own ↦ inr (Contains-append_left objects others n own) ]
      | inr own ↦ inr (Contains-append_right objects others n own)
    ],
    λ c. elim c [
      | inl old ↦ (k.objects_are n).1 (inl ((j.objects_are n).1 (inl old)))
      | inr own ↦ elim (Contains-append_cases objects others n own) [
        | inl first ↦ (k.objects_are n).1 (inl ((j.objects_are n).1 (inr first)))
        | inr last ↦ (k.objects_are n).1 (inr last)
      ]
    ],
  );
}

-- an object that is stored already
pub stored_before : (line object : ℕ) (s : Stored) → Contains (map object_of s.items) object → AddsStores line (object ∷ []) s s
stored_before line object s has = record {
  bound = refl;
  old = λ x c. c;
  new = λ x c. inl c;
  objects_are = λ n. (
    λ c. inl c,
    λ c. elim c [ inl old ↦ old | inr own ↦ subst (λ (k : ℕ). Contains (map object_of s.items) k) (one_is object n own) has ],
  );
}

-- a new store, whose flag was set through a loan
module _ (flags lent : List Bool) (stores pushed : List FieldStore) (s : FieldStore) (lt : s.object < length flags) (same : lent ≡ flags)
    (more : pushed ≡ stores ++ s ∷ []) where
  objects_more : map object_of pushed ≡ map object_of stores ++ s.object ∷ []
  objects_more = ap (λ (l : List FieldStore). map object_of l) more ∙ map-append object_of stores (s ∷ [])

  pub store_flags : AreFlags flags (map object_of stores) → AreFlags (refill (length flags) flags (slice_set lent s.object true)) (map object_of pushed)
  store_flags are = flags_added flags lent (map object_of stores) (map object_of pushed) s.object lt same objects_more are

  pub store_added : AddsStores s.line (s.object ∷ []) (record { items = stores; bound = length flags })
      (record { items = pushed; bound = length (refill (length flags) flags (slice_set lent s.object true)) })
  store_added = record {
    bound = lent_length flags lent s.object same;
    old = λ x c. subst (λ (l : List FieldStore). Contains l x) (sym more) (Contains-append_left stores (s ∷ []) x c);
    new = λ x c. elim (Contains-push_cases stores s x (subst (λ (l : List FieldStore). Contains l x) more c)) [
      | inl old ↦ inl old
      | inr e ↦ inr (ap (λ (y : FieldStore). y.line) (sym e))
    ];
    objects_are = λ n. subst (λ (l : List ℕ). Contains l n ↔ (Contains (map object_of stores) n ⊎ Contains (s.object ∷ []) n)) (sym objects_more) (
      λ c. Contains-append_cases (map object_of stores) (s.object ∷ []) n c,
      λ c. elim c [
        | inl old ↦ Contains-append_left (map object_of stores) (s.object ∷ []) n old
        | inr own ↦ Contains-append_right (map object_of stores) (s.object ∷ []) n own
      ],
    );
  }
