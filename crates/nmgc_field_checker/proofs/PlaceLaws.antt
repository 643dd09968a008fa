-- The objects of the places that have a relation, place by place.
use Rattle.nmgc_field_checker.proofs.Vocabulary.{AreAt, List, None, Some, [], arith, cases_lt, get-append_cases, inl, inr, item, length, length_push, refl, slice_get, slice_get-append, slice_get-append_last, slice_get_within, some_is, subst, sym, ℕ, ◌++◌, ◌+◌, ◌<◌, ◌∙◌, ◌∷◌, ◌≡◌}

module _ (P : ℕ → ℕ → Type 0) where
  -- the relation, at a place below a count
  abbrev pub IsBefore : ℕ → ℕ → ℕ → Type 0
  IsBefore n at target = (at < n) × P at target

  -- the objects of all places below a count
  abbrev pub AreUpto : ℕ → List ℕ → Type 0
  AreUpto n objects = (places : List ℕ) × AreAt (IsBefore n) places objects

  pub none_upto : AreUpto 0 []
  none_upto = (
    [],
    record {
      count = refl;
      ascend = λ i at next e f. absurd cc;
      has = λ i at target e f. absurd cc;
      all = λ at target p. absurd (let lt : at < 0 = p.0 in omega arith);
    },
  )

  -- a place without an object
  pub upto_skip : (n : ℕ) (objects : List ℕ) → AreUpto n objects → ((target : ℕ) → P n target → ⊥) → AreUpto (n + 1) objects
  upto_skip n objects (places, are) none = (
    places,
    record {
      count = are.count;
      ascend = are.ascend;
      has = λ i at target e f. let p = are.has i at target e f in let lt : at < n = p.0 in (omega arith, p.1);
      all = λ at target p. elim (cases_lt at n) [
        | inl lt ↦ are.all at target (lt, p.1)
        | inr le ↦ let lt : at < n + 1 = p.0 in let same : at ≡ n = omega arith in absurd (none target (subst (λ (k : ℕ). P k target) same p.1))
      ];
    },
  )

  -- a place with an object
  module _ (n : ℕ) (objects : List ℕ) (target : ℕ) (places : List ℕ) (are : AreAt (IsBefore n) places objects) (own : P n target)
      (only : (other : ℕ) → P n other → other ≡ target) where
    ascends : (i at next : ℕ) → slice_get (places ++ n ∷ []) i ≡ Some at → slice_get (places ++ n ∷ []) (i + 1) ≡ Some next → at < next
    ascends i at next e f = elim (get-append_cases places n (i + 1)) [
      | inl last ↦ elim (get-append_cases places n i) [
        | inl bad ↦ let a : i + 1 ≡ length places = last.0 in let b : i ≡ length places = bad.0 in absurd (omega arith)
        | inr old ↦
            let was : slice_get places i ≡ Some at = sym old ∙ e in
            let within : i < length places = slice_get_within places i at was in
            let count : length places ≡ length objects = are.count in
            let x = item objects i (omega arith) in
            let p = are.has i at x.0 was x.1 in
            let lt : at < n = p.0 in
            let is : n ≡ next = some_is n next (sym last.1 ∙ f) in
            omega arith
      ]
      | inr later ↦
          let then : slice_get places (i + 1) ≡ Some next = sym later ∙ f in
          let within : i + 1 < length places = slice_get_within places (i + 1) next then in
          elim (get-append_cases places n i) [
            | inl bad ↦ let b : i ≡ length places = bad.0 in absurd (omega arith)
            | inr old ↦ are.ascend i at next (sym old ∙ e) then
          ]
    ]

    has_both : (i at other : ℕ) → slice_get (places ++ n ∷ []) i ≡ Some at → slice_get (objects ++ target ∷ []) i ≡ Some other → IsBefore (n + 1) at other
    has_both i at other e f =
        let count : length places ≡ length objects = are.count in
        elim (get-append_cases places n i) [
          | inl last ↦ elim (get-append_cases objects target i) [
            | inl also ↦
                let a : n ≡ at = some_is n at (sym last.1 ∙ e) in
                let b : target ≡ other = some_is target other (sym also.1 ∙ f) in
                (omega arith, subst (λ (k : ℕ). P k other) a (subst (λ (k : ℕ). P n k) b own))
            | inr old ↦
                let within : i < length objects = slice_get_within objects i other (sym old ∙ f) in
                let b : i ≡ length places = last.0 in
                absurd (omega arith)
          ]
          | inr old ↦
              let was : slice_get places i ≡ Some at = sym old ∙ e in
              let within : i < length places = slice_get_within places i at was in
              elim (get-append_cases objects target i) [
                | inl bad ↦ let b : i ≡ length objects = bad.0 in absurd (omega arith)
                | inr also ↦
                    let p = are.has i at other was (sym also ∙ f) in
                    let lt : at < n = p.0 in
                    (omega arith, p.1)
              ]
        ]

    all_both : (at other : ℕ) → IsBefore (n + 1) at other →
        (i : ℕ) × (slice_get (places ++ n ∷ []) i ≡ Some at) × (slice_get (objects ++ target ∷ []) i ≡ Some other)
    all_both at other p = elim (cases_lt at n) [
      | inl lt ↦
          let r = are.all at other (lt, p.1) in
          (r.0, slice_get-append places (n ∷ []) r.0 at r.1, slice_get-append objects (target ∷ []) r.0 other r.2)
      | inr le ↦
          let lt : at < n + 1 = p.0 in
          let same : n ≡ at = omega arith in
          let is : target ≡ other = sym (only other (subst (λ (k : ℕ). P k other) (sym same) p.1)) in (
            length places,
            subst (λ (k : ℕ). slice_get (places ++ n ∷ []) (length places) ≡ Some k) same (slice_get-append_last places n),
            subst (λ (k : ℕ). slice_get (objects ++ target ∷ []) k ≡ Some other) (sym are.count)
                (subst (λ (k : ℕ). slice_get (objects ++ target ∷ []) (length objects) ≡ Some k) is (slice_get-append_last objects target)),
          )
    ]

    pushed : AreAt (IsBefore (n + 1)) (places ++ n ∷ []) (objects ++ target ∷ [])
    pushed = record {
      count = let c : length places ≡ length objects = are.count in omega (arith, length_push places n, length_push objects target);
      ascend = ascends;
      has = has_both;
      all = all_both;
    }

  pub upto_push : (n : ℕ) (objects : List ℕ) (target : ℕ) → AreUpto n objects → P n target → ((other : ℕ) → P n other → other ≡ target) →
      AreUpto (n + 1) (objects ++ target ∷ [])
  upto_push n objects target u own only = (u.0 ++ n ∷ [], pushed n objects target u.0 u.1 own only)

  -- the objects of all places
  pub upto_all : (n : ℕ) (objects : List ℕ) → AreUpto n objects → ((at target : ℕ) → P at target → at < n) → (places : List ℕ) × AreAt P places objects
  upto_all n objects (places, are) below = (
    places,
    record {
      count = are.count;
      ascend = are.ascend;
      has = λ i at target e f. (are.has i at target e f).1;
      all = λ at target p. are.all at target (below at target p, p);
    },
  )
