-- The position of a name in an ordered list, and the names of such a list that are met.
use Rattle.nmgc_barrier_checker.proofs.Vocabulary.{◌≡◌, ◌<◌, ◌+◌, ℕ, zero, suc, List, [], ◌∷◌, ◌++◌, length, take, get_or, set, inl, inr, false≢true, sym, ap, subst, ◌∙◌, arith, Bool, true, false, Contains, cases_lt, eqb_tells, get_or_default, get_or-set_same, get_or-set_other, Contains-append_left, Contains-append_right, Contains-append_cases, Name, IsBefore, IsInOrder, before_trans, not_before_itself, in_order_first, in_order_rest, one_is, contains_one, StandsAt, IsBetween, IsPlaceOf, AreMet, length-set, nothing_in, contains_cases}
use Rattle.nmgc_barrier_checker.specs.First.{StandsFirst}
use Rattle.nmgc_barrier_checker.proofs.Firsts.{stands_at}

-- the earlier of two positions has the earlier name
order_at : (xs : List Name) (i j : ℕ) (a b : Name) → IsInOrder xs → i < j → StandsAt xs i a → StandsAt xs j b → IsBefore a b
order_at [] i j a b o lt s t = absurd (let none : i < 0 = s.0 in omega arith)
order_at (x ∷ xs) zero zero a b o lt s t = absurd (omega arith)
order_at (x ∷ xs) zero (suc j) a b o lt s t =
    let P : Name → Type 0 = λ n. IsBefore n b in
    subst P s.1 (in_order_first x xs o b (j, omega (arith, t.0), t.1))
order_at (x ∷ xs) (suc i) zero a b o lt s t = absurd (omega arith)
order_at (x ∷ xs) (suc i) (suc j) a b o lt s t =
    order_at xs i j a b (in_order_rest x xs o) (omega arith) (omega (arith, s.0), s.1) (omega (arith, t.0), t.1)

-- a name is at one position only
one_place : (xs : List Name) (i j : ℕ) (n : Name) → IsInOrder xs → StandsAt xs i n → StandsAt xs j n → i ≡ j
one_place xs i j n o s t = elim (cases_lt i j) [
  | inl lt ↦ absurd (not_before_itself n (order_at xs i j n n o lt s t))
  | inr le ↦ elim (cases_lt j i) [
    | inl lt ↦ absurd (not_before_itself n (order_at xs j i n n o lt t s))
    | inr ge ↦ omega arith
  ]
]

same_at : (xs : List Name) (i : ℕ) (a b : Name) → StandsAt xs i a → StandsAt xs i b → a ≡ b
same_at xs i a b s t = sym s.1 ∙ get_or_default xs i a b s.0 ∙ t.1

-- BY HALVES

module _ (xs : List Name) (name : Name) (least end middle : ℕ) (o : IsInOrder xs) (h : IsBetween xs name least end) (a : Name) (s : StandsAt xs middle a) where
  pub after_middle : IsBefore a name → IsBetween xs name (middle + 1) end
  after_middle b = record {
    most = h.most;
    before = λ i n t lt. elim (cases_lt i middle) [
      | inl less ↦ before_trans n a name (order_at xs i middle n a o less t s) b
      | inr more ↦
          let here : middle ≡ i = omega arith in
          let there : StandsAt xs i a = subst (λ (k : ℕ). StandsAt xs k a) here s in
          let P : Name → Type 0 = λ m. IsBefore m name in
          subst P (same_at xs i a n there t) b
    ];
    others = h.others;
  }

  pub up_to_middle : (IsBefore a name → ⊥) → IsBetween xs name least middle
  up_to_middle never = record {
    most = (let lt : middle < length xs = s.0 in omega arith);
    before = h.before;
    others = λ i n t le b. elim (cases_lt middle i) [
      | inl less ↦ never (before_trans a n name (order_at xs middle i a n o less s t) b)
      | inr more ↦
          let here : middle ≡ i = omega arith in
          let there : StandsAt xs i a = subst (λ (k : ℕ). StandsAt xs k a) here s in
          let P : Name → Type 0 = λ m. IsBefore m name in
          never (subst P (sym (same_at xs i a n there t)) b)
    ];
  }

-- a name that isn't at its position isn't in the list
pub not_there : (xs : List Name) (name : Name) (place : ℕ) → IsInOrder xs → IsPlaceOf xs name place → (StandsAt xs place name → ⊥) → Contains xs name → ⊥
not_there xs name place o h never c =
    let s : StandsAt xs c.0 name = (c.1, c.2) in
    elim (cases_lt c.0 place) [
      | inl less ↦ not_before_itself name (h.before c.0 name s less)
      | inr more ↦ elim (cases_lt place c.0) [
        | inl less ↦
            let d : Name = get_or xs place name in
            let within : place < length xs = (let lt : c.0 < length xs = c.1 in omega arith) in
            let t : StandsAt xs place d = (within, get_or_default xs place d name within) in
            h.others place d t (omega arith) (order_at xs place c.0 d name o less t s)
        | inr same ↦
            let here : c.0 ≡ place = omega arith in
            never (subst (λ (k : ℕ). StandsAt xs k name) here s)
      ]
    ]

-- WHICH ARE MET

module _ (xs others : List Name) (met : List Bool) (h : AreMet xs others met) (other : Name) where
  -- the other name isn't in the list
  pub met_elsewhere : (Contains xs other → ⊥) → AreMet xs (others ++ other ∷ []) met
  met_elsewhere never = record {
    places = h.places;
    same = λ i n s. (
      λ t. Contains-append_left others (other ∷ []) n ((h.same i n s).0 t),
      λ c. elim (Contains-append_cases others (other ∷ []) n c) [
        | inl old ↦ (h.same i n s).1 old
        | inr new ↦
            let P : Name → Type 0 = Contains xs in
            absurd (never (subst P (sym (one_is other n new)) (i, s.0, s.1)))
      ],
    );
  }

  -- the other name is the name at this position
  pub met_here : (place : ℕ) → IsInOrder xs → StandsAt xs place other → AreMet xs (others ++ other ∷ []) (set met place true)
  met_here place o here = record {
    places = length-set met place true ∙ h.places;
    same = λ i n s. elim (eqb_tells i place) [
      | inl p ↦
          let t : StandsAt xs place n = subst (λ (k : ℕ). StandsAt xs k n) p.1 s in
          let e : other ≡ n = same_at xs place other n here t in
          let within : place < length met = (let lt : place < length xs = here.0 in let k = h.places in omega arith) in (
            λ b. Contains-append_right others (other ∷ []) n (subst (λ (m : Name). Contains (other ∷ []) m) e (contains_one other)),
            λ c. ap (λ (k : ℕ). get_or (set met place true) k false) p.1 ∙ get_or-set_same met place true false within,
          )
      | inr p ↦
          let apart : get_or (set met place true) i false ≡ get_or met i false = get_or-set_other met place i true false p.1 in (
            λ b. Contains-append_left others (other ∷ []) n ((h.same i n s).0 (sym apart ∙ b)),
            λ c. elim (Contains-append_cases others (other ∷ []) n c) [
              | inl old ↦ apart ∙ (h.same i n s).1 old
              | inr new ↦
                  let P : Name → Type 0 = StandsAt xs i in
                  absurd (p.1 (one_place xs i place other o (subst P (sym (one_is other n new)) s) here))
            ],
          )
    ];
  }

-- the names before a position are all met
abbrev pub MetBefore : List Bool → ℕ → Type 0
MetBefore met place = (i : ℕ) → i < place → get_or met i false ≡ true

-- the first name that isn't met
taken_at : (xs : List Name) (i : ℕ) (n : Name) → Contains (take i xs) n → (j : ℕ) × (j < i) × StandsAt xs j n
taken_at [] zero n c = absurd (nothing_in n c)
taken_at [] (suc i) n c = absurd (nothing_in n c)
taken_at (x ∷ xs) zero n c = absurd (nothing_in n c)
taken_at (x ∷ xs) (suc i) n c = elim (contains_cases x (take i xs) n c) [
  | inl e ↦ (0, omega arith, (omega arith, e))
  | inr d ↦ let p = taken_at xs i n d in (suc p.0, (let lt = p.1 in omega (arith, lt)), ((let lt = p.2.0 in omega (arith, lt)), p.2.1))
]

pub left_first : (xs others : List Name) (met : List Bool) (i : ℕ) (d : Name) (b : Bool) → AreMet xs others met → MetBefore met i → i < length xs →
    get_or met i b ≡ false → StandsFirst xs (λ n. Contains others n → ⊥) (get_or xs i d)
left_first xs others met i d b h before lt fresh =
    let same : get_or met i false ≡ get_or met i b = get_or_default met i false b (let k = h.places in omega (arith, lt, k)) in
    stands_at (λ n. Contains others n → ⊥) xs i d lt
    (λ n c never. let p = taken_at xs i n c in never ((h.same p.0 n p.2).0 (before p.0 p.1)))
    (λ c. false≢true (sym (same ∙ fresh) ∙ (h.same i (get_or xs i d) (lt, get_or_default xs i (get_or xs i d) d lt)).1 c))
