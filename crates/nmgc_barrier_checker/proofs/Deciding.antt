-- Facts of the names of a world that can be decided, and the lists of names with such a fact.
use Rattle.std.proofs.{Common.◌≡◌, Common.◌<◌, Common.◌≤◌, Common.◌+◌, Common.ℕ, Common.List, Common.[], Common.◌∷◌, Common.◌++◌, Common.zero, Common.suc, Common.length, Common.refl, Common.sym, Common.ap, Common.subst, Common.◌∙◌, Common.arith, Common.Bool, Common.true, Common.false, Common.not, Common.cond, Common.inl, Common.inr, Common.◌⊎◌, lemmas.Bool.cases_Bool, lemmas.Bool.cases_lt, lemmas.Bool.false≢true, lemmas.Bool.or_cases, lemmas.Bool.Decides.eqb_tells, lemmas.List.get_or_past}
use Rattle.std.specs.Prelude.{Contains, IsSome, is_some, filter, ◌||◌}
use Rattle.nmgc_limits.specs.declared.mutators.TheConstants.{SHARED_MAKER}
use Rattle.nmgc_world_spec.specs.{declared.value.Name.Name, declared.mutator_state.MutatorState.MutatorState, World.is_same_name, World.World, World.node_of, World.state_of, World.serial_of, World.no_mutator, Order.ListsBefore, Reach.Lists, laws.Orders.contains_filter, laws.Orders.filter_contains, laws.Orders.in_order_filter, laws.Orders.lists_none, laws.Orders.lists_more, laws.Orders.lists_same, laws.Orders.lists_maker, laws.Orders.lists_all}
use Rattle.nmgc_lists.specs.{laws.Items.contains_head, laws.Items.contains_tail, laws.Items.contains_cases, laws.Items.get_is_some, laws.Items.nothing_in, laws.Truths.or_first, laws.Truths.or_second}
use Rattle.nmgc_snapshot_laws.specs.{State.is_listed, laws.Listed.tested_same, laws.Listed.is_same_name-refl, laws.Listed.contains_listed, laws.Listed.not_listed}

-- some name of the list passes the test
abbrev pub some_of : (Name → Bool) → List Name → Bool
some_of test [] = false
some_of test (x ∷ xs) = test x || some_of test xs

module _ (test : Name → Bool) where
  pub some_in : (xs : List Name) → some_of test xs ≡ true → (x : Name) × Contains xs x × (test x ≡ true)
  some_in [] h = absurd (false≢true h)
  some_in (x ∷ xs) h = elim (or_cases (test x) (some_of test xs) h) [
    | inl e ↦ (x, contains_head x xs, e)
    | inr r ↦ let p : (y : Name) × Contains xs y × (test y ≡ true) = some_in xs r in (p.0, contains_tail x xs p.0 p.1, p.2)
  ]

  pub in_some : (xs : List Name) (x : Name) → Contains xs x → test x ≡ true → some_of test xs ≡ true
  in_some [] x c e = absurd (nothing_in x c)
  in_some (y ∷ xs) x c e = elim (contains_cases y xs x c) [
    | inl same ↦ or_first (test y) (some_of test xs) (subst (λ (n : Name). test n ≡ true) (sym same) e)
    | inr d ↦ or_second (test y) (some_of test xs) (in_some xs x d e)
  ]

-- a test of names that decides a fact
pub record Decided (P : Name → Type 0) : Type 0 where
  pub test : Name → Bool
  pub yes : (n : Name) → test n ≡ true → P n
  pub no : (n : Name) → P n → test n ≡ true

-- an item of the list passes the test, or no item does
pub search : {A : Type 0} (test : A → Bool) (xs : List A) → ((x : A) × Contains xs x × (test x ≡ true)) ⊎ ((x : A) → Contains xs x → test x ≡ false)
search test [] = inr (λ x c. absurd (nothing_in x c))
search test (y ∷ xs) = elim (cases_Bool (test y)) [
  | inl t ↦ inl (y, contains_head y xs, t)
  | inr f ↦ elim (search test xs) [
    | inl p ↦ inl (p.0, contains_tail y xs p.0 p.1, p.2)
    | inr none ↦ inr (λ x c. elim (contains_cases y xs x c) [
      | inl same ↦ subst (λ (n : _). test n ≡ false) same f
      | inr d ↦ none x d
    ])
  ]
]

-- all names of a world, in order
module _ (w : World) where
  abbrev There : Name → Type 0
  There n = IsSome (node_of w n)

  few : (maker : ℕ) (n : Name) → There n → n.maker ≡ maker → n.serial < serial_of w maker + 1
  few maker n there e = elim (eqb_tells n.maker SHARED_MAKER) [
    | inl p ↦ elim (eqb_tells n.serial 0) [
      | inl z ↦ let zero_is : n.serial ≡ 0 = z.1 in omega arith
      | inr z ↦ absurd (let bad = rw (p.0, z.0) at there in cc)
    ]
    | inr p ↦
        let lt : n.serial < length (state_of w n.maker).nodes = get_is_some (state_of w n.maker).nodes n.serial (rw p.0 at there) in
        let lt' : n.serial < serial_of w maker = subst (λ (k : ℕ). n.serial < serial_of w k) e lt in
        omega arith
  ]

  maker_within : (n : Name) → There n → n.maker < SHARED_MAKER + length w.mutators + 1
  maker_within n there = elim (eqb_tells n.maker SHARED_MAKER) [
    | inl p ↦ let is : n.maker ≡ SHARED_MAKER = p.1 in omega arith
    | inr p ↦ elim (cases_lt n.maker (length w.mutators)) [
      | inl lt ↦ omega arith
      | inr le ↦
          let none : state_of w n.maker ≡ no_mutator = get_or_past w.mutators n.maker no_mutator le in
          let lt : n.serial < length (state_of w n.maker).nodes = get_is_some (state_of w n.maker).nodes n.serial (rw p.0 at there) in
          let bad : n.serial < 0 = subst (λ (s : MutatorState). n.serial < length s.nodes) none lt in
          absurd (omega arith)
    ]
  ]

  module _ (maker n : ℕ) (names : List Name) (l : ListsBefore There maker n names) where
    abbrev place : Name
    place = record { maker = maker; serial = n }

    more_if : (b : Bool) → is_some (node_of w place) ≡ b → (names' : List Name) × ListsBefore There maker (n + 1) names'
    more_if true e = (names ++ place ∷ [], lists_more There maker n names e l)
    more_if false e = (
      names,
      lists_same There maker n names (λ there. let t : is_some (node_of w place) ≡ true = there in let bad : true ≡ false = sym t ∙ e in cc) l,
    )

    one_more : (names' : List Name) × ListsBefore There maker (n + 1) names'
    one_more = more_if (is_some (node_of w place)) refl

  up_to : (maker n : ℕ) (names : List Name) → ListsBefore There maker 0 names → (names' : List Name) × ListsBefore There maker n names'
  up_to maker zero names l = (names, l)
  up_to maker (suc n) names l =
      let p : (names' : List Name) × ListsBefore There maker n names' = up_to maker n names l in
      let q : (names' : List Name) × ListsBefore There maker (n + 1) names' = one_more maker n p.0 p.1 in
      let on : n + 1 ≡ suc n = omega arith in
      (q.0, subst (λ (k : ℕ). ListsBefore There maker k q.0) on q.1)

  makers : (k : ℕ) → (names : List Name) × ListsBefore There k 0 names
  makers zero = ([], lists_none There)
  makers (suc k) =
      let p : (names : List Name) × ListsBefore There k 0 names = makers k in
      let q : (names : List Name) × ListsBefore There k (serial_of w k + 1) names = up_to k (serial_of w k + 1) p.0 p.1 in
      let on : k + 1 ≡ suc k = omega arith in
      (q.0, subst (λ (j : ℕ). ListsBefore There j 0 q.0) on (lists_maker There k (serial_of w k + 1) q.0 (few k) q.1))

  pub all_names : (names : List Name) × Lists There names
  all_names =
      let p : (names : List Name) × ListsBefore There (SHARED_MAKER + length w.mutators + 1) 0 names = makers (SHARED_MAKER + length w.mutators + 1) in
      (p.0, lists_all There (SHARED_MAKER + length w.mutators + 1) p.0 maker_within p.1)

  -- the names with a fact that is decided, in order
  pub listed : (P : Name → Type 0) → Decided P → ((n : Name) → P n → There n) → (names : List Name) × Lists P names
  listed P d within = (
    filter d.test all_names.0,
    record {
      ordered = in_order_filter d.test all_names.0 all_names.1.ordered;
      sound = λ n c. d.yes n (filter_contains d.test all_names.0 n c).1;
      complete = λ n p. contains_filter d.test all_names.0 n (all_names.1.complete n (within n p)) (d.no n p);
    },
  )

-- a list of names without one name
abbrev pub without : Name → List Name → List Name
without n xs = filter (λ x. not (is_same_name x n)) xs

fewer_step : (x n : Name) (xs : List Name) (b : Bool) → length (without n xs) ≤ length xs →
    length (cond (not b) (x ∷ without n xs) (without n xs)) ≤ suc (length xs)
fewer_step x n xs true le = omega arith
fewer_step x n xs false le = omega arith

fewer : (n : Name) (xs : List Name) → length (without n xs) ≤ length xs
fewer n [] = omega arith
fewer n (x ∷ xs) = fewer_step x n xs (is_same_name x n) (fewer n xs)

gone_step : (x n : Name) (xs : List Name) (b : Bool) → b ≡ true → length (without n xs) ≤ length xs →
    length (cond (not b) (x ∷ without n xs) (without n xs)) < suc (length xs)
gone_step x n xs true e le = omega arith
gone_step x n xs false e le = absurd (false≢true e)

less_step : (x n : Name) (xs : List Name) (b : Bool) → length (without n xs) < length xs →
    length (cond (not b) (x ∷ without n xs) (without n xs)) < suc (length xs)
less_step x n xs true lt = omega arith
less_step x n xs false lt = omega arith

less : (n : Name) (xs : List Name) → Contains xs n → length (without n xs) < length xs
less n [] c = absurd (nothing_in n c)
less n (x ∷ xs) c = elim (contains_cases x xs n c) [
  | inl same ↦ gone_step x n xs (is_same_name x n) (subst (λ (m : Name). is_same_name x m ≡ true) same (is_same_name-refl x)) (fewer n xs)
  | inr d ↦ less_step x n xs (is_same_name x n) (less n xs d)
]

-- the names that a rule adds to names with a fact until it adds none; the remaining names are free
pub record Settled (all : List Name) (rule : List Name → Name → Bool) (P : Name → Type 0) : Type 0 where
  pub free : List Name
  pub outside : (n : Name) → Contains all n → is_listed n free ≡ false → P n
  pub inside : (n : Name) → Contains free n → rule free n ≡ false

module _ (all : List Name) (rule : List Name → Name → Bool) (P : Name → Type 0)
    (sound : (free : List Name) → ((n : Name) → Contains all n → is_listed n free ≡ false → P n) → (n : Name) → Contains all n → rule free n ≡ true → P n) where
  -- a free name that has the fact is freed
  freed : (free : List Name) → ((n : Name) → Contains free n → Contains all n) → ((n : Name) → Contains all n → is_listed n free ≡ false → P n) →
      (m : Name) → Contains free m → rule free m ≡ true → (n : Name) → Contains all n → is_listed n (without m free) ≡ false → P n
  freed free within out m c e n there h = elim (cases_Bool (is_listed n free)) [
    | inl known ↦ elim (cases_Bool (is_same_name n m)) [
      | inl same ↦ subst P (sym (tested_same n m same)) (sound free out m (within m c) e)
      | inr other ↦ absurd (not_listed n (without m free) h (contains_filter (λ x.
          not (is_same_name x m)) free n (contains_listed n free known) (ap not other)))
    ]
    | inr absent ↦ out n there absent
  ]

  settle : (k : ℕ) (free : List Name) → length free ≤ k → ((n : Name) → Contains free n → Contains all n) →
      ((n : Name) → Contains all n → is_listed n free ≡ false → P n) → Settled all rule P
  settle zero free le within out = elim (search (rule free) free) [
    | inl f ↦ absurd (let lt : length (without f.0 free) < length free = less f.0 free f.1 in omega arith)
    | inr none ↦ record { free = free; outside = out; inside = none }
  ]
  settle (suc k) free le within out = elim (search (rule free) free) [
    | inl f ↦ settle k (without f.0 free) (let lt : length (without f.0 free) < length free = less f.0 free f.1 in omega arith)
        (λ n c. within n (filter_contains (λ x. not (is_same_name x f.0)) free n c).0) (freed free within out f.0 f.1 f.2)
    | inr none ↦ record { free = free; outside = out; inside = none }
  ]

  pub settled : Settled all rule P
  settled = settle (length all) all (omega arith) (λ n c. c) (λ n c e. absurd (not_listed n all e c))
