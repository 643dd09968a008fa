-- Filing weak pointers by the names that they wait for, and going over the weak pointers that wait for a name.
use Rattle.nmgc_graph.proofs.Vocabulary.{◌≡◌, ◌≢◌, ◌<◌, ◌≤◌, ◌+◌, ℕ, List, [], ◌∷◌, ◌++◌, length, set, inl, inr, refl, sym, ap, subst, ◌∙◌, arith, ◌⊎◌, length-append, Option, Some, None, Contains, IsSome, IfSome, slice_index, get_or-append, get_or-append_seam, cases_lt, cases_eq, eqb_tells, get_or-set_same, get_or-set_other, get_or_past, length-set, Contains-append_left, Contains-push, fold-append, SHARED_MAKER, Name, Search, Waiting, World, node_of, state_of, IsWorld, HasPlaces, count_of, parts_of, with_weak, with_weaks, key_of, bounds_of, bound_of, HasBound, with_bound, with_next, weak_at, IsBound, AreFiled, IsRevival, same_name, name_cases, get_is_some}
use Rattle.nmgc_graph.proofs.{Follows.places_stay, Weaks.weaks_mark}

-- the serial of a name of the map is below the number of its maker's names
name_counted : (w : World) (name : Name) → IsSome (node_of w name) → name.serial < count_of w name.maker
name_counted w name there = elim (eqb_tells name.maker SHARED_MAKER) [
  | inl p ↦ elim (eqb_tells name.serial 0) [
    | inl z ↦ rw (p.0, z.1) (omega arith)
    | inr z ↦ absurd (let bad = rw (p.0, z.0) at there in cc)
  ]
  | inr p ↦ rw p.0 (get_is_some (state_of w name.maker).nodes name.serial (rw p.0 at there))
]

-- another bound of a name
module _ (bounds : List (List ℕ)) (name : Name) (place : HasBound bounds name) (bound : ℕ) where
  row_there : name.maker < length bounds
  row_there = elim (cases_lt name.maker (length bounds)) [
    | inl lt ↦ lt
    | inr le ↦ let none : bounds_of bounds name.maker ≡ [] = get_or_past bounds name.maker [] le in let bad = rw none at place in absurd (omega arith)
  ]

  row_same : bounds_of (with_bound bounds name bound) name.maker ≡ set (bounds_of bounds name.maker) name.serial bound
  row_same = get_or-set_same bounds name.maker (set (bounds_of bounds name.maker) name.serial bound) [] row_there

  row_other : (maker : ℕ) → maker ≢ name.maker → bounds_of (with_bound bounds name bound) maker ≡ bounds_of bounds maker
  row_other maker ne = get_or-set_other bounds name.maker maker (set (bounds_of bounds name.maker) name.serial bound) [] ne

  bound_set : bound_of (with_bound bounds name bound) name ≡ bound
  bound_set = rw row_same (get_or-set_same (bounds_of bounds name.maker) name.serial bound 0 place)

  bound_kept : (other : Name) → other ≢ name → bound_of (with_bound bounds name bound) other ≡ bound_of bounds other
  bound_kept other ne = elim (cases_eq other.maker name.maker) [
    | inl e ↦ elim (cases_eq other.serial name.serial) [
      | inl f ↦ absurd (ne (same_name other name e f))
      | inr g ↦ rw (e, row_same) (get_or-set_other (bounds_of bounds name.maker) name.serial other.serial bound 0 g)
    ]
    | inr g ↦ rw (row_other other.maker g) refl
  ]

  place_kept : (other : Name) → HasBound bounds other → HasBound (with_bound bounds name bound) other
  place_kept other has = elim (cases_eq other.maker name.maker) [
    | inl e ↦ rw (e, row_same, length-set (bounds_of bounds name.maker) name.serial bound) (rw e at has)
    | inr g ↦ rw (row_other other.maker g) has
  ]

module _ (w : World) (weaks : List Name) where
  -- no weak pointer is filed yet
  pub none_filed : (waiting : Waiting) → waiting.before ≡ [] → ((maker : ℕ) → length (bounds_of waiting.bounds maker) ≡ count_of w maker) →
      ((name : Name) → bound_of waiting.bounds name ≡ 0) → AreFiled w weaks 0 waiting
  none_filed waiting empty counts none = record {
    counted = ap length empty;
    places = λ name there. rw (counts name.maker) (name_counted w name there);
    bounds = λ name. rw (none name) (record { within = omega arith; below = λ k lt e. lt; last = λ k e. absurd (omega arith) });
    before = λ k name lt e. absurd (omega arith);
  }

  -- the next weak pointer waits for another name, or for this one
  bound_past : (name : Name) (count bound : ℕ) → IsBound w weaks name count bound → (key_of w (weak_at weaks count) ≡ Some name → ⊥) →
      IsBound w weaks name (count + 1) bound
  bound_past name count bound b other = record {
    within = omega (arith, b.within);
    below = λ k lt e. elim (cases_lt k count) [
      | inl under ↦ b.below k under e
      | inr le ↦
          let same : k ≡ count = omega arith in
          let P : ℕ → Type 0 = λ n. key_of w (weak_at weaks n) ≡ Some name in
          absurd (other (subst P same e))
    ];
    last = b.last;
  }

  bound_here : (name : Name) (count : ℕ) → key_of w (weak_at weaks count) ≡ Some name → IsBound w weaks name (count + 1) (count + 1)
  bound_here name count waits = record {
    within = omega arith;
    below = λ k lt e. lt;
    last = λ k e.
        let same : count ≡ k = omega arith in
        let P : ℕ → Type 0 = λ n. key_of w (weak_at weaks n) ≡ Some name in
        subst P same waits;
  }

  before_more : (before : List ℕ) (bound count : ℕ) → length before ≡ count →
      ((k : ℕ) (name : Name) → k < count → key_of w (weak_at weaks k) ≡ Some name → IsBound w weaks name k (slice_index before k)) →
      ((name : Name) → key_of w (weak_at weaks count) ≡ Some name → IsBound w weaks name count bound) →
      (k : ℕ) (name : Name) → k < count + 1 → key_of w (weak_at weaks k) ≡ Some name → IsBound w weaks name k (slice_index (before ++ bound ∷ []) k)
  before_more before bound count counted old new k name lt e = elim (cases_lt k count) [
    | inl under ↦
        let within : k < length before = omega arith in
        rw (get_or-append before (bound ∷ []) 0 k within) (old k name under e)
    | inr le ↦
        let same : k ≡ length before = omega arith in
        let here : k ≡ count = omega arith in
        let last : slice_index (before ++ bound ∷ []) k ≡ bound = rw same (get_or-append_seam before bound [] 0) in
        let P : ℕ → Type 0 = λ n. key_of w (weak_at weaks n) ≡ Some name in
        let Q : ℕ → Type 0 = λ n. IsBound w weaks name n bound in
        rw last (subst Q (sym here) (new name (subst P here e)))
  ]

  -- the next weak pointer is filed
  pub filed_next : (count : ℕ) (waiting : Waiting) (key : Option Name) → AreFiled w weaks count waiting → key_of w (weak_at weaks count) ≡ key →
      IfSome key (λ name. IsSome (node_of w name)) → AreFiled w weaks (count + 1) (with_next waiting key)
  filed_next count waiting None f e known = record {
    counted = length-append waiting.before (0 ∷ []) ∙ ap (λ (n : ℕ). n + 1) f.counted;
    places = f.places;
    bounds = λ name. bound_past name count (bound_of waiting.bounds name) (f.bounds name) (λ some. let bad : None ≡ Some name = sym e ∙ some in cc);
    before = before_more waiting.before 0 count f.counted f.before (λ name some. absurd (let bad : None ≡ Some name = sym e ∙ some in cc));
  }
  filed_next count waiting (Some key) f e known =
      let place = f.places key known in
      let more = length waiting.before + 1 in
      let same_key : (name : Name) → key_of w (weak_at weaks count) ≡ Some name → name ≡ key = λ name some.
      let both : Some key ≡ Some name = sym e ∙ some in cc in
      record {
        counted = length-append waiting.before (bound_of waiting.bounds key ∷ []) ∙ ap (λ (n : ℕ). n + 1) f.counted;
        places = λ name there. place_kept waiting.bounds key place more name (f.places name there);
        bounds = λ name. elim (name_cases name key) [
          | inl same ↦ rw (same, bound_set waiting.bounds key place more, f.counted) (bound_here key count e)
          | inr other ↦ rw (bound_kept waiting.bounds key place more name other) (bound_past name count (bound_of waiting.bounds name) (f.bounds name) (λ some.
              other (same_key name some)))
        ];
        before = before_more waiting.before (bound_of waiting.bounds key) count f.counted f.before (λ name some.
            rw (same_key name some) (f.bounds key));
      }

  -- a name of the map has a place
  pub filed_place : (count : ℕ) (waiting : Waiting) (key : Option Name) → AreFiled w weaks count waiting →
      IfSome key (λ name. IsSome (node_of w name)) → IfSome key (HasBound waiting.bounds)
  filed_place count waiting None f known = tt
  filed_place count waiting (Some key) f known = f.places key known

-- going over the weak pointers that wait for a name: all from the bound on were passed
pub record IsPassing (w : World) (weaks : List Name) (name : Name) (old new : Search) (bound : ℕ) : Type 0 where
  pub passed : List Name
  pub is : new ≡ with_weaks w old passed
  pub within : bound ≤ length weaks
  pub all : (k : ℕ) → k < length weaks → key_of w (weak_at weaks k) ≡ Some name → (k < bound) ⊎ Contains passed (weak_at weaks k)
  pub last : (k : ℕ) → bound ≡ k + 1 → key_of w (weak_at weaks k) ≡ Some name

module _ (w : World) (weaks : List Name) (name : Name) (waiting : Waiting) (f : AreFiled w weaks (length weaks) waiting) (old : Search) where
  pub passing_begins : IsPassing w weaks name old old (bound_of waiting.bounds name)
  passing_begins = record {
    passed = [];
    is = refl;
    within = (f.bounds name).within;
    all = λ k lt e. inl ((f.bounds name).below k lt e);
    last = (f.bounds name).last;
  }

  module _ (new : Search) (bound : ℕ) (p : IsPassing w weaks name old new bound) where
    pub passing_places : IsWorld w → HasPlaces w old.marks → HasPlaces w new.marks
    passing_places h places =
        let m = weaks_mark w h p.passed old places in
        rw p.is (places_stay w old (with_weaks w old p.passed) m.0 m.1 places)

    pub passing_falls : (place : ℕ) → bound ≡ place + 1 → slice_index waiting.before place < bound
    passing_falls place e =
        let lt : place < length weaks = omega (arith, p.within) in
        let b = f.before place name lt (p.last place e) in omega (arith, b.within)

    pub passing_goes_on : (place : ℕ) → bound ≡ place + 1 →
        IsPassing w weaks name old (with_weak new (weak_at weaks place) (parts_of w (weak_at weaks place))) (slice_index waiting.before place)
    passing_goes_on place e =
        let here = p.last place e in
        let lt : place < length weaks = omega (arith, p.within) in
        let b = f.before place name lt here in
        let weak = weak_at weaks place in
        record {
          passed = p.passed ++ weak ∷ [];
          is = rw p.is (sym (fold-append (λ (t : Search) (n : Name). with_weak t n (parts_of w n)) old p.passed (weak ∷ [])));
          within = omega (arith, b.within);
          all = λ k within waits. elim (p.all k within waits) [
            | inl below ↦ elim (cases_lt k place) [
              | inl under ↦ inl (b.below k under waits)
              | inr le ↦
                  let same : place ≡ k = omega arith in
                  let P : ℕ → Type 0 = λ n. Contains (p.passed ++ weak ∷ []) (weak_at weaks n) in
                  inr (subst P same (Contains-push p.passed weak))
            ]
            | inr done ↦ inr (Contains-append_left p.passed (weak ∷ []) (weak_at weaks k) done)
          ];
          last = b.last;
        }

    pub passing_ends : bound ≡ 0 → IsRevival w weaks name old new
    passing_ends none = record {
      passed = p.passed;
      is = p.is;
      all = λ k lt e. elim (p.all k lt e) [ inl below ↦ absurd (omega arith) | inr done ↦ done ];
    }
