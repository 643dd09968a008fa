-- A push and a take keep the facts: a name on its way from the mutator to the collector is safe all along.
use Rattle.std.specs.Prelude.{◌≡◌, ◌<◌, ◌∷◌, ◌++◌, ◌⊎◌, ◌&&◌}
use Rattle.nmgc_snapshot_laws.specs.laws.Vocabulary.{ℕ, List, [], length, set, refl, sym, subst, ◌∙◌, arith, length-set, Bool, true, false, not, cond, inl, inr, IsSome, All, Contains, is_some, All-head, All-tail, All-cons, All-nil, All-append, Contains-append_left, Contains-append_right, cond_both, cases_eq, and_cases, not-false, Name, node_of, is_same_name, shared_name, State, names_of, mark_name, with_mark, is_new, pushed_of, after_push, after_take, contains_one, contains_cases, MayHold, IsSafe, IsAhead, Kept, Base, Facts, owed, pushed, queued, marked, unmarked}
use Rattle.nmgc_snapshot_laws.specs.laws.{Marking.safe_then, Listed.tested_same, Listed.names_same, Listed.names_other, Listed.each_names, Listed.has_place, Lives.target_there, Lives.part_there, Lives.refers, Marking.mark_facts, Marking.marked_then}

-- a name of the snapshot is pushed, or it is g, which is marked
pub push_cases : (s : State) (name : Name) → IsSome (node_of s.snapshot name) → Contains (pushed_of s name) name ⊎ (name ≡ shared_name)
push_cases s name there = by_test (is_some (node_of s.snapshot name) && not (is_same_name name shared_name)) refl
  where
    by_test : (b : Bool) → (is_some (node_of s.snapshot name) && not (is_same_name name shared_name)) ≡ b → Contains (cond b (name ∷ []) []) name ⊎
        (name ≡ shared_name)
    by_test true e = inl (contains_one name)
    by_test false e = elim (and_cases (is_some (node_of s.snapshot name)) (not (is_same_name name shared_name)) e) [
      | inl a ↦ absurd (let k : is_some (node_of s.snapshot name) ≡ true = there in cc)
      | inr b ↦ inr (tested_same name shared_name (not-false (is_same_name name shared_name) b))
    ]

module _ (s : State) (f : Facts s) (m : ℕ) (name : Name) (rest : List Name) (first : names_of s.owed m ≡ name ∷ rest) where
  owed_place : m < length s.owed
  owed_place = has_place s.owed m name rest first

  pushed_place : m < length s.pushed
  pushed_place = let a : length s.owed ≡ length s.world.mutators = f.base.owed_lists in
      let b : length s.pushed ≡ length s.world.mutators = f.base.pushed_lists in let c = owed_place in omega arith

  may : All (MayHold s) (name ∷ rest)
  may = subst (All (MayHold s)) first (f.base.owed m)

  pub push_base : Base (after_push s m (name ∷ rest))
  push_base = record {
    snapshot = f.base.snapshot;
    mutators = f.base.mutators;
    serials = f.base.serials;
    owed_lists = length-set s.owed m rest ∙ f.base.owed_lists;
    pushed_lists = length-set s.pushed m _ ∙ f.base.pushed_lists;
    holds = f.base.holds;
    fields = f.base.fields;
    weaks = f.base.weaks;
    alive = f.base.alive;
    owed = each_names (All (MayHold s)) s.owed m rest owed_place (All-tail (MayHold s) name rest may) f.base.owed;
    pushed = each_names (All (MayHold s)) s.pushed m (names_of s.pushed m ++ pushed_of s name) pushed_place
        (All-append (MayHold s) (names_of s.pushed m) (pushed_of s name) (f.base.pushed m)
        (cond_both (is_some (node_of s.snapshot name) && not (is_same_name name shared_name)) (name ∷ []) [] (All (MayHold s)) (λ e.
        All-cons (MayHold s) name [] (All-head (MayHold s) name rest may) (All-nil (MayHold s))) (λ e. All-nil (MayHold s))))
        f.base.pushed;
    later = f.base.later;
    live = f.base.live;
    queued = f.base.queued;
    passed = f.base.passed;
  }

  -- a pushed name stays pushed
  more_pushed : (k : ℕ) (target : Name) → Contains (names_of s.pushed k) target → Contains (names_of (after_push s m (name ∷ rest)).pushed k) target
  more_pushed k target h = elim (cases_eq k m) [
    | inl e ↦ rw (
      e,
      names_same s.pushed m (names_of s.pushed m ++
          pushed_of s name) pushed_place,
    ) (Contains-append_left (names_of s.pushed m) (pushed_of s name) target (rw e at h))
    | inr ne ↦ rw (names_other s.pushed m k (names_of s.pushed m ++ pushed_of s name) ne) h
  ]

  first_safe : IsSome (node_of s.snapshot name) → IsSafe (after_push s m (name ∷ rest)) name
  first_safe there = elim (push_cases s name there) [
    | inl c ↦ pushed m (rw (names_same s.pushed m (names_of s.pushed m ++
        pushed_of s name) pushed_place) (Contains-append_right (names_of s.pushed m) (pushed_of s name) name c))
    | inr g ↦ marked (f.roots name (inl g))
  ]

  pub push_safe : (target : Name) → IsSome (node_of s.snapshot target) → IsSafe s target → IsSafe (after_push s m (name ∷ rest)) target
  push_safe target there (marked h) = marked h
  push_safe target there (pushed k h) = pushed k (more_pushed k target h)
  push_safe target there (owed k h) = elim (cases_eq k m) [
    | inr ne ↦ owed k (rw (names_other s.owed m k rest ne) h)
    | inl e ↦ elim (contains_cases name rest target (rw (e, first) at h)) [
      | inl same ↦ subst (IsSafe (after_push s m (name ∷ rest))) same (first_safe (subst (λ (n : Name). IsSome (node_of s.snapshot n)) (sym same) there))
      | inr c ↦ owed m (rw (names_same s.owed m rest owed_place) c)
    ]
  ]

  push_ahead : (n : Name) (i : ℕ) → IsAhead s n i → IsAhead (after_push s m (name ∷ rest)) n i
  push_ahead n i (unmarked h) = unmarked h
  push_ahead n i (queued entry h e le) = queued entry h e le

  push_kept : (n : Name) (i : ℕ) (target : Name) → IsSome (node_of s.snapshot target) → Kept s n i target → Kept (after_push s m (name ∷ rest)) n i target
  push_kept n i target there (inl safe) = inl (push_safe target there safe)
  push_kept n i target there (inr h) = inr (h.0, push_ahead n i h.1)

  push_first : Facts (after_push s m (name ∷ rest))
  push_first = record {
    base = push_base;
    roots = f.roots;
    kept = λ n i target h. push_kept n i target (target_there s.snapshot f.base.snapshot n target (refers s.snapshot n target i h)) (f.kept n i target h);
    opened = λ n c there. push_safe n there (f.opened n c there);
    ended = λ weak c there. push_safe weak there (f.ended weak c there);
    finalised = λ weak target parts c alive kept.
        push_safe target (part_there s.snapshot f.base.snapshot weak target parts alive kept) (f.finalised weak target parts c alive kept);
  }

pub push_facts : (s : State) → Facts s → (m : ℕ) (names : List Name) → names_of s.owed m ≡ names → Facts (after_push s m names)
push_facts s f m [] first = f
push_facts s f m (name ∷ rest) first = push_first s f m name rest first

-- a name that is marked, or not of the snapshot, leaves the pushed names
abbrev pub dropped : State → ℕ → List Name → State
dropped s m rest = record s { pushed = set s.pushed m rest }

module _ (s : State) (f : Facts s) (m : ℕ) (name : Name) (rest : List Name) (first : names_of s.pushed m ≡ name ∷
    rest) (done : IsSome (node_of s.snapshot name) → Contains s.marked name) where
  place : m < length s.pushed
  place = has_place s.pushed m name rest first

  pub drop_base : Base (dropped s m rest)
  drop_base = record {
    snapshot = f.base.snapshot;
    mutators = f.base.mutators;
    serials = f.base.serials;
    owed_lists = f.base.owed_lists;
    pushed_lists = length-set s.pushed m rest ∙ f.base.pushed_lists;
    holds = f.base.holds;
    fields = f.base.fields;
    weaks = f.base.weaks;
    alive = f.base.alive;
    owed = f.base.owed;
    pushed = each_names (All (MayHold s)) s.pushed m rest place (All-tail (MayHold s) name rest (subst (All (MayHold s)) first (f.base.pushed m)))
        f.base.pushed;
    later = f.base.later;
    live = f.base.live;
    queued = f.base.queued;
    passed = f.base.passed;
  }

  pub drop_safe : (target : Name) → IsSome (node_of s.snapshot target) → IsSafe s target → IsSafe (dropped s m rest) target
  drop_safe target there (marked h) = marked h
  drop_safe target there (owed k h) = owed k h
  drop_safe target there (pushed k h) = elim (cases_eq k m) [
    | inr ne ↦ pushed k (rw (names_other s.pushed m k rest ne) h)
    | inl e ↦ elim (contains_cases name rest target (rw (e, first) at h)) [
      | inl same ↦ marked (subst (λ (n : Name). Contains s.marked n) same (done (subst (λ (n : Name). IsSome (node_of s.snapshot n)) (sym same) there)))
      | inr c ↦ pushed m (rw (names_same s.pushed m rest place) c)
    ]
  ]

  drop_ahead : (n : Name) (i : ℕ) → IsAhead s n i → IsAhead (dropped s m rest) n i
  drop_ahead n i (unmarked h) = unmarked h
  drop_ahead n i (queued entry h e le) = queued entry h e le

  drop_kept : (n : Name) (i : ℕ) (target : Name) → IsSome (node_of s.snapshot target) → Kept s n i target → Kept (dropped s m rest) n i target
  drop_kept n i target there (inl safe) = inl (drop_safe target there safe)
  drop_kept n i target there (inr h) = inr (h.0, drop_ahead n i h.1)

  drop_facts : Facts (dropped s m rest)
  drop_facts = record {
    base = drop_base;
    roots = f.roots;
    kept = λ n i target h. drop_kept n i target (target_there s.snapshot f.base.snapshot n target (refers s.snapshot n target i h)) (f.kept n i target h);
    opened = λ n c there. drop_safe n there (f.opened n c there);
    ended = λ weak c there. drop_safe weak there (f.ended weak c there);
    finalised = λ weak target parts c alive kept.
        drop_safe target (part_there s.snapshot f.base.snapshot weak target parts alive kept) (f.finalised weak target parts c alive kept);
  }

take_first : (s : State) → Facts s → (m : ℕ) (name : Name) (rest : List Name) → names_of s.pushed m ≡ name ∷ rest → Facts (mark_name (dropped s m rest) name)
take_first s f m name rest first =
    let may : MayHold s name = All-head (MayHold s) name rest (subst (All (MayHold s)) first (f.base.pushed m)) in
    by_test (is_new s name) refl (mark_facts s name f may) (marked_then s name)
  where
    by_test : (b : Bool) → is_new s name ≡ b → Facts (cond b (with_mark s name) s) →
        (IsSome (node_of s.snapshot name) → Contains (cond b (with_mark s name) s).marked name) →
        Facts (cond b (with_mark (dropped s m rest) name) (dropped s m rest))
    by_test true e g done = drop_facts (with_mark s name) g m name rest first done
    by_test false e g done = drop_facts s g m name rest first done

-- a take leaves each name safe
pub take_safe : (s : State) → Facts s → (m : ℕ) (name : Name) (rest : List Name) → names_of s.pushed m ≡ name ∷ rest → (target : Name) →
    IsSome (node_of s.snapshot target) → IsSafe s target → IsSafe (mark_name (dropped s m rest) name) target
take_safe s f m name rest first target there safe =
    let may : MayHold s name = All-head (MayHold s) name rest (subst (All (MayHold s)) first (f.base.pushed m)) in
    by_test (is_new s name) refl (mark_facts s name f may) (marked_then s name)
  where
    by_test : (b : Bool) → is_new s name ≡ b → Facts (cond b (with_mark s name) s) →
        (IsSome (node_of s.snapshot name) → Contains (cond b (with_mark s name) s).marked name) →
        IsSafe (cond b (with_mark (dropped s m rest) name) (dropped s m rest)) target
    by_test true e g done = drop_safe (with_mark s name) g m name rest first done target there (safe_then s name target safe)
    by_test false e g done = drop_safe s g m name rest first done target there safe

pub take_facts : (s : State) → Facts s → (m : ℕ) (names : List Name) → names_of s.pushed m ≡ names → Facts (after_take s m names)
take_facts s f m [] first = f
take_facts s f m (name ∷ rest) first = take_first s f m name rest first
