-- A push of any name keeps the facts: the name counts as opened, and it is safe.
use Rattle.std.specs.Prelude.{◌≡◌, ◌<◌, ◌∷◌, ◌++◌}
use Rattle.nmgc_barrier_laws.specs.laws.Vocabulary.{ℕ, List, [], length, get_or, set, refl, sym, subst, ◌∙◌, length-set, Option, Some, None, inl, inr, IsSome, IfSome, All, Contains, All-append, All-cons, All-nil, Contains-append_left, Contains-append_right, Contains-append_cases, cases_eq, Name, Value, Node, state_of, node_of, further, field, State, names_of, live_more, each_names, names_same, names_other, all_from_contains, Names, Fields, CoversReach, contains_one, one_is, AsThen, MayHold, IsSafe, IsAhead, Kept, Base, Facts, owed, pushed, queued, marked}
use Rattle.nmgc_snapshot_laws.specs.Facts.{unmarked}
use Rattle.nmgc_world_spec.specs.declared.value.Value.TheVariants as value

module _ (s : State) (f : Facts s) (m : ℕ) (place : m < length s.pushed) (name : Name) where
  abbrev pub floated : State
  floated = record s { opened = s.opened ++ name ∷ []; pushed = set s.pushed m (names_of s.pushed m ++ name ∷ []) }

  more : (n : Name) → MayHold s n → MayHold floated n
  more n h there = live_more s.snapshot s.opened (name ∷ []) n (h there)

  more_value : (v : Value) → Names (MayHold s) v → Names (MayHold floated) v
  more_value value.Nil h = tt
  more_value (value.Number n) h = tt
  more_value (value.Ref n) h = more n h

  more_values : (values : List Value) → All (Names (MayHold s)) values → All (Names (MayHold floated)) values
  more_values values h k d at = more_value (get_or values k d) (h k d at)

  more_names : (names : List Name) → All (MayHold s) names → All (MayHold floated) names
  more_names names h k d at = more (get_or names k d) (h k d at)

  own_may : MayHold floated name
  own_may there = further name (Contains-append_right s.opened (name ∷ []) name (contains_one name)) there

  more_holds : CoversReach (MayHold floated) s.world
  more_holds = record {
    registers = λ k. more_values (state_of s.world k).registers (f.base.holds.registers k);
    queues = λ k. more_values (state_of s.world k).queue (f.base.holds.queues k);
    fields = λ n may. by_node n may (node_of s.world n) refl;
  }
    where
      by_node : (n : Name) → MayHold floated n → (o : Option Node) → node_of s.world n ≡ o → IfSome o (Fields (Names (MayHold floated)))
      by_node n may None e = tt
      by_node n may (Some node) e = all_from_contains (MayHold floated) _ (λ target k. elim (f.base.fields n target (node, e, k)) [
        | inl p ↦ more target p
        | inr r ↦ λ there. field n target (may (subst (λ (o : Option Node). IsSome o) (sym r.1) refl)) r
      ])

  floated_base : Base floated
  floated_base = record {
    snapshot = f.base.snapshot;
    mutators = f.base.mutators;
    serials = f.base.serials;
    owed_lists = f.base.owed_lists;
    pushed_lists = length-set s.pushed m _ ∙ f.base.pushed_lists;
    holds = more_holds;
    fields = λ n target r. elim (f.base.fields n target r) [ inl p ↦ inl (more target p) | inr q ↦ inr q ];
    weaks = λ weak parts a. let h : AsThen s.snapshot (MayHold s) weak parts = f.base.weaks weak parts a in record {
      old = h.old;
      new = λ gone. let p = h.new gone in (more_value parts.key p.0, more_value parts.value p.1, more_value parts.finaliser p.2);
    };
    alive = f.base.alive;
    owed = λ k. more_names (names_of s.owed k) (f.base.owed k);
    pushed = each_names (All (MayHold floated)) s.pushed m (names_of s.pushed m ++ name ∷
        []) place (All-append (MayHold floated) (names_of s.pushed m) (name ∷
        []) (more_names (names_of s.pushed m) (f.base.pushed m)) (All-cons (MayHold floated) name [] own_may (All-nil (MayHold floated)))) (λ k.
        more_names (names_of s.pushed k) (f.base.pushed k));
    later = f.base.later;
    live = λ n c. live_more s.snapshot s.opened (name ∷ []) n (f.base.live n c);
    queued = f.base.queued;
    passed = f.base.passed;
  }

  more_pushed : (k : ℕ) (n : Name) → Contains (names_of s.pushed k) n → Contains (names_of (set s.pushed m (names_of s.pushed m ++ name ∷ [])) k) n
  more_pushed k n h = elim (cases_eq k m) [
    | inl e ↦ rw (e, names_same s.pushed m (names_of s.pushed m ++ name ∷ []) place) (Contains-append_left (names_of s.pushed m) (name ∷ []) n (rw e at h))
    | inr ne ↦ rw (names_other s.pushed m k (names_of s.pushed m ++ name ∷ []) ne) h
  ]

  safe_on : (n : Name) → IsSafe s n → IsSafe floated n
  safe_on n (marked h) = marked h
  safe_on n (owed k h) = owed k h
  safe_on n (pushed k h) = pushed k (more_pushed k n h)

  own_safe : IsSafe floated name
  own_safe = pushed m (rw (names_same s.pushed m (names_of s.pushed m ++ name ∷ []) place) (Contains-append_right (names_of s.pushed m) (name ∷
      []) name (contains_one name)))

  ahead_on : (n : Name) (i : ℕ) → IsAhead s n i → IsAhead floated n i
  ahead_on n i (unmarked h) = unmarked h
  ahead_on n i (queued entry c e le) = queued entry c e le

  kept_on : (n : Name) (i : ℕ) (target : Name) → Kept s n i target → Kept floated n i target
  kept_on n i target (inl safe) = inl (safe_on target safe)
  kept_on n i target (inr k) = inr (k.0, ahead_on n i k.1)

  pub floated_facts : Facts floated
  floated_facts = record {
    base = floated_base;
    roots = f.roots;
    kept = λ n i target st. kept_on n i target (f.kept n i target st);
    opened = λ n c there. elim (Contains-append_cases s.opened (name ∷ []) n c) [
      | inl old ↦ safe_on n (f.opened n old there)
      | inr new ↦ subst (IsSafe floated) (one_is name n new) own_safe
    ];
    ended = λ weak c there. safe_on weak (f.ended weak c there);
    finalised = λ weak target parts c alive kept. safe_on target (f.finalised weak target parts c alive kept);
  }
