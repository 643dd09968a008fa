-- A name of the snapshot that is opened and marked at once keeps the facts. So the machine goes on from the finalisers of the
-- dying as if they had been opened.
use Rattle.nmgc_weak.proofs.Vocabulary.{◌≡◌, ℕ, List, [], ◌∷◌, ◌++◌, refl, sym, subst, get_or, Option, Some, None, inl, inr, Contains, IsSome, IfSome, All, Contains-push, Contains-push_cases, Name, Value, Node, World, node_of, state_of, IsAlive, IsRoot, field, further, Names, Fields, CoversReach, HasStrongField, MayHold, AsThen, IsSafe, Kept, Base, Facts, owed, pushed, marked, State, mark_name, all_from_contains, live_more, mark_base, mark_cases, still_marked, kept_then}
use Rattle.nmgc_snapshot_laws.specs.{Facts.queued, Facts.unmarked, State.names_of, laws.Marking.marked_then}
use Rattle.nmgc_world_spec.specs.declared.value.Value.TheVariants as value

module _ (s : State) (f : Facts s) (added : Name) (there : IsSome (node_of s.snapshot added)) where
  -- the name is opened
  abbrev pub wider : State
  wider = record s { opened = s.opened ++ added ∷ [] }

  more : (name : Name) → MayHold s name → MayHold wider name
  more name h t = live_more s.snapshot s.opened (added ∷ []) name (h t)

  more_value : (v : Value) → Names (MayHold s) v → Names (MayHold wider) v
  more_value value.Nil h = tt
  more_value (value.Number n) h = tt
  more_value (value.Ref name) h = more name h

  more_values : (values : List Value) → All (Names (MayHold s)) values → All (Names (MayHold wider)) values
  more_values values h k d at = more_value (get_or values k d) (h k d at)

  more_names : (names : List Name) → All (MayHold s) names → All (MayHold wider) names
  more_names names h k d at = more (get_or names k d) (h k d at)

  more_holds : CoversReach (MayHold wider) s.world
  more_holds = record {
    registers = λ k. more_values (state_of s.world k).registers (f.base.holds.registers k);
    queues = λ k. more_values (state_of s.world k).queue (f.base.holds.queues k);
    fields = λ name may. by_node name may (node_of s.world name) refl;
  }
    where
      by_node : (name : Name) → MayHold wider name → (o : Option Node) → node_of s.world name ≡ o → IfSome o (Fields (Names (MayHold wider)))
      by_node name may None e = tt
      by_node name may (Some node) e = all_from_contains (MayHold wider) _ (λ target k. elim (f.base.fields name target (node, e, k)) [
        | inl p ↦ more target p
        | inr r ↦ λ t. field name target (may (subst (λ (o : Option Node). IsSome o) (sym r.1) refl)) r
      ])

  wider_base : Base wider
  wider_base = record {
    snapshot = f.base.snapshot;
    mutators = f.base.mutators;
    serials = f.base.serials;
    owed_lists = f.base.owed_lists;
    pushed_lists = f.base.pushed_lists;
    holds = more_holds;
    fields = λ name target r. elim (f.base.fields name target r) [ inl p ↦ inl (more target p) | inr q ↦ inr q ];
    weaks = λ weak parts a.
        let h : AsThen s.snapshot (MayHold s) weak parts = f.base.weaks weak parts a in
        record { old = h.old; new = λ gone. let p = h.new gone in (more_value parts.key p.0, more_value parts.value p.1, more_value parts.finaliser p.2) };
    alive = f.base.alive;
    owed = λ k. more_names (names_of s.owed k) (f.base.owed k);
    pushed = λ k. more_names (names_of s.pushed k) (f.base.pushed k);
    later = f.base.later;
    live = λ name k. live_more s.snapshot s.opened (added ∷ []) name (f.base.live name k);
    queued = f.base.queued;
    passed = f.base.passed;
  }

  -- safe names stay safe once the name is marked
  safe_wider : (name : Name) → IsSafe s name → IsSafe wider name
  safe_wider name (marked h) = marked h
  safe_wider name (owed m h) = owed m h
  safe_wider name (pushed m h) = pushed m h

  kept_wider : (name : Name) (i : ℕ) (target : Name) → Kept s name i target → Kept wider name i target
  kept_wider name i target (inl safe) = inl (safe_wider target safe)
  kept_wider name i target (inr (stands, unmarked h)) = inr (stands, unmarked h)
  kept_wider name i target (inr (stands, queued entry h e le)) = inr (stands, queued entry h e le)

  safe_then : (name : Name) → IsSafe s name → IsSafe (mark_name wider added) name
  safe_then name (marked h) = marked (still_marked wider added name h)
  safe_then name (owed m h) = mark_cases (λ t. IsSafe t name) wider added (λ e. owed m h) (λ e. owed m h)
  safe_then name (pushed m h) = mark_cases (λ t. IsSafe t name) wider added (λ e. pushed m h) (λ e. pushed m h)

  is_marked : IsSafe (mark_name wider added) added
  is_marked = marked (marked_then wider added there)

  of_snapshot : (P : World → Type 0) → P (mark_name wider added).snapshot → P s.snapshot
  of_snapshot P = mark_cases (λ t. P t.snapshot → P s.snapshot) wider added (λ e p. p) (λ e p. p)

  -- opened and marked
  pub opened_facts : Facts (mark_name wider added)
  opened_facts = record {
    base = mark_base wider added wider_base (λ t. further added (Contains-push s.opened added) t);
    roots = λ name r. still_marked wider added name (f.roots name (of_snapshot (λ w. IsRoot w name) r));
    kept = λ name i target h. kept_then wider added name i target (kept_wider name i target (f.kept name i target (of_snapshot (λ w.
        HasStrongField w name i (value.Ref target)) h)));
    opened = λ name c t. elim (Contains-push_cases s.opened added name (opened_is name c)) [
      | inl old ↦ safe_then name (f.opened name old (of_snapshot (λ w. IsSome (node_of w name)) t))
      | inr same ↦ subst (λ (n : Name). IsSafe (mark_name wider added) n) same is_marked
    ];
    ended = λ weak c t. safe_then weak (f.ended weak (finalised_is weak c) (of_snapshot (λ w. IsSome (node_of w weak)) t));
    finalised = λ weak target parts c alive kept. safe_then target (f.finalised weak target parts (finalised_is weak c) (of_snapshot (λ w.
        IsAlive w weak parts) alive) kept);
  }
    where
      opened_is : (name : Name) → Contains (mark_name wider added).opened name → Contains (s.opened ++ added ∷ []) name
      opened_is name = mark_cases (λ t. Contains t.opened name → Contains (s.opened ++ added ∷ []) name) wider added (λ e c. c) (λ e c. c)

      finalised_is : (name : Name) → Contains (mark_name wider added).finalised name → Contains s.finalised name
      finalised_is name = mark_cases (λ t. Contains t.finalised name → Contains s.finalised name) wider added (λ e c. c) (λ e c. c)
