-- The facts of a world with hidden registers stay if more names count as opened, and if more registers are shown.
use Rattle.std.proofs.Common.{◌≡◌, ◌<◌, ◌≤◌, ℕ, List, ◌++◌, map, length, get_or, refl, sym, subst, ◌∙◌, arith, Option, Some, None, Bool, true, false, inl, inr, ◌⊎◌, ap}
use Rattle.std.specs.Prelude.{IsSome, IfSome, All, Contains, ◌^◌}
use Rattle.std.proofs.{lemmas.List.length-map, lemmas.List.Elements.Contains-append_right, lemmas.List.Elements.Contains-append_cases, lemmas.List.Elements.Contains-get_or, lemmas.List.Elements.All-contains}
use Rattle.nmgc_limits.specs.declared.mutators.TheConstants.{MAKERS}
use Rattle.nmgc_world_spec.specs.{declared.value.Name.Name, declared.value.Value.Value, declared.node.Node.Node, declared.mutator_state.MutatorState.MutatorState, Reach.RefersTo, Reach.further, Reach.field}
use Rattle.nmgc_world_spec.specs.declared.value.Value.TheVariants as value
use Rattle.nmgc_world_spec.specs.{World.World, World.state_of, World.node_of, World.serial_of, World.held_by, Known.IsKnown, Known.AreKnown, Known.IsNodeOf, Known.IsWorld}
use Rattle.nmgc_world_laws.specs.Holds.{Names, Fields, CoversReach, StillThere}
use Rattle.nmgc_lists.specs.laws.Items.{map_contains}
use Rattle.nmgc_snapshot_laws.specs.{State.State, State.names_of, laws.Lives.live_more, laws.Listed.all_from_contains}
use Rattle.nmgc_snapshot_laws.specs.Facts.{AsThen, MayHold, IsSafe, IsAhead, Kept, Base, Facts, owed, pushed, queued, marked, unmarked}
use Rattle.nmgc_barrier_laws.specs.{Hybrid.veil, Hybrid.hidden, laws.HybridCommand.veiled}
use Rattle.nmgc_barrier_laws.specs.laws.Veil.{hide_length, hidden_state, hidden_node, hidden_serial, hidden_queue, hidden_names}

-- a world with registers hidden is a world
module _ (shown : ℕ → Bool) (w : World) (h : IsWorld w) where
  known_here : (v : Value) → IsKnown w v → IsKnown (hidden shown w) v
  known_here value.Nil k = tt
  known_here (value.Number n) k = tt
  known_here (value.Ref name) k = subst (λ (o : Option Node). IsSome o) (sym (hidden_node shown w name)) k

  all_known : (values : List Value) → AreKnown w values → AreKnown (hidden shown w) values
  all_known values k i d lt = known_here (get_or values i d) (k i d lt)

  blank_known : (values : List Value) → AreKnown (hidden shown w) (map (λ (v : Value). value.Nil) values)
  blank_known values i d lt =
      let p : (x : Value) × Contains values x × (get_or (map (λ (v : Value). value.Nil) values) i d ≡ value.Nil) =
      map_contains (λ (v : Value). value.Nil) values (get_or (map (λ (v : Value). value.Nil) values) i d)
      (Contains-get_or (map (λ (v : Value). value.Nil) values) i d lt) in
      subst (IsKnown (hidden shown w)) (sym p.2) tt

  veil_known : (b : Bool) (state : MutatorState) → AreKnown w state.registers → AreKnown (hidden shown w) (veil b state).registers
  veil_known true state k = all_known state.registers k
  veil_known false state k = blank_known state.registers

  veil_size : (b : Bool) (state : MutatorState) → length (veil b state).registers ≡ length state.registers
  veil_size true state = refl
  veil_size false state = length-map state.registers (λ (v : Value). value.Nil)

  pub hidden_world : IsWorld (hidden shown w)
  hidden_world = record {
    some = let a : length (hidden shown w).mutators ≡ length w.mutators = hide_length shown w.mutators in let b : 1 ≤ length w.mutators = h.some in omega arith;
    few = let a : length (hidden shown w).mutators ≡ length w.mutators = hide_length shown w.mutators in
        let b : length w.mutators ≤ MAKERS = h.few in subst (λ (n : ℕ). n ≤ MAKERS) (sym a) b;
    registers = λ m lt. ap (λ (s : MutatorState). length s.registers) (hidden_state shown w m) ∙ veil_size (shown m) (state_of w m) ∙
        h.registers m (subst (λ (n : ℕ). m < n) (hide_length shown w.mutators) lt);
    serials = λ m. subst (λ (n : ℕ). n < 2 ^ 32) (sym (hidden_serial shown w m)) (h.serials m);
    shared = h.shared;
    known_registers = λ m. subst (λ (s : MutatorState). AreKnown (hidden shown w) s.registers) (sym (hidden_state shown w m))
        (veil_known (shown m) (state_of w m) (h.known_registers m));
    known_queue = λ m. subst (AreKnown (hidden shown w)) (sym (hidden_queue shown w m)) (all_known (state_of w m).queue (h.known_queue m));
    nodes = λ name. subst (λ (o : Option Node). IfSome o (IsNodeOf (hidden shown w))) (sym (hidden_node shown w name)) (by_node (node_of w name) (h.nodes name));
  }
    where
      by_node : (o : Option Node) → IfSome o (IsNodeOf w) → IfSome o (IsNodeOf (hidden shown w))
      by_node None k = tt
      by_node (Some node) k = record { known = all_known (held_by node) k.known; sized = k.sized }

-- more names count as opened, and more are pushed: each new name is safe
module _ (s : State) (f : Facts s) (names : List Name) (lists : List (List Name)) (count : length lists ≡ length s.pushed) where
  abbrev pub widened : State
  widened = record s { opened = s.opened ++ names; pushed = lists }

  module _ (pushes : (k : ℕ) (n : Name) → Contains (names_of s.pushed k) n → Contains (names_of lists k) n)
      (old : (k : ℕ) (n : Name) → Contains (names_of lists k) n → Contains (names_of s.pushed k) n ⊎ Contains names n)
      (safe : (n : Name) → Contains names n → IsSome (node_of s.snapshot n) → IsSafe widened n) where
    more : (n : Name) → MayHold s n → MayHold widened n
    more n h there = live_more s.snapshot s.opened names n (h there)

    more_value : (v : Value) → Names (MayHold s) v → Names (MayHold widened) v
    more_value value.Nil h = tt
    more_value (value.Number n) h = tt
    more_value (value.Ref n) h = more n h

    more_values : (values : List Value) → All (Names (MayHold s)) values → All (Names (MayHold widened)) values
    more_values values h k d at = more_value (get_or values k d) (h k d at)

    more_names : (list : List Name) → All (MayHold s) list → All (MayHold widened) list
    more_names list h k d at = more (get_or list k d) (h k d at)

    pub own_may : (n : Name) → Contains names n → MayHold widened n
    own_may n c there = further n (Contains-append_right s.opened names n c) there

    more_holds : CoversReach (MayHold widened) s.world
    more_holds = record {
      registers = λ k. more_values (state_of s.world k).registers (f.base.holds.registers k);
      queues = λ k. more_values (state_of s.world k).queue (f.base.holds.queues k);
      fields = λ n may. by_node n may (node_of s.world n) refl;
    }
      where
        by_node : (n : Name) → MayHold widened n → (o : Option Node) → node_of s.world n ≡ o → IfSome o (Fields (Names (MayHold widened)))
        by_node n may None e = tt
        by_node n may (Some node) e = all_from_contains (MayHold widened) _ (λ target k. elim (f.base.fields n target (node, e, k)) [
          | inl p ↦ more target p
          | inr r ↦ λ there. field n target (may (subst (λ (o : Option Node). IsSome o) (sym r.1) refl)) r
        ])

    pushed_may : (k : ℕ) → All (MayHold widened) (names_of lists k)
    pushed_may k i d lt = elim (old k (get_or (names_of lists k) i d) (Contains-get_or (names_of lists k) i d lt)) [
      | inl was ↦ more (get_or (names_of lists k) i d) (All-contains (MayHold s) (names_of s.pushed k) (get_or (names_of lists k) i d) (f.base.pushed k) was)
      | inr new ↦ own_may (get_or (names_of lists k) i d) new
    ]

    widened_base : Base widened
    widened_base = record {
      snapshot = f.base.snapshot;
      mutators = f.base.mutators;
      serials = f.base.serials;
      owed_lists = f.base.owed_lists;
      pushed_lists = count ∙ f.base.pushed_lists;
      holds = more_holds;
      fields = λ n target r. elim (f.base.fields n target r) [ inl p ↦ inl (more target p) | inr q ↦ inr q ];
      weaks = λ weak parts a. let h : AsThen s.snapshot (MayHold s) weak parts = f.base.weaks weak parts a in record {
        old = h.old;
        new = λ gone. let p = h.new gone in (more_value parts.key p.0, more_value parts.value p.1, more_value parts.finaliser p.2);
      };
      alive = f.base.alive;
      owed = λ k. more_names (names_of s.owed k) (f.base.owed k);
      pushed = pushed_may;
      later = f.base.later;
      live = λ n c. live_more s.snapshot s.opened names n (f.base.live n c);
      queued = f.base.queued;
      passed = f.base.passed;
    }

    safe_on : (n : Name) → IsSafe s n → IsSafe widened n
    safe_on n (marked c) = marked c
    safe_on n (owed k c) = owed k c
    safe_on n (pushed k c) = pushed k (pushes k n c)

    ahead_on : (n : Name) (i : ℕ) → IsAhead s n i → IsAhead widened n i
    ahead_on n i (unmarked c) = unmarked c
    ahead_on n i (queued entry c e le) = queued entry c e le

    kept_on : (n : Name) (i : ℕ) (target : Name) → Kept s n i target → Kept widened n i target
    kept_on n i target (inl k) = inl (safe_on target k)
    kept_on n i target (inr k) = inr (k.0, ahead_on n i k.1)

    pub widened_facts : Facts widened
    widened_facts = record {
      base = widened_base;
      roots = f.roots;
      kept = λ n i target st. kept_on n i target (f.kept n i target st);
      opened = λ n c there. elim (Contains-append_cases s.opened names n c) [ inl was ↦ safe_on n (f.opened n was there) | inr new ↦ safe n new there ];
      ended = λ weak c there. safe_on weak (f.ended weak c there);
      finalised = λ weak target parts c alive kept. safe_on target (f.finalised weak target parts c alive kept);
    }

-- other registers are shown, with names that may be held. The world may have other registers, too
module _ (s : State) (a b : ℕ → Bool) (u : World) (same_nodes : (n : Name) → node_of u n ≡ node_of s.world n)
    (same_count : length u.mutators ≡ length s.world.mutators) (same_serials : (k : ℕ) → serial_of u k ≡ serial_of s.world k)
    (same_queues : (k : ℕ) → (state_of u k).queue ≡ (state_of s.world k).queue) (f : Facts (veiled a s))
    (holds : (k : ℕ) → b k ≡ true → All (Names (MayHold s)) (state_of u k).registers) where
  abbrev moved : State
  moved = record s { world = hidden b u }

  nodes : (n : Name) → node_of (hidden b u) n ≡ node_of (hidden a s.world) n
  nodes n = hidden_node b u n ∙ same_nodes n ∙ sym (hidden_node a s.world n)

  count : length (hidden b u).mutators ≡ length (hidden a s.world).mutators
  count = hide_length b u.mutators ∙ same_count ∙ sym (hide_length a s.world.mutators)

  back : (n target : Name) → RefersTo (hidden b u) n target → RefersTo (hidden a s.world) n target
  back n target r = (r.0, sym (nodes n) ∙ r.1, r.2)

  moved_base : Base moved
  moved_base = record {
    snapshot = f.base.snapshot;
    mutators = count ∙ f.base.mutators;
    serials = λ k. let x = f.base.serials k in subst (λ (n : ℕ). serial_of s.snapshot k ≤ n)
        (hidden_serial a s.world k ∙ sym (same_serials k) ∙ sym (hidden_serial b u k)) x;
    owed_lists = f.base.owed_lists ∙ sym count;
    pushed_lists = f.base.pushed_lists ∙ sym count;
    holds = record {
      registers = λ k. hidden_names (MayHold s) b u k (holds k);
      queues = λ k. subst (All (Names (MayHold s))) (hidden_queue a s.world k ∙ sym (same_queues k) ∙ sym (hidden_queue b u k)) (f.base.holds.queues k);
      fields = λ n may. subst (λ (o : Option Node). IfSome o (Fields (Names (MayHold s)))) (sym (nodes n)) (f.base.holds.fields n may);
    };
    fields = λ n target r. f.base.fields n target (back n target r);
    weaks = λ weak parts k. f.base.weaks weak parts (sym (nodes weak) ∙ k);
    alive = λ weak parts k not. nodes weak ∙ f.base.alive weak parts k not;
    owed = f.base.owed;
    pushed = f.base.pushed;
    later = λ n before e. let t : StillThere (hidden a s.world) n before = f.base.later n before e in
        record { node = t.node; node_is = nodes n ∙ t.node_is; later = t.later };
    live = f.base.live;
    queued = f.base.queued;
    passed = f.base.passed;
  }

  same_safe : (n : Name) → IsSafe (veiled a s) n → IsSafe moved n
  same_safe n (marked c) = marked c
  same_safe n (owed k c) = owed k c
  same_safe n (pushed k c) = pushed k c

  same_ahead : (n : Name) (i : ℕ) → IsAhead (veiled a s) n i → IsAhead moved n i
  same_ahead n i (unmarked c) = unmarked c
  same_ahead n i (queued entry c e le) = queued entry c e le

  same_kept : (n : Name) (i : ℕ) (target : Name) → Kept (veiled a s) n i target → Kept moved n i target
  same_kept n i target (inl k) = inl (same_safe target k)
  same_kept n i target (inr k) = inr (record { node = k.0.node; node_is = nodes n ∙ k.0.node_is; field = k.0.field }, same_ahead n i k.1)

  pub moved_facts : Facts moved
  moved_facts = record {
    base = moved_base;
    roots = f.roots;
    kept = λ n i target st. same_kept n i target (f.kept n i target st);
    opened = λ n c there. same_safe n (f.opened n c there);
    ended = λ weak c there. same_safe weak (f.ended weak c there);
    finalised = λ weak target parts c alive kept. same_safe target (f.finalised weak target parts c alive kept);
  }

-- the same world with other registers shown
pub shown_facts : (s : State) (a b : ℕ → Bool) → Facts (veiled a s) → ((k : ℕ) → b k ≡ true → All (Names (MayHold s)) (state_of s.world k).registers) →
    Facts (veiled b s)
shown_facts s a b f holds = moved_facts s a b s.world (λ n. refl) refl (λ k. refl) (λ k. refl) f holds
