-- A command keeps the facts. A name that it takes out of a field of the snapshot is owed. A name that it puts into a register
-- or a field was live, is new, or is opened by this command.
--
-- A command on a weak pointer makes more names live. So the facts about the names live so far are first extended to the names
-- live afterwards. The target of such a name's field was its target in the snapshot, or may be held.
use Rattle.std.specs.Prelude.{◌≡◌, ◌≢◌, ◌<◌, ◌≤◌, ◌++◌, ◌⊎◌}
use Rattle.nmgc_snapshot_laws.specs.laws.Vocabulary.{ℕ, List, length, get_or, refl, sym, subst, ◌∙◌, arith, length-set, Option, Some, None, inl, inr, IsSome, IfSome, All, Contains, All-append, Contains-append_left, Contains-append_right, Contains-append_cases, slice_get_past, cases_eq, SHARED_MAKER, Name, Value, Parts, Node, Weak, Operand, Command, state_of, node_of, serial_of, IsWorld, Grows, shared_name, next_name, value_for, step, IsAlive, IsKeptBy, RefersTo, root, further, field, opened_by, finalised_by, step_grows, not_shared, at_some, State, names_of, values_owed, owed_by, after_command, Names, Fields, CoversReach, StillThere, AsThen, MayHold, IsSafe, IsAhead, Kept, Base, Facts, owed, pushed, queued, marked, unmarked, AliveOk, WeaksOk, step_weaks, RespectsBarrier, operand_has, own_node, all_moves, opened_owed, Ends, finalised_owed, each_weak}
use Rattle.nmgc_world_spec.specs.declared.value.Value.TheVariants as value
use Rattle.nmgc_snapshot_laws.specs.laws.{Listed.each_names, Listed.names_same, Listed.names_other, Listed.names_among_have, Listed.name_among, Listed.all_from_contains, Lives.live_more, Turns.step_adds, Turns.step_alive}

-- g may be held
pub holds_shared : (s : State) → MayHold s shared_name
holds_shared s there = root shared_name (inl refl)

-- the next name is not in the snapshot
pub next_absent : (s : State) (m : ℕ) → Base s → m ≢ SHARED_MAKER → IsSome (node_of s.snapshot (next_name (state_of s.world m) m)) → ⊥
next_absent s m b own there =
    let le : serial_of s.snapshot m ≤ serial_of s.world m = b.serials m in
    let none : node_of s.snapshot (next_name (state_of s.world m) m) ≡ None = own_node s.snapshot m own (next_name (state_of s.world m) m) refl ∙
    slice_get_past (state_of s.snapshot m).nodes (length (state_of s.world m).nodes) le in
    let bad : IsSome {T = Node} None = rw none at there in
    cc

module _ (s : State) (f : Facts s) (w : IsWorld s.world) (m : ℕ) (c : Command) (lt : m < length s.world.mutators) where
  abbrev pub next : State
  next = after_command s m c

  -- a name that may be held before may be held afterwards
  more : (name : Name) → MayHold s name → MayHold next name
  more name h there = live_more s.snapshot s.opened (opened_by s.world m c) name (h there)

  more_value : (v : Value) → Names (MayHold s) v → Names (MayHold next) v
  more_value value.Nil h = tt
  more_value (value.Number n) h = tt
  more_value (value.Ref name) h = more name h

  more_values : (values : List Value) → All (Names (MayHold s)) values → All (Names (MayHold next)) values
  more_values values h k d at = more_value (get_or values k d) (h k d at)

  pub more_names : (names : List Name) → All (MayHold s) names → All (MayHold next) names
  more_names names h k d at = more (get_or names k d) (h k d at)

  more_holds : CoversReach (MayHold next) s.world
  more_holds = record {
    registers = λ k. more_values (state_of s.world k).registers (f.base.holds.registers k);
    queues = λ k. more_values (state_of s.world k).queue (f.base.holds.queues k);
    fields = λ name may. by_node name may (node_of s.world name) refl;
  }
    where
      by_node : (name : Name) → MayHold next name → (o : Option Node) → node_of s.world name ≡ o → IfSome o (Fields (Names (MayHold next)))
      by_node name may None e = tt
      by_node name may (Some node) e = all_from_contains (MayHold next) _ (λ target k. elim (f.base.fields name target (node, e, k)) [
        | inl p ↦ more target p
        | inr r ↦ λ there. field name target (may (subst (λ (o : Option Node). IsSome o) (sym r.1) refl)) r
      ])

  own : m ≢ SHARED_MAKER
  own = not_shared s.world m w lt

  shared_may : MayHold next shared_name
  shared_may = more shared_name (holds_shared s)

  next_may : MayHold next (next_name (state_of s.world m) m)
  next_may there = absurd (next_absent s m f.base own there)

  opened_may : (name : Name) → Contains (opened_by s.world m c) name → MayHold next name
  opened_may name k there = further name (Contains-append_right s.opened (opened_by s.world m c) name k) there

  pub moves : RespectsBarrier (MayHold next) s.world (step s.world m c).0 (values_owed s.world m c)
  moves = all_moves (MayHold next) s.world m c lt own shared_may next_may opened_may more_holds

  pub grows : Grows s.world (step s.world m c).0 m
  grows = step_grows s.world m c lt

  pub owed_place : m < length s.owed
  owed_place = let e : length s.owed ≡ length s.world.mutators = f.base.owed_lists in omega arith

  pub next_fields : (name target : Name) → RefersTo (step s.world m c).0 name target → MayHold next target ⊎ RefersTo s.snapshot name target
  next_fields name target r = elim (step_adds (MayHold next) s.world m lt own shared_may (more_holds.registers m) c name target r) [
    | inl old ↦ elim (f.base.fields name target old) [ inl p ↦ inl (more target p) | inr q ↦ inr q ]
    | inr p ↦ inl p
  ]

  has : (o : Operand) → Names (MayHold next) (value_for s.world m o)
  has o = operand_has (MayHold next) (state_of s.world m).registers o shared_may (more_holds.registers m)

  still_as : (weak : Name) (parts : Parts) → IsAlive s.world weak parts → AsThen s.snapshot (MayHold next) weak parts
  still_as weak parts a =
      let h : AsThen s.snapshot (MayHold s) weak parts = f.base.weaks weak parts a in
      record {
        old = h.old;
        new = λ gone. let p = h.new gone in (more_value parts.key p.0, more_value parts.value p.1, more_value parts.finaliser p.2);
      }

  pub next_weaks : (weak : Name) (parts : Parts) → IsAlive (step s.world m c).0 weak parts → AsThen s.snapshot (MayHold next) weak parts
  next_weaks weak parts a =
      let R : Name → Parts → Type 0 = AsThen s.snapshot (MayHold next) in
      let all : WeaksOk R (step s.world m c).0 = step_weaks R s.world m c lt own
      (λ key v finaliser. record { old = λ there. absurd (next_absent s m f.base own there); new = λ gone. (has key, has v, has finaliser) })
      (each_weak R s.world still_as) in
      at_some (node_of (step s.world m c).0 weak) (Weak (Some parts)) (AliveOk R weak) a (all weak)

  pub next_alive : (weak : Name) (parts : Parts) → IsAlive s.snapshot weak parts → (Contains next.finalised weak → ⊥) → IsAlive (step s.world m c).0 weak parts
  next_alive weak parts a not =
      let now : IsAlive s.world weak parts = f.base.alive weak parts a (λ k. not (Contains-append_left s.finalised (finalised_by s.world m c) weak k)) in
      elim (step_alive (MayHold next) s.world m lt own shared_may (more_holds.registers m) c weak parts now) [
        | inl b ↦ b
        | inr k ↦ absurd (not (Contains-append_right s.finalised (finalised_by s.world m c) weak k))
      ]

  command_base : Base next
  command_base = record {
    snapshot = f.base.snapshot;
    mutators = moves.mutators ∙ f.base.mutators;
    serials = λ k. let a : serial_of s.snapshot k ≤ serial_of s.world k = f.base.serials k in
        let b : serial_of s.world k ≤ serial_of (step s.world m c).0 k = grows.serials k in omega arith;
    owed_lists = length-set s.owed m _ ∙ f.base.owed_lists ∙ sym moves.mutators;
    pushed_lists = f.base.pushed_lists ∙ sym moves.mutators;
    holds = moves.holds;
    fields = next_fields;
    weaks = next_weaks;
    alive = next_alive;
    owed = each_names (All (MayHold next)) s.owed m _ owed_place
        (All-append (MayHold next) (names_of s.owed m) (owed_by s.world m c) (more_names (names_of s.owed m) (f.base.owed m))
        (names_among_have (MayHold next) (values_owed s.world m c) moves.owes)) (λ k. more_names (names_of s.owed k) (f.base.owed k));
    pushed = λ k. more_names (names_of s.pushed k) (f.base.pushed k);
    later = λ name before e.
        let t : StillThere s.world name before = f.base.later name before e in
        let r : StillThere (step s.world m c).0 name t.node = moves.later name t.node t.node_is in
        record { node = r.node; node_is = r.node_is; later = record { free = r.later.free ∙ t.later.free; result = λ k. r.later.result (t.later.result k) } };
    live = λ name k. live_more s.snapshot s.opened (opened_by s.world m c) name (f.base.live name k);
    queued = f.base.queued;
    passed = f.base.passed;
  }

  -- an owed name stays owed
  more_owed : (k : ℕ) (name : Name) → Contains (names_of s.owed k) name → Contains (names_of next.owed k) name
  more_owed k name h = elim (cases_eq k m) [
    | inl e ↦ rw (e, names_same s.owed m _ owed_place) (Contains-append_left (names_of s.owed m) (owed_by s.world m c) name (rw e at h))
    | inr ne ↦ rw (names_other s.owed m k (names_of s.owed m ++ owed_by s.world m c) ne) h
  ]

  pub still_safe : (name : Name) → IsSafe s name → IsSafe next name
  still_safe name (marked h) = marked h
  still_safe name (owed k h) = owed k (more_owed k name h)
  still_safe name (pushed k h) = pushed k h

  still_ahead : (name : Name) (i : ℕ) → IsAhead s name i → IsAhead next name i
  still_ahead name i (unmarked h) = unmarked h
  still_ahead name i (queued entry h e le) = queued entry h e le

  -- the names that the command owes are safe
  pub owed_safe : (name : Name) → Contains (owed_by s.world m c) name → IsSafe next name
  owed_safe name h = owed m (rw (names_same s.owed m (names_of s.owed m ++
      owed_by s.world m c) owed_place) (Contains-append_right (names_of s.owed m) (owed_by s.world m c) name h))

  command_kept : (name : Name) (i : ℕ) (target : Name) → Kept s name i target → Kept next name i target
  command_kept name i target (inl safe) = inl (still_safe target safe)
  command_kept name i target (inr h) = elim (moves.stays name i (value.Ref target) h.0) [
    | inl stands ↦ inr (stands, still_ahead name i h.1)
    | inr gone ↦ inl (owed_safe target (name_among (values_owed s.world m c) target gone))
  ]

  -- the names that this command opened are owed
  command_opened : (name : Name) → Contains next.opened name → IsSome (node_of s.snapshot name) → IsSafe next name
  command_opened name h there = elim (Contains-append_cases s.opened (opened_by s.world m c) name h) [
    | inl old ↦ still_safe name (f.opened name old there)
    | inr new ↦ owed_safe name (opened_owed s.world m c name new)
  ]

  -- the weak pointer that this command finalised is owed
  command_ended : (weak : Name) → Contains next.finalised weak → IsSome (node_of s.snapshot weak) → IsSafe next weak
  command_ended weak h there = elim (Contains-append_cases s.finalised (finalised_by s.world m c) weak h) [
    | inl old ↦ still_safe weak (f.ended weak old there)
    | inr new ↦ owed_safe weak ((finalised_owed s.world m c weak new).2 weak (inl refl))
  ]

  -- the names that this weak pointer kept are owed, since it kept the same names in the snapshot
  command_finalised : (weak target : Name) (parts : Parts) → Contains next.finalised weak → IsAlive s.snapshot weak parts →
      IsKeptBy weak parts target → IsSafe next target
  command_finalised weak target parts h a kept = elim (Contains-append_cases s.finalised (finalised_by s.world m c) weak h) [
    | inl old ↦ still_safe target (f.finalised weak target parts old a kept)
    | inr new ↦
        let ends : Ends s.world weak (owed_by s.world m c) = finalised_owed s.world m c weak new in
        let there : IsSome (node_of s.snapshot weak) = subst (λ (o : Option Node). IsSome o) (sym a) refl in
        let then : IsAlive s.snapshot weak ends.0 = (f.base.weaks weak ends.0 ends.1).old there in
        let both : Some (Weak (Some ends.0)) ≡ Some (Weak (Some parts)) = sym then ∙ a in
        let same : ends.0 ≡ parts = cc in
        owed_safe target (ends.2 target (subst (λ (p : Parts). IsKeptBy weak p target) (sym same) kept))
  ]

  pub command_facts : Facts (after_command s m c)
  command_facts = record {
    base = command_base;
    roots = f.roots;
    kept = λ name i target h. command_kept name i target (f.kept name i target h);
    opened = command_opened;
    ended = command_ended;
    finalised = command_finalised;
  }
