-- A command of a mutator that isn't shown keeps the facts of the world in which it is hidden. Its registers don't count,
-- since all names that it stores float.
use Rattle.std.proofs.Common.{◌≡◌, ◌≢◌, ◌<◌, ◌≤◌, ℕ, List, [], ◌∷◌, ◌++◌, length, get_or, refl, sym, subst, ◌∙◌, arith, length-set, Option, Some, None, Bool, true, false, inl, inr, ◌⊎◌, ap}
use Rattle.std.specs.Prelude.{IsSome, IfSome, All, Contains}
use Rattle.std.proofs.{lemmas.List.Elements.All-append, lemmas.List.Elements.Contains-append_left, lemmas.List.Elements.Contains-append_right, lemmas.List.Elements.Contains-append_cases, lemmas.List.Elements.Contains-get_or, lemmas.Bool.cases_eq}
use Rattle.nmgc_limits.specs.declared.mutators.TheConstants.{SHARED_MAKER}
use Rattle.nmgc_world_spec.specs.{declared.value.Name.Name, declared.value.Value.Value, declared.node.Parts.Parts, declared.node.Node.Node, declared.node.Node.TheVariants.Weak, declared.command.Command.Command, World.shared_name, World.step, World.World, World.state_of, World.node_of, World.serial_of, World.parts_held, Known.CanApply, laws.Orders.name_cases}
use Rattle.nmgc_world_spec.specs.declared.value.Value.TheVariants as value
use Rattle.nmgc_world_spec.specs.Known.{IsWorld, Grows}
use Rattle.nmgc_world_spec.specs.Reach.{IsAlive, IsKeptBy, RefersTo, strong_fields, further, field, root, opened_by, finalised_by, values_owed}
use Rattle.nmgc_world_laws.specs.{Leaves.SameHands, laws.Growth.step_grows, laws.Worlds.not_shared, laws.NodeLaws.next_is_new, laws.Keeps.step_leaves_others, laws.Alive.AliveOk, laws.Alive.WeaksOk, laws.Alive.step_weaks, laws.HeldSteps.alive_ok as each_weak, laws.Moves.RespectsBarrier, laws.WeakMoves.all_moves, laws.WeakMoves.Ends, laws.WeakMoves.finalised_owed}
use Rattle.nmgc_world_laws.specs.Holds.{Names, Fields, CoversReach, StillThere, HasStrongField}
use Rattle.nmgc_lists.specs.laws.Items.{at_some, contains_cases, contains_head, contains_tail, nothing_in}
use Rattle.nmgc_snapshot_laws.specs.{State.State, State.names_of, laws.Turns.step_alive, laws.Lives.live_more, laws.Lives.target_there, laws.Lives.part_there, laws.Lives.refers, laws.Lives.stands, laws.Listed.each_names, laws.Listed.names_same, laws.Listed.names_other, laws.Listed.all_from_contains}
use Rattle.nmgc_snapshot_laws.specs.Facts.{AsThen, MayHold, IsSafe, IsAhead, Kept, Base, Facts, owed, pushed, queued, marked, unmarked}
use Rattle.nmgc_barrier_laws.specs.{Due.IsDue, Stored.IsStored, Hybrid.hidden, Hybrid.after_owing_in, laws.Given.stands_or, laws.Veil.hide_length, laws.Veil.hidden_node, laws.Veil.hidden_serial, laws.Veil.hidden_queue, laws.Veil.hidden_names, laws.Veil.shown_names}
use Rattle.nmgc_barrier_laws.specs.Stored as stored

-- the state whose world shows these registers alone
abbrev pub veiled : (ℕ → Bool) → State → State
veiled shown s = record s { world = hidden shown s.world }

-- a value is in a list or not
abbrev OrNot : List Value → Name → Type 0
OrNot values name = Contains values (value.Ref name) ⊎ (Contains values (value.Ref name) → ⊥)

or_other : (values : List Value) (name : Name) (x : Value) → (x ≡ value.Ref name → ⊥) → OrNot values name → OrNot (x ∷ values) name
or_other values name x ne (inl c) = inl (contains_tail x values (value.Ref name) c)
or_other values name x ne (inr none) = inr (λ c. elim (contains_cases x values (value.Ref name) c) [ inl e ↦ ne e | inr k ↦ none k ])

ref_or : (values : List Value) (name : Name) → OrNot values name
ref_or [] name = inr (λ c. nothing_in (value.Ref name) c)
ref_or (value.Nil ∷ values) name = or_other values name value.Nil (λ e. absurd cc) (ref_or values name)
ref_or (value.Number n ∷ values) name = or_other values name (value.Number n) (λ e. absurd cc) (ref_or values name)
ref_or (value.Ref n ∷ values) name = elim (name_cases n name) [
  | inl e ↦ inl (subst (λ (x : Name). Contains (value.Ref n ∷ values) (value.Ref x)) e (contains_head (value.Ref n) values))
  | inr ne ↦ or_other values name (value.Ref n) (λ e. let same : n ≡ name = cc in ne same) (ref_or values name)
]

-- any name
abbrev All_names : Name → Type 0
All_names name = Unit {0}

all_covered : (w : World) → CoversReach All_names w
all_covered w = record {
  registers = λ k. all_from_contains All_names (state_of w k).registers (λ name c. tt);
  queues = λ k. all_from_contains All_names (state_of w k).queue (λ name c. tt);
  fields = λ name p. by_node (node_of w name);
}
  where
    by_node : (o : Option Node) → IfSome o (Fields (Names All_names))
    by_node None = tt
    by_node (Some node) = all_from_contains All_names (strong_fields node) (λ name c. tt)

module _ (shown : ℕ → Bool) (s : State) (f : Facts (veiled shown s)) (w : IsWorld s.world) (m : ℕ) (c : Command) (can : CanApply s.world m c)
    (unseen : shown m ≡ false) (names : List Name)
    (due : (target : Name) → IsDue s.snapshot s.world m c target → IsSafe (after_owing_in s m c names) target)
    (floats : (target : Name) → IsSome (node_of s.snapshot target) → target ≢ shared_name → IsStored s.world (step s.world m c).0 target →
    MayHold (after_owing_in s m c names) target) where
  abbrev next : State
  next = after_owing_in s m c names

  abbrev v : World
  v = (step s.world m c).0

  lt : m < length s.world.mutators
  lt = can.mutator

  own : m ≢ SHARED_MAKER
  own = not_shared s.world m w lt

  grows : Grows s.world v m
  grows = step_grows s.world m c lt

  moves : RespectsBarrier All_names s.world v (values_owed s.world m c)
  moves = all_moves All_names s.world m c lt own tt tt (λ n k. tt) (all_covered s.world)

  more : (name : Name) → MayHold s name → MayHold next name
  more name h there = live_more s.snapshot s.opened (opened_by s.world m c ++ names) name (h there)

  more_value : (x : Value) → Names (MayHold s) x → Names (MayHold next) x
  more_value value.Nil h = tt
  more_value (value.Number n) h = tt
  more_value (value.Ref name) h = more name h

  more_values : (values : List Value) → All (Names (MayHold s)) values → All (Names (MayHold next)) values
  more_values values h k d at = more_value (get_or values k d) (h k d at)

  more_names : (list : List Name) → All (MayHold s) list → All (MayHold next) list
  more_names list h k d at = more (get_or list k d) (h k d at)

  -- a name that is stored may be held
  stored_may : (target : Name) → IsStored s.world v target → MayHold next target
  stored_may target k there = elim (name_cases target shared_name) [
    | inl g ↦ root target (inl g)
    | inr ne ↦ floats target there ne k there
  ]

  -- a field was there before, or its target may be held
  field_was : (name target : Name) → RefersTo v name target → RefersTo s.world name target ⊎ MayHold next target
  field_was name target r =
      let p : (i : ℕ) × HasStrongField v name i (value.Ref target) = stands v name target r in
      elim (stands_or s.world name p.0 target) [
        | inl stood ↦ inl (refers s.world name target p.0 stood)
        | inr new ↦ inr (stored_may target (stored.field name p.0 p.1 new))
      ]

  was_refers : (name target : Name) → RefersTo s.world name target → RefersTo (hidden shown s.world) name target
  was_refers name target r = (r.0, hidden_node shown s.world name ∙ r.1, r.2)

  old_fields : (name target : Name) → RefersTo s.world name target → MayHold next target ⊎ RefersTo s.snapshot name target
  old_fields name target r = elim (f.base.fields name target (was_refers name target r)) [ inl p ↦ inl (more target p) | inr q ↦ inr q ]

  next_fields : (name target : Name) → RefersTo v name target → MayHold next target ⊎ RefersTo s.snapshot name target
  next_fields name target r = elim (field_was name target r) [ inl old ↦ old_fields name target old | inr p ↦ inl p ]

  hidden_refers : (name target : Name) → RefersTo (hidden shown v) name target → RefersTo v name target
  hidden_refers name target r = (r.0, sym (hidden_node shown v name) ∙ r.1, r.2)

  next_queue : (k : ℕ) → All (Names (MayHold next)) (state_of v k).queue
  next_queue k = all_from_contains (MayHold next) (state_of v k).queue (λ target h. elim (ref_or (state_of s.world k).queue target) [
    | inl was ↦ more target (Rattle.std.proofs.lemmas.List.Elements.All-contains (Names (MayHold s)) (state_of s.world k).queue (value.Ref target)
        (subst (All (Names (MayHold s))) (hidden_queue shown s.world k) (f.base.holds.queues k)) was)
    | inr new ↦ stored_may target (stored.queue k h new)
  ])

  next_registers : (k : ℕ) → shown k ≡ true → All (Names (MayHold next)) (state_of v k).registers
  next_registers k is =
      let ne : k ≢ m = λ e. let bad : true ≡ false = sym is ∙ ap shown e ∙ unseen in absurd cc in
      let same : SameHands (state_of s.world k) (state_of v k) = step_leaves_others s.world m c w can k ne in
      subst (All (Names (MayHold next))) (sym same.registers) (more_values (state_of s.world k).registers
      (shown_names (MayHold s) shown s.world k is (f.base.holds.registers k)))

  next_holds : CoversReach (MayHold next) (hidden shown v)
  next_holds = record {
    registers = λ k. hidden_names (MayHold next) shown v k (next_registers k);
    queues = λ k. subst (All (Names (MayHold next))) (sym (hidden_queue shown v k)) (next_queue k);
    fields = λ name may. by_node name may (node_of (hidden shown v) name) refl;
  }
    where
      by_node : (name : Name) → MayHold next name → (o : Option Node) → node_of (hidden shown v) name ≡ o → IfSome o (Fields (Names (MayHold next)))
      by_node name may None e = tt
      by_node name may (Some node) e = all_from_contains (MayHold next) (strong_fields node) (λ target k.
          elim (next_fields name target (hidden_refers name target (node, e, k))) [
            | inl p ↦ p
            | inr r ↦ λ there. field name target (may (subst (λ (o : Option Node). IsSome o) (sym r.1) refl)) r
          ])

  -- a weak pointer with these parts had them before, or it is new
  abbrev WasSo : Name → Parts → Type 0
  WasSo weak parts = IsAlive s.world weak parts ⊎ (node_of s.world weak ≡ None)

  was_so : (weak : Name) (parts : Parts) → IsAlive v weak parts → WasSo weak parts
  was_so weak parts a =
      let each : WeaksOk WasSo v = step_weaks WasSo s.world m c lt own (λ key x finaliser. inr (next_is_new s.world m own))
      (each_weak WasSo s.world (λ n p k. inl k)) in
      at_some (node_of v weak) (Weak (Some parts)) (AliveOk WasSo weak) a (each weak)

  there_then : (weak : Name) → node_of s.world weak ≡ None → IsSome (node_of s.snapshot weak) → ⊥
  there_then weak none there = by_node (node_of s.snapshot weak) refl there
    where
      by_node : (o : Option Node) → node_of s.snapshot weak ≡ o → IsSome o → ⊥
      by_node None e k = absurd cc
      by_node (Some before) e k =
          let t : StillThere (hidden shown s.world) weak before = f.base.later weak before e in
          let bad : None ≡ Some t.node = sym none ∙ sym (hidden_node shown s.world weak) ∙ t.node_is in absurd cc

  part_may : (weak : Name) (parts : Parts) → IsAlive v weak parts → node_of s.world weak ≡ None → (x : Value) →
      Contains (parts_held (Some parts)) x → Names (MayHold next) x
  part_may weak parts a none value.Nil k = tt
  part_may weak parts a none (value.Number n) k = tt
  part_may weak parts a none (value.Ref target) k = stored_may target (stored.part weak parts a (λ was.
      let bad : None ≡ Some (Weak (Some parts)) = sym none ∙ was in absurd cc) k)

  next_weaks : (weak : Name) (parts : Parts) → IsAlive v weak parts → AsThen s.snapshot (MayHold next) weak parts
  next_weaks weak parts a = elim (was_so weak parts a) [
    | inl was ↦
        let h : AsThen s.snapshot (MayHold s) weak parts = f.base.weaks weak parts (hidden_node shown s.world weak ∙ was) in
        record {
          old = h.old;
          new = λ gone. let p = h.new gone in (more_value parts.key p.0, more_value parts.value p.1, more_value parts.finaliser p.2);
        }
    | inr none ↦ record {
      old = λ there. absurd (there_then weak none there);
      new = λ gone. (
        part_may weak parts a none parts.key (contains_head parts.key (parts.value ∷ parts.finaliser ∷ [])),
        part_may weak parts a none parts.value (contains_tail parts.key (parts.value ∷ parts.finaliser ∷ []) parts.value
            (contains_head parts.value (parts.finaliser ∷ []))),
        part_may weak parts a none parts.finaliser (contains_tail parts.key (parts.value ∷ parts.finaliser ∷ []) parts.finaliser
            (contains_tail parts.value (parts.finaliser ∷ []) parts.finaliser (contains_head parts.finaliser []))),
      );
    }
  ]

  next_alive : (weak : Name) (parts : Parts) → IsAlive s.snapshot weak parts → (Contains next.finalised weak → ⊥) → IsAlive (hidden shown v) weak parts
  next_alive weak parts a not =
      let now : IsAlive (hidden shown s.world) weak parts =
      f.base.alive weak parts a (λ k. not (Contains-append_left s.finalised (finalised_by s.world m c) weak k)) in
      elim (step_alive All_names s.world m lt own tt ((all_covered s.world).registers m) c weak parts (sym (hidden_node shown s.world weak) ∙ now)) [
        | inl b ↦ hidden_node shown v weak ∙ b
        | inr k ↦ absurd (not (Contains-append_right s.finalised (finalised_by s.world m c) weak k))
      ]

  same_count : length (hidden shown v).mutators ≡ length (hidden shown s.world).mutators
  same_count = hide_length shown v.mutators ∙ moves.mutators ∙ sym (hide_length shown s.world.mutators)

  owed_place : m < length s.owed
  owed_place = let e : length s.owed ≡ length (hidden shown s.world).mutators = f.base.owed_lists in
      let g : length (hidden shown s.world).mutators ≡ length s.world.mutators = hide_length shown s.world.mutators in
      let l : m < length s.world.mutators = lt in omega arith

  name_may : (name : Name) → Contains names name → MayHold next name
  name_may name k there = further name (Contains-append_right s.opened (opened_by s.world m c ++ names) name
      (Contains-append_right (opened_by s.world m c) names name k)) there

  names_may : All (MayHold next) names
  names_may k d at = name_may (get_or names k d) (Contains-get_or names k d at)

  next_base : Base (veiled shown next)
  next_base = record {
    snapshot = f.base.snapshot;
    mutators = same_count ∙ f.base.mutators;
    serials = λ k. let a : serial_of s.snapshot k ≤ serial_of (hidden shown s.world) k = f.base.serials k in
        let b : serial_of s.world k ≤ serial_of v k = grows.serials k in
        let x : serial_of (hidden shown s.world) k ≡ serial_of s.world k = hidden_serial shown s.world k in
        let y : serial_of (hidden shown v) k ≡ serial_of v k = hidden_serial shown v k in omega arith;
    owed_lists = length-set s.owed m _ ∙ f.base.owed_lists ∙ sym same_count;
    pushed_lists = f.base.pushed_lists ∙ sym same_count;
    holds = next_holds;
    fields = λ name target r. next_fields name target (hidden_refers name target r);
    weaks = λ weak parts a. next_weaks weak parts (sym (hidden_node shown v weak) ∙ a);
    alive = next_alive;
    owed = each_names (All (MayHold next)) s.owed m _ owed_place
        (All-append (MayHold next) (names_of s.owed m) names (more_names (names_of s.owed m) (f.base.owed m)) names_may) (λ k.
        more_names (names_of s.owed k) (f.base.owed k));
    pushed = λ k. more_names (names_of s.pushed k) (f.base.pushed k);
    later = λ name before e.
        let t : StillThere (hidden shown s.world) name before = f.base.later name before e in
        let r : StillThere v name t.node = moves.later name t.node (sym (hidden_node shown s.world name) ∙ t.node_is) in
        record {
          node = r.node;
          node_is = hidden_node shown v name ∙ r.node_is;
          later = record { free = r.later.free ∙ t.later.free; result = λ k. r.later.result (t.later.result k) };
        };
    live = λ name k. live_more s.snapshot s.opened (opened_by s.world m c ++ names) name (f.base.live name k);
    queued = f.base.queued;
    passed = f.base.passed;
  }

  -- a name that was owed stays owed
  more_owed : (k : ℕ) (name : Name) → Contains (names_of s.owed k) name → Contains (names_of next.owed k) name
  more_owed k name h = elim (cases_eq k m) [
    | inl e ↦ rw (e, names_same s.owed m _ owed_place) (Contains-append_left (names_of s.owed m) names name (rw e at h))
    | inr ne ↦ rw (names_other s.owed m k (names_of s.owed m ++ names) ne) h
  ]

  still_safe : (name : Name) → IsSafe (veiled shown s) name → IsSafe (veiled shown next) name
  still_safe name (marked h) = marked h
  still_safe name (owed k h) = owed k (more_owed k name h)
  still_safe name (pushed k h) = pushed k h

  still_ahead : (name : Name) (i : ℕ) → IsAhead (veiled shown s) name i → IsAhead (veiled shown next) name i
  still_ahead name i (unmarked h) = unmarked h
  still_ahead name i (queued entry h e le) = queued entry h e le

  safe_here : (name : Name) → IsSafe next name → IsSafe (veiled shown next) name
  safe_here name (marked h) = marked h
  safe_here name (owed k h) = owed k h
  safe_here name (pushed k h) = pushed k h

  due_safe : (target : Name) → (target ≢ shared_name → IsDue s.snapshot s.world m c target) → IsSafe (veiled shown next) target
  due_safe target is = elim (name_cases target shared_name) [
    | inl g ↦ marked (f.roots target (inl g))
    | inr ne ↦ safe_here target (due target (is ne))
  ]

  now_stands : (u : World) (name : Name) (i : ℕ) (x : Value) → HasStrongField u name i x → HasStrongField (hidden shown u) name i x
  now_stands u name i x h = record { node = h.node; node_is = hidden_node shown u name ∙ h.node_is; field = h.field }

  then_stands : (u : World) (name : Name) (i : ℕ) (x : Value) → HasStrongField (hidden shown u) name i x → HasStrongField u name i x
  then_stands u name i x h = record { node = h.node; node_is = sym (hidden_node shown u name) ∙ h.node_is; field = h.field }

  next_kept : (name : Name) (i : ℕ) (target : Name) → HasStrongField s.snapshot name i (value.Ref target) → Kept (veiled shown s) name i target →
      Kept (veiled shown next) name i target
  next_kept name i target then (inl safe) = inl (still_safe target safe)
  next_kept name i target then (inr h) = elim (stands_or v name i target) [
    | inl stays ↦ inr (now_stands v name i (value.Ref target) stays, still_ahead name i h.1)
    | inr gone ↦ inl (due_safe target (λ ne. record {
      there = target_there s.snapshot f.base.snapshot name target (refers s.snapshot name target i then);
      own = ne;
      why = inl (record { name = name; place = i; then = then; stood = then_stands s.world name i (value.Ref target) h.0; gone = gone });
    }))
  ]

  next_opened : (name : Name) → Contains next.opened name → IsSome (node_of s.snapshot name) → IsSafe (veiled shown next) name
  next_opened name h there = elim (Contains-append_cases s.opened (opened_by s.world m c ++ names) name h) [
    | inl old ↦ still_safe name (f.opened name old there)
    | inr new ↦ elim (Contains-append_cases (opened_by s.world m c) names name new) [
      | inl by ↦ due_safe name (λ ne. record { there = there; own = ne; why = inr (inl by) })
      | inr k ↦ owed m (rw (names_same s.owed m (names_of s.owed m ++ names) owed_place) (Contains-append_right (names_of s.owed m) names name k))
    ]
  ]

  next_ended : (weak : Name) → Contains next.finalised weak → IsSome (node_of s.snapshot weak) → IsSafe (veiled shown next) weak
  next_ended weak h there = elim (Contains-append_cases s.finalised (finalised_by s.world m c) weak h) [
    | inl old ↦ still_safe weak (f.ended weak old there)
    | inr new ↦
        let ends : Ends s.world weak (Rattle.nmgc_world_spec.specs.Reach.owed_by s.world m c) = finalised_owed s.world m c weak new in
        due_safe weak (λ ne. record {
          there = there;
          own = ne;
          why = inr (inr (record {
            weak = weak;
            parts = ends.0;
            ended = new;
            alive = (f.base.weaks weak ends.0 (hidden_node shown s.world weak ∙ ends.1)).old there;
            kept = inl refl;
          }));
        })
  ]

  next_finalised : (weak target : Name) (parts : Parts) → Contains next.finalised weak → IsAlive s.snapshot weak parts →
      IsKeptBy weak parts target → IsSafe (veiled shown next) target
  next_finalised weak target parts h a kept = elim (Contains-append_cases s.finalised (finalised_by s.world m c) weak h) [
    | inl old ↦ still_safe target (f.finalised weak target parts old a kept)
    | inr new ↦ due_safe target (λ ne. record {
      there = part_there s.snapshot f.base.snapshot weak target parts a kept;
      own = ne;
      why = inr (inr (record { weak = weak; parts = parts; ended = new; alive = a; kept = kept }));
    })
  ]

  -- the command keeps the facts
  pub unseen_facts : Facts (veiled shown next)
  unseen_facts = record {
    base = next_base;
    roots = f.roots;
    kept = λ name i target h. next_kept name i target h (f.kept name i target h);
    opened = next_opened;
    ended = next_ended;
    finalised = next_finalised;
  }
