-- A command that owes at least the names that are due, and at most names that may be held, keeps the facts.
use Rattle.std.proofs.{Common.◌≡◌, Common.◌<◌, Common.◌≤◌, Common.ℕ, Common.List, Common.◌++◌, Common.length, Common.refl, Common.sym, Common.subst, Common.◌∙◌, Common.arith, Common.length-set, Common.Option, Common.Some, Common.None, Common.inl, Common.inr, Common.◌⊎◌, Common.ap, lemmas.List.Elements.All-append, lemmas.List.Elements.Contains-append_left, lemmas.List.Elements.Contains-append_cases, lemmas.Bool.cases_eq}
use Rattle.std.specs.Prelude.{IsSome, All, Contains}
use Rattle.nmgc_world_spec.specs.{declared.value.Name.Name, declared.value.Value.Value, declared.node.Parts.Parts, declared.node.Node.Node, declared.node.Node.TheVariants.Weak, declared.command.Command.Command, World.World, World.node_of, World.serial_of, World.shared_name, World.step, Known.IsWorld, Reach.IsAlive, Reach.IsKeptBy, Reach.opened_by, Reach.finalised_by, Reach.values_owed, Reach.owed_by, laws.Orders.name_cases}
use Rattle.nmgc_world_spec.specs.declared.value.Value.TheVariants as value
use Rattle.nmgc_world_laws.specs.{Holds.StillThere, Holds.HasStrongField, Holds.strong_at, laws.Moves.RespectsBarrier, laws.WeakMoves.opened_owed, laws.WeakMoves.Ends, laws.WeakMoves.finalised_owed}
use Rattle.nmgc_snapshot_laws.specs.{Facts.MayHold, Facts.IsSafe, Facts.IsAhead, Facts.Kept, Facts.Base, Facts.Facts, Facts.owed, Facts.pushed, Facts.queued, Facts.marked, Facts.unmarked, State.State, State.names_of, laws.Lives.live_more, laws.Lives.target_there, laws.Lives.part_there, laws.Lives.refers, laws.Listed.each_names, laws.Listed.names_same, laws.Listed.names_other, laws.Listed.names_among_have, laws.Listed.name_among, Machine.after_command}
use Rattle.nmgc_barrier_laws.specs.{Due.IsBroken, Due.IsEnded, Due.IsDue, Lax.after_owing}
use Rattle.nmgc_snapshot_laws.specs.laws.Commands as command

-- a field is there or not
pub stands_or : (w : World) (name : Name) (i : ℕ) (target : Name) → HasStrongField w name i (value.Ref target) ⊎ (HasStrongField w name i (value.Ref target) → ⊥)
stands_or w name i target = by_node (node_of w name) refl
  where
    not_here : (node : Node) → node_of w name ≡ Some node → (strong_at node i ≡ Some (value.Ref target) → ⊥) → HasStrongField w name i (value.Ref target) → ⊥
    not_here node e never h =
        let both : Some node ≡ Some h.node = sym e ∙ h.node_is in
        let is : node ≡ h.node = cc in
        never (subst (λ (n : Node). strong_at n i ≡ Some (value.Ref target)) (sym is) h.field)

    by_value : (node : Node) (o : Option Value) → node_of w name ≡ Some node → strong_at node i ≡ o → HasStrongField w name i (value.Ref target) ⊎
        (HasStrongField w name i (value.Ref target) → ⊥)
    by_value node None e is = inr (not_here node e (λ h. let bad : None ≡ Some (value.Ref target) = sym is ∙ h in absurd cc))
    by_value node (Some value.Nil) e is = inr (not_here node e (λ h. let bad : Some value.Nil ≡ Some (value.Ref target) = sym is ∙ h in absurd cc))
    by_value node (Some (value.Number n)) e is = inr (not_here node e (λ h.
        let bad : Some (value.Number n) ≡ Some (value.Ref target) = sym is ∙ h in absurd cc))
    by_value node (Some (value.Ref other)) e is = elim (name_cases other target) [
      | inl same ↦ inl (record { node = node; node_is = e; field = is ∙ ap (λ (n : Name). Some (value.Ref n)) same })
      | inr ne ↦ inr (not_here node e (λ h. let bad : Some (value.Ref other) ≡ Some (value.Ref target) = sym is ∙ h in
          let same : other ≡ target = cc in absurd (ne same)))
    ]

    by_node : (o : Option Node) → node_of w name ≡ o → HasStrongField w name i (value.Ref target) ⊎ (HasStrongField w name i (value.Ref target) → ⊥)
    by_node None e = inr (λ h. let bad : None ≡ Some h.node = sym e ∙ h.node_is in absurd cc)
    by_node (Some node) e = by_value node (strong_at node i) e refl

module _ (s : State) (f : Facts s) (w : IsWorld s.world) (m : ℕ) (c : Command) (lt : m < length s.world.mutators) where
  abbrev next : State
  next = after_command s m c

  moves : RespectsBarrier (MayHold next) s.world (step s.world m c).0 (values_owed s.world m c)
  moves = command.moves s f w m c lt

  -- the names that the command owes in the marking machine may be held
  pub owes_may : All (MayHold (after_command s m c)) (owed_by s.world m c)
  owes_may = names_among_have (MayHold next) (values_owed s.world m c) moves.owes

  -- all names that are due are among the names that the command owes in the marking machine
  pub due_owed : (target : Name) → IsDue s.snapshot s.world m c target → Contains (owed_by s.world m c) target
  due_owed target d = elim d.why [
    | inl b ↦ elim (moves.stays b.name b.place (value.Ref target) b.stood) [
      | inl stands ↦ absurd (b.gone stands)
      | inr gone ↦ name_among (values_owed s.world m c) target gone
    ]
    | inr (inl o) ↦ opened_owed s.world m c target o
    | inr (inr e) ↦
        let ends : Ends s.world e.weak (owed_by s.world m c) = finalised_owed s.world m c e.weak e.ended in
        let there : IsSome (node_of s.snapshot e.weak) = subst (λ (o : Option Node). IsSome o) (sym e.alive) refl in
        let then : IsAlive s.snapshot e.weak ends.0 = (f.base.weaks e.weak ends.0 ends.1).old there in
        let both : Some (Weak (Some ends.0)) ≡ Some (Weak (Some e.parts)) = sym then ∙ e.alive in
        let same : ends.0 ≡ e.parts = cc in
        ends.2 target (subst (λ (p : Parts). IsKeptBy e.weak p target) (sym same) e.kept)
  ]

  module _ (names : List Name) (given : All (MayHold (after_owing s m c names)) names) (due : (target : Name) →
      IsDue s.snapshot s.world m c target → IsSafe (after_owing s m c names) target) where
    abbrev after : State
    after = after_owing s m c names

    command_base : Base after
    command_base = record {
      snapshot = f.base.snapshot;
      mutators = moves.mutators ∙ f.base.mutators;
      serials = λ k. let a : serial_of s.snapshot k ≤ serial_of s.world k = f.base.serials k in
          let b : serial_of s.world k ≤ serial_of (step s.world m c).0 k = (command.grows s f w m c lt).serials k in omega arith;
      owed_lists = length-set s.owed m _ ∙ f.base.owed_lists ∙ sym moves.mutators;
      pushed_lists = f.base.pushed_lists ∙ sym moves.mutators;
      holds = moves.holds;
      fields = command.next_fields s f w m c lt;
      weaks = command.next_weaks s f w m c lt;
      alive = command.next_alive s f w m c lt;
      owed = each_names (All (MayHold after)) s.owed m _ (command.owed_place s f w m c lt)
          (All-append (MayHold after) (names_of s.owed m) names (command.more_names s f w m c lt (names_of s.owed m) (f.base.owed m)) given) (λ k.
          command.more_names s f w m c lt (names_of s.owed k) (f.base.owed k));
      pushed = λ k. command.more_names s f w m c lt (names_of s.pushed k) (f.base.pushed k);
      later = λ name before e.
          let t : StillThere s.world name before = f.base.later name before e in
          let r : StillThere (step s.world m c).0 name t.node = moves.later name t.node t.node_is in
          record { node = r.node; node_is = r.node_is; later = record { free = r.later.free ∙ t.later.free; result = λ k. r.later.result (t.later.result k) } };
      live = λ name k. live_more s.snapshot s.opened (opened_by s.world m c) name (f.base.live name k);
      queued = f.base.queued;
      passed = f.base.passed;
    }

    -- a name that was owed stays owed
    more_owed : (k : ℕ) (name : Name) → Contains (names_of s.owed k) name → Contains (names_of after.owed k) name
    more_owed k name h = elim (cases_eq k m) [
      | inl e ↦ rw (e, names_same s.owed m _ (command.owed_place s f w m c lt)) (Contains-append_left (names_of s.owed m) names name (rw e at h))
      | inr ne ↦ rw (names_other s.owed m k (names_of s.owed m ++ names) ne) h
    ]

    still_safe : (name : Name) → IsSafe s name → IsSafe after name
    still_safe name (marked h) = marked h
    still_safe name (owed k h) = owed k (more_owed k name h)
    still_safe name (pushed k h) = pushed k h

    still_ahead : (name : Name) (i : ℕ) → IsAhead s name i → IsAhead after name i
    still_ahead name i (unmarked h) = unmarked h
    still_ahead name i (queued entry h e le) = queued entry h e le

    -- each name that is due is safe, and so is g
    due_safe : (target : Name) → IsSome (node_of s.snapshot target) →
        (IsBroken s.snapshot s.world (step s.world m c).0 target ⊎
        (Contains (opened_by s.world m c) target ⊎ IsEnded s.snapshot s.world m c target)) → IsSafe after target
    due_safe target there why = elim (name_cases target shared_name) [
      | inl g ↦ marked (f.roots target (inl g))
      | inr ne ↦ due target (record { there = there; own = ne; why = why })
    ]

    -- an unchanged field of the snapshot stays unchanged, or this command breaks it
    command_kept : (name : Name) (i : ℕ) (target : Name) → HasStrongField s.snapshot name i (value.Ref target) → Kept s name i target → Kept after name i target
    command_kept name i target then (inl safe) = inl (still_safe target safe)
    command_kept name i target then (inr h) = elim (stands_or (step s.world m c).0 name i target) [
      | inl stands ↦ inr (stands, still_ahead name i h.1)
      | inr gone ↦ inl (due_safe target (target_there s.snapshot f.base.snapshot name target (refers s.snapshot name target i then))
          (inl (record { name = name; place = i; then = then; stood = h.0; gone = gone })))
    ]

    command_opened : (name : Name) → Contains after.opened name → IsSome (node_of s.snapshot name) → IsSafe after name
    command_opened name h there = elim (Contains-append_cases s.opened (opened_by s.world m c) name h) [
      | inl old ↦ still_safe name (f.opened name old there)
      | inr new ↦ due_safe name there (inr (inl new))
    ]

    command_ended : (weak : Name) → Contains after.finalised weak → IsSome (node_of s.snapshot weak) → IsSafe after weak
    command_ended weak h there = elim (Contains-append_cases s.finalised (finalised_by s.world m c) weak h) [
      | inl old ↦ still_safe weak (f.ended weak old there)
      | inr new ↦
          let ends : Ends s.world weak (owed_by s.world m c) = finalised_owed s.world m c weak new in
          due_safe weak there (inr (inr (record {
            weak = weak;
            parts = ends.0;
            ended = new;
            alive = (f.base.weaks weak ends.0 ends.1).old there;
            kept = inl refl;
          })))
    ]

    command_finalised : (weak target : Name) (parts : Parts) → Contains after.finalised weak → IsAlive s.snapshot weak parts →
        IsKeptBy weak parts target → IsSafe after target
    command_finalised weak target parts h a kept = elim (Contains-append_cases s.finalised (finalised_by s.world m c) weak h) [
      | inl old ↦ still_safe target (f.finalised weak target parts old a kept)
      | inr new ↦ due_safe target (part_there s.snapshot f.base.snapshot weak target parts a kept) (inr (inr (record {
        weak = weak;
        parts = parts;
        ended = new;
        alive = a;
        kept = kept;
      })))
    ]

    pub given_facts : Facts (after_owing s m c names)
    given_facts = record {
      base = command_base;
      roots = f.roots;
      kept = λ name i target h. command_kept name i target h (f.kept name i target h);
      opened = command_opened;
      ended = command_ended;
      finalised = command_finalised;
    }
