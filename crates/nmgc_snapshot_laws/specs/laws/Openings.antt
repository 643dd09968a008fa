-- The facts hold at the opening: the mutators hold live names, and every root is marked.
use Rattle.std.specs.Prelude.{◌≡◌, ◌<◌, ◌∷◌, ◌++◌, ◌⊎◌}
use Rattle.nmgc_snapshot_laws.specs.laws.Vocabulary.{ℕ, List, [], same_Some, RefersTo, zero, suc, length, replicate, refl, sym, subst, ◌∙◌, arith, Option, Some, None, inl, inr, IsSome, IfSome, All, Contains, flat_map, slice_get, length-replicate, get_or_past, All-head, All-tail, All-nil, All-append, Contains-append_left, Contains-append_right, Contains-append_cases, Contains-get_or, cases_lt, Name, Value, Node, MutatorState, World, state_of, node_of, no_mutator, IsWorld, shared_name, IsRoot, root, field, strong_fields, Order, State, names_of, mark_name, mark_values, root_values, opening_in, get_or_from_slice_get, nothing_in, one_is, contains_one, contains_flat, place_of, contains_cases, contains_head, contains_tail, name_cases, same_later, Fields, Names, HasStrongField, MayHold, IsLiveIn, Kept, Base, Facts, marked}
use Rattle.nmgc_snapshot_laws.specs.{State.unmarked, laws.Listed.all_from_contains, laws.Lives.target_there, laws.Lives.refers, laws.Lives.root_there, laws.Marking.mark_cases, laws.Marking.mark_base, laws.Marking.marked_then, laws.Marking.still_marked, laws.Marking.kept_then}
use Rattle.nmgc_world_spec.specs.declared.value.Value.TheVariants as value
use Rattle.nmgc_snapshot_laws.specs.Facts as facts

pub no_names : (n m : ℕ) → names_of (replicate n []) m ≡ []
no_names zero m = refl
no_names (suc n) zero = refl
no_names (suc n) (suc m) = no_names n m

module _ (order : Order) (w : World) (h : IsWorld w) where
  abbrev start : State
  start = unmarked order w

  of_fields : (node : Node) (name : Name) → MayHold start name → node_of w name ≡ Some node → Fields (Names (MayHold start)) node
  of_fields node name may is = all_from_contains (MayHold start) (strong_fields node) (λ target c there.
      field name target (may (subst (λ o. IsSome o) (sym is) refl)) (node, is, c))

  start_base : Base start
  start_base = record {
    snapshot = h;
    mutators = refl;
    serials = λ k. omega arith;
    owed_lists = length-replicate (length w.mutators) [];
    pushed_lists = length-replicate (length w.mutators) [];
    holds = record {
      registers = λ k. all_from_contains (MayHold start) (state_of w k).registers (λ name c there.
          root name (inr (k, Contains-append_left (state_of w k).registers (state_of w k).queue (value.Ref name) c)));
      queues = λ k. all_from_contains (MayHold start) (state_of w k).queue (λ name c there.
          root name (inr (k, Contains-append_right (state_of w k).registers (state_of w k).queue (value.Ref name) c)));
      fields = λ name may. by_node name may (node_of w name) refl;
    };
    fields = λ name target r. inr r;
    weaks = λ weak parts a. record { old = λ there. a; new = λ gone. absurd (gone (subst (λ (o : Option Node). IsSome o) (sym a) refl)) };
    alive = λ weak parts a not. a;
    owed = λ m. rw (no_names (length w.mutators) m) (All-nil (MayHold start));
    pushed = λ m. rw (no_names (length w.mutators) m) (All-nil (MayHold start));
    later = λ name before e. record { node = before; node_is = e; later = same_later before };
    live = λ name c. subst (IsLiveIn start) (one_is shared_name name c) (root shared_name (inl refl));
    queued = λ entry c. absurd (nothing_in entry c);
    passed = λ entry c. absurd (nothing_in entry c);
  }
    where
      by_node : (name : Name) → MayHold start name → (o : Option Node) → node_of w name ≡ o → IfSome o (Fields (Names (MayHold start)))
      by_node name may None is = tt
      by_node name may (Some node) is = of_fields node name may is

-- marking values in order
values_base : (s : State) (values : List Value) → Base s → All (Names (MayHold s)) values → Base (mark_values s values)
values_base s [] b h = b
values_base s (value.Nil ∷ values) b h = values_base s values b (All-tail (Names (MayHold s)) value.Nil values h)
values_base s (value.Number n ∷ values) b h = values_base s values b (All-tail (Names (MayHold s)) (value.Number n) values h)
values_base s (value.Ref name ∷ values) b h =
    values_base (mark_name s name) values (mark_base s name b (All-head (Names (MayHold s)) (value.Ref name) values h))
    (mark_cases (λ t. All (Names (MayHold t)) values) s name (λ e. All-tail (Names (MayHold s)) (value.Ref name) values h) (λ e.
    All-tail (Names (MayHold s)) (value.Ref name) values h))

-- the snapshot stays
values_snapshot : (s : State) (values : List Value) → (mark_values s values).snapshot ≡ s.snapshot
values_snapshot s [] = refl
values_snapshot s (value.Nil ∷ values) = values_snapshot s values
values_snapshot s (value.Number n ∷ values) = values_snapshot s values
values_snapshot s (value.Ref name ∷ values) = values_snapshot (mark_name s name) values ∙
    mark_cases (λ t. t.snapshot ≡ s.snapshot) s name (λ e. refl) (λ e. refl)

-- the opened and the finalised names stay
values_lists : (s : State) (values : List Value) → ((mark_values s values).opened ≡ s.opened) × ((mark_values s values).finalised ≡ s.finalised)
values_lists s [] = (refl, refl)
values_lists s (value.Nil ∷ values) = values_lists s values
values_lists s (value.Number n ∷ values) = values_lists s values
values_lists s (value.Ref name ∷ values) =
    let rest = values_lists (mark_name s name) values in (
      rest.0 ∙ mark_cases (λ t. t.opened ≡ s.opened) s name (λ e. refl) (λ e. refl),
      rest.1 ∙
          mark_cases (λ t. t.finalised ≡ s.finalised) s name (λ e. refl) (λ e. refl),
    )

values_still : (s : State) (values : List Value) (name : Name) → Contains s.marked name → Contains (mark_values s values).marked name
values_still s [] name c = c
values_still s (value.Nil ∷ values) name c = values_still s values name c
values_still s (value.Number n ∷ values) name c = values_still s values name c
values_still s (value.Ref other ∷ values) name c = values_still (mark_name s other) values name (still_marked s other name c)

values_marked : (s : State) (values : List Value) (name : Name) → IsSome (node_of s.snapshot name) → Contains values (value.Ref name) →
    Contains (mark_values s values).marked name
values_marked s [] name there c = absurd (nothing_in (value.Ref name) c)
values_marked s (value.Nil ∷ values) name there c = elim (contains_cases value.Nil values (value.Ref name) c) [
  | inl e ↦ absurd cc
  | inr r ↦
      values_marked s values name there r
]
values_marked s (value.Number n ∷ values) name there c = elim (contains_cases (value.Number n) values (value.Ref name) c) [
  | inl e ↦ absurd cc
  | inr r ↦ values_marked s values name there r
]
values_marked s (value.Ref other ∷ values) name there c = elim (contains_cases (value.Ref other) values (value.Ref name) c) [
  | inl e ↦ let same : other ≡ name = cc in values_still (mark_name s other) values name (subst (λ (n : Name).
      Contains (mark_name s n).marked name) (sym same) (marked_then s name there))
  | inr r ↦ values_marked (mark_name s other) values name (mark_cases (λ t. IsSome (node_of t.snapshot name)) s other (λ e. there) (λ e. there)) r
]

values_kept : (s : State) (values : List Value) (n : Name) (i : ℕ) (target : Name) → Kept s n i target → Kept (mark_values s values) n i target
values_kept s [] n i target k = k
values_kept s (value.Nil ∷ values) n i target k = values_kept s values n i target k
values_kept s (value.Number m ∷ values) n i target k = values_kept s values n i target k
values_kept s (value.Ref name ∷ values) n i target k = values_kept (mark_name s name) values n i target (kept_then s name n i target k)

module _ (order : Order) (w : World) (h : IsWorld w) where
  -- a mutator's values are among the roots' values
  state_there : (k : ℕ) → (k < length w.mutators) ⊎ (state_of w k ≡ no_mutator)
  state_there k = elim (cases_lt k (length w.mutators)) [ inl lt ↦ inl lt | inr le ↦ inr (get_or_past w.mutators k no_mutator le) ]

  held_is_root : (name : Name) → IsRoot w name → (name ≡ shared_name) ⊎ Contains (root_values w) (value.Ref name)
  held_is_root name (inl g) = inl g
  held_is_root name (inr (k, c)) = elim (state_there k) [
    | inr past ↦ let empty : Contains ((no_mutator).registers ++ (no_mutator).queue) (value.Ref name) = rw past at c in
        absurd (nothing_in (value.Ref name) empty)
    | inl lt ↦ inr (elim (Contains-append_cases (state_of w k).registers (state_of w k).queue (value.Ref name) c) [
      | inl r ↦ Contains-append_left (flat_map (λ (s : MutatorState).
          s.registers) w.mutators) _ (value.Ref name) (contains_flat (λ (s : MutatorState).
          s.registers) w.mutators (state_of w k) (value.Ref name) (Contains-get_or w.mutators k no_mutator lt) r)
      | inr q ↦ Contains-append_right (flat_map (λ (s : MutatorState).
          s.registers) w.mutators) _ (value.Ref name) (Contains-append_left (flat_map (λ (s : MutatorState).
          s.queue) w.mutators) (strong_fields w.shared) (value.Ref name) (contains_flat (λ (s : MutatorState).
          s.queue) w.mutators (state_of w k) (value.Ref name) (Contains-get_or w.mutators k no_mutator lt) q))
    ])
  ]

  slot_is_root : (v : Value) → Contains (strong_fields w.shared) v → Contains (root_values w) v
  slot_is_root v c = Contains-append_right (flat_map (λ (s : MutatorState).
      s.registers) w.mutators) _ v (Contains-append_right (flat_map (λ (s : MutatorState). s.queue) w.mutators) (strong_fields w.shared) v c)

  -- the roots' values are live
  each_flat : (P : Name → Type 0) (f : MutatorState → List Value) (states : List MutatorState) →
      ((s : MutatorState) → Contains states s → All (Names P) (f s)) → All (Names P) (flat_map f states)
  each_flat P f [] g = All-nil (Names P)
  each_flat P f (s ∷ states) g = All-append (Names P) (f s) (flat_map f states) (g s (contains_head s states)) (each_flat P f states (λ t c.
      g t (contains_tail s states t c)))

  roots_held : All (Names (MayHold (unmarked order w))) (root_values w)
  roots_held =
      let P : Name → Type 0 = MayHold (unmarked order w) in
      let b : Base (unmarked order w) = start_base order w h in
      All-append (Names P) (flat_map (λ (s : MutatorState). s.registers) w.mutators) _
      (each_flat P (λ (s : MutatorState). s.registers) w.mutators (λ s c.
      let p : (i : ℕ) × (slice_get w.mutators i ≡ Some s) = place_of w.mutators s c in
      subst (λ (t : MutatorState). All (Names P) t.registers) (get_or_from_slice_get w.mutators p.0 s no_mutator p.1) (b.holds.registers p.0)))
      (All-append (Names P) (flat_map (λ (s : MutatorState). s.queue) w.mutators) (strong_fields w.shared)
      (each_flat P (λ (s : MutatorState). s.queue) w.mutators (λ s c.
      let p : (i : ℕ) × (slice_get w.mutators i ≡ Some s) = place_of w.mutators s c in
      subst (λ (t : MutatorState). All (Names P) t.queue) (get_or_from_slice_get w.mutators p.0 s no_mutator p.1) (b.holds.queues p.0)))
      (of_fields order w h w.shared shared_name (λ there. root shared_name (inl refl)) refl))

  root_marked : (name : Name) → IsRoot w name → Contains (opening_in order w).marked name
  root_marked name r = elim (held_is_root name r) [
    | inl g ↦ values_still (unmarked order w) (root_values w) name (subst (λ (n : Name). Contains (shared_name ∷ []) n) (sym g) (contains_one shared_name))
    | inr c ↦ values_marked (unmarked order w) (root_values w) name (root_there w h name r) c
  ]

  -- the targets of g's slots are marked
  pub slot_marked : (target : Name) → RefersTo w shared_name target → Contains (opening_in order w).marked target
  slot_marked target (node, is, c) =
      let same : node ≡ w.shared = same_Some node w.shared (sym is) in
      values_marked (unmarked order w) (root_values w) target (target_there w h shared_name target (node, is, c))
      (slot_is_root (value.Ref target) (subst (λ (a : Node). Contains (strong_fields a) (value.Ref target)) same c))

  open_kept : (n : Name) (i : ℕ) (target : Name) → HasStrongField w n i (value.Ref target) → Kept (opening_in order w) n i target
  open_kept n i target st = elim (name_cases n shared_name) [
    | inl g ↦ inl (marked (slot_marked target (subst (λ (a : Name). RefersTo w a target) g (refers w n target i st))))
    | inr ne ↦ values_kept (unmarked order w) (root_values w) n i target (inr (st, facts.unmarked (λ c. ne (sym (one_is shared_name n c)))))
  ]

  pub opening_facts : Facts (opening_in order w)
  opening_facts =
      let e : (opening_in order w).snapshot ≡ w = values_snapshot (unmarked order w) (root_values w) in
      record {
        base = values_base (unmarked order w) (root_values w) (start_base order w h) roots_held;
        roots = λ name r. root_marked name (subst (λ (v : World). IsRoot v name) e r);
        kept = λ n i target st. open_kept n i target (subst (λ (v : World). HasStrongField v n i (value.Ref target)) e st);
        opened = λ name c there. absurd (nothing_in name (rw (values_lists (unmarked order w) (root_values w)).0 at c));
        ended = λ weak c there. absurd (nothing_in weak (rw (values_lists (unmarked order w) (root_values w)).1 at c));
        finalised = λ weak target parts c alive kept. absurd (nothing_in weak (rw (values_lists (unmarked order w) (root_values w)).1 at c));
      }
