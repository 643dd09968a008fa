-- Commands that fit keep a world within the limits, and so does a closing.
use Rattle.std.specs.Prelude.{◌≡◌, ◌≢◌, ◌<◌, ◌≤◌, ◌+◌, ◌∷◌}
use Rattle.nmgc_world_laws.specs.laws.Vocabulary.{ℕ, List, [], length, map, sym, ap, subst, ◌∙◌, arith, Option, Some, None, inl, inr, IfSome, All, replicate, length-replicate, length-map, All-cons, All-nil, All-set, All-push, All-tail, All-head, All-replicate, Command, SHARED_MAKER, Name, Value, Node, Con, Weak, MutatorState, Fits, World, state_of, node_of, held_by, changed, tag_read, value_for, value_of, next_name, step, given, Row, closed_by, at_some, SameShape, kind_of, tag_of, part_count, words_of, made_by, IsSmall, HasLimits, IsNodeWithin, IsWithin, StepKeepsLimits, RowsKeepLimits, ClosingKeepsLimits}
use Rattle.nmgc_world_spec.specs.declared.command.Command.TheVariants as command
use Rattle.nmgc_world_spec.specs.declared.value.Value.TheVariants as value
use Rattle.nmgc_world_laws.specs.laws.{Worlds.not_shared, NodeLaws.each_state, NodeLaws.states_kept, WorldSteps.step_keeps_world, Deaths.Dies, Deaths.dies_by, Steps.Hand, Steps.Object, Steps.Stepped, Steps.AllHeld, Steps.OfNumber, Steps.operand_held, Steps.operands_held, Steps.changed_held, Steps.step_is, Keeps.still_there, Keeps.stepped_nodes, NodeShapes.changed_shape}

-- registers and queues, if references have the property
module _ (Q : Value → Type 0) (named : (name : Name) → Q (value.Ref name)) where
  abbrev pub HandHas : MutatorState → Type 0
  HandHas s = All Q s.registers × All Q s.queue

  object_hands : (w : World) (m : ℕ) (c : Command) (v : World) → m < length w.mutators → Object Q w m c v → ((k : ℕ) → HandHas (state_of w k)) →
      (k : ℕ) → HandHas (state_of v k)
  object_hands w m c v lt (Object.same e) h k = subst (λ (u : World). HandHas (state_of u k)) (sym e) (h k)
  object_hands w m c v lt (Object.birth register made is e) h k =
      rw e (each_state w m _ lt HandHas
      (All-set Q (state_of w m).registers register (value.Ref (next_name (state_of w m) m)) (named (next_name (state_of w m) m)) (h m).0, (h m).1) h k)
  object_hands w m c v lt (Object.write name found ch there asks q e) h k =
      subst (λ (u : World). HandHas (state_of u k)) (sym e) (states_kept w name found (changed ch name.maker found).0 there HandHas (λ s nodes r. r) h k)

  hand_hands : (w : World) (m : ℕ) (v : World) → m < length w.mutators → Hand Q w m v → ((k : ℕ) → HandHas (state_of w k)) → (k : ℕ) → HandHas (state_of v k)
  hand_hands w m v lt (Hand.same e) h k = subst (λ (u : World). HandHas (state_of u k)) (sym e) (h k)
  hand_hands w m v lt (Hand.other registers queue e hr hq) h k =
      subst (λ (u : World). HandHas (state_of u k)) (sym e) (each_state w m _ lt HandHas (hr, hq) h k)

  pub stepped_hands : (w : World) (m : ℕ) (c : Command) (v : World) → m < length w.mutators → Stepped Q w m c v →
      ((k : ℕ) → HandHas (state_of w k)) → (k : ℕ) → HandHas (state_of v k)
  stepped_hands w m c v lt s h = hand_hands s.between m v (still_there Q w m c v lt s) s.hand (object_hands w m c s.between lt s.object h)

-- the node that a command makes is within the limits
abbrev IsFit : ℕ → Node → Type 0
IsFit words node = All IsSmall (held_by node) × HasLimits (kind_of node) (tag_of node) (part_count node) × (words_of node ≤ words)

module _ (words : ℕ) (w : World) (m : ℕ) (h : IsWithin words w) where
  small : (o : _) → IsSmall (value_for w m o)
  small o = operand_held IsSmall (state_of w m).registers o tt tt (h.registers m)

  pub made_fits : (c : Command) → Fits words c → IfSome (made_by w m c) (IsFit words)
  made_fits (command.Con dest tag fields) f =
      let count : length (map (value_of (state_of w m).registers) fields) ≡ length fields = length-map fields (value_of (state_of w m).registers) in
      let few : 2 + length fields ≤ words = f.size in
      (operands_held IsSmall (state_of w m).registers fields tt tt (h.registers m), f.numbers, omega (arith, count, few))
  made_fits (command.Var dest v) f = (All-cons IsSmall (value_for w m v) [] (small v) (All-nil IsSmall), tt, f.size)
  made_fits (command.Arr dest count v) f =
      let many : length (replicate count (value_for w m v)) ≡ count = length-replicate count (value_for w m v) in
      let low : count < 65536 = f.numbers in
      let few : 2 + count ≤ words = f.size in
      (All-replicate IsSmall count (value_for w m v) (small v), omega (arith, many, low), omega (arith, many, few))
  made_fits (command.Rec dest fields) f =
      let count : length (map (value_of (state_of w m).registers) fields) ≡ length fields = length-map fields (value_of (state_of w m).registers) in
      let low : length fields < 65536 = f.numbers in
      let few : 2 + length fields ≤ words = f.size in
      (operands_held IsSmall (state_of w m).registers fields tt tt (h.registers m), omega (arith, count, low), omega (arith, count, few))
  made_fits (command.Thunk dest free) f =
      let count : length (map (value_of (state_of w m).registers) free) ≡ length free = length-map free (value_of (state_of w m).registers) in
      let low : length free ≤ 8 = f.numbers in
      let few : 3 + length free ≤ words = f.size in
      (operands_held IsSmall (state_of w m).registers free tt tt (h.registers m), omega (arith, count, low), omega (arith, count, few))
  made_fits (command.Weak dest key v finaliser) f = (
    All-cons IsSmall (value_for w m key) (value_for w m v ∷ value_for w m finaliser ∷
        []) (small key) (All-cons IsSmall (value_for w m v) (value_for w m finaliser ∷
        []) (small v) (All-cons IsSmall (value_for w m finaliser) [] (small finaliser) (All-nil IsSmall))),
    tt,
    f.size,
  )
  made_fits (command.Stack dest size) f = (All-nil IsSmall, f.numbers, f.size)
  made_fits _ f = tt

  number_fits : (c : Command) → Fits words c → OfNumber IsSmall c
  number_fits (command.Num dest n) f = f.numbers
  number_fits _ f = tt

  all_small : AllHeld IsSmall w
  all_small = record {
    registers = h.registers;
    queues = h.queues;
    nodes = λ name. by_node name (node_of w name) (h.nodes name);
    tags = λ name. tagged name (node_of w name) (h.nodes name);
  }
    where
      tagged : (name : Name) (o : Option Node) → IfSome o (IsNodeWithin words name) → IfSome o (λ (node : Node). IfSome (given (tag_read node)) IsSmall)
      tagged name (Some (Con tag values)) k = let low : tag < 256 = k.shape in omega (arith, low)
      tagged name _ k = tt

      by_node : (name : Name) (o : Option Node) → IfSome o (IsNodeWithin words name) → IfSome o (λ (node : Node). All IsSmall (held_by node))
      by_node name None k = tt
      by_node name (Some node) k = k.held

  pub within_steps : (c : Command) → Fits words c → Stepped IsSmall w m c (step w m c).0
  within_steps c f = step_is IsSmall w m c all_small (record { nil = tt; shared = tt; number = number_fits c f })

-- limits that depend on the shape stay, since the shape stays
shape_within : (words : ℕ) (name : Name) (before after : Node) → SameShape before after → All IsSmall (held_by after) →
    IsNodeWithin words name before → IsNodeWithin words name after
shape_within words name before after s held h = record {
  held = held;
  shape = rw s.kind (rw s.tag (rw s.parts h.shape));
  size = λ ne. let old : words_of before ≤ words = h.size ne in let same : part_count after ≡ part_count before = s.parts in omega (arith, old, same);
}

pub step_keeps_limits : StepKeepsLimits
step_keeps_limits words w m c is can f h =
    let own : m ≢ SHARED_MAKER = not_shared w m is can.mutator in
    let s : Stepped IsSmall w m c (step w m c).0 = within_steps words w m h c f in
    let hands = stepped_hands IsSmall (λ name. tt) w m c (step w m c).0 can.mutator s (λ k. (h.registers k, h.queues k)) in
    record {
      registers = λ k. (hands k).0;
      queues = λ k. (hands k).1;
      nodes = stepped_nodes IsSmall (IsNodeWithin words) w m c can.mutator own
          (λ made is. let b : IsFit words made = at_some (made_by w m c) made (IsFit words) is (made_fits words w m h c f) in
          record { held = b.0; shape = b.1; size = λ ne. b.2 })
          (λ name found ch there q k.
          shape_within words name found (changed ch name.maker found).0 (changed_shape ch name.maker found)
          (changed_held IsSmall ch name.maker found q k.held) k)
          (step w m c).0 s h.nodes;
    }

pub rows_keep_limits : RowsKeepLimits
rows_keep_limits words w [] is can fits h = h
rows_keep_limits words w (row ∷ rows) is can fits h =
    rows_keep_limits words (step w row.mutator row.command).0 rows (step_keeps_world w row.mutator row.command is can.0) can.1
    (All-tail (λ (r : Row). Fits words r.command) row rows fits)
    (step_keeps_limits words w row.mutator row.command is can.0 (All-head (λ (r : Row). Fits words r.command) row rows fits) h)

-- the death of a weak pointer keeps the limits
dies_within : (words : ℕ) (w v : World) (d : Name) → Dies w v d → IsWithin words w → IsWithin words v
dies_within words w v d dies h = record {
  registers = λ k. subst (λ (values : List Value). All IsSmall values) (sym (dies.registers k)) (h.registers k);
  queues = λ k. elim (dies.queues k) [
    | inl same ↦ subst (λ (values : List Value). All IsSmall values) (sym same) (h.queues k)
    | inr more ↦ elim more.2 [
      | inl same ↦ subst (λ (values : List Value). All IsSmall values) (sym same) (h.queues k)
      | inr joined ↦
          let node : IsNodeWithin words d (Weak (Some more.0)) = at_some (node_of w d) (Weak (Some more.0)) (IsNodeWithin words d) more.1 (h.nodes d) in
          let last : All IsSmall (more.0.finaliser ∷ []) = All-tail IsSmall more.0.value (more.0.finaliser ∷
          []) (All-tail IsSmall more.0.key (more.0.value ∷ more.0.finaliser ∷ []) node.held) in
          rw joined (All-push IsSmall (state_of w k).queue more.0.finaliser (h.queues k) (All-head IsSmall more.0.finaliser [] last))
    ]
  ];
  nodes = λ n. elim (dies.nodes n) [
    | inl same ↦ subst (λ (o : Option Node). IfSome o (IsNodeWithin words n)) (sym same) (h.nodes n)
    | inr gone ↦
        let at : node_of w n ≡ Some (Weak (Some gone.2.0)) = ap (λ (k : Name). node_of w k) gone.0 ∙ gone.2.1 in
        let was : IsNodeWithin words n (Weak (Some gone.2.0)) = at_some (node_of w n) (Weak (Some gone.2.0)) (IsNodeWithin words n) at (h.nodes n) in
        subst (λ (o : Option Node). IfSome o (IsNodeWithin words n)) (sym gone.1) (record { held = All-nil IsSmall; shape = tt; size = was.size })
  ];
}

pub closing_keeps_limits : ClosingKeepsLimits
closing_keeps_limits words w [] is h = h
closing_keeps_limits words w (d ∷ weaks) is h = let dies = dies_by w is d in
    closing_keeps_limits words (closed_by w d (node_of w d)) weaks dies.world (dies_within words w (closed_by w d (node_of w d)) d dies h)
