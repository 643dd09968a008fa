-- No command and no closing changes the shape of an object.
use Rattle.nmgc_world_laws.specs.{laws.Vocabulary.◌≡◌, laws.Vocabulary.◌≢◌, laws.Vocabulary.[], laws.Vocabulary.◌∷◌, laws.Vocabulary.refl, laws.Vocabulary.sym, laws.Vocabulary.ap, laws.Vocabulary.subst, laws.Vocabulary.◌∙◌, laws.Vocabulary.Option, laws.Vocabulary.Some, laws.Vocabulary.None, laws.Vocabulary.inl, laws.Vocabulary.inr, laws.Vocabulary.IfSome, laws.Vocabulary.SHARED_MAKER, laws.Vocabulary.Name, laws.Vocabulary.Node, laws.Vocabulary.Weak, laws.Vocabulary.World, laws.Vocabulary.state_of, laws.Vocabulary.node_of, laws.Vocabulary.changed, laws.Vocabulary.next_name, laws.Vocabulary.step, laws.Vocabulary.closed_by, laws.Vocabulary.at_some, laws.Vocabulary.is_some_of, laws.Vocabulary.SameShape, laws.Vocabulary.KeepsShapes, laws.Vocabulary.StepKeepsShapes, laws.Vocabulary.RowsKeepShapes, laws.Vocabulary.ClosingKeepsShapes, laws.Growth.step_grows, laws.Worlds.not_shared, laws.NodeLaws.next_is_new, laws.WorldSteps.step_keeps_world, laws.HeldSteps.absent, laws.HeldSteps.some_of, laws.Deaths.Dies, laws.Deaths.dies_by, laws.NodeShapes.same_shape, laws.NodeShapes.then_shape, laws.NodeShapes.changed_shape, laws.Keeps.Any, laws.Keeps.stepped, laws.Keeps.stepped_nodes}

-- the node has the shape that it had in an earlier world
abbrev IsAsBefore : World → Name → Node → Type 0
IsAsBefore w name node = (before : Node) → node_of w name ≡ Some before → SameShape before node

-- a world's own nodes have it
as_before : (w : World) (name : Name) → IfSome (node_of w name) (IsAsBefore w name)
as_before w name = by (node_of w name) refl
  where
    by : (o : Option Node) → node_of w name ≡ o → IfSome o (IsAsBefore w name)
    by None e = tt
    by (Some now) e = λ before was. let same : before ≡ now = cc in subst (SameShape before) same (same_shape before)

pub keeps_none : (w : World) → KeepsShapes w w
keeps_none w name before is = (before, is, same_shape before)

pub keeps_both : (u v w : World) → KeepsShapes u v → KeepsShapes v w → KeepsShapes u w
keeps_both u v w p q name before is =
    let a = p name before is in
    let b = q name a.0 a.1 in
    (b.0, b.1, then_shape before a.0 b.0 a.2 b.2)

pub step_keeps_shapes : StepKeepsShapes
step_keeps_shapes w m c is can name before was =
    let own : m ≢ SHARED_MAKER = not_shared w m is can.mutator in
    let v : World = (step w m c).0 in
    let there = is_some_of (node_of v name) ((step_grows w m c can.mutator).names name (some_of (node_of w name) before was)) in (
      there.0,
      there.1,
      at_some (node_of v name) there.0 (IsAsBefore w name) there.1
          (stepped_nodes Any (IsAsBefore w) w m c can.mutator own
          (λ made b old e. absurd (absent (node_of w (next_name (state_of w m) m)) (next_is_new w m own)
          (some_of (node_of w (next_name (state_of w m) m)) old e)))
          (λ at found ch e q h old o. then_shape old found (changed ch at.maker found).0 (h old o) (changed_shape ch at.maker found))
          v (stepped w m c) (as_before w) name)
          before was,
    )

pub rows_keep_shapes : RowsKeepShapes
rows_keep_shapes w [] is can = keeps_none w
rows_keep_shapes w (row ∷ rows) is can =
    let v : World = (step w row.mutator row.command).0 in
    keeps_both w v _ (step_keeps_shapes w row.mutator row.command is can.0)
    (rows_keep_shapes v rows (step_keeps_world w row.mutator row.command is can.0) can.1)

-- a weak pointer that dies keeps its shape
dies_shapes : (w v : World) (d : Name) → Dies w v d → KeepsShapes w v
dies_shapes w v d dies name before was = elim (dies.nodes name) [
  | inl same ↦ (before, same ∙ was, same_shape before)
  | inr gone ↦
      let at : node_of w name ≡ Some (Weak (Some gone.2.0)) = ap (λ (n : Name). node_of w n) gone.0 ∙ gone.2.1 in
      let both : Some (Weak (Some gone.2.0)) ≡ Some before = sym at ∙ was in
      let is : Weak (Some gone.2.0) ≡ before = cc in
      (Weak None, gone.1, subst (λ (node : Node). SameShape node (Weak None)) is (record { kind = refl; tag = refl; parts = refl }))
]

pub closing_keeps_shapes : ClosingKeepsShapes
closing_keeps_shapes w [] is = keeps_none w
closing_keeps_shapes w (d ∷ weaks) is = let dies = dies_by w is d in
    keeps_both w (closed_by w d (node_of w d)) _ (dies_shapes w (closed_by w d (node_of w d)) d dies)
    (closing_keeps_shapes (closed_by w d (node_of w d)) weaks dies.world)
