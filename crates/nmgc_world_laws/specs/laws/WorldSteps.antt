-- A command leaves a world: every reference in it still names a node of it.
use Rattle.std.specs.Prelude.{◌≡◌, ◌<◌, ◌∷◌}
use Rattle.nmgc_world_laws.specs.laws.Vocabulary.{ℕ, [], length, refl, sym, subst, ◌∙◌, arith, Option, Some, None, inl, inr, IsSome, All-nil, All-cons, All-replicate, eqb_tells, SHARED_MAKER, Command, Reply, Change, Value, Node, World, IsWorld, IsKnown, IsKnownReply, IsKnownChange, node_of, changed, field_read, tag_read, result_read, value_read, CanApply, step, value_for, keeping, change_node, change_object, change_into, one_has, some_is}
use Rattle.nmgc_world_spec.specs.declared.command.Command.TheVariants as command
use Rattle.nmgc_world_spec.specs.declared.command.Reply.TheVariants as reply
use Rattle.nmgc_world_spec.specs.declared.change.Change.TheVariants as change
use Rattle.nmgc_world_spec.specs.declared.value.Value.TheVariants as value
use Rattle.nmgc_world_laws.specs.laws.{Barrier.tag_read_has, Nodes.field_read_known, Nodes.result_read_known, Nodes.value_read_known, Worlds.holding_keeps, Worlds.finaliser_keeps, Worlds.born_keeps, Worlds.operand_known, Worlds.operands_known, Worlds.read_known, Worlds.is_shared, Worlds.shared_changed, Worlds.shared_reply, Worlds.in_state, Worlds.nth_changed, Worlds.nth_reply, NodeLaws.as_many, HeldSteps.some_of as there_is}

-- the result of a change: a world, and a reply with a known value
abbrev Leaves : World × Reply → Type 0
Leaves r = IsWorld r.0 × IsKnownReply r.0 r.1

change_keeps : (w : World) → IsWorld w → (v : Value) (c : Change) → IsKnownChange w c → Leaves (change_object w v c)
change_keeps w h value.Nil c known = (h, tt)
change_keeps w h (value.Number n) c known = (h, tt)
change_keeps w h (value.Ref name) c known = by_node (node_of w name) refl
  where
    by_node : (o : Option Node) → node_of w name ≡ o → Leaves (change_node w name o c)
    by_node None e = (h, tt)
    by_node (Some found) e =
        let there : IsSome (node_of w name) = there_is (node_of w name) found e in
        elim (eqb_tells name.maker SHARED_MAKER) [
          | inl p ↦
              let same : w.shared ≡ found = some_is w.shared found (sym (is_shared w h name c there known p.1) ∙ e) in
              let P : Node → Type 0 = λ node. IsWorld (record w { shared = (changed c name.maker node).0 }) ×
              IsKnownReply (record w { shared = (changed c name.maker node).0 }) (changed c name.maker node).1 in
              let left : P found = subst P same (shared_changed w h name c there known p.1 name.maker, shared_reply w h name c there known p.1 name.maker) in
              rw p.0 left
          | inr p ↦
              let place = sym (in_state w h name c there known p.1) ∙ e in
              rw p.0 (nth_changed w h name c there known p.1 found place, nth_reply w h name c there known p.1 found place)
        ]

pub change_count : (w : World) (v : Value) (c : Change) → length (change_object w v c).0.mutators ≡ length w.mutators
change_count w value.Nil c = refl
change_count w (value.Number n) c = refl
change_count w (value.Ref name) c = by_node (node_of w name) refl
  where
    by_node : (o : Option Node) → node_of w name ≡ o → length (change_node w name o c).0.mutators ≡ length w.mutators
    by_node None e = refl
    by_node (Some found) e = as_many w name found (changed c name.maker found).0 e

keeping_keeps : (w : World) (m dest : ℕ) (r : Reply) → IsWorld w → m < length w.mutators → IsKnownReply w r → IsWorld (keeping w m dest r)
keeping_keeps w m dest (reply.Given v) h lt k = holding_keeps w m dest v h lt k
keeping_keeps w m dest reply.Fine h lt k = h
keeping_keeps w m dest reply.Yes h lt k = h
keeping_keeps w m dest reply.No h lt k = h
keeping_keeps w m dest reply.Updated h lt k = h
keeping_keeps w m dest reply.Already h lt k = h
keeping_keeps w m dest reply.NoPointer h lt k = h
keeping_keeps w m dest reply.NoField h lt k = h
keeping_keeps w m dest reply.WrongKind h lt k = h
keeping_keeps w m dest reply.NotOwner h lt k = h
keeping_keeps w m dest reply.Fixed h lt k = h
keeping_keeps w m dest reply.Dead h lt k = h
keeping_keeps w m dest reply.Nothing h lt k = h
keeping_keeps w m dest reply.StackFull h lt k = h
keeping_keeps w m dest reply.StackEmpty h lt k = h

change_into_keeps : (w : World) (m dest : ℕ) (v : Value) (c : Change) → IsWorld w → m < length w.mutators → IsKnownChange w c →
    IsWorld (change_into m dest (change_object w v c)).0
change_into_keeps w m dest v c h lt known =
    let r = change_keeps w h v c known in
    keeping_keeps (change_object w v c).0 m dest (change_object w v c).1 r.0 (subst (λ (n : ℕ). m < n) (sym (change_count w v c)) lt) r.1

pub step_keeps_world : (w : World) (m : ℕ) (c : Command) → IsWorld w → CanApply w m c → IsWorld (step w m c).0
step_keeps_world w m (command.Num dest number) h can = holding_keeps w m dest (value.Number number) h can.mutator tt
step_keeps_world w m (command.Nil dest) h can = holding_keeps w m dest value.Nil h can.mutator tt
step_keeps_world w m (command.Mov dest v) h can = holding_keeps w m dest (value_for w m v) h can.mutator (operand_known w m h can.mutator v can.registers.1)
step_keeps_world w m (command.Con dest tag fields) h can = born_keeps w m dest _ h can.mutator can.serial (record {
  known =
      operands_known w m h can.mutator fields can.registers.1;
  sized = tt;
})
step_keeps_world w m (command.Var dest v) h can = born_keeps w m dest _ h can.mutator can.serial (record {
  known =
      one_has (IsKnown w) (value_for w m v) (operand_known w m h can.mutator v can.registers.1);
  sized = tt;
})
step_keeps_world w m (command.Arr dest count v) h can = born_keeps w m dest _ h can.mutator can.serial (record {
  known =
      All-replicate (IsKnown w) count (value_for w m v) (operand_known w m h can.mutator v can.registers.1);
  sized = tt;
})
step_keeps_world w m (command.Rec dest fields) h can = born_keeps w m dest _ h can.mutator can.serial (record {
  known =
      operands_known w m h can.mutator fields can.registers.1;
  sized = tt;
})
step_keeps_world w m (command.Thunk dest free) h can = born_keeps w m dest _ h can.mutator can.serial (record {
  known =
      operands_known w m h can.mutator free can.registers.1;
  sized = tt;
})
step_keeps_world w m (command.Weak dest key v finaliser) h can = born_keeps w m dest _ h can.mutator can.serial (record {
  known = All-cons (IsKnown w) (value_for w m key) (value_for w m v ∷ value_for w m finaliser ∷
      []) (operand_known w m h can.mutator key can.registers.1) (All-cons (IsKnown w) (value_for w m v) (value_for w m finaliser ∷
      []) (operand_known w m h can.mutator v can.registers.2)
      (one_has (IsKnown w) (value_for w m finaliser) (operand_known w m h can.mutator finaliser can.registers.3)));
  sized = tt;
})
step_keeps_world w m (command.Stack dest size) h can = born_keeps w m dest _ h can.mutator can.serial (record {
  known = All-nil (IsKnown w);
  sized = omega arith;
})
step_keeps_world w m (command.Get dest object index) h can = keeping_keeps w m dest _ h can.mutator (read_known w h (value_for w m object) (λ found.
    field_read found index) (λ node known. field_read_known w node index known))
step_keeps_world w m (command.Tag dest object) h can =
    keeping_keeps w m dest _ h can.mutator (read_known w h (value_for w m object) tag_read (λ node known. tag_read_has (IsKnown w) node (λ n. tt)))
step_keeps_world w m (command.Set object index v) h can =
    (change_keeps w h (value_for w m object) (change.Set index (value_for w m v)) (operand_known w m h can.mutator v can.registers.1)).0
step_keeps_world w m (command.Cas object index expected v) h can =
    (change_keeps w h (value_for w m object) (change.Exchange index (value_for w m expected) (value_for w m v))
    (operand_known w m h can.mutator v can.registers.2)).0
step_keeps_world w m (command.Update object v) h can =
    (change_keeps w h (value_for w m object) (change.Update (value_for w m v)) (operand_known w m h can.mutator v can.registers.1)).0
step_keeps_world w m (command.Force dest object) h can =
    keeping_keeps w m dest _ h can.mutator (read_known w h (value_for w m object) result_read (λ node known. result_read_known w node known))
step_keeps_world w m (command.Push object v) h can =
    (change_keeps w h (value_for w m object) (change.Push m (value_for w m v)) (operand_known w m h can.mutator v can.registers.1)).0
step_keeps_world w m (command.Pop dest object) h can = change_into_keeps w m dest (value_for w m object) (change.Pop m) h can.mutator tt
step_keeps_world w m (command.Deref dest object) h can =
    keeping_keeps w m dest _ h can.mutator (read_known w h (value_for w m object) value_read (λ node known. value_read_known w node known))
step_keeps_world w m (command.Finalise dest object) h can = change_into_keeps w m dest (value_for w m object) change.Finalise h can.mutator tt
step_keeps_world w m (command.NextFin dest) h can = finaliser_keeps w m dest h can.mutator
step_keeps_world w m (command.Show v) h can = h
step_keeps_world w m (command.Same left right) h can = h
step_keeps_world w m command.Yield h can = h
step_keeps_world w m command.Collect h can = h
step_keeps_world w m command.Full h can = h
