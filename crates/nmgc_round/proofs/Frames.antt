-- The parts of the world that a command leaves unchanged.
use Rattle.nmgc_round.proofs.Vocabulary.{◌≡◌, ◌≢◌, ℕ, ◌<◌, length, refl, ap, ◌∙◌, arith, length-set, Option, Some, None, inl, inr, cases_eq, eqb_tells, SHARED_MAKER, Name, Value, Node, MutatorState, Change, Command, Num, Nil, Mov, Get, Tag, Set, Cas, Update, Force, Push, Pop, Deref, Finalise, NextFin, Show, Same, Yield, Collect, Full, Reply, World, state_of, node_of, changed, value_for, with_state, with_nth, with_node, keeping, change_node, change_object, change_into, step, state_same, state_other, maker_there, change_count}
use Rattle.nmgc_world_spec.specs.declared.command.Command.TheVariants.{Con, Var, Arr, Rec, Thunk, Weak, Stack}
use Rattle.nmgc_world_spec.specs.declared.value.Value.TheVariants as value
use Rattle.nmgc_world_spec.specs.declared.change.Change.TheVariants as change
use Rattle.nmgc_world_spec.specs.declared.command.Reply.TheVariants as reply

-- registers, queue and next serial are the same
pub record IsSameState (s t : MutatorState) : Type 0 where
  pub registers : s.registers ≡ t.registers
  pub queue : s.queue ≡ t.queue
  pub serial : length s.nodes ≡ length t.nodes

same_of : (s t : MutatorState) → s ≡ t → IsSameState s t
same_of s t e = record {
  registers = ap (λ (u : MutatorState). u.registers) e;
  queue = ap (λ (u : MutatorState). u.queue) e;
  serial = ap (λ (u : MutatorState). length u.nodes) e;
}

same_then : (s t u : MutatorState) → IsSameState s t → IsSameState t u → IsSameState s u
same_then s t u a b = record { registers = a.registers ∙ b.registers; queue = a.queue ∙ b.queue; serial = a.serial ∙ b.serial }

-- of every mutator, when the node of a name changes
pub node_frame : (w : World) (name : Name) (found made : Node) → node_of w name ≡ Some found → (k : ℕ) →
    IsSameState (state_of (with_node w name made) k) (state_of w k)
node_frame w name found made there k = elim (eqb_tells name.maker SHARED_MAKER) [
  | inl p ↦ rw p.0 (same_of _ _ refl)
  | inr p ↦
      let m : ℕ = name.maker in
      let q : MutatorState = with_nth (state_of w m) name.serial made in
      let lt : m < length w.mutators = maker_there w name found made there p.1 in
      let mine : IsSameState q (state_of w m) = record { registers = refl; queue = refl; serial = length-set (state_of w m).nodes name.serial made } in
      rw p.0 (elim (cases_eq k m) [
        | inl e ↦ rw e (rw (state_same w m q lt) mine)
        | inr ne ↦ same_of _ _ (state_other w m q lt k ne)
      ])
]

change_node_frame : (w : World) (name : Name) (o : Option Node) (c : Change) → node_of w name ≡ o → (k : ℕ) →
    IsSameState (state_of (change_node w name o c).0 k) (state_of w k)
change_node_frame w name None c there k = same_of _ _ refl
change_node_frame w name (Some found) c there k = node_frame w name found (changed c name.maker found).0 there k

pub change_frame : (w : World) (v : Value) (c : Change) (k : ℕ) → IsSameState (state_of (change_object w v c).0 k) (state_of w k)
change_frame w value.Nil c k = same_of _ _ refl
change_frame w (value.Number n) c k = same_of _ _ refl
change_frame w (value.Ref name) c k = change_node_frame w name (node_of w name) c refl k

-- the state of another mutator
module _ (m k : ℕ) (ne : k ≢ m) where
  keeping_other : (w : World) (dest : ℕ) (r : Reply) → m < length w.mutators → state_of (keeping w m dest r) k ≡ state_of w k
  keeping_other w dest (reply.Given v) lt = state_other w m _ lt k ne
  keeping_other w dest reply.Fine lt = refl
  keeping_other w dest reply.Yes lt = refl
  keeping_other w dest reply.No lt = refl
  keeping_other w dest reply.Updated lt = refl
  keeping_other w dest reply.Already lt = refl
  keeping_other w dest reply.NoPointer lt = refl
  keeping_other w dest reply.NoField lt = refl
  keeping_other w dest reply.WrongKind lt = refl
  keeping_other w dest reply.NotOwner lt = refl
  keeping_other w dest reply.Fixed lt = refl
  keeping_other w dest reply.Dead lt = refl
  keeping_other w dest reply.Nothing lt = refl
  keeping_other w dest reply.StackFull lt = refl
  keeping_other w dest reply.StackEmpty lt = refl

  into_other : (w : World) (dest : ℕ) (v : Value) (c : Change) → m < length w.mutators →
      IsSameState (state_of (change_into m dest (change_object w v c)).0 k) (state_of w k)
  into_other w dest v c lt =
      let r : World × Reply = change_object w v c in
      let count : length r.0.mutators ≡ length w.mutators = change_count w v c in
      same_then _ (state_of r.0 k) _ (same_of _ _ (keeping_other r.0 dest r.1 (omega arith))) (change_frame w v c k)

  set_other : (w : World) (q : MutatorState) → m < length w.mutators → IsSameState (state_of (with_state w m q) k) (state_of w k)
  set_other w q lt = same_of _ _ (state_other w m q lt k ne)

  -- after any command
  pub step_other : (w : World) (c : Command) → m < length w.mutators → IsSameState (state_of (step w m c).0 k) (state_of w k)
  step_other w (Num dest number) lt = set_other w _ lt
  step_other w (Nil dest) lt = set_other w _ lt
  step_other w (Mov dest v) lt = set_other w _ lt
  step_other w (Con dest tag fields) lt = set_other w _ lt
  step_other w (Var dest v) lt = set_other w _ lt
  step_other w (Arr dest count v) lt = set_other w _ lt
  step_other w (Rec dest fields) lt = set_other w _ lt
  step_other w (Thunk dest free) lt = set_other w _ lt
  step_other w (Weak dest key v finaliser) lt = set_other w _ lt
  step_other w (Stack dest size) lt = set_other w _ lt
  step_other w (Get dest object index) lt = same_of _ _ (keeping_other w dest _ lt)
  step_other w (Tag dest object) lt = same_of _ _ (keeping_other w dest _ lt)
  step_other w (Set object index v) lt = change_frame w (value_for w m object) (change.Set index (value_for w m v)) k
  step_other w (Cas object index expected v) lt = change_frame w (value_for w m object) (change.Exchange index (value_for w m expected) (value_for w m v)) k
  step_other w (Update object v) lt = change_frame w (value_for w m object) (change.Update (value_for w m v)) k
  step_other w (Force dest object) lt = same_of _ _ (keeping_other w dest _ lt)
  step_other w (Push object v) lt = change_frame w (value_for w m object) (change.Push m (value_for w m v)) k
  step_other w (Pop dest object) lt = into_other w dest (value_for w m object) (change.Pop m) lt
  step_other w (Deref dest object) lt = same_of _ _ (keeping_other w dest _ lt)
  step_other w (Finalise dest object) lt = into_other w dest (value_for w m object) change.Finalise lt
  step_other w (NextFin dest) lt = set_other w _ lt
  step_other w (Show v) lt = same_of _ _ refl
  step_other w (Same left right) lt = same_of _ _ refl
  step_other w Yield lt = same_of _ _ refl
  step_other w Collect lt = same_of _ _ refl
  step_other w Full lt = same_of _ _ refl
