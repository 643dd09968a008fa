-- A command of a mutator that is shown does the same if other registers are hidden.
use Rattle.std.proofs.Common.{◌≡◌, ℕ, List, [], ◌∷◌, zero, suc, map, set, refl, sym, ap, subst, ◌∙◌, Bool, true, false, Option, Some, None, inl, inr}
use Rattle.std.specs.Prelude.{slice_get, slice_set}
use Rattle.nmgc_limits.specs.declared.mutators.TheConstants.{SHARED_MAKER}
use Rattle.nmgc_world_spec.specs.{declared.command.Operand.Operand, declared.command.Command.Command, declared.command.Reply.Reply, declared.change.Change.Change, declared.value.Name.Name, declared.value.Value.Value, declared.node.Node.Node, declared.mutator_state.MutatorState.MutatorState, World.World, World.state_of, World.node_of, World.changed, World.field_read, World.tag_read, World.result_read, World.value_read, World.value_of, World.value_for, World.with_state, World.with_node, World.keeping, World.object_of, World.change_object, World.change_into, World.next_name, World.step, Pieces.given_or, Reach.opened_by, Reach.finalised_by, Reach.from_alive, Reach.name_in, Pieces.opened_in, Pieces.finalised_in}
use Rattle.nmgc_world_spec.specs.declared.command.Command.TheVariants.{Num, Nil, Mov, Con, Var, Arr, Rec, Thunk, Weak, Stack, Get, Tag, Set, Cas, Update, Force, Push, Pop, Deref, Finalise, NextFin, Show, Same, Yield, Collect, Full}
use Rattle.nmgc_world_spec.specs.declared.command.Reply.TheVariants as reply
use Rattle.nmgc_world_spec.specs.declared.change.Change.TheVariants as change
use Rattle.nmgc_world_spec.specs.declared.value.Value.TheVariants as value
use Rattle.nmgc_world_spec.specs.declared.node.Node.TheVariants as node
use Rattle.nmgc_world_spec.specs.Pieces.{with_nth, with_new, with_finaliser, holding, read_object, read_into, change_node, same_reply}
use Rattle.std.proofs.lemmas.Bool.Decides.{eqb_tells}
use Rattle.nmgc_barrier_laws.specs.{Hybrid.veil, Hybrid.hide, Hybrid.hidden, laws.Veil.hidden_state, laws.Veil.hidden_node}

hide_set : (shown : ℕ → Bool) (states : List MutatorState) (k : ℕ) (q : MutatorState) →
    hide shown (set states k q) ≡ set (hide shown states) k (veil (shown k) q)
hide_set shown [] k q = refl
hide_set shown (state ∷ states) zero q = refl
hide_set shown (state ∷ states) (suc k) q = ap (λ (l : List MutatorState). veil (shown 0) state ∷ l) (hide_set (λ j. shown (suc j)) states k q)

veil_nth : (b : Bool) (state : MutatorState) (i : ℕ) (made : Node) → veil b (with_nth state i made) ≡ with_nth (veil b state) i made
veil_nth true state i made = refl
veil_nth false state i made = refl

-- the world with registers hidden, and the answer
abbrev pub over : (ℕ → Bool) → World × Reply → World × Reply
over shown r = (hidden shown r.0, r.1)

module _ (shown : ℕ → Bool) where
  set_state : (w : World) (k : ℕ) (q : MutatorState) → with_state (hidden shown w) k (veil (shown k) q) ≡ hidden shown (with_state w k q)
  set_state w k q = ap (λ (l : List MutatorState). record w { mutators = l }) (sym (hide_set shown w.mutators k q))

  set_node : (w : World) (name : Name) (made : Node) → with_node (hidden shown w) name made ≡ hidden shown (with_node w name made)
  set_node w name made = elim (eqb_tells name.maker SHARED_MAKER) [
    | inl p ↦ rw p.0 refl
    | inr p ↦ rw p.0 (ap (λ (q : MutatorState). with_state (hidden shown w) name.maker (with_nth q name.serial made)) (hidden_state shown w name.maker) ∙
        ap (λ (q : MutatorState). with_state (hidden shown w) name.maker q) (sym (veil_nth (shown name.maker) (state_of w name.maker) name.serial made)) ∙
        set_state w name.maker (with_nth (state_of w name.maker) name.serial made))
  ]

  same_object : (w : World) (v : Value) → object_of (hidden shown w) v ≡ object_of w v
  same_object w value.Nil = refl
  same_object w (value.Number n) = refl
  same_object w (value.Ref name) = hidden_node shown w name

  same_change : (w : World) (v : Value) (c : Change) → change_object (hidden shown w) v c ≡ over shown (change_object w v c)
  same_change w value.Nil c = refl
  same_change w (value.Number n) c = refl
  same_change w (value.Ref name) c = ap (λ (o : Option Node). change_node (hidden shown w) name o c) (hidden_node shown w name) ∙ by_node (node_of w name)
    where
      by_node : (o : Option Node) → change_node (hidden shown w) name o c ≡ over shown (change_node w name o c)
      by_node None = refl
      by_node (Some found) = ap (λ (u : World). (u, (changed c name.maker found).1)) (set_node w name (changed c name.maker found).0)

  module _ (m : ℕ) (seen : shown m ≡ true) where
    same_state : (w : World) → state_of (hidden shown w) m ≡ state_of w m
    same_state w = subst (λ (b : Bool). state_of (hidden shown w) m ≡ veil b (state_of w m)) seen (hidden_state shown w m)

    put : (w : World) (q : MutatorState) → with_state (hidden shown w) m q ≡ hidden shown (with_state w m q)
    put w q = subst (λ (b : Bool). with_state (hidden shown w) m (veil b q) ≡ hidden shown (with_state w m q)) seen (set_state w m q)

    -- a state of the mutator, and an answer, that depend on its own state
    own : (w : World) (f : MutatorState → MutatorState) (g : MutatorState → Reply) →
        (with_state (hidden shown w) m (f (state_of (hidden shown w) m)), g (state_of (hidden shown w) m)) ≡
        over shown (with_state w m (f (state_of w m)), g (state_of w m))
    own w f g = ap (λ (q : MutatorState). (with_state (hidden shown w) m (f q), g q)) (same_state w) ∙
        ap (λ (u : World). (u, g (state_of w m))) (put w (f (state_of w m)))

    keep : (w : World) (dest : ℕ) (r : Reply) → (keeping (hidden shown w) m dest r, r) ≡ over shown (keeping w m dest r, r)
    keep w dest (reply.Given v) = own w (λ (q : MutatorState). holding q dest v) (λ (q : MutatorState). reply.Given v)
    keep w dest reply.Fine = refl
    keep w dest reply.Yes = refl
    keep w dest reply.No = refl
    keep w dest reply.Updated = refl
    keep w dest reply.Already = refl
    keep w dest reply.NoPointer = refl
    keep w dest reply.NoField = refl
    keep w dest reply.WrongKind = refl
    keep w dest reply.NotOwner = refl
    keep w dest reply.Fixed = refl
    keep w dest reply.Dead = refl
    keep w dest reply.Nothing = refl
    keep w dest reply.StackFull = refl
    keep w dest reply.StackEmpty = refl

    same_value : (w : World) (o : Operand) → value_for (hidden shown w) m o ≡ value_for w m o
    same_value w o = ap (λ (q : MutatorState). value_of q.registers o) (same_state w)

    same_found : (w : World) (o : Operand) → object_of (hidden shown w) (value_for (hidden shown w) m o) ≡ object_of w (value_for w m o)
    same_found w o = ap (λ (v : Value). object_of (hidden shown w) v) (same_value w o) ∙ same_object w (value_for w m o)

    reads : (w : World) (dest : ℕ) (o : Operand) (f : Node → Reply) →
        read_into (hidden shown w) m dest (read_object (object_of (hidden shown w) (value_for (hidden shown w) m o)) f) ≡
        over shown (read_into w m dest (read_object (object_of w (value_for w m o)) f))
    reads w dest o f = ap (λ (found : Option Node). read_into (hidden shown w) m dest (read_object found f)) (same_found w o) ∙
        keep w dest (read_object (object_of w (value_for w m o)) f)

    into : (w : World) (dest : ℕ) (v : Value) (c : Change) → change_into m dest (change_object (hidden shown w) v c) ≡
        over shown (change_into m dest (change_object w v c))
    into w dest v c = ap (λ (r : World × Reply). change_into m dest r) (same_change w v c) ∙ keep (change_object w v c).0 dest (change_object w v c).1

    pub same_step : (w : World) (c : Command) → step (hidden shown w) m c ≡ over shown (step w m c)
    same_step w (Num dest number) = own w (λ (q : MutatorState). holding q dest (value.Number number)) (λ (q : MutatorState). reply.Fine)
    same_step w (Nil dest) = own w (λ (q : MutatorState). holding q dest value.Nil) (λ (q : MutatorState). reply.Fine)
    same_step w (Mov dest v) = own w (λ (q : MutatorState). holding q dest (value_of q.registers v)) (λ (q : MutatorState). reply.Fine)
    same_step w (Con dest tag fields) = own w (λ (q : MutatorState). with_new q m dest (node.Con tag (map (value_of q.registers) fields))) (λ (q : MutatorState).
        reply.Given (value.Ref (next_name q m)))
    same_step w (Var dest v) = own w (λ (q : MutatorState). with_new q m dest (node.Var (value_of q.registers v))) (λ (q : MutatorState).
        reply.Given (value.Ref (next_name q m)))
    same_step w (Arr dest count v) = own w (λ (q : MutatorState). with_new q m dest (node.Arr (Rattle.std.specs.Prelude.replicate count (value_of q.registers v)))) (λ (q : MutatorState).
        reply.Given (value.Ref (next_name q m)))
    same_step w (Rec dest fields) = own w (λ (q : MutatorState). with_new q m dest (node.Arr (map (value_of q.registers) fields))) (λ (q : MutatorState).
        reply.Given (value.Ref (next_name q m)))
    same_step w (Thunk dest free) = own w (λ (q : MutatorState). with_new q m dest (node.Thunk (map (value_of q.registers) free) None)) (λ (q : MutatorState).
        reply.Given (value.Ref (next_name q m)))
    same_step w (Weak dest key v finaliser) = own w (λ (q : MutatorState). with_new q m dest (node.Weak (Some (record {
      key = value_of q.registers key;
      value = value_of q.registers v;
      finaliser = value_of q.registers finaliser;
    })))) (λ (q : MutatorState). reply.Given (value.Ref (next_name q m)))
    same_step w (Stack dest size) = own w (λ (q : MutatorState). with_new q m dest (node.Stack size [])) (λ (q : MutatorState).
        reply.Given (value.Ref (next_name q m)))
    same_step w (Get dest object index) = reads w dest object (λ found. field_read found index)
    same_step w (Tag dest object) = reads w dest object tag_read
    same_step w (Set object index v) = ap (λ (q : MutatorState). change_object (hidden shown w) (value_of q.registers object)
        (change.Set index (value_of q.registers v))) (same_state w) ∙ same_change w (value_for w m object) (change.Set index (value_for w m v))
    same_step w (Cas object index expected v) = ap (λ (q : MutatorState). change_object (hidden shown w) (value_of q.registers object)
        (change.Exchange index (value_of q.registers expected) (value_of q.registers v))) (same_state w) ∙
        same_change w (value_for w m object) (change.Exchange index (value_for w m expected) (value_for w m v))
    same_step w (Update object v) = ap (λ (q : MutatorState). change_object (hidden shown w) (value_of q.registers object)
        (change.Update (value_of q.registers v))) (same_state w) ∙ same_change w (value_for w m object) (change.Update (value_for w m v))
    same_step w (Force dest object) = reads w dest object result_read
    same_step w (Push object v) = ap (λ (q : MutatorState). change_object (hidden shown w) (value_of q.registers object)
        (change.Push m (value_of q.registers v))) (same_state w) ∙ same_change w (value_for w m object) (change.Push m (value_for w m v))
    same_step w (Pop dest object) = ap (λ (v : Value). change_into m dest (change_object (hidden shown w) v (change.Pop m))) (same_value w object) ∙
        into w dest (value_for w m object) (change.Pop m)
    same_step w (Deref dest object) = reads w dest object value_read
    same_step w (Finalise dest object) = ap (λ (v : Value). change_into m dest (change_object (hidden shown w) v change.Finalise)) (same_value w object) ∙
        into w dest (value_for w m object) change.Finalise
    same_step w (NextFin dest) = own w (λ (q : MutatorState). with_finaliser q dest) (λ (q : MutatorState). given_or reply.Nothing (slice_get q.queue 0))
    same_step w (Show v) = ap (λ (q : MutatorState). (hidden shown w, reply.Given (value_of q.registers v))) (same_state w)
    same_step w (Same left right) = ap (λ (q : MutatorState). (hidden shown w, same_reply (value_of q.registers left) (value_of q.registers right))) (same_state w)
    same_step w Yield = refl
    same_step w Collect = refl
    same_step w Full = refl

    pub same_opened : (w : World) (c : Command) → opened_by (hidden shown w) m c ≡ opened_by w m c
    same_opened w (Deref dest object) = ap (λ (o : Option Node). from_alive (λ parts. name_in parts.value) o) (same_found w object)
    same_opened w (Finalise dest object) = ap opened_in (same_found w object)
    same_opened w _ = refl

    pub same_finalised : (w : World) (c : Command) → finalised_by (hidden shown w) m c ≡ finalised_by w m c
    same_finalised w (Finalise dest object) = ap (λ (v : Value). finalised_in v (object_of (hidden shown w) v)) (same_value w object) ∙
        ap (λ (o : Option Node). finalised_in (value_for w m object) o) (same_object w (value_for w m object))
    same_finalised w _ = refl
