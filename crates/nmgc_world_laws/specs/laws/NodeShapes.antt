-- A change leaves the shape of a node.
use Rattle.nmgc_world_laws.specs.{laws.Vocabulary.ℕ, laws.Vocabulary.List, laws.Vocabulary.[], laws.Vocabulary.◌∷◌, laws.Vocabulary.◌++◌, laws.Vocabulary.length, laws.Vocabulary.set, laws.Vocabulary.refl, laws.Vocabulary.◌∙◌, laws.Vocabulary.length-set, laws.Vocabulary.Some, laws.Vocabulary.None, laws.Vocabulary.Bool, laws.Vocabulary.true, laws.Vocabulary.false, laws.Vocabulary.eqb, laws.Vocabulary.ltb, laws.Vocabulary.slice_get, laws.Vocabulary.Change, laws.Vocabulary.Value, laws.Vocabulary.Node, laws.Vocabulary.Con, laws.Vocabulary.Var, laws.Vocabulary.Arr, laws.Vocabulary.Thunk, laws.Vocabulary.Weak, laws.Vocabulary.Stack, laws.Vocabulary.changed, laws.Vocabulary.stack_pushed, laws.Vocabulary.stack_popped, laws.Vocabulary.SameShape, laws.Barrier.two_nodes, laws.Barrier.exchanged_node}
use Rattle.nmgc_world_spec.specs.declared.command.Reply.TheVariants as reply
use Rattle.nmgc_world_spec.specs.declared.change.Change.TheVariants as change

pub same_shape : (node : Node) → SameShape node node
same_shape node = record { kind = refl; tag = refl; parts = refl }

pub then_shape : (a b c : Node) → SameShape a b → SameShape b c → SameShape a c
then_shape a b c p q = record { kind = q.kind ∙ p.kind; tag = q.tag ∙ p.tag; parts = q.parts ∙ p.parts }

array_set : (values : List Value) (index : ℕ) (v : Value) → SameShape (Arr values) (Arr (set values index v))
array_set values index v = record { kind = refl; tag = refl; parts = length-set values index v }

-- a change leaves the shape
pub changed_shape : (c : Change) (maker : ℕ) (node : Node) → SameShape node (changed c maker node).0
changed_shape (change.Set index v) maker (Con tag values) = same_shape _
changed_shape (change.Set index v) maker (Var old) =
    two_nodes (SameShape (Var old)) (eqb index 0) (Var v) (Var old) reply.Fine reply.NoField (record { kind = refl; tag = refl; parts = refl }) (same_shape _)
changed_shape (change.Set index v) maker (Arr values) =
    two_nodes (SameShape (Arr values)) (ltb index (length values)) (Arr (set values index v)) (Arr values) reply.Fine reply.NoField
    (array_set values index v) (same_shape _)
changed_shape (change.Set index v) maker (Thunk free result) = same_shape _
changed_shape (change.Set index v) maker (Weak parts) = same_shape _
changed_shape (change.Set index v) maker (Stack size values) = same_shape _
changed_shape (change.Exchange index expected v) maker (Con tag values) = same_shape _
changed_shape (change.Exchange index expected v) maker (Var old) =
    exchanged_node (SameShape (Var old)) (slice_get (old ∷ []) index) expected (Var old) (Var v) (record {
      kind = refl;
      tag = refl;
      parts = refl;
    }) (same_shape _)
changed_shape (change.Exchange index expected v) maker (Arr values) =
    exchanged_node (SameShape (Arr values)) (slice_get values index) expected (Arr values) (Arr (set values index v)) (array_set values index v) (same_shape _)
changed_shape (change.Exchange index expected v) maker (Thunk free result) = same_shape _
changed_shape (change.Exchange index expected v) maker (Weak parts) = same_shape _
changed_shape (change.Exchange index expected v) maker (Stack size values) = same_shape _
changed_shape (change.Update v) maker (Con tag values) = same_shape _
changed_shape (change.Update v) maker (Var old) = same_shape _
changed_shape (change.Update v) maker (Arr values) = same_shape _
changed_shape (change.Update v) maker (Thunk free None) = record { kind = refl; tag = refl; parts = refl }
changed_shape (change.Update v) maker (Thunk free (Some result)) = same_shape _
changed_shape (change.Update v) maker (Weak parts) = same_shape _
changed_shape (change.Update v) maker (Stack size values) = same_shape _
changed_shape (change.Push m v) maker (Con tag values) = same_shape _
changed_shape (change.Push m v) maker (Var old) = same_shape _
changed_shape (change.Push m v) maker (Arr values) = same_shape _
changed_shape (change.Push m v) maker (Thunk free result) = same_shape _
changed_shape (change.Push m v) maker (Weak parts) = same_shape _
changed_shape (change.Push m v) maker (Stack size values) = pushed (eqb maker m)
  where
    pushed : (own : Bool) → SameShape (Stack size values) (stack_pushed own (Stack size values) v).0
    pushed true = two_nodes (SameShape (Stack size values)) (ltb (length values) size) (Stack size (values ++ v ∷
        [])) (Stack size values) reply.Fine reply.StackFull (record { kind = refl; tag = refl; parts = refl }) (same_shape _)
    pushed false = same_shape _
changed_shape (change.Pop m) maker (Con tag values) = same_shape _
changed_shape (change.Pop m) maker (Var old) = same_shape _
changed_shape (change.Pop m) maker (Arr values) = same_shape _
changed_shape (change.Pop m) maker (Thunk free result) = same_shape _
changed_shape (change.Pop m) maker (Weak parts) = same_shape _
changed_shape (change.Pop m) maker (Stack size values) = popped (eqb maker m)
  where
    popped : (own : Bool) → SameShape (Stack size values) (stack_popped own (Stack size values)).0
    popped true = record { kind = refl; tag = refl; parts = refl }
    popped false = same_shape _
changed_shape change.Finalise maker (Con tag values) = same_shape _
changed_shape change.Finalise maker (Var old) = same_shape _
changed_shape change.Finalise maker (Arr values) = same_shape _
changed_shape change.Finalise maker (Thunk free result) = same_shape _
changed_shape change.Finalise maker (Weak None) = same_shape _
changed_shape change.Finalise maker (Weak (Some parts)) = record { kind = refl; tag = refl; parts = refl }
changed_shape change.Finalise maker (Stack size values) = same_shape _
