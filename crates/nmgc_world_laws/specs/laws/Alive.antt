-- Weak pointers that are alive: a command makes no weak pointer alive except a new one.
use Rattle.nmgc_world_laws.specs.{laws.Vocabulary.◌≡◌, laws.Vocabulary.◌≢◌, laws.Vocabulary.◌<◌, laws.Vocabulary.ℕ, laws.Vocabulary.length, laws.Vocabulary.refl, laws.Vocabulary.sym, laws.Vocabulary.◌∙◌, laws.Vocabulary.Some, laws.Vocabulary.None, laws.Vocabulary.IfSome, laws.Vocabulary.Operand, laws.Vocabulary.Command, laws.Vocabulary.Change, laws.Vocabulary.SHARED_MAKER, laws.Vocabulary.Name, laws.Vocabulary.Parts, laws.Vocabulary.Node, laws.Vocabulary.Con, laws.Vocabulary.Var, laws.Vocabulary.Arr, laws.Vocabulary.Thunk, laws.Vocabulary.Weak, laws.Vocabulary.Stack, laws.Vocabulary.World, laws.Vocabulary.state_of, laws.Vocabulary.node_of, laws.Vocabulary.changed, laws.Vocabulary.value_for, laws.Vocabulary.next_name, laws.Vocabulary.step, laws.Vocabulary.at_some, laws.Vocabulary.SameShape, laws.Vocabulary.kind_of, laws.Vocabulary.made_by, laws.Keeps.Any, laws.Keeps.stepped, laws.Keeps.stepped_nodes, laws.NodeShapes.changed_shape}
use Rattle.nmgc_world_spec.specs.declared.command.Command.TheVariants as command
use Rattle.nmgc_world_spec.specs.declared.change.Change.TheVariants as change
use Rattle.nmgc_world_spec.specs.declared.node.Kind.TheVariants as kind

module _ (R : Name → Parts → Type 0) where
  -- if the node is a weak pointer that is alive, its name and parts have R
  abbrev pub AliveOk : Name → Node → Type 0
  AliveOk name (Weak (Some parts)) = R name parts
  AliveOk name _ = Unit {0}

  -- all nodes of a world have this property
  abbrev pub WeaksOk : World → Type 0
  WeaksOk w = (name : Name) → IfSome (node_of w name) (AliveOk name)

  not_weak : (name : Name) (node : Node) → (kind_of node ≡ kind.Weak → ⊥) → AliveOk name node
  not_weak name (Con tag values) other = tt
  not_weak name (Var v) other = tt
  not_weak name (Arr values) other = tt
  not_weak name (Thunk free result) other = tt
  not_weak name (Weak None) other = tt
  not_weak name (Weak (Some parts)) other = absurd (other refl)
  not_weak name (Stack size values) other = tt

  -- a node of another kind keeps its kind
  stays_other : (c : Change) (maker : ℕ) (name : Name) (node : Node) → (kind_of node ≡ kind.Weak → ⊥) → AliveOk name (changed c maker node).0
  stays_other c maker name node other = not_weak name (changed c maker node).0 (λ e.
      let s : SameShape node (changed c maker node).0 = changed_shape c maker node in other (sym s.kind ∙ e))

  -- a change makes no weak pointer alive
  pub changed_weak : (c : Change) (maker : ℕ) (name : Name) (node : Node) → AliveOk name node → AliveOk name (changed c maker node).0
  changed_weak c maker name (Con tag values) h = stays_other c maker name (Con tag values) (λ e. cc)
  changed_weak c maker name (Var v) h = stays_other c maker name (Var v) (λ e. cc)
  changed_weak c maker name (Arr values) h = stays_other c maker name (Arr values) (λ e. cc)
  changed_weak c maker name (Thunk free result) h = stays_other c maker name (Thunk free result) (λ e. cc)
  changed_weak c maker name (Stack size values) h = stays_other c maker name (Stack size values) (λ e. cc)
  changed_weak (change.Set index v) maker name (Weak parts) h = h
  changed_weak (change.Exchange index expected v) maker name (Weak parts) h = h
  changed_weak (change.Update v) maker name (Weak parts) h = h
  changed_weak (change.Push m v) maker name (Weak parts) h = h
  changed_weak (change.Pop m) maker name (Weak parts) h = h
  changed_weak change.Finalise maker name (Weak None) h = tt
  changed_weak change.Finalise maker name (Weak (Some parts)) h = tt

  -- a command makes no weak pointer alive except a new one
  module _ (w : World) (m : ℕ) (makes : (key v finaliser : Operand) →
      R (next_name (state_of w m) m) (record { key = value_for w m key; value = value_for w m v; finaliser = value_for w m finaliser })) where
    made_weak : (c : Command) → IfSome (made_by w m c) (AliveOk (next_name (state_of w m) m))
    made_weak (command.Weak dest key v finaliser) = makes key v finaliser
    made_weak (command.Con dest tag fields) = tt
    made_weak (command.Var dest v) = tt
    made_weak (command.Arr dest count v) = tt
    made_weak (command.Rec dest fields) = tt
    made_weak (command.Thunk dest free) = tt
    made_weak (command.Stack dest size) = tt
    made_weak _ = tt

  pub step_weaks : (w : World) (m : ℕ) (c : Command) → m < length w.mutators → m ≢ SHARED_MAKER →
      ((key v finaliser : Operand) → R (next_name (state_of w m) m) (record {
        key = value_for w m key;
        value = value_for w m v;
        finaliser = value_for w m finaliser;
      })) → WeaksOk w → WeaksOk (step w m c).0
  step_weaks w m c lt own makes h =
      stepped_nodes Any AliveOk w m c lt own
      (λ made is. at_some (made_by w m c) made (AliveOk (next_name (state_of w m) m)) is (made_weak w m makes c))
      (λ name found ch there q k. changed_weak ch name.maker name found k)
      (step w m c).0 (stepped w m c) h
