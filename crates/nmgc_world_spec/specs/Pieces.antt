-- Names for parts of the step, of the opened names and of the owed values. Contracts of single functions and proofs use them;
-- no clause of the programs cites this module.
use Rattle.std.specs.Prelude.{◌≡◌, ◌⊎◌, ℕ, ◌-◌, List, [], ◌∷◌, ◌++◌, length, map, drop, slice_get, slice_set, take, filter, Option, Some, None, Bool, if◌then◌else◌, option_to_list}
use Rattle.nmgc_world_spec.specs.{declared.value.Name.Name, declared.value.Value.Value, declared.node.Parts.Parts, declared.node.Node.Node, declared.node.Node.TheVariants.Thunk, declared.node.Node.TheVariants.Weak, declared.node.Node.TheVariants.Stack, declared.command.Operand.Operand, declared.command.Reply.Reply, declared.command.Reply.TheVariants.NoPointer, declared.command.Reply.TheVariants.Yes, declared.command.Reply.TheVariants.No, declared.command.Reply.TheVariants.Given, declared.change.Change.Change, declared.mutator_state.MutatorState.MutatorState, World.World, World.state_of, World.is_same, World.last_of, World.if_there, World.changed, World.value_of, World.keeping, World.next_name, World.with_node, Reach.name_in, Reach.from_alive, Reach.owed_in, Reach.IsRoot, Reach.IsAlive, Reach.IsOfWeak}
use Rattle.nmgc_world_spec.specs.declared.value.Value.TheVariants as value

-- all values except the last
abbrev pub without_last : List Value → List Value
without_last values = take (length values - 1) values

-- the values that operands have for a mutator
abbrev pub values_for : World → ℕ → List Operand → List Value
values_for w m operands = map (value_of (state_of w m).registers) operands

-- the mutator's state with the value in a register
abbrev pub holding : MutatorState → ℕ → Value → MutatorState
holding state register v = record state { registers = slice_set state.registers register v }

-- the mutator's state with a new node, and its reference in a register
abbrev pub with_new : MutatorState → ℕ → ℕ → Node → MutatorState
with_new state m register made = record state {
  registers = slice_set state.registers register (value.Ref (next_name state m));
  nodes = state.nodes ++ made ∷ [];
}

-- the mutator's state with this node at a serial
abbrev pub with_nth : MutatorState → ℕ → Node → MutatorState
with_nth state serial made = record state { nodes = slice_set state.nodes serial made }

-- the answer of a read of an object, or a refusal if there is no object
abbrev pub read_object : Option Node → (Node → Reply) → Reply
read_object o read = if_there NoPointer read o

-- the effect of a change on the node of a name: the next world and the reply; without a node the change is refused
abbrev pub change_node : World → Name → Option Node → Change → World × Reply
change_node w name o c = if_there (w, NoPointer) (λ found. (with_node w name (changed c name.maker found).0, (changed c name.maker found).1)) o

-- the result of a read: the world with the value that the reply gives, if any, in the register, and the reply
abbrev pub read_into : World → ℕ → ℕ → Reply → World × Reply
read_into w m dest reply = (keeping w m dest reply, reply)

-- the mutator's state with the value in a register, if there is a value
abbrev pub holding_given : MutatorState → ℕ → Option Value → MutatorState
holding_given state register o = if_there state (λ v. record state { registers = slice_set state.registers register v }) o

-- the mutator's state with the first value of its finaliser queue, if any, moved into a register
abbrev pub with_finaliser : MutatorState → ℕ → MutatorState
with_finaliser state register = holding_given (record state { queue = drop 1 state.queue }) register (slice_get state.queue 0)

-- the answer of `same`: yes if the two values are the same, and no otherwise
abbrev pub same_reply : Value → Value → Reply
same_reply a b = if is_same a b then Yes else No

-- the name in the value of a weak pointer that is alive
abbrev pub value_opened : Option Node → List Name
value_opened o = from_alive (λ parts. name_in parts.value) o

-- the names that `finalise` opens at a node: the names in the value and the finaliser of a weak pointer that is alive
abbrev pub opened_in : Option Node → List Name
opened_in o = from_alive (λ parts. name_in parts.value ++ name_in parts.finaliser) o

-- the name in the value `v`, if the node is a weak pointer that is alive, so that `finalise` makes it dead
abbrev pub finalised_in : Value → Option Node → List Name
finalised_in v o = from_alive (λ parts. name_in v) o

-- the value that a field holds, if it is the expected value
abbrev pub if_same : Value → Option Value → List Value
if_same expected o = filter (λ old. is_same old expected) (option_to_list o)

-- the free variables of a thunk without a result
abbrev pub free_held : Node → List Value
free_held (Thunk free None) = free
free_held _ = []

-- the top of a stack, if the mutator owns it
abbrev pub top_held : Bool → Node → List Value
top_held own (Stack size values) = if own then option_to_list (last_of values) else []
top_held own _ = []

-- a weak pointer that is alive, with its value and its finaliser; none for other nodes
abbrev pub weak_held : Name → Node → List Value
weak_held weak (Weak (Some parts)) = value.Ref weak ∷ parts.value ∷ parts.finaliser ∷ []
weak_held weak _ = []

-- the value of a weak pointer that is alive; none for other nodes
abbrev pub value_held : Option Node → List Value
value_held o = from_alive (λ parts. parts.value ∷ []) o

-- the values owed for a change of a name's node, if the name has a node; otherwise none
abbrev pub owed_at : Change → Name → Option Node → List Value
owed_at c name o = if_there [] (λ node. owed_in c name node) o

-- a root, a weak pointer that is alive, or a name to which a part of a weak pointer that is alive refers
abbrev pub IsWideRoot : World → Name → Type 0
IsWideRoot w name = IsRoot w name ⊎ ((weak : Name) × (parts : Parts) × IsAlive w weak parts × IsOfWeak weak parts name)

-- the reply that gives this value, or the refusal `refusal` if there is no value
abbrev pub given_or : Reply → Option Value → Reply
given_or refusal o = if_there refusal Given o
