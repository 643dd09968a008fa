-- The reference heap: worlds, the commands of mutators, and the effect of a command on a world.
use Rattle.std.specs.Option.{option_to_list}
use Rattle.std.specs.Prelude.{All, Bool, List, None, Option, Some, [], drop, false, if◌then◌else◌, length, map, nat_lt, option_map, replicate, slice_get, slice_index_or, slice_set, take, true, ℕ, ◌&&◌, ◌++◌, ◌+◌, ◌-◌, ◌<◌, ◌==◌, ◌^◌, ◌∷◌, ◌≡◌, ◌≤◌}
use Rattle.nmgc_limits.specs.declared.mutators.TheConstants.{REGISTERS, SHARED_MAKER, SHARED_SLOTS}
use Rattle.nmgc_world_spec.specs.declared.command.Reply.TheVariants.{Already, Dead, Fine, Fixed, Given, No, NoField, NoPointer, NotOwner, Nothing, StackEmpty, StackFull, Updated, WrongKind, Yes}
use Rattle.nmgc_world_spec.specs.declared.node.Node.TheVariants.{Arr, Con, Stack, Thunk, Var, Weak}
use Rattle.nmgc_world_spec.specs.{declared.change.Change.Change, declared.command.Command.Command, declared.command.Operand.Operand, declared.command.Operand.TheVariants.Register, declared.command.Operand.TheVariants.Shared, declared.command.Reply.Reply, declared.mutator_state.MutatorState.MutatorState, declared.node.Node.Node, declared.node.Parts.Parts, declared.value.Name.Name, declared.value.Value.Value}
use Rattle.nmgc_world_spec.specs.declared.change.Change.TheVariants as change
use Rattle.nmgc_world_spec.specs.declared.command.Command.TheVariants as command
use Rattle.nmgc_world_spec.specs.declared.value.Value.TheVariants as value

-- a world, the reference heap's state: the node of g, and each mutator's registers, finaliser queue and nodes by serial
pub record World : Type 0 where
  pub shared : Node
  pub mutators : List MutatorState

-- the state of a mutator that doesn't exist
abbrev pub no_mutator : MutatorState
no_mutator = record { registers = []; queue = []; nodes = [] }

-- the state of the mutator with this number
abbrev pub state_of : World → ℕ → MutatorState
state_of w m = slice_index_or w.mutators m no_mutator

-- the next serial of a mutator, which is also the number of objects that it made
abbrev pub serial_of : World → ℕ → ℕ
serial_of w m = length (state_of w m).nodes

-- the node of a name, if the name is in the map
abbrev pub node_of : World → Name → Option Node
node_of w name = if name.maker == SHARED_MAKER then (if name.serial == 0 then Some w.shared else None) else slice_get (state_of w name.maker).nodes name.serial

-- the values of a weak pointer's three parts; none if it is dead
abbrev pub parts_held : Option Parts → List Value
parts_held None = []
parts_held (Some p) = p.key ∷ p.value ∷ p.finaliser ∷ []

-- every value that a node holds
abbrev pub held_by : Node → List Value
held_by (Con tag values) = values
held_by (Var v) = v ∷ []
held_by (Arr values) = values
held_by (Thunk free result) = option_to_list result ++ free
held_by (Weak parts) = parts_held parts
held_by (Stack size values) = values

-- the node of g is an array with a value for each slot
abbrev pub IsShared : Node → Type 0
IsShared (Arr values) = length values ≡ SHARED_SLOTS
IsShared _ = ⊥

-- a mutator before any command
abbrev pub new_mutator : MutatorState
new_mutator = record { registers = replicate REGISTERS value.Nil; queue = []; nodes = [] }

-- the world of this number of mutators before any command, with g full of nil
abbrev pub new_world : ℕ → World
new_world mutators = record { shared = Arr (replicate SHARED_SLOTS value.Nil); mutators = replicate mutators new_mutator }

-- The limits of commands. `nmgc_graph` needs only the limit of registers. The other limits hold for scripts, and the layouts of
-- words depend on them.

-- the number of the operand's register is below the bound, if the operand is a register
abbrev pub IsOperandBelow : ℕ → Operand → Type 0
IsOperandBelow bound (Register r) = r < bound
IsOperandBelow bound Shared = Unit {0}

-- the numbers of all registers that the command names are below the bound
abbrev pub HasRegistersBelow : ℕ → Command → Type 0
HasRegistersBelow b (command.Num dest number) = dest < b
HasRegistersBelow b (command.Nil dest) = dest < b
HasRegistersBelow b (command.Mov dest value) = (dest < b) × IsOperandBelow b value
HasRegistersBelow b (command.Con dest tag fields) = (dest < b) × All (IsOperandBelow b) fields
HasRegistersBelow b (command.Var dest value) = (dest < b) × IsOperandBelow b value
HasRegistersBelow b (command.Arr dest count value) = (dest < b) × IsOperandBelow b value
HasRegistersBelow b (command.Rec dest fields) = (dest < b) × All (IsOperandBelow b) fields
HasRegistersBelow b (command.Thunk dest free) = (dest < b) × All (IsOperandBelow b) free
HasRegistersBelow b (command.Weak dest key value finaliser) = (dest < b) × IsOperandBelow b key × IsOperandBelow b value × IsOperandBelow b finaliser
HasRegistersBelow b (command.Stack dest size) = dest < b
HasRegistersBelow b (command.Get dest object index) = (dest < b) × IsOperandBelow b object
HasRegistersBelow b (command.Tag dest object) = (dest < b) × IsOperandBelow b object
HasRegistersBelow b (command.Set object index value) = IsOperandBelow b object × IsOperandBelow b value
HasRegistersBelow b (command.Cas object index expected value) = IsOperandBelow b object × IsOperandBelow b expected × IsOperandBelow b value
HasRegistersBelow b (command.Update object value) = IsOperandBelow b object × IsOperandBelow b value
HasRegistersBelow b (command.Force dest object) = (dest < b) × IsOperandBelow b object
HasRegistersBelow b (command.Push object value) = IsOperandBelow b object × IsOperandBelow b value
HasRegistersBelow b (command.Pop dest object) = (dest < b) × IsOperandBelow b object
HasRegistersBelow b (command.Deref dest object) = (dest < b) × IsOperandBelow b object
HasRegistersBelow b (command.Finalise dest object) = (dest < b) × IsOperandBelow b object
HasRegistersBelow b (command.NextFin dest) = dest < b
HasRegistersBelow b (command.Show value) = IsOperandBelow b value
HasRegistersBelow b (command.Same left right) = IsOperandBelow b left × IsOperandBelow b right
HasRegistersBelow b _ = Unit {0}

-- the numbers of a command are within their limits
abbrev pub HasNumbers : Command → Type 0
HasNumbers (command.Num dest number) = number < 2 ^ 62
HasNumbers (command.Con dest tag fields) = tag < 256
HasNumbers (command.Arr dest count value) = count < 65536
HasNumbers (command.Rec dest fields) = length fields < 65536
HasNumbers (command.Thunk dest free) = length free ≤ 8
HasNumbers (command.Stack dest size) = size < 65536
HasNumbers (command.Get dest object index) = index < 65536
HasNumbers (command.Set object index value) = index < 65536
HasNumbers (command.Cas object index expected value) = index < 65536
HasNumbers _ = Unit {0}

-- the number of words of the object that a command makes: a header, a name, and a word for each part; 0 if it makes none
abbrev pub words_made : Command → ℕ
words_made (command.Con dest tag fields) = 2 + length fields
words_made (command.Var dest value) = 3
words_made (command.Arr dest count value) = 2 + count
words_made (command.Rec dest fields) = 2 + length fields
words_made (command.Thunk dest free) = 3 + length free
words_made (command.Weak dest key value finaliser) = 5
words_made (command.Stack dest size) = 2 + size
words_made _ = 0

-- a command fits a script: its registers exist, its numbers are within limits, and its object fits a segment of `words` words
pub record Fits (words : ℕ) (c : Command) : Type 0 where
  pub registers : HasRegistersBelow REGISTERS c
  pub numbers : HasNumbers c
  pub size : words_made c ≤ words

-- The effect of a change on a node, and the reply. Refusals come in the order of the cases, and leave the node as it is.

-- whether two names are the same
abbrev pub is_same_name : Name → Name → Bool
is_same_name a b = (a.maker == b.maker) && (a.serial == b.serial)

-- whether two values are the same nil, number or reference
abbrev pub is_same : Value → Value → Bool
is_same value.Nil value.Nil = true
is_same (value.Number m) (value.Number n) = m == n
is_same (value.Ref a) (value.Ref b) = is_same_name a b
is_same _ _ = false

-- `give` of the value, if there is one, or else `none`
abbrev pub if_there : {A B : Type 0} → B → (A → B) → Option A → B
if_there none give None = none
if_there none give (Some x) = give x

-- the answer of `get`: the field at this index of a constructor, a variable or an array, or else a refusal
abbrev pub field_read : Node → ℕ → Reply
field_read (Con tag values) index = if_there NoField Given (slice_get values index)
field_read (Var v) index = if_there NoField Given (slice_get (v ∷ []) index)
field_read (Arr values) index = if_there NoField Given (slice_get values index)
field_read _ index = WrongKind

-- the answer of `tag`: a constructor's tag as a number, or else a refusal
abbrev pub tag_read : Node → Reply
tag_read (Con tag values) = Given (value.Number tag)
tag_read _ = WrongKind

-- the answer of `force`: the result of a thunk, or else a refusal
abbrev pub result_read : Node → Reply
result_read (Thunk free result) = if_there Nothing Given result
result_read _ = WrongKind

-- the answer of `deref`: the value of a weak pointer that is alive, or else a refusal
abbrev pub value_read : Node → Reply
value_read (Weak parts) = if_there Dead Given (option_map (λ (p : Parts). p.value) parts)
value_read _ = WrongKind

-- the effect of `set`: a variable or an array with this value at the index, or else the same node and a refusal
abbrev pub field_set : Node → ℕ → Value → Node × Reply
field_set (Con tag values) index v = (Con tag values, Fixed)
field_set (Var old) index v = if index == 0 then (Var v, Fine) else (Var old, NoField)
field_set (Arr values) index v = if nat_lt index (length values) then (Arr (slice_set values index v), Fine) else (Arr values, NoField)
field_set node index v = (node, WrongKind)

-- the effect of `cas` on a field: the written node if the field holds the expected value, or else the kept node
abbrev pub exchanged_at : Option Value → Value → Node → Node → Node × Reply
exchanged_at None expected kept written = (kept, NoField)
exchanged_at (Some old) expected kept written = if is_same old expected then (written, Yes) else (kept, No)

-- the effect of `cas`: if a variable or an array holds the expected value at the index, it gets the other value there
abbrev pub field_exchanged : Node → ℕ → Value → Value → Node × Reply
field_exchanged (Con tag values) index expected v = (Con tag values, Fixed)
field_exchanged (Var old) index expected v = exchanged_at (slice_get (old ∷ []) index) expected (Var old) (Var v)
field_exchanged (Arr values) index expected v = exchanged_at (slice_get values index) expected (Arr values) (Arr (slice_set values index v))
field_exchanged node index expected v = (node, WrongKind)

-- the effect of `update`: a thunk without a result gets this value as its result
abbrev pub thunk_updated : Node → Value → Node × Reply
thunk_updated (Thunk free None) v = (Thunk free (Some v), Updated)
thunk_updated (Thunk free (Some old)) v = (Thunk free (Some old), Already)
thunk_updated node v = (node, WrongKind)

-- the effect of `push`: a stack that isn't full gets this value on top, if its maker asks (`own`)
abbrev pub stack_pushed : Bool → Node → Value → Node × Reply
stack_pushed own (Stack size values) v =
    if own then (if nat_lt (length values) size then (Stack size (values ++ v ∷ []), Fine) else (Stack size values, StackFull)) else
    (Stack size values, NotOwner)
stack_pushed own node v = (node, WrongKind)

-- the last value, if there is one
abbrev pub last_of : List Value → Option Value
last_of values = slice_get values (length values - 1)

-- the effect of `pop`: a stack loses its top, which the reply gives, if its maker asks (`own`)
abbrev pub stack_popped : Bool → Node → Node × Reply
stack_popped own (Stack size values) = if own then (Stack size (take (length values - 1) values), if_there StackEmpty Given (last_of values)) else (Stack size values, NotOwner)
stack_popped own node = (node, WrongKind)

-- the effect of `finalise`: a weak pointer that is alive dies, and the reply gives its finaliser
abbrev pub weak_finalised : Node → Node × Reply
weak_finalised (Weak (Some p)) = (Weak None, Given p.finaliser)
weak_finalised (Weak None) = (Weak None, Dead)
weak_finalised node = (node, WrongKind)

-- the effect of `set`, `cas`, `update`, `push`, `pop` or `finalise` on its node: the next node, and the reply
abbrev pub changed : Change → ℕ → Node → Node × Reply
changed (change.Set index v) maker node = field_set node index v
changed (change.Exchange index expected v) maker node = field_exchanged node index expected v
changed (change.Update v) maker node = thunk_updated node v
changed (change.Push m v) maker node = stack_pushed (maker == m) node v
changed (change.Pop m) maker node = stack_popped (maker == m) node
changed change.Finalise maker node = weak_finalised node

-- The effect of a command on a world: the next world, and the reply. It is the whole behaviour of the reference heap.

-- the name of the shared array
abbrev pub shared_name : Name
shared_name = record { maker = SHARED_MAKER; serial = 0 }

-- the value of an operand: the value in its register, among these registers, or the reference to g
abbrev pub value_of : List Value → Operand → Value
value_of registers (Register r) = slice_index_or registers r value.Nil
value_of registers Shared = value.Ref shared_name

-- the value that an operand has for a mutator
abbrev pub value_for : World → ℕ → Operand → Value
value_for w m operand = value_of (state_of w m).registers operand

-- the world with this state of a mutator
abbrev pub with_state : World → ℕ → MutatorState → World
with_state w m state = record w { mutators = slice_set w.mutators m state }

-- the world with the value in a register of the mutator
abbrev pub with_register : World → ℕ → ℕ → Value → World
with_register w m register v = with_state w m (record (state_of w m) { registers = slice_set (state_of w m).registers register v })

-- the world with the value of the reply in a register of the mutator, if the reply gives one
abbrev pub keeping : World → ℕ → ℕ → Reply → World
keeping w m register (Given v) = with_register w m register v
keeping w m register _ = w

-- the name of the next object that a mutator makes
abbrev pub next_name : MutatorState → ℕ → Name
next_name state m = record { maker = m; serial = length state.nodes }

-- the making of a node: the world with the node and with its reference in a register, and the reply that gives the reference
abbrev pub born : World → ℕ → ℕ → Node → World × Reply
born w m register made =
    let state = state_of w m in
    let reference = value.Ref (next_name state m) in
    (with_state w m (record state { registers = slice_set state.registers register reference; nodes = state.nodes ++ made ∷ [] }), Given reference)

-- the world with this node at a name
abbrev pub with_node : World → Name → Node → World
with_node w name made =
    if name.maker == SHARED_MAKER then record w { shared = made } else
    with_state w name.maker (record (state_of w name.maker) { nodes = slice_set (state_of w name.maker).nodes name.serial made })

-- the object that a value refers to, if there is one
abbrev pub object_of : World → Value → Option Node
object_of w (value.Ref name) = node_of w name
object_of w _ = None

-- the effect of a change on the object that a value refers to: the next world and the reply. Without an object the
-- change is refused
abbrev pub change_object : World → Value → Change → World × Reply
change_object w (value.Ref name) c =
    if_there (w, NoPointer) (λ found. (with_node w name (changed c name.maker found).0, (changed c name.maker found).1)) (node_of w name)
change_object w _ c = (w, NoPointer)

-- the result of a read or a change: its world with the value that the reply gives, if any, in the register, and the reply
abbrev pub change_into : ℕ → ℕ → World × Reply → World × Reply
change_into m dest r = (keeping r.0 m dest r.1, r.1)

-- the effect of `nextfin`: the first value of the mutator's finaliser queue, if any, moves into the register
abbrev pub next_finaliser : World → ℕ → ℕ → World × Reply
next_finaliser w m dest =
    let state = state_of w m in
    let rest = record state { queue = drop 1 state.queue } in
    let first = slice_get state.queue 0 in
    (with_state w m (if_there rest (λ v. record rest { registers = slice_set rest.registers dest v }) first), if_there Nothing Given first)

-- the step of the world, its whole behaviour: the next world and the reply to a command. A refusal changes nothing.
abbrev pub step : World → ℕ → Command → World × Reply
step w m (command.Num dest number) = (with_register w m dest (value.Number number), Fine)
step w m (command.Nil dest) = (with_register w m dest value.Nil, Fine)
step w m (command.Mov dest v) = (with_register w m dest (value_for w m v), Fine)
step w m (command.Con dest tag fields) = born w m dest (Con tag (map (value_of (state_of w m).registers) fields))
step w m (command.Var dest v) = born w m dest (Var (value_for w m v))
step w m (command.Arr dest count v) = born w m dest (Arr (replicate count (value_for w m v)))
step w m (command.Rec dest fields) = born w m dest (Arr (map (value_of (state_of w m).registers) fields))
step w m (command.Thunk dest free) = born w m dest (Thunk (map (value_of (state_of w m).registers) free) None)
step w m (command.Weak dest key v finaliser) =
    born w m dest (Weak (Some (record { key = value_for w m key; value = value_for w m v; finaliser = value_for w m finaliser })))
step w m (command.Stack dest size) = born w m dest (Stack size [])
step w m (command.Get dest object index) = change_into m dest (w, if_there NoPointer (λ found. field_read found index) (object_of w (value_for w m object)))
step w m (command.Tag dest object) = change_into m dest (w, if_there NoPointer tag_read (object_of w (value_for w m object)))
step w m (command.Set object index v) = change_object w (value_for w m object) (change.Set index (value_for w m v))
step w m (command.Cas object index expected v) = change_object w (value_for w m object) (change.Exchange index (value_for w m expected) (value_for w m v))
step w m (command.Update object v) = change_object w (value_for w m object) (change.Update (value_for w m v))
step w m (command.Force dest object) = change_into m dest (w, if_there NoPointer result_read (object_of w (value_for w m object)))
step w m (command.Push object v) = change_object w (value_for w m object) (change.Push m (value_for w m v))
step w m (command.Pop dest object) = change_into m dest (change_object w (value_for w m object) (change.Pop m))
step w m (command.Deref dest object) = change_into m dest (w, if_there NoPointer value_read (object_of w (value_for w m object)))
step w m (command.Finalise dest object) = change_into m dest (change_object w (value_for w m object) change.Finalise)
step w m (command.NextFin dest) = next_finaliser w m dest
step w m (command.Show v) = (w, Given (value_for w m v))
step w m (command.Same left right) = (w, if is_same (value_for w m left) (value_for w m right) then Yes else No)
step w m _ = (w, Fine)
