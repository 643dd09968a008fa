-- Several commands in one line, as tasks: a copy of many fields, a fill, and the commands that empty registers.
use Rattle.std.specs.Prelude.{◌≡◌, ◌+◌, ◌-◌, ◌^◌, min, ℕ, zero, suc, List, [], ◌∷◌, ◌++◌, Bool, true, false, if◌then◌else◌, Option, Some, None}
use Rattle.nmgc_world_spec.specs.declared.command.Operand.TheVariants as operand
use Rattle.nmgc_world_spec.specs.{declared.command.Command.Command, declared.command.Reply.Reply}
use Rattle.nmgc_world_spec.specs.declared.command.Command.TheVariants as command
use Rattle.nmgc_world_spec.specs.declared.command.Reply.TheVariants as reply
use Rattle.nmgc_barrier_checker.specs.{declared.rows.Copying.Copying, declared.rows.Filling.Filling, declared.rows.Task.Task}

-- whether this answer means that a command was done: the answer gives a value, or there was none to give
abbrev pub is_done : Reply → Bool
is_done (reply.Given v) = true
is_done reply.Fine = true
is_done answer = false

-- whether an answer suits a task: it is the task's own answer or, if the task has none, means that the command was done
abbrev pub Suits : Option Reply → Reply → Type 0
Suits None answer = is_done answer ≡ true
Suits (Some wanted) answer = answer ≡ wanted

-- the task of a command that has to be done, with any answer that means so
abbrev pub task_of : Command → Task
task_of c = record { command = c; answer = None }

-- the position of the field that a step of a copy copies; a copy that goes down begins with the last field
abbrev pub turn_place : Copying → ℕ → ℕ
turn_place copying turn = if copying.down then copying.count - 1 - turn else turn

-- the index of the field at a position after `first`. An index above the greatest becomes the greatest, which no object has
abbrev pub index_at : ℕ → ℕ → ℕ
index_at first place = min (first + place) (2 ^ 32 - 1)

-- the load of a step of a copy
abbrev pub load_of : Copying → ℕ → Task
load_of copying turn = task_of (command.Get copying.via copying.from (index_at copying.first (turn_place copying turn)))

-- the store of a step of a copy
abbrev pub store_of : Copying → ℕ → Task
store_of copying turn = task_of (command.Set copying.to (index_at copying.place (turn_place copying turn)) (operand.Register copying.via))

-- the store of a step of a fill
abbrev pub write_of : Filling → ℕ → Task
write_of filling turn = task_of (command.Set filling.object (index_at filling.first turn) filling.value)

-- the commands of the first steps of a copy of fields by a register: a load and a store for each field, upwards or downwards
abbrev pub copied : Copying → ℕ → List Task
copied copying zero = []
copied copying (suc turn) = copied copying turn ++ load_of copying turn ∷ store_of copying turn ∷ []

-- the commands of the first steps of a fill: a store for each field
abbrev pub filled : Filling → ℕ → List Task
filled filling zero = []
filled filling (suc turn) = filled filling turn ++ write_of filling turn ∷ []

-- the commands that empty the first registers of a mutator, in order
unfoldable pub emptied : ℕ → List Task
emptied zero = []
emptied (suc r) = emptied r ++ task_of (command.Nil r) ∷ []
