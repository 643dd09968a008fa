-- The facts that every event before the closing keeps together.
--
-- The whole argument: all that a mutator can ever hold was live at the snapshot or is new, so owed and marked names are live.
-- And each strong field of the snapshot is looked after (`Kept`). Its target is marked, owed or pushed, or the field is
-- unchanged and no scan has passed it. Only a change removes a target, and owes it. A scan passes a field only by reading it.
--
-- Opened names make more names live. So a fact about the fields of live names alone wouldn't be kept. `fields` is about all
-- names: the target of every field was its target in the snapshot or may be held, which stays true as names are opened.
use Rattle.std.specs.Prelude.{◌≡◌, ◌≤◌, ◌+◌, ◌⊎◌, ℕ, length, Some, false, IsSome, All, Contains}
use Rattle.nmgc_world_spec.specs.{declared.value.Name.Name, declared.node.Parts.Parts, declared.node.Node.Node, World.World, World.node_of, World.serial_of, Known.IsWorld, Reach.IsLive, Reach.IsRoot, Reach.IsAlive, Reach.IsKeptBy, Reach.RefersTo}
use Rattle.nmgc_world_spec.specs.declared.value.Value.TheVariants as value
use Rattle.nmgc_snapshot_laws.specs.{declared.event.Entry.Entry, State.State, State.names_of}
use Rattle.nmgc_world_laws.specs.Holds.{CoversReach, OfParts, HasStrongField, StillThere, has_result}

-- a name that is live in the snapshot
abbrev pub IsLiveIn : State → Name → Type 0
IsLiveIn s name = IsLive s.snapshot s.opened name

-- a name that a mutator may hold: it is new since the snapshot, or live in the snapshot
abbrev pub MayHold : State → Name → Type 0
MayHold s name = IsSome (node_of s.snapshot name) → IsLiveIn s name

-- the parts of a weak pointer that is alive: unchanged if it is in the snapshot, and with only names of `P` if it is new
pub record AsThen (snapshot : World) (P : Name → Type 0) (weak : Name) (parts : Parts) : Type 0 where
  pub old : IsSome (node_of snapshot weak) → IsAlive snapshot weak parts
  pub new : (IsSome (node_of snapshot weak) → ⊥) → OfParts P parts

-- a name that marking can't lose: it is marked, owed or pushed
pub data IsSafe (s : State) (name : Name) : Type 0 where
  marked : Contains s.marked name → IsSafe s name
  owed : (m : ℕ) → Contains (names_of s.owed m) name → IsSafe s name
  pushed : (m : ℕ) → Contains (names_of s.pushed m) name → IsSafe s name

-- a field that the scan of its object hasn't reached: the object isn't marked, or its queue entry isn't past the field
pub data IsAhead (s : State) (name : Name) (i : ℕ) : Type 0 where
  unmarked : (Contains s.marked name → ⊥) → IsAhead s name i
  queued : (entry : Entry) → Contains s.queue entry → entry.name ≡ name → entry.position ≤ i + 1 → IsAhead s name i

-- a strong field that is looked after: its target is safe, or the field is unchanged and the scan hasn't reached it yet
abbrev pub Kept : State → Name → ℕ → Name → Type 0
Kept s name i target = IsSafe s target ⊎ (HasStrongField s.world name i (value.Ref target) × IsAhead s name i)

-- an entry may be past a thunk's result only if the thunk has no result in the snapshot
abbrev pub IsPassed : State → Entry → Type 0
IsPassed s entry = (entry.position ≤ 1) ⊎ ((node : Node) → node_of s.snapshot entry.name ≡ Some node → has_result node ≡ false)

-- the part of the facts that holds from the first mark on, before all roots are marked; the comment on `Facts` explains it
pub record Base (s : State) : Type 0 where
  pub snapshot : IsWorld s.snapshot
  pub mutators : length s.world.mutators ≡ length s.snapshot.mutators
  pub serials : (k : ℕ) → serial_of s.snapshot k ≤ serial_of s.world k
  pub owed_lists : length s.owed ≡ length s.world.mutators
  pub pushed_lists : length s.pushed ≡ length s.world.mutators
  pub holds : CoversReach (MayHold s) s.world
  pub fields : (name target : Name) → RefersTo s.world name target → MayHold s target ⊎ RefersTo s.snapshot name target
  pub weaks : (weak : Name) (parts : Parts) → IsAlive s.world weak parts → AsThen s.snapshot (MayHold s) weak parts
  pub alive : (weak : Name) (parts : Parts) → IsAlive s.snapshot weak parts → (Contains s.finalised weak → ⊥) → IsAlive s.world weak parts
  pub owed : (m : ℕ) → All (MayHold s) (names_of s.owed m)
  pub pushed : (m : ℕ) → All (MayHold s) (names_of s.pushed m)
  pub later : (name : Name) (before : Node) → node_of s.snapshot name ≡ Some before → StillThere s.world name before
  pub live : (name : Name) → Contains s.marked name → IsLiveIn s name
  pub queued : (entry : Entry) → Contains s.queue entry → Contains s.marked entry.name
  pub passed : (entry : Entry) → Contains s.queue entry → IsPassed s entry

-- the facts, from the opening to the closing. Registers, queues, owed and pushed lists, strong fields of live or new objects,
-- and parts of new weak pointers contain only live or new names (`holds`, `owed`, `pushed`, `fields`, `weaks`). A weak
-- pointer that is alive and wasn't finalised keeps its parts (`alive`). Each strong field of the snapshot is looked after
-- (`kept`). Marked names are live, queued names are marked, and roots are marked (`live`, `queued`, `roots`). Opened names,
-- and each finalised weak pointer with all that it kept, are marked, owed or pushed (`opened`, `ended`, `finalised`).
pub record Facts (s : State) : Type 0 where
  pub base : Base s
  pub roots : (name : Name) → IsRoot s.snapshot name → Contains s.marked name
  pub kept : (name : Name) (i : ℕ) (target : Name) → HasStrongField s.snapshot name i (value.Ref target) → Kept s name i target
  pub opened : (name : Name) → Contains s.opened name → IsSome (node_of s.snapshot name) → IsSafe s name
  pub ended : (weak : Name) → Contains s.finalised weak → IsSome (node_of s.snapshot weak) → IsSafe s weak
  pub finalised : (weak target : Name) (parts : Parts) → Contains s.finalised weak → IsAlive s.snapshot weak parts → IsKeptBy weak parts target →
      IsSafe s target
