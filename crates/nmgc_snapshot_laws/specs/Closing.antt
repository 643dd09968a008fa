-- The end of marking, by the weak pointers of the snapshot, which may keep names that are only reachable through them. Each
-- set is the least with its rules. Everything here follows fields in the world as it is.
use Rattle.std.specs.Prelude.{◌≡◌, ◌⊎◌, ◌↔◌, List, Contains, IsSome, true}
use Rattle.nmgc_world_spec.specs.{declared.value.Name.Name, declared.node.Parts.Parts, World.node_of, Reach.RefersTo, Reach.IsAlive, Reach.IsPlain, Reach.IsKeptBy, Reach.Lists, Reach.closed}
use Rattle.nmgc_world_spec.specs.declared.value.Value.TheVariants as value
use Rattle.nmgc_snapshot_laws.specs.State.{State}

-- a waiting weak pointer: it was alive in the snapshot, with these parts, and hasn't been finalised since
pub record IsWaiting (s : State) (weak : Name) (parts : Parts) : Type 0 where
  pub alive : IsAlive s.snapshot weak parts
  pub not_finalised : Contains s.finalised weak → ⊥

-- a name of the snapshot that was not marked before the closing
pub record IsUnmarked (s : State) (name : Name) : Type 0 where
  pub there : IsSome (node_of s.snapshot name)
  pub unmarked : Contains s.marked name → ⊥

-- the names that the closing marks first: the least set with two rules. A waiting weak pointer whose key is nil, a number or
-- marked adds itself, its value and its finaliser; a key in this set counts as marked. A name of the set adds the targets of
-- its strong fields in the world as it is. Only unmarked names of the snapshot are added.
pub data IsRevived (s : State) : Name → Type 0 where
  plain_key : (weak target : Name) (parts : Parts) → IsWaiting s weak parts → IsPlain parts.key → IsKeptBy weak parts target → IsUnmarked s target →
      IsRevived s target
  marked_key : (weak target key : Name) (parts : Parts) → IsWaiting s weak parts → parts.key ≡ value.Ref key → Contains s.marked key →
      IsKeptBy weak parts target → IsUnmarked s target → IsRevived s target
  revived_key : (weak target key : Name) (parts : Parts) → IsWaiting s weak parts → parts.key ≡ value.Ref key → IsRevived s key →
      IsKeptBy weak parts target → IsUnmarked s target → IsRevived s target
  field : (name target : Name) → IsRevived s name → RefersTo s.world name target → IsUnmarked s target → IsRevived s target

-- the marked names after the closing's first part: names marked before the closing, and names that the closing marks first
abbrev pub IsMarkedFirst : State → Name → Type 0
IsMarkedFirst s name = Contains s.marked name ⊎ IsRevived s name

-- a dying weak pointer: it waits, and its key refers to a name that is neither marked already nor among those marked first
pub record IsDying (s : State) (weak : Name) : Type 0 where
  pub parts : Parts
  pub waiting : IsWaiting s weak parts
  pub key : Name
  pub key_is : parts.key ≡ value.Ref key
  pub lost : IsMarkedFirst s key → ⊥

-- the names that the closing marks last: the unmarked names of the snapshot reachable from finalisers of dying weak pointers
pub data IsRescued (s : State) : Name → Type 0 where
  finaliser : (weak target : Name) (dying : IsDying s weak) → dying.parts.finaliser ≡ value.Ref target → IsUnmarked s target → IsRescued s target
  field : (name target : Name) → IsRescued s name → RefersTo s.world name target → IsUnmarked s target → IsRescued s target

-- the names that are marked in the end: those marked first, and all that finalisers of dying weak pointers reach
abbrev pub IsMarkedLast : State → Name → Type 0
IsMarkedLast s name = IsMarkedFirst s name ⊎ IsRescued s name

-- a closing: it completes the marks, only with names of the snapshot, and closes the world with the weak pointers that die
pub record IsClosing (s next : State) : Type 0 where
  pub dead : List Name
  pub lists : Lists (IsDying s) dead
  pub marked : (name : Name) → Contains next.marked name ↔ IsMarkedLast s name
  pub rest : next ≡ record s { world = closed s.world dead; marked = next.marked; is_closed = true }
