-- The search of the closing: the marked names, and among them the names whose fields still have to be followed.
use Rattle.std.specs.Prelude.{◌≡◌, ◌≤◌, ◌+◌, ◌⊎◌, List, [], ◌∷◌, length, Option, Some, None, Bool, true, false, not, Contains, IsSome, if◌then◌else◌}
use Rattle.nmgc_world_spec.specs.{declared.value.Name.Name, declared.value.Value.Value, declared.node.Parts.Parts, World.World, World.node_of, Reach.RefersTo, Reach.IsAlive, Reach.IsKeptBy}
use Rattle.nmgc_world_spec.specs.declared.value.Value.TheVariants as value
use Rattle.nmgc_graph.specs.{Marks.IsMarked, Marks.HasPlaces, Marks.unmarked_count, Search.is_key_marked}
use Rattle.nmgc_core.specs.declared.closing.Finding.{Finding}
use Rattle.nmgc_snapshot_laws.specs.{State.State, Closing.IsUnmarked, Closing.IsWaiting, Closing.IsMarkedFirst, Closing.IsMarkedLast}

-- a step of the search: the names of the snapshot to which these values refer are marked
pub record Adds (snapshot : World) (s t : Finding) (values : List Value) : Type 0 where
  pub kept : (n : Name) → IsMarked s.marks n → IsMarked t.marks n
  pub waits : (n : Name) → Contains s.work n → Contains t.work n
  pub hit : (n : Name) → IsSome (node_of snapshot n) → Contains values (value.Ref n) → IsMarked t.marks n
  pub fresh : (n : Name) → IsMarked t.marks n → IsMarked s.marks n ⊎ (IsSome (node_of snapshot n) × Contains values (value.Ref n) × Contains t.work n)
  pub waiting : (n : Name) → Contains t.work n → Contains s.work n ⊎ (IsMarked t.marks n × (IsMarked s.marks n → ⊥))
  pub count : unmarked_count t.marks + length t.work ≡ unmarked_count s.marks + length s.work
  pub longer : length s.work ≤ length t.work
  pub places : HasPlaces snapshot t.marks

-- the invariant of the search: all names marked before the closing are marked, and names that wait are newly marked. If a
-- newly marked name doesn't wait, each of its fields was followed
pub record IsSearch (s : State) (f : Finding) : Type 0 where
  pub places : HasPlaces s.snapshot f.marks
  pub begun : (n : Name) → Contains s.marked n → IsMarked f.marks n
  pub waiting : (n : Name) → Contains f.work n → IsMarked f.marks n × (Contains s.marked n → ⊥)
  pub traced : (n target : Name) → IsMarked f.marks n → (Contains s.marked n → ⊥) → RefersTo s.world n target → IsSome (node_of s.snapshot target) →
      Contains f.work n ⊎ IsMarked f.marks target

-- the names with P, and all names reachable from them by fields of names that were not marked before the closing
pub data IsReached (s : State) (P : Name → Type 0) : Name → Type 0 where
  start : (n : Name) → P n → IsReached s P n
  field : (n target : Name) → IsReached s P n → (Contains s.marked n → ⊥) → RefersTo s.world n target → IsUnmarked s target → IsReached s P target

-- the search after fields were followed: every newly marked name is reachable from names marked before
pub record IsFollowed (s : State) (old new : Finding) : Type 0 where
  pub search : IsSearch s new
  pub kept : (n : Name) → IsMarked old.marks n → IsMarked new.marks n
  pub sound : (n : Name) → IsMarked new.marks n → IsReached s (IsMarked old.marks) n
  pub fewer : unmarked_count new.marks ≤ unmarked_count old.marks

-- a weak pointer that waits for its key
abbrev pub IsWaitingWeak : State → Name → Type 0
IsWaitingWeak s weak = (parts : Parts) × IsWaiting s weak parts

-- the values that a weak pointer marks if its key is marked: itself, its value and its finaliser
abbrev pub values_kept : List (List Bool) → Name → Option Parts → List Value
values_kept marks weak None = []
values_kept marks weak (Some parts) = if is_key_marked marks parts.key then value.Ref weak ∷ parts.value ∷ parts.finaliser ∷ [] else []

-- a search that has marked only names that the closing marks first (`IsMarkedFirst`)
pub record IsReviving (s : State) (f : Finding) : Type 0 where
  pub search : IsSearch s f
  pub sound : (n : Name) → IsMarked f.marks n → IsMarkedFirst s n

-- each weak pointer with a marked key has marked itself, its value and its finaliser, unless the key still waits
abbrev pub AreRevived : State → List Name → Finding → Type 0
AreRevived s weaks f = (weak target : Name) (parts : Parts) → Contains weaks weak → IsAlive s.snapshot weak parts →
    is_key_marked f.marks parts.key ≡ true → IsKeptBy weak parts target → IsSome (node_of s.snapshot target) →
    ((key : Name) × (parts.key ≡ value.Ref key) × Contains f.work key) ⊎ IsMarked f.marks target

-- the search after a pass over the weak pointers
pub record IsPass (s : State) (weaks : List Name) (old new : Finding) : Type 0 where
  pub reviving : IsReviving s new
  pub revived : AreRevived s weaks new
  pub count : unmarked_count new.marks + length new.work ≡ unmarked_count old.marks + length old.work

-- exactly the names that the closing marks first (`IsMarkedFirst`) are marked, and no name waits
pub record IsFirstFound (s : State) (f : Finding) : Type 0 where
  pub search : IsSearch s f
  pub empty : f.work ≡ []
  pub sound : (n : Name) → IsMarked f.marks n → IsMarkedFirst s n
  pub complete : (n : Name) → IsMarkedFirst s n → IsMarked f.marks n

-- whether a weak pointer with these parts is alive and its key isn't marked
abbrev pub is_hidden : List (List Bool) → Option Parts → Bool
is_hidden marks None = false
is_hidden marks (Some parts) = not (is_key_marked marks parts.key)

-- exactly the names that are marked in the end (`IsMarkedLast`) are marked
pub record IsLastFound (s : State) (f : Finding) : Type 0 where
  pub places : HasPlaces s.snapshot f.marks
  pub sound : (n : Name) → IsMarked f.marks n → IsMarkedLast s n
  pub complete : (n : Name) → IsMarkedLast s n → IsMarked f.marks n
