-- The effect of each step of a closing on the marking machine: the step marks more, and changes nothing else.
use Rattle.std.specs.Prelude.{ℕ, ◌≡◌, ◌≢◌, ◌⊎◌, ◌/◌, ◌%◌, ◌++◌, List, Contains, IsSome}
use Rattle.nmgc_world_spec.specs.{declared.value.Name.Name, declared.value.Value.Value, declared.node.Parts.Parts, World.node_of, Reach.IsAlive, Reach.IsKeptBy, Reach.IsInOrder, Reach.AreDistinct}
use Rattle.nmgc_world_spec.specs.declared.value.Value.TheVariants as value
use Rattle.nmgc_object.specs.declared.layout.TheConstants.{SHARED_PLACE}
use Rattle.nmgc_snapshot_laws.specs.{Closing.IsWaiting, Closing.IsClosing, State.State as Core}
use Rattle.nmgc_alloc.specs.{Blocks.IsSnapshotAt, Blocks.IsMarkedAt, AllocState.Segments}
use Rattle.nmgc_heap_spec.specs.Objects.{Place}
use Rattle.nmgc_round.specs.{Marking.marks_of, View.Opening}
use Rattle.nmgc_mark.specs.{Seen.MarkerSeen, Tie.IsTied}
use Rattle.nmgc_weak.specs.{declared.weaks.OldWeak.OldWeak, Resolve.CanResolve, Weaks.names_of, Weaks.places_of}

-- a key that counts as marked, so that its weak pointer keeps its parts: nil, a number, or a marked name
abbrev pub IsKeyMarked : List Name → Value → Type 0
IsKeyMarked marked value.Nil = Unit {0}
IsKeyMarked marked (value.Number n) = Unit {0}
IsKeyMarked marked (value.Ref name) = Contains marked name

-- the word of a key that counts as marked: it is no pointer, or points to g or to a block marked with the epoch
abbrev pub IsKeyMarkedWord : Segments → ℕ → ℕ → Type 0
IsKeyMarkedWord s epoch word = (word % 2 ≢ 0) ⊎ ((word / 2 ≡ SHARED_PLACE) ⊎ IsMarkedAt s epoch (word / 2))

-- a block of the snapshot begins at the address, and the key word doesn't count as marked
abbrev pub IsLostAt : Segments → ℕ → ℕ → ℕ → Type 0
IsLostAt s epoch at key = IsSnapshotAt s at × (IsKeyMarkedWord s epoch key → ⊥)

-- a lost weak pointer: it waits, and its key doesn't count as marked
pub record IsLost (core : Core) (weak : Name) : Type 0 where
  pub parts : Parts
  pub waiting : IsWaiting core weak parts
  pub lost : IsKeyMarked core.marked parts.key → ⊥

-- each weak pointer of `weaks` that waits and whose key is marked in `shown` has its parts marked in `marked`
abbrev pub AreKept : Core → List Name → List Name → List Name → Type 0
AreKept core weaks shown marked = (weak target : Name) (parts : Parts) → Contains weaks weak → IsWaiting core weak parts →
    IsKeyMarked shown parts.key → IsKeptBy weak parts target → Contains marked target

-- the same opening with more marks
pub record MarksOn (o next : Opening) : Type 0 where
  pub more : List Name
  pub marked : next.core.marked ≡ o.core.marked ++ more
  pub rest : next ≡ record o { core = record o.core { marked = next.core.marked } }

-- the same opening with more marks, still meeting the conditions of a closing
pub record GoesTo (o next : Opening) (words : List ℕ) (s : Segments) (marker : MarkerSeen) (weaks : List Place) : Type 0 where
  pub later : MarksOn o next
  pub can : CanResolve next words s marker weaks

-- a step that only adds marks, and keeps the conditions of a closing in each opening that meets them
abbrev pub GoesOn : List ℕ → Segments → Segments → MarkerSeen → MarkerSeen → List Place → Type 0
GoesOn words old new before after weaks = (o : Opening) → CanResolve o words old before weaks → (next : Opening) × GoesTo o next words new after weaks

-- saturated marks: each waiting weak pointer with a marked key has its parts marked, so nothing is left to revive
abbrev pub IsSaturated : Opening → List Place → Type 0
IsSaturated o weaks = (weak target : Name) (parts : Parts) → IsWaiting o.core weak parts → IsKeyMarked o.core.marked parts.key →
    IsKeptBy weak parts target → Contains o.core.marked target

-- the list of the dying: exactly the lost weak pointers, which wait and have no marked key, in order of names
pub record AreLost (o : Opening) (weaks : List Place) (dying : List OldWeak) : Type 0 where
  pub ordered : IsInOrder (names_of dying)
  pub sound : (place : Place) → Contains (places_of dying) place → Contains weaks place × IsLost o.core place.name
  pub complete : (place : Place) → Contains weaks place → IsLost o.core place.name → Contains (places_of dying) place

-- rescued marks: all that the finalisers of the dying reach is marked, so the machine has closed, except for the world
pub record HasRescued (o : Opening) (s : Segments) (marker : MarkerSeen) (dying : List OldWeak) : Type 0 where
  pub next : Core
  pub closing : IsClosing o.core next
  pub dead : closing.dead ≡ names_of dying
  pub once : AreDistinct next.marked
  pub tied : IsTied o (marks_of next) s marker

-- a listed weak pointer of the snapshot whose key is marked
pub record CanKeep (o : Opening) (words : List ℕ) (s : Segments) (marker : MarkerSeen) (weaks : List Place) (at : ℕ) (weak : Name) : Type 0 where
  pub can : CanResolve o words s marker weaks
  pub listed : Contains weaks (record { at = at; name = weak })
  pub known : IsSome (node_of o.core.snapshot weak)
  pub key_marked : (parts : Parts) → IsAlive o.core.world weak parts → IsKeyMarked o.core.marked parts.key

-- the same opening with the weak pointer's parts marked
pub record HasKept (o : Opening) (words : List ℕ) (s : Segments) (marker : MarkerSeen) (weaks : List Place) (weak : Name) : Type 0 where
  pub next : Opening
  pub goes : GoesTo o next words s marker weaks
  pub kept : (target : Name) (parts : Parts) → IsAlive o.core.world weak parts → IsKeptBy weak parts target → Contains next.core.marked target

-- a pass so far: each weak pointer that it has passed and whose key was marked has kept its parts
pub record HasPassed (o : Opening) (words : List ℕ) (s : Segments) (marker : MarkerSeen) (weaks : List Place) (passed : List Name) : Type 0 where
  pub next : Opening
  pub goes : GoesTo o next words s marker weaks
  pub kept : AreKept o.core passed o.core.marked next.core.marked

-- the same opening with more marks: each weak pointer with a marked key has its parts marked
pub record HasRevived (o : Opening) (words : List ℕ) (s : Segments) (marker : MarkerSeen) (weaks : List Place) : Type 0 where
  pub next : Opening
  pub goes : GoesTo o next words s marker weaks
  pub saturated : IsSaturated next weaks

-- an opening whose dying weak pointers are known: all that is revived is marked, and `dying` lists the lost weak pointers
pub record CanRescue (o : Opening) (words : List ℕ) (s : Segments) (marker : MarkerSeen) (weaks : List Place) (dying : List OldWeak) : Type 0 where
  pub can : CanResolve o words s marker weaks
  pub saturated : IsSaturated o weaks
  pub lost : AreLost o weaks dying
