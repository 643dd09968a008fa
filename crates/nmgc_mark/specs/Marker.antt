-- A marker and the segments after a mark, and after many marks.
use Rattle.std.specs.Prelude.{◌≤◌, ℕ, ◌≡◌, ◌+◌, ◌-◌, Bool, List, [], ◌∷◌, ◌++◌, length, map, if◌then◌else◌, Contains}
use Rattle.nmgc_object.specs.declared.words.Address.{Address}
use Rattle.nmgc_alloc.specs.{AllocState.Segments, AllocState.AllocState, AllocState.StandsFor, Blocks.MarksPlace, Blocks.IsSnapshotAt, Blocks.IsMarkedAt}
use Rattle.nmgc_mark.specs.Seen.{MarkerSeen}

-- addresses as numbers: positions in the heap's words
abbrev pub places : List Address → List ℕ
places entries = map (λ (at : Address). at.0) entries

-- a marker that has marked nothing yet
abbrev pub blank : ℕ → ℕ → MarkerSeen
blank epoch spare = record { epoch = epoch; queue = []; spare = spare; marked = 0; turns = 0 }

-- a marker with another number of passes of the gate
abbrev pub turned : MarkerSeen → ℕ → MarkerSeen
turned m turns = record m { turns = turns }

-- segments that represent every allocation state that the old segments represented
abbrev pub StandAsBefore : Segments → Segments → Type 0
StandAsBefore old new = (words : List ℕ) (allocation : AllocState) → StandsFor old words allocation → StandsFor new words allocation

-- the marker after a try to mark: if the block was marked, its address is queued and counted
abbrev pub noted : Bool → ℕ → MarkerSeen → MarkerSeen
noted answer at m = if answer then record m { queue = at ∷ m.queue; spare = m.spare - 1; marked = m.marked + 1 } else m

-- a try to mark at an address: the block that begins there is marked and queued if it is in the snapshot and wasn't marked
pub record MarksAt (old new : Segments) (before after : MarkerSeen) (at : ℕ) : Type 0 where
  pub answer : Bool
  pub place : MarksPlace old new before.epoch at answer
  pub marker : after ≡ noted answer at before
  pub layout : new.layout ≡ old.layout
  pub stands : StandAsBefore old new

-- a marker after it scanned `count` more objects: these left the queue, and each marked block joined it and used some room
pub record HasScanned (old new : MarkerSeen) (count : ℕ) : Type 0 where
  pub epoch : new.epoch ≡ old.epoch
  pub grows : old.marked ≤ new.marked
  pub pace : new.marked + length old.queue ≡ old.marked + length new.queue + count
  pub room : new.marked + new.spare ≡ old.marked + old.spare

-- a marker with room for every block of the snapshot that it hasn't marked
pub record HasRoomToMark (segments : Segments) (marker : MarkerSeen) : Type 0 where
  pub places : List ℕ
  pub all : (at : ℕ) → IsSnapshotAt segments at → (IsMarkedAt segments marker.epoch at → ⊥) → Contains places at
  pub room : length places ≤ marker.spare

-- a marker and segments after blocks were marked and `count` objects scanned. There is still room for all unmarked blocks of
-- the snapshot, and each mark used room for one. Segments and words represent the same allocation state as before.
pub record HasMarked (old new : Segments) (before after : MarkerSeen) (count : ℕ) : Type 0 where
  pub room : HasRoomToMark new after
  pub scanned : HasScanned before after count
  pub layout : new.layout ≡ old.layout
  pub stands : StandAsBefore old new
