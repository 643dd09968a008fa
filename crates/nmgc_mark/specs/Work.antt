-- Scanning: the marks of the collector's view, and the progress of an object's scan.
use Rattle.std.specs.Prelude.{ℕ, ◌≡◌, ◌+◌, ◌<◌, ◌≤◌, Bool, true, false, not, ◌&&◌, ◌==◌, List, ◌∷◌, ◌++◌, Contains}
use Rattle.nmgc_world_spec.specs.declared.node.Kind.{Kind}
use Rattle.nmgc_world_spec.specs.declared.node.Kind.TheVariants as kind
use Rattle.nmgc_snapshot_laws.specs.declared.event.Entry.{Entry}
use Rattle.nmgc_alloc.specs.AllocState.{Segments}
use Rattle.nmgc_round.specs.{declared.table.Round.Round, View.Seen, View.Scan, Marking.Marks, Marking.rest_of, Marking.marks_after, Ready.first_of, Seat.RoundSeat, Seat.IsAt, Seat.seen}
use Rattle.nmgc_mark.specs.{Seen.MarkerSeen, Marker.HasMarked, Tie.IsTied}

-- the marks of a view: the opening's marks after the collector's scans
abbrev pub marks_seen : Seen → Marks
marks_seen v = marks_after v.opening v.scans

-- the entry that the collector of a view scans next: the first of the view's queue
abbrev pub entry_now : Seen → Entry
entry_now v = first_of (marks_seen v).queue

-- marks with a further entry at the front
abbrev pub with_first : Entry → Marks → Marks
with_first entry m = record m { queue = entry ∷ m.queue }

-- the collector's seat of this round
abbrev pub IsCollector : Round → RoundSeat → Type 0
IsCollector round seat = IsAt round seat × ((seen seat).collects ≡ true)

-- the same seat at a later time: its view has further scans, and is otherwise the same
pub record IsLaterSeat (old new : RoundSeat) : Type 0 where
  pub id : new.id ≡ old.id
  pub scans : List Scan
  pub knows : seen new ≡ record (seen old) { scans = (seen old).scans ++ scans }

-- the collector's seat has this view by now, and since the first seat it has done only scans
abbrev pub SeatShows : Round → RoundSeat → RoundSeat → Seen → Type 0
SeatShows round first seat v = IsCollector round seat × IsLaterSeat first seat × (seen seat ≡ v)

-- an object in the middle of its scan: the view's first entry is for the object at this address, and is at this
-- position. Apart from that entry, marks and queue are tied
pub record IsScanning (v : Seen) (s : Segments) (marker : MarkerSeen) (at position : ℕ) : Type 0 where
  pub collects : v.collects ≡ true
  pub first : marks_seen v ≡ with_first (entry_now v) (rest_of (marks_seen v))
  pub there : Contains v.opening.places (record { at = at; name = (entry_now v).name })
  pub stands : (entry_now v).position ≡ position
  pub tied : IsTied v.opening (rest_of (marks_seen v)) s marker

-- an object scanned up to `field`: if a field is left, the object is the first entry, at that field's position. If no field
-- is left, marks and queue are tied
pub record IsAtField (from v : Seen) (s : Segments) (marker : MarkerSeen) (at fields field : ℕ) : Type 0 where
  pub opening : v.opening ≡ from.opening
  pub more : field < fields → IsScanning v s marker at (field + 1) × ((entry_now v).name ≡ (entry_now from).name)
  pub last : fields ≤ field → IsTied v.opening (marks_seen v) s marker

-- the first object of a view was scanned to its end, and marks and queue are tied
pub record IsDone (from v : Seen) (s : Segments) (marker : MarkerSeen) : Type 0 where
  pub opening : v.opening ≡ from.opening
  pub tied : IsTied v.opening (marks_seen v) s marker

-- a round's work of `count` scanned objects: the same seat with more scans, and a marker with its view's marks and queue
pub record HasWorked (round : Round) (from seat : RoundSeat) (old new : Segments) (before marker : MarkerSeen) (count : ℕ) : Type 0 where
  pub collector : IsCollector round seat
  pub later : IsLaterSeat from seat
  pub marked : HasMarked old new before marker count
  pub tied : IsTied (seen seat).opening (marks_seen (seen seat)) new marker

-- the number of fields that are scanned, by kind: all fields, and none of a weak pointer
abbrev pub fields_scanned : Kind → ℕ → ℕ
fields_scanned kind.Con n = n
fields_scanned kind.Var n = n
fields_scanned kind.Arr n = n
fields_scanned kind.Thunk n = n
fields_scanned kind.Weak n = 0
fields_scanned kind.Stack n = n

-- whether objects of the kind may have a result: only thunks may
abbrev pub has_results : Kind → Bool
has_results kind.Con = false
has_results kind.Var = false
has_results kind.Arr = false
has_results kind.Thunk = true
has_results kind.Weak = false
has_results kind.Stack = false

-- whether a word is a thunk's result that was set, which ends the scan of the thunk
abbrev pub is_result : Kind → ℕ → ℕ → Bool
is_result k field w = (field == 0) && (has_results k && not (w == 0))
