-- Remembered entries of a marking round, and the machine's steps: the round's events, and then a push of each owed object.
use Rattle.std.specs.Prelude.{ℕ, ◌≡◌, ◌<◌, true, List, [], map, slice_get, Contains, Some}
use Rattle.nmgc_object.specs.Words.{nursery_place}
use Rattle.nmgc_snapshot_laws.specs.State.{State as Core, names_of}
use Rattle.nmgc_round.specs.{declared.table.Round.Round, Events.rows_in, View.Opening, View.Part, View.Scan, View.Seen, View.whole, Marking.marks_of, Rule.now, Seat.RoundSeat, Seat.seen, Seating.collecting, Seating.all_together, Starting.CanOpen, Finishing.HasAll, Finishing.IsFinished, Finishing.places_then}
use Rattle.nmgc_mutator.specs.{declared.mutator.Mutator.Mutator, Does.remembered as remembered_of, Records.all_pushed}
use Rattle.nmgc_collector_laws.specs.{Turn.SlicesAreDone, Worked.Done, Worked.HaveWorked, Marker.AreRemembered, Marker.IsCoreOf, RestMarking.IsMachineAtRest, RestMarking.with_rows}
use Rattle.nmgc_stop_spec.specs.Cycle.{Cycle}
use Rattle.nmgc_world_spec.specs.declared.value.Name.{Name}
use Rattle.nmgc_run_spec.specs.Run.{HoldsOnce, IsMet}

-- each mutator remembers, in ring and set together, the addresses in segments of the objects that its part owes, in order
abbrev pub HaveOwed : Opening → List Part → List Mutator → Type 0
HaveOwed o parts mutators = (k : ℕ) (p : Part) (m : Mutator) → slice_get parts k ≡ Some p → slice_get mutators k ≡ Some m →
    remembered_of m ≡ all_pushed o.layout p.owed

-- no mutator remembers anything
abbrev pub RememberNothing : List Mutator → Type 0
RememberNothing mutators = (k : ℕ) (m : Mutator) → slice_get mutators k ≡ Some m → remembered_of m ≡ []

-- the views of all seats of a round, joined, with these scans of the collector
abbrev pub gathered : Opening → List Scan → List RoundSeat → Seen
gathered o scans seats = all_together (record (collecting (whole o)) { scans = scans }) (map seen seats)

-- a round's seats together have all parts and the collector's scans, and each part says what its mutator did
pub record IsGathered (o : Opening) (scans : List Scan) (seats : List RoundSeat) (mutators : List Mutator) (done : List (List Done)) : Type 0 where
  pub all : HasAll (gathered o scans seats)
  pub worked : HaveWorked o (gathered o scans seats).parts mutators done
  pub opening : (gathered o scans seats).opening ≡ o
  pub scans_are : (gathered o scans seats).scans ≡ scans

-- the law that after the slices of all mutators their seats together have all parts, whatever the collector scanned meanwhile
abbrev pub SlicesAreGathered : Type 0
SlicesAreGathered = (o : Opening) (before : List ℕ) (round : Round) (old mutators : List Mutator) (seats : List RoundSeat) (done : List (List Done))
    (scans : List Scan) → CanOpen o before → SlicesAreDone o round old mutators seats done → IsGathered o scans seats mutators done

-- the law that mutators remember the objects that their slices owe, if they remembered nothing when the round began
abbrev pub SlicesAreOwed : Type 0
SlicesAreOwed = (o : Opening) (before : List ℕ) (round : Round) (old mutators : List Mutator) (seats : List RoundSeat) (done : List (List Done))
    (scans : List Scan) → CanOpen o before → SlicesAreDone o round old mutators seats done → RememberNothing old →
    HaveOwed o (gathered o scans seats).parts mutators

-- the machine after a round: it went through the round's events, and then pushed all owed objects. It has the round's rows,
-- and the marks and queue after the events. All marked names are met. For each mutator it has pushed exactly the mutator's
-- remembered entries that are in the snapshot, and all entries are addresses in segments
pub record GoesOn (c : Cycle) (o : Opening) (words : List ℕ) (v : Seen) (h : IsFinished o words v) (mutators : List Mutator) (core : Core) : Type 0 where
  pub machine : IsCoreOf (with_rows c (rows_in h.events)) (now o h.events).world core
  pub marks : marks_of core ≡ marks_of (now o h.events)
  pub found : (name : Name) → Contains core.marked name → IsMet HoldsOnce (with_rows c (rows_in h.events)) name
  pub remembered : (k : ℕ) (m : Mutator) → slice_get mutators k ≡ Some m →
      AreRemembered (with_rows c (rows_in h.events)) (places_then o h.born) (remembered_of m) (names_of core.pushed k)
  pub low : (k : ℕ) (m : Mutator) → slice_get mutators k ≡ Some m → (at : ℕ) → Contains (remembered_of m) at → at < nursery_place o.layout 0

-- the law that the machine can go through the events of each finished round and then push all owed objects
abbrev pub MachineGoesOn : Type 0
MachineGoesOn = (c : Cycle) (o : Opening) (before words : List ℕ) (v : Seen) (mutators : List Mutator) (done : List (List Done)) →
    o.marking ≡ true → CanOpen o before → IsMachineAtRest c o.core.world o.core → (h : IsFinished o words v) → HaveWorked o v.parts mutators done →
    HaveOwed o v.parts mutators →
    (core : Core) × GoesOn c o words v h mutators core
