-- From a stop to the promotion of the next one: statements of laws.
use Rattle.std.specs.Prelude.{ℕ, ◌≡◌, ◌≤◌, ◌⊎◌, List, [], ◌∷◌, length, map, slice_get, slice_index_or, Some, All}
use Rattle.nmgc_world_spec.specs.{World.World, Known.IsWorld, Reach.Row, Reach.IsLegal, Reach.rows_of, Reach.replayed}
use Rattle.nmgc_object.specs.Words.{nursery_place, reserve_count}
use Rattle.nmgc_alloc.specs.{AllocState.Segments, Segments.IsSegments, Reserve.free_count}
use Rattle.nmgc_heap_spec.specs.{Objects.Place, Changes.AreEarlier, Roots.RepresentsRoots, Moves.Moved, Moves.settled}
use Rattle.nmgc_stop_spec.specs.{Nurseries.AreUsed, Nurseries.LieInOrder, Nurseries.AreEmpty, Occupied.AreBlocks, Remembers.Remembers, Stopped.Stopped, Stopped.IsStopped, Stopped.IsSettled, Stopped.young_base}
use Rattle.nmgc_round.specs.{declared.table.Round.Round, Events.rows_in, View.Opening, View.Seen, View.whole, Rule.now, Objects.earlier, Seat.RoundSeat, Seat.IsAt, Seat.seen, Seating.alone, Seating.collecting, Seating.all_together, Starting.CanOpen, Finishing.IsFinished, Finishing.HasAll, Finishing.Leaves, Finishing.places_then}
use Rattle.nmgc_mutator.specs.{declared.mutator.Mutator.Mutator, Does.HasDone}
use Rattle.nmgc_collector_laws.specs.Worked.{Done, HaveWorked, registers_of, queues_of, serials_of, nurseries_of, recorded_of, weaks_of, finalised_of, ListsFinalised}
use Rattle.nmgc_collector_laws.specs.Rest.{IsAtRest, IsResting, opening_at}

-- the law that a heap at rest opens a round
abbrev pub RestOpens : Type 0
RestOpens = (s : Segments) (places : List Place) (w : World) (words : List ℕ) (mutators : List Mutator) → IsAtRest s places w words mutators →
    CanOpen (opening_at s.layout w places mutators) words

-- slices are done: each mutator of the heap at rest did its commands from its own seat, all in the order of their numbers
pub record SlicesAreDone (o : Opening) (round : Round) (old mutators : List Mutator) (seats : List RoundSeat) (done : List (List Done)) : Type 0 where
  pub mutators_are : (length old ≡ o.layout.mutators) × (length mutators ≡ o.layout.mutators)
  pub seats_are : length seats ≡ o.layout.mutators
  pub done_are : length done ≡ o.layout.mutators
  pub resting : (k : ℕ) (m : Mutator) → slice_get old k ≡ Some m → IsResting o.layout k m
  pub each : (k : ℕ) (m n : Mutator) (seat : RoundSeat) (d : List Done) → slice_get old k ≡ Some m → slice_get mutators k ≡ Some n →
      slice_get seats k ≡ Some seat → slice_get done k ≡ Some d → HasDone round (alone o k) seat m n d

-- the law that, once slices are done, the seats together have every part, and each part says what its mutator did
abbrev pub SlicesAreGathered : Type 0
SlicesAreGathered = (o : Opening) (before : List ℕ) (round : Round) (old mutators : List Mutator) (seats : List RoundSeat)
    (done : List (List Done)) → CanOpen o before → SlicesAreDone o round old mutators seats done →
    let v = all_together (collecting (whole o)) (map seen seats) in HasAll v × All (IsAt round) seats × HaveWorked o v.parts mutators done

-- the law that the commands of a finished round have one legal order, with the commands and replies of each mutator as it did
-- them. The world after the round is the world after these commands
abbrev pub RoundIsHistory : Type 0
RoundIsHistory = (o : Opening) (words : List ℕ) (v : Seen) (mutators : List Mutator) (done : List (List Done)) → (h : IsFinished o words v) →
    HaveWorked o v.parts mutators done →
    IsLegal o.core.world (rows_in h.events) × ((m : ℕ) → map (λ (row : Row). (row.command, row.reply)) (rows_of m (rows_in h.events)) ≡
    slice_index_or done m []) × ((now o h.events).world ≡ replayed o.core.world (rows_in h.events))

-- the heap after a round, as its promotion finds it: the world after the events, the world as the round began, the places of
-- the opening and of new objects, and the next serials
abbrev pub stop_after : (o : Opening) (words : List ℕ) (v : Seen) → IsFinished o words v → List Mutator → Stopped
stop_after o words v h mutators = record {
  world = (now o h.events).world;
  began = o.core.world;
  later = earlier o;
  places = places_then o h.born;
  serials = serials_of mutators;
}

-- the law that the mutators' registers, queues and serials represent the roots of the world after the round
abbrev pub RootsAreLeft : Type 0
RootsAreLeft = (o : Opening) (words : List ℕ) (v : Seen) (mutators : List Mutator) (done : List (List Done)) → (h : IsFinished o words v) →
    HaveWorked o v.parts mutators done →
    RepresentsRoots (places_then o h.born) (now o h.events).world (registers_of mutators) (queues_of mutators) (serials_of mutators)

-- the law that new objects lie in the used parts of the nurseries, in the order of names
abbrev pub BirthsAreInOrder : Type 0
BirthsAreInOrder = (o : Opening) (before words : List ℕ) (v : Seen) (mutators : List Mutator) (done : List (List Done)) → CanOpen o before →
    (h : IsFinished o words v) → HaveWorked o v.parts mutators done →
    LieInOrder (nursery_place o.layout 0) (places_then o h.born) ×
    AreUsed o.layout (nursery_place o.layout 0) (places_then o h.born) (now o h.events).world (nurseries_of mutators)

-- the law that recorded fields are specified fields of tracked objects in segments, and include all fields that refer to a
-- new object. The noted weak pointers are those that the round made
abbrev pub RoundIsRemembered : Type 0
RoundIsRemembered = (o : Opening) (before words : List ℕ) (v : Seen) (mutators : List Mutator) (done : List (List Done)) → CanOpen o before →
    (h : IsFinished o words v) → HaveWorked o v.parts mutators done →
    Remembers (nursery_place o.layout 0) (o.core.world ∷ earlier o) (places_then o h.born) (now o h.events).world (recorded_of mutators) (weaks_of mutators)

-- the law that the mutators report each weak pointer in a segment that was finalised in the round
abbrev pub RoundListsFinalised : Type 0
RoundListsFinalised = (o : Opening) (before words : List ℕ) (v : Seen) (mutators : List Mutator) (done : List (List Done)) → CanOpen o before →
    (h : IsFinished o words v) → HaveWorked o v.parts mutators done →
    ListsFinalised (nursery_place o.layout 0) (places_then o h.born) o.core.world (now o h.events).world (finalised_of mutators)

-- the law that a round leaves all that a promotion needs
abbrev pub RoundIsStopped : Type 0
RoundIsStopped = (o : Opening) (before words : List ℕ) (v : Seen) (mutators : List Mutator) (done : List (List Done)) (s : Segments) →
    CanOpen o before → AreEarlier (earlier o) o.core.world → s.layout ≡ o.layout → IsSegments s → AreBlocks s (young_base s) o.places o.core.world
    → (left : Leaves o words v) → HaveWorked o v.parts mutators done → (reserve_count s.layout ≤ free_count s.segments) ⊎ AreEmpty (nurseries_of mutators)
    → IsStopped (stop_after o words v left.0 mutators) s words (nurseries_of mutators) (registers_of mutators) (queues_of mutators)
    (recorded_of mutators) (weaks_of mutators)

-- the mutators once a promotion is done: they rest, with the new words of registers and queues
pub record AreForwarded (s : Segments) (registers : List ℕ) (queues : List (List ℕ)) (serials : List ℕ) (mutators : List Mutator) : Type 0 where
  pub registers_are : registers_of mutators ≡ registers
  pub queues_are : queues_of mutators ≡ queues
  pub serials_are : serials_of mutators ≡ serials
  pub count : length mutators ≡ s.layout.mutators
  pub each : (k : ℕ) (m : Mutator) → slice_get mutators k ≡ Some m → IsResting s.layout k m

-- the law that the heap is at rest once a promotion is done, if the collector uses no earlier world
abbrev pub SettledIsAtRest : Type 0
SettledIsAtRest = (t : Stopped) (s : Segments) (words registers : List ℕ) (queues : List (List ℕ)) (moves : List Moved) (mutators : List Mutator) →
    t.later ≡ [] → IsWorld t.world → IsSegments s → IsSettled t s words registers queues moves →
    AreForwarded s registers queues t.serials mutators → IsAtRest s (settled (young_base s) moves t.places) t.world words mutators
