-- A marking cycle over a promotion: the snapshot's blocks, marks and addresses stay, and moved objects are in no snapshot.
use Rattle.std.specs.Prelude.{ℕ, ◌≡◌, List, [], ◌∷◌, map}
use Rattle.nmgc_alloc.specs.{AllocState.Segments, AllocState.AllocState, AllocState.StandsFor, Segments.IsSegments}
use Rattle.nmgc_heap_spec.specs.{Objects.Place, Moves.Moved, Moves.settled}
use Rattle.nmgc_stop_spec.specs.{Occupied.KeepsMarks, Cycle.PlacesEach, Cycle.Cycle, Stopped.Stopped, Stopped.IsRoundOf, Stopped.IsSettled, Stopped.young_base}
use Rattle.nmgc_run_laws.specs.Sound.{LieKnown}

-- a promotion beside a cycle: it placed the moved objects in blocks that weren't in use, and left the mark bytes and the
-- snapshot index of each segment. The snapshot is the only earlier world that the collector still uses afterwards
pub record HasPromoted (c : Cycle) (t : Stopped) (s new : Segments) (words after registers : List ℕ) (queues : List (List ℕ)) (moves : List Moved)
    (allocation placed : AllocState) : Type 0 where
  pub later_is : t.later ≡ c.snapshot ∷ []
  pub round : IsRoundOf (young_base s) t
  pub known : LieKnown t.began allocation
  pub sound : IsSegments s
  pub sound_after : IsSegments new
  pub layout_is : new.layout ≡ s.layout
  pub stood : StandsFor s words allocation
  pub stands : StandsFor new after placed
  pub places_each : PlacesEach s.layout t.world allocation (map (λ (m : Moved). m.name) moves) placed
  pub marks : KeepsMarks s new
  pub is_settled : IsSettled t new after registers queues moves

-- the places after a promotion
abbrev pub places_after : Segments → List Moved → Stopped → List Place
places_after new moves t = settled (young_base new) moves t.places
