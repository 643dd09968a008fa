-- A run of the machine's code, event by event.
use Rattle.nmgc_core.proofs.Vocabulary.{◌≡◌, ◌<◌, ◌+◌, ℕ, List, [], ◌∷◌, ◌++◌, length, take, get_or, refl, subst, Bool, take_more, World, IsWorld, Row, Event, State, oldest_first, opening, Passes, rows_if, Runs, IsSnapshotMarking, runs_push, opening_world, snapshot_theorem}

-- a run of the machine's code so far
pub record IsRunning (w : World) (es : List Event) (s : State) : Type 0 where
  pub rows : List Row
  pub runs : Runs (opening w) es rows s
  pub theorem : IsSnapshotMarking oldest_first w es rows s

-- a run begins with the opening
pub run_begins : (w : World) (s : State) → s ≡ opening w → IsWorld s.world → IsRunning w [] s
run_begins w s e h =
    let at : IsWorld w = subst IsWorld (opening_world oldest_first w) (subst (λ (t : State). IsWorld t.world) e h) in
    let runs : Runs (opening w) [] [] s = (refl, e) in
    record { rows = []; runs = runs; theorem = snapshot_theorem oldest_first w at [] [] s runs }

-- the next event of a list of events
pub run_event : (w : World) (events : List Event) (i : ℕ) (e : Event) (s t : State) (done : Bool) → IsWorld w → i < length events →
    e ≡ get_or events i e → IsRunning w (take i events) s → Passes s e done t → IsRunning w (take (i + 1) events) t
run_event w events i e s t done h lt is r p =
    let runs : Runs (opening w) (take i events ++ e ∷ []) (r.rows ++ rows_if done e) t = runs_push (opening w) s t (take i events) r.rows e done r.runs p in
    rw (take_more events i e lt, ← is) (record {
      rows = r.rows ++ rows_if done e;
      runs = runs;
      theorem = snapshot_theorem oldest_first w h (take i events ++ e ∷ []) (r.rows ++ rows_if done e) t runs;
    })
