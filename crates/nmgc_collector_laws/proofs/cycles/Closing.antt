-- At a stop the machine goes on by scans alone.
use Rattle.nmgc_collector_laws.proofs.{Vocabulary.◌≡◌, Vocabulary.◌++◌, Vocabulary.List, Vocabulary.[], Vocabulary.◌∷◌, Vocabulary.map, Vocabulary.refl, Vocabulary.sym, Vocabulary.ap, Vocabulary.subst, Vocabulary.◌∙◌, Vocabulary.append-nil, Vocabulary.All, Vocabulary.Row, Vocabulary.World, Vocabulary.AreEmpty, Vocabulary.after_scan, Vocabulary.Runs, Vocabulary.State, Vocabulary.newest_first, Vocabulary.opening_in, Vocabulary.Happening, Vocabulary.IsLegal, Vocabulary.did, Vocabulary.scanned, Vocabulary.event_of, Vocabulary.replay, Vocabulary.rows_in, Vocabulary.IsUnread, Vocabulary.Cycle, Vocabulary.world_scanned, Vocabulary.AreScans, Vocabulary.IsMachineAtRest, Vocabulary.runs_then, cycles.Going.Leaves, cycles.Going.round_runs, cycles.Going.leaves_round, cycles.Going.same_owed}
use Rattle.nmgc_snapshot_laws.specs.laws.MarkedOnce.{marked_runs}

-- scans alone have no rows
no_rows : (hs : List Happening) → AreScans hs → rows_in hs ≡ []
no_rows [] alone = refl
no_rows (did m c r ∷ hs) alone = absurd alone
no_rows (scanned entry v ∷ hs) alone = no_rows hs alone

-- the machine at a stop goes on by scans alone, and is at rest again if it scanned whole objects
pub machine_scans : (c : Cycle) (w : World) (core : State) (events : List Happening) → IsMachineAtRest c w core → IsLegal core events →
    AreScans events → All IsUnread (replay core events).queue → IsMachineAtRest c w (replay core events)
machine_scans c w core events h legal scans fresh =
    let none : rows_in events ≡ [] = no_rows events scans in
    let t : State = replay core events in
    let l : Leaves core t = leaves_round core events in
    let m = h.machine in
    let runs : Runs (opening_in newest_first c.snapshot) (m.events ++ map event_of events) (c.rows ++ rows_in events) t =
    runs_then (opening_in newest_first c.snapshot) core t m.events (map event_of events) c.rows (rows_in events) m.runs (round_runs core events legal) in
    record {
      sound = h.sound;
      machine = record {
        events = m.events ++ map event_of events;
        runs = rw (ap (λ (x : List Row). c.rows ++
            x) none ∙ append-nil c.rows) at runs;
        open_yet = l.is_closed ∙ m.open_yet;
        world_is = same_world core events none ∙ m.world_is;
        nothing_owed = subst AreEmpty (sym (same_owed core events none)) m.nothing_owed;
        handed = λ name owed there. marked_runs core (map event_of events) (rows_in events) t (round_runs core events legal) (l.is_closed ∙ m.open_yet) name
            (m.handed name owed there);
      };
      none_pushed = subst AreEmpty (sym l.pushed) h.none_pushed;
      fresh = fresh;
    }
  where
    same_world : (s : State) (hs : List Happening) → rows_in hs ≡ [] → (replay s hs).world ≡ s.world
    same_world s [] none = refl
    same_world s (did m k r ∷ hs) none = absurd cc
    same_world s (scanned entry v ∷ hs) none = same_world (after_scan s s.queue) hs none ∙ world_scanned s s.queue
