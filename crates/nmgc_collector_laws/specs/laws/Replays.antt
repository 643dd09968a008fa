-- The events of a round as rows of a history: the world takes their commands in turn, and stays a world.
use Rattle.std.specs.Prelude.{◌≡◌, ◌∷◌}
use Rattle.nmgc_collector_laws.specs.laws.Vocabulary.{List, [], sym, subst, World, IsWorld, replayed, IsLegalHistory, CanReplay, step_keeps_world, after_command, after_scan, IsEarlier, step_keeps_earlier, Happening, did, scanned, replay, IsLegal, rows_in, world_scanned}
use Rattle.nmgc_snapshot_laws.specs.State.{State}

-- the law of `nmgc_round` on the commands among events
abbrev pub EventsAreHistory : Type 0
EventsAreHistory = (s : State) (events : List Happening) → IsLegal s events → IsLegalHistory s.world (rows_in events) ×
    ((replay s events).world ≡ replayed s.world (rows_in events))

-- the world takes each command at its position
pub can_replay : (s : State) (hs : List Happening) → IsLegal s hs → CanReplay s.world (rows_in hs)
can_replay s [] legal = tt
can_replay s (did m c r ∷ hs) legal = (legal.0.0.1, can_replay (after_command s m c) hs legal.1)
can_replay s (scanned entry v ∷ hs) legal = rw (world_scanned s s.queue) at (can_replay (after_scan s s.queue) hs legal.1)

-- it stays a world
pub still_world : (s : State) (hs : List Happening) → IsLegal s hs → IsWorld s.world → IsWorld (replay s hs).world
still_world s [] legal is = is
still_world s (did m c r ∷ hs) legal is = still_world (after_command s m c) hs legal.1 (step_keeps_world s.world m c is legal.0.0.1)
still_world s (scanned entry v ∷ hs) legal is = still_world (after_scan s s.queue) hs legal.1 (subst IsWorld (sym (world_scanned s s.queue)) is)

-- an earlier world stays an earlier one
pub still_earlier : (e : World) (s : State) (hs : List Happening) → IsLegal s hs → IsWorld s.world → IsEarlier e s.world → IsEarlier e (replay s hs).world
still_earlier e s [] legal is h = h
still_earlier e s (did m c r ∷ hs) legal is h =
    still_earlier e (after_command s m c) hs legal.1 (step_keeps_world s.world m c is legal.0.0.1) (step_keeps_earlier e s.world m c is legal.0.0.1 h)
still_earlier e s (scanned entry v ∷ hs) legal is h =
    let same = sym (world_scanned s s.queue) in
    still_earlier e (after_scan s s.queue) hs legal.1 (subst IsWorld same is) (subst (λ (w : World). IsEarlier e w) same h)
