-- The commands among the events are a legal history of the reference heap.
use Rattle.nmgc_round.proofs.{Vocabulary.◌≡◌, Vocabulary.ℕ, Vocabulary.Bool, Vocabulary.true, Vocabulary.false, Vocabulary.cond, Vocabulary.eqb, Vocabulary.List, Vocabulary.[], Vocabulary.◌∷◌, Vocabulary.map, Vocabulary.refl, Vocabulary.Command, Vocabulary.Reply, Vocabulary.Row, Vocabulary.replayed, Vocabulary.rows_of, Vocabulary.IsLegalHistory, Vocabulary.State, Vocabulary.Does, Vocabulary.after_command, Vocabulary.after_scan, Vocabulary.Happening, Vocabulary.did, Vocabulary.scanned, Vocabulary.event_of, Vocabulary.after, Vocabulary.replay, Vocabulary.IsLegal, Vocabulary.done_by, Vocabulary.rows_in, Runs.rest_scan}

-- an event has the effect that the marking machine gives it
pub does : (s : State) (h : Happening) → Does s (event_of h) (after s h)
does s (did m c r) = refl
does s (scanned entry v) = refl

-- its commands, in order, answer as the world does
pub legal_history : (s : State) (hs : List Happening) → IsLegal s hs → IsLegalHistory s.world (rows_in hs)
legal_history s [] legal = tt
legal_history s (did m c r ∷ hs) legal = (legal.0.0.2, legal_history (after_command s m c) hs legal.1)
legal_history s (scanned entry v ∷ hs) legal = let same = (rest_scan s s.queue).world in rw same at (legal_history (after_scan s s.queue) hs legal.1)

-- and their world is the one after the events
pub world_then : (s : State) (hs : List Happening) → (replay s hs).world ≡ replayed s.world (rows_in hs)
world_then s [] = refl
world_then s (did m c r ∷ hs) = world_then (after_command s m c) hs
world_then s (scanned entry v ∷ hs) = cc (world_then (after_scan s s.queue) hs, (rest_scan s s.queue).world)

-- a mutator's rows are its commands with their replies
abbrev pub done : Row → Command × Reply
done row = (row.command, row.reply)

pub rows_done : (m : ℕ) (hs : List Happening) → map done (rows_of m (rows_in hs)) ≡ done_by m hs
rows_done m [] = refl
rows_done m (did k c r ∷ hs) = cc (by_test (eqb k m) (rows_of m (rows_in hs)), rows_done m hs)
  where
    by_test : (b : Bool) (l : List Row) → map done (cond b (record { mutator = k; command = c; reply = r } ∷ l) l) ≡ cond b ((c, r) ∷ map done l) (map done l)
    by_test true l = refl
    by_test false l = refl
rows_done m (scanned entry v ∷ hs) = rows_done m hs
