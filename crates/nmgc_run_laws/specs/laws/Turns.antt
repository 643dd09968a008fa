-- A run that goes on: one more round and its stop at its end.
use Rattle.std.specs.Prelude.{◌≡◌, ◌∷◌, ◌++◌}
use Rattle.nmgc_run_laws.specs.laws.Vocabulary.{List, [], refl, sym, ap, ◌∙◌, append_assoc, append-nil, map-append, flat_map, RoundRows, Plan, State, Turn, IsTurn, AreTurns, state_after, RunGoesOn, AddsOneTurn, LastIsOfTurn}

-- the state after some rounds and one more is the state after the last
pub last_of : (s : State) (turns : List Turn) (turn : Turn) → state_after s (turns ++ turn ∷ []) ≡ turn.stop.state
last_of s [] turn = refl
last_of s (first ∷ turns) turn = last_of first.stop.state turns turn

-- rounds, and one that follows the last of them
pub one_more : (plan : Plan) (s : State) (turns : List Turn) (turn : Turn) → AreTurns plan s turns → IsTurn plan (state_after s turns) turn →
    AreTurns plan s (turns ++ turn ∷ [])
one_more plan s [] turn are is = (is, tt)
one_more plan s (first ∷ turns) turn are is = (are.0, one_more plan first.stop.state turns turn are.1 is)

-- a run with one more round and its stop at its end is a run
pub a_run_takes_a_further_round : RunGoesOn
a_run_takes_a_further_round plan run turn is_run is = record { opening = is_run.opening; turns = one_more plan run.opening.state run.turns turn is_run.turns is }

-- its last state is the state after that stop
pub last_is_of_turn : LastIsOfTurn
last_is_of_turn run turn = last_of run.opening.state run.turns turn

-- the rows of the cycles of some rounds and one more
pub cycles_of : (turns : List Turn) (turn : Turn) → flat_map (λ (t : Turn). t.stop.cycles) (turns ++ turn ∷ []) ≡
    flat_map (λ (t : Turn). t.stop.cycles) turns ++ turn.stop.cycles
cycles_of [] turn = append-nil turn.stop.cycles
cycles_of (first ∷ turns) turn = cc (cycles_of turns turn, append_assoc first.stop.cycles (flat_map (λ (t : Turn). t.stop.cycles) turns) turn.stop.cycles)

-- the report of the run with that round is the run's report, and the round's
pub one_more_turn : AddsOneTurn
one_more_turn run turn rounds stops cycles agrees = record {
  rounds_are = ap (λ (rows : List RoundRows). rows ++ turn.replies ∷ []) agrees.rounds_are ∙ sym (map-append (λ (t : Turn). t.replies) run.turns (turn ∷ []));
  stops_are = cc (agrees.stops_are, map-append (λ (t : Turn). t.stop.row) run.turns (turn ∷ []));
  cycles_are = cc (agrees.cycles_are, append_assoc run.opening.cycles (flat_map (λ (t : Turn). t.stop.cycles) run.turns) turn.stop.cycles, cycles_of run.turns turn);
}
