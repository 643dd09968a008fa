-- The number of a state is the number of rounds before it.
use Rattle.nmgc_cycle.proofs.Vocabulary.{ℕ, ◌≡◌, ◌+◌, List, [], ◌∷◌, length, map, arith, ap, inl, inr, length-map, World, StopRow, CycleRow, Config, Plan, State, Progress, idle, marking, sweeping, cycle_started, ClosesOrWaits, ClosesNow, IsStop, EndsOrWaits, Finishes, DoesFullCycle, BeginsOrWaits, Proceeds, with_all_retired, RoundRows, Run, Turn, IsRun, AreTurns, AreRowsOf, state_after, last_state}

same_number : (s t : State) → t ≡ s → t.number ≡ s.number
same_number s t e = ap (λ (x : State). x.number) e

closing_number : (quota : ℕ) (p : Progress) (s t : State) → ClosesOrWaits quota p s t → t.number ≡ s.number
closing_number quota idle s t e = same_number s t e
closing_number quota (marking c) s t (inl (e, may)) = same_number s t e
closing_number quota (marking c) s t (inr h) = ap (λ (x : State). x.number) h.0.rest
closing_number quota (sweeping c closed) s t e = same_number s t e

closed_number : (p : Progress) (s t : State) → ClosesNow p s t → t.number ≡ s.number
closed_number idle s t e = same_number s t e
closed_number (marking c) s t h = ap (λ (x : State). x.number) h.rest
closed_number (sweeping c closed) s t e = same_number s t e

ending_number : (p : Progress) (s t : State) (cycles : List CycleRow) → EndsOrWaits p s t cycles → t.number ≡ s.number
ending_number idle s t cycles e = same_number s t e.0
ending_number (marking c) s t cycles e = same_number s t e.0
ending_number (sweeping c closed) s t cycles (inl h) = ap (λ (x : State). x.number) h.1.rest
ending_number (sweeping c closed) s t cycles (inr h) = same_number s t h.1

finished_number : (s t : State) (cycles : List CycleRow) → Finishes s t cycles → t.number ≡ s.number
finished_number s t cycles h = cc (ending_number h.swept.progress h.swept t cycles h.ends, h.others, closed_number s.progress s h.closed h.closes)

full_number : (s t : State) (cycles : List CycleRow) → DoesFullCycle s t cycles → t.number ≡ s.number
full_number s t cycles h = cc (h.rest, finished_number (cycle_started (with_all_retired h.idled)) h.last h.own h.again, finished_number s h.idled h.before h.finishes)

beginning_number : (config : Config) (s t : State) → BeginsOrWaits config s t → t.number ≡ s.number
beginning_number config s t (inl h) = ap (λ (x : State). x.number) h.1
beginning_number config s t (inr h) = same_number s t h.1

proceeding_number : (plan : Plan) (s t : State) (cycles : List CycleRow) → Proceeds plan s t cycles → t.number ≡ s.number
proceeding_number plan s t cycles (inl h) = full_number s t cycles h.1
proceeding_number plan s t cycles (inr h) = beginning_number plan.config s t h.1

-- a stop has the number of the state before it
pub stop_number : (plan : Plan) (began : World) (s t : State) (row : StopRow) (cycles : List CycleRow) → IsStop plan began s t row cycles → t.number ≡ s.number
stop_number plan began s t row cycles h =
    cc (
      proceeding_number plan h.ended t h.more h.proceeds,
      ending_number h.closed.progress h.closed h.ended h.first h.ends,
      closing_number plan.config.quota h.promoted.progress h.promoted h.closed h.closes,
      h.promotes.rest,
    )

turns_number : (plan : Plan) (s : State) (turns : List Turn) → AreTurns plan s turns → (state_after s turns).number ≡ s.number + length turns
turns_number plan s [] h = omega arith
turns_number plan s (turn ∷ turns) h =
    let after : (state_after turn.stop.state turns).number ≡ turn.stop.state.number + length turns = turns_number plan turn.stop.state turns h.1 in
    let stopped : turn.stop.state.number ≡ turn.worked.number = stop_number plan s.world turn.worked turn.stop.state turn.stop.row turn.stop.cycles h.0.stop in
    let worked : turn.worked.number ≡ s.number + 1 = ap (λ (x : State). x.number) h.0.round.rest in
    omega (arith, after, stopped, worked)

-- a run has one stop more than rounds, and its last state has the number of rounds
pub run_number : (plan : Plan) (run : Run) (rounds : List RoundRows) (stops : List StopRow) (cycles : List CycleRow) → IsRun plan run →
    AreRowsOf run rounds stops cycles → ((last_state run).number ≡ length rounds) × (length stops ≡ length rounds + 1)
run_number plan run rounds stops cycles h agrees =
    let after : (last_state run).number ≡ run.opening.state.number + length run.turns = turns_number plan run.opening.state run.turns h.turns in
    let opened : run.opening.state.number ≡ 0 = stop_number plan _ _ run.opening.state run.opening.row run.opening.cycles h.opening in
    let rows : length rounds ≡ length run.turns = cc (agrees.rounds_are, length-map run.turns (λ (turn : Turn). turn.replies)) in
    let each : length (map (λ (turn : Turn). turn.stop.row) run.turns) ≡ length run.turns = length-map run.turns (λ (turn : Turn). turn.stop.row) in
    let all : length stops ≡ length (run.opening.row ∷ map (λ (turn : Turn). turn.stop.row) run.turns) = ap (λ (r : List StopRow). length r) agrees.stops_are in
    (omega (arith, after, opened, rows), omega (arith, rows, each, all))
