-- Serials in a run: a command makes at most one object, and a stop makes none.
use Rattle.std.specs.Prelude.{◌≡◌, ◌∷◌, ◌+◌, ◌≤◌}
use Rattle.nmgc_run_laws.specs.laws.Vocabulary.{ℕ, List, [], ◌∙◌, length, sym, ap, subst, arith, inl, inr, World, IsWorld, serial_of, new_world, replayed, Command, CycleRow, StopRow, ClosesOrWaits, ClosesNow, IsStop, EndsOrWaits, Finishes, BeginsOrWaits, Proceeds, with_all_retired, cycle_started, closed_serials, closed_world, Plan, State, Progress, idle, marking, sweeping, start, program_of, Turn, IsTurn, AreTurns, state_after, SerialsAreFew}
use Rattle.nmgc_run_laws.specs.laws.{Lefts.stop_left, Programs.HasPrograms, Programs.serials_after, Runs.new_serial, Runs.opening_holds, Runs.opening_worked, Runs.round_holds, Runs.turn_holds, States.IsSoundHere}

-- a step of a stop keeps serials
abbrev Keeps : ℕ → State → State → Type 0
Keeps m s t = (serial_of t.world m ≡ serial_of s.world m) × IsWorld t.world

module _ (m : ℕ) where
  same : (s t : State) → t ≡ s → IsWorld s.world → Keeps m s t
  same s t e is = (ap (λ (x : State). serial_of x.world m) e, subst (λ (x : State). IsWorld x.world) (sym e) is)

  closing : (quota : ℕ) (p : Progress) (s t : State) → IsWorld s.world → ClosesOrWaits quota p s t → Keeps m s t
  closing quota idle s t is e = same s t e is
  closing quota (marking c) s t is (inl (e, may)) = same s t e is
  closing quota (marking c) s t is (inr h) = (
    ap (λ (x : State). serial_of x.world m) h.0.rest ∙ closed_serials s.world h.0.dead is m,
    subst (λ (x : State). IsWorld x.world) (sym h.0.rest) (closed_world s.world h.0.dead is),
  )
  closing quota (sweeping c closed) s t is e = same s t e is

  closing_now : (p : Progress) (s t : State) → IsWorld s.world → ClosesNow p s t → Keeps m s t
  closing_now idle s t is e = same s t e is
  closing_now (marking c) s t is h = (
    ap (λ (x : State). serial_of x.world m) h.rest ∙ closed_serials s.world h.dead is m,
    subst (λ (x : State). IsWorld x.world) (sym h.rest) (closed_world s.world h.dead is),
  )
  closing_now (sweeping c closed) s t is e = same s t e is

  ending : (p : Progress) (s t : State) (cycles : List CycleRow) → EndsOrWaits p s t cycles → t.world ≡ s.world
  ending idle s t cycles e = ap (λ (x : State). x.world) e.0
  ending (marking c) s t cycles e = ap (λ (x : State). x.world) e.0
  ending (sweeping c closed) s t cycles (inl h) = ap (λ (x : State). x.world) h.1.rest
  ending (sweeping c closed) s t cycles (inr h) = ap (λ (x : State). x.world) h.1

  on : (s x t : State) → Keeps m s x → t.world ≡ x.world → Keeps m s t
  on s x t k e = (ap (λ (w : World). serial_of w m) e ∙ k.0, subst IsWorld (sym e) k.1)

  finishing : (s t : State) (cycles : List CycleRow) → IsWorld s.world → Finishes s t cycles → Keeps m s t
  finishing s t cycles is h = on s h.closed t (closing_now s.progress s h.closed is h.closes)
      (ending h.swept.progress h.swept t cycles h.ends ∙ ap (λ (x : State). x.world) h.others)

  proceeding : (plan : Plan) (s t : State) (cycles : List CycleRow) → IsWorld s.world → Proceeds plan s t cycles → Keeps m s t
  proceeding plan s t cycles is (inl h) =
      let first = finishing s h.1.idled h.1.before is h.1.finishes in
      let second = finishing (cycle_started (with_all_retired h.1.idled)) h.1.last h.1.own first.1 h.1.again in
      on s h.1.last t (second.0 ∙ first.0, second.1) (ap (λ (x : State). x.world) h.1.rest)
  proceeding plan s t cycles is (inr h) = begins h.1
    where
      begins : BeginsOrWaits plan.config s t → Keeps m s t
      begins (inl b) = (ap (λ (x : State). serial_of x.world m) b.1, subst (λ (x : State). IsWorld x.world) (sym b.1) is)
      begins (inr b) = same s t b.1 is

  stopping : (plan : Plan) (began : World) (s t : State) (row : StopRow) (cycles : List CycleRow) → IsWorld s.world → IsStop plan began s t row cycles → Keeps m s t
  stopping plan began s t row cycles is h =
      let first : Keeps m s h.promoted = (
        ap (λ (x : State). serial_of x.world m) h.promotes.rest,
        subst (λ (x : State). IsWorld x.world) (sym h.promotes.rest) is,
      ) in
      let closed = closing plan.config.quota h.promoted.progress h.promoted h.closed first.1 h.closes in
      let ended : Keeps m s h.ended = on s h.closed h.ended (closed.0 ∙ first.0, closed.1) (ending h.closed.progress h.closed h.ended h.first h.ends) in
      let last = proceeding plan h.ended t h.more ended.1 h.proceeds in
      (last.0 ∙ ended.0, last.1)

  -- a mutator's serial, with the commands that it has left
  abbrev count_in : State → ℕ
  count_in s = serial_of s.world m + length (program_of s.left m)

  turns_few : (plan : Plan) (s : State) (turns : List Turn) → AreTurns plan s turns → HasPrograms plan s → IsSoundHere plan s →
      count_in (state_after s turns) ≤ count_in s
  turns_few plan s [] are able h = omega arith
  turns_few plan s (turn ∷ turns) are able h =
      let round = serials_after plan s turn.worked turn.replies.replies turn.history are.0.round able h m in
      let next = turn_holds plan s turn are.0 able h in
      let rest = turns_few plan turn.stop.state turns are.1 next.0 next.1 in
      let world : serial_of turn.worked.world m ≡ serial_of (replayed s.world turn.history) m =
      ap (λ (x : State). serial_of x.world m) are.0.round.rest in
      let worked_is : IsWorld turn.worked.world = worked_world plan s turn are.0 able h in
      let stop = (stopping plan s.world turn.worked turn.stop.state turn.stop.row turn.stop.cycles worked_is are.0.stop).0 in
      let left : length (program_of turn.stop.state.left m) ≡ length (program_of turn.worked.left m) =
      ap (λ (l : List (List Command)). length (program_of l m)) (stop_left plan s.world turn.worked turn.stop.state turn.stop.row turn.stop.cycles are.0.stop) in
      omega (arith, round, rest, world, stop, left)
    where
      worked_world : (plan : Plan) (s : State) (turn : Turn) → IsTurn plan s turn → HasPrograms plan s → IsSoundHere plan s → IsWorld turn.worked.world
      worked_world plan s turn is able h = (round_holds plan s turn.worked turn.replies.replies turn.history is.round able h).world

pub serials_are_few : SerialsAreFew
serials_are_few plan run runnable i m =
    let opened = opening_holds plan run runnable i in
    let rest = turns_few m plan run.opening.state run.turns i.turns opened.0 opened.1 in
    let stop = (stopping m plan (new_world (length plan.threads)) (start plan) run.opening.state run.opening.row run.opening.cycles
    (opening_worked plan runnable).world i.opening).0 in
    let left : length (program_of run.opening.state.left m) ≡ length (program_of plan.threads m) =
    ap (λ (l : List (List Command)). length (program_of l m)) (stop_left plan (new_world (length plan.threads)) (start plan) run.opening.state run.opening.row
    run.opening.cycles i.opening) in
    let none = new_serial (length plan.threads) m in
    omega (arith, rest, stop, left, none)
