-- The limits of a script hold through its runs.
use Rattle.std.specs.Prelude.{◌≡◌, ◌∷◌}
use Rattle.nmgc_run_laws.specs.laws.Vocabulary.{ℕ, List, [], length, sym, subst, inl, inr, All, cases_lt, get_or_past, All-nil, All-weaker, All-get_or, Fits, HasRegisters, Command, World, new_world, IsWithin, rows_keep_limits, closing_keeps_limits, new_is_within, CycleRow, StopRow, ClosesOrWaits, ClosesNow, Closes, IsWithinLimits, ScriptsHaveGoodPlans, StatesAreWithin, RoundsAreWithin, Turn, AreTurns, state_after, program_of, State, Plan, Progress, idle, marking, sweeping, start, cycle_started, Cycle, IsStop, EndsOrWaits, Finishes, DoesFullCycle, BeginsOrWaits, Proceeds, with_all_retired, segments_few, threads_few, total_few}
use Rattle.nmgc_run_laws.specs.laws.{Lefts.stop_left, Programs.HasPrograms, Programs.rows_have, Programs.left_has, Runs.turn_holds, Runs.round_holds, Runs.opening_holds, Runs.opening_worked, Runs.sound_of, Runs.rounds_are_sound, States.IsSoundHere, States.Worked, States.lefts, Stops.stop_holds, Stops.full_begins}

-- worlds through a stop

abbrev Within : Plan → State → Type 0
Within plan s = IsWithin plan.config.words s.world

same_within : (plan : Plan) (s t : State) → t ≡ s → Within plan s → Within plan t
same_within plan s t e h = subst (Within plan) (sym e) h

close_within : (plan : Plan) (c : Cycle) (s t : State) → IsSoundHere plan s → Closes c s t → Within plan s → Within plan t
close_within plan c s t holds closes h = subst (Within plan) (sym closes.rest) (closing_keeps_limits plan.config.words s.world closes.dead holds.world h)

closes_within : (plan : Plan) (quota : ℕ) (p : Progress) (s t : State) → IsSoundHere plan s → ClosesOrWaits quota p s t → Within plan s → Within plan t
closes_within plan quota idle s t holds same h = same_within plan s t same h
closes_within plan quota (marking c) s t holds (inl (same, may)) h = same_within plan s t same h
closes_within plan quota (marking c) s t holds (inr closes) h = close_within plan c s t holds closes.0 h
closes_within plan quota (sweeping c number) s t holds same h = same_within plan s t same h

now_within : (plan : Plan) (p : Progress) (s t : State) → IsSoundHere plan s → ClosesNow p s t → Within plan s → Within plan t
now_within plan idle s t holds same h = same_within plan s t same h
now_within plan (marking c) s t holds closes h = close_within plan c s t holds closes h
now_within plan (sweeping c number) s t holds same h = same_within plan s t same h

ends_within : (plan : Plan) (p : Progress) (s t : State) (cycles : List CycleRow) → EndsOrWaits p s t cycles → Within plan s → Within plan t
ends_within plan idle s t cycles e h = same_within plan s t e.0 h
ends_within plan (marking c) s t cycles e h = same_within plan s t e.0 h
ends_within plan (sweeping c number) s t cycles (inl e) h = subst (Within plan) (sym e.1.rest) h
ends_within plan (sweeping c number) s t cycles (inr e) h = same_within plan s t e.1 h

finishes_within : (plan : Plan) (s t : State) (cycles : List CycleRow) → Finishes s t cycles → IsSoundHere plan s → Within plan s → Within plan t
finishes_within plan s t cycles f holds h =
    ends_within plan f.swept.progress f.swept t cycles f.ends (subst (Within plan) (sym f.others) (now_within plan s.progress s f.closed holds f.closes h))

full_within : (plan : Plan) (s t : State) (cycles : List CycleRow) → DoesFullCycle s t cycles → IsSoundHere plan s → Within plan s → Within plan t
full_within plan s t cycles f holds h =
    let idled : Within plan f.idled = finishes_within plan s f.idled f.before f.finishes holds h in
    let begun : IsSoundHere plan (cycle_started (with_all_retired f.idled)) = full_begins plan s t cycles f holds in
    subst (Within plan) (sym f.rest) (finishes_within plan (cycle_started (with_all_retired f.idled)) f.last f.own f.again begun idled)

begins_within : (plan : Plan) (s t : State) → BeginsOrWaits plan.config s t → Within plan s → Within plan t
begins_within plan s t (inl b) h = subst (Within plan) (sym b.1) h
begins_within plan s t (inr b) h = same_within plan s t b.1 h

proceeds_within : (plan : Plan) (s t : State) (cycles : List CycleRow) → Proceeds plan s t cycles → IsSoundHere plan s → Within plan s → Within plan t
proceeds_within plan s t cycles (inl f) holds h = full_within plan s t cycles f.1 holds h
proceeds_within plan s t cycles (inr b) holds h = begins_within plan s t b.1 h

pub stop_within : (plan : Plan) (began : World) (s t : State) (row : StopRow) (cycles : List CycleRow) → IsStop plan began s t row cycles →
    Worked plan (lefts s) began s.world s.allocation s.progress → IsWithinLimits plan s → IsWithinLimits plan t
stop_within plan began s t row cycles i worked h =
    let holds = stop_holds plan began s t row cycles i worked in
    let promoted : Within plan i.promoted = subst (Within plan) (sym i.promotes.rest) h.world in
    let closed : Within plan i.closed = closes_within plan plan.config.quota i.promoted.progress i.promoted i.closed holds.promoted i.closes promoted in
    let ended : Within plan i.ended = ends_within plan i.closed.progress i.closed i.ended i.first i.ends closed in
    record {
      world = proceeds_within plan i.ended t i.more i.proceeds holds.ended ended;
      left = λ m. rw (stop_left plan began s t row cycles i) (h.left m);
    }

-- a round, and a run

pub rounds_are_within : RoundsAreWithin
rounds_are_within plan s t replies rows sound h round =
    let fit = rows_have (Fits plan.config.words) plan.config s t replies rows round h.left in (
      fit,
      record {
        world = subst (Within plan) (sym round.rest) (rows_keep_limits plan.config.words s.world rows sound.world
            (rounds_are_sound plan s t replies rows sound round).can fit h.world);
        left = left_has (Fits plan.config.words) plan.config s t replies rows round h.left;
      },
    )

turns_within : (plan : Plan) (s : State) (turns : List Turn) → AreTurns plan s turns → HasPrograms plan s → IsSoundHere plan s →
    IsWithinLimits plan s → IsWithinLimits plan (state_after s turns)
turns_within plan s [] i able holds h = h
turns_within plan s (turn ∷ turns) i able holds h =
    let next = turn_holds plan s turn i.0 able holds in
    let worked = round_holds plan s turn.worked turn.replies.replies turn.history i.0.round able holds in
    let round = rounds_are_within plan s turn.worked turn.replies.replies turn.history (sound_of plan s able holds) h i.0.round in
    turns_within plan turn.stop.state turns i.1 next.0 next.1
    (stop_within plan s.world turn.worked turn.stop.state turn.stop.row turn.stop.cycles i.0.stop worked round.1)

pub states_are_within : StatesAreWithin
states_are_within plan run runnable fit i =
    let opened = opening_holds plan run runnable i in
    let k : ℕ = length plan.threads in
    let first : IsWithinLimits plan run.opening.state =
    stop_within plan (new_world k) (start plan) run.opening.state run.opening.row run.opening.cycles i.opening (opening_worked plan runnable)
    (record { world = new_is_within plan.config.words k; left = fit }) in
    turns_within plan run.opening.state run.turns i.turns opened.0 opened.1 first

-- a script

program_fits : (P : Command → Type 0) (programs : List (List Command)) → All (λ program. All P program) programs → (m : ℕ) → All P (program_of programs m)
program_fits P programs h m = elim (cases_lt m (length programs)) [
  | inl lt ↦ All-get_or (λ program. All P program) programs m [] lt h
  | inr ge ↦ subst (λ (program : List Command). All P program) (sym (get_or_past programs m [] ge)) (All-nil P)
]

pub scripts_have_good_plans : ScriptsHaveGoodPlans
scripts_have_good_plans script h =
    let fit = program_fits (Fits script.config.words) script.threads h.commands in
    let config = h.config in
    record {
      layout = record {
        some = config.some_segments;
        segments = segments_few script h;
        words = config.words;
        nursery = config.some_nursery;
        mutators = (h.some_thread, threads_few script h);
        heap = total_few script h;
      };
      fit = fit;
      runnable = λ short. record {
        some = h.some_thread;
        few = threads_few script h;
        registers = λ m. All-weaker (Fits script.config.words) HasRegisters (λ c f. f.registers) (program_of script.threads m) (fit m);
        short = short;
      };
    }
