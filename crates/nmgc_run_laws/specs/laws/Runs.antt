-- The invariant of every state of a run, by induction over it.
use Rattle.std.specs.Prelude.{◌≡◌, ◌∷◌}
use Rattle.nmgc_run_laws.specs.laws.Vocabulary.{ℕ, List, [], length, refl, sym, ap, subst, None, zero-add, IsSome, Contains, length-replicate, Name, Reply, MutatorState, World, IsWorld, serial_of, node_of, new_world, new_mutator, shared_name, Row, at_some, is_some_of, nothing_in, absent, each_new, new_nodes, new_is_world, cells, name_in, all_empty, none_some, first_cells, snapshots, IsRound, noted, Run, Turn, IsRun, IsTurn, AreTurns, state_after, last_state, IsRunnable, IsSoundState, StatesAreSound, RoundsAreSound, TrackedHaveBlocks, State, Plan, Progress, idle, marking, sweeping, start, layout_of}
use Rattle.nmgc_run_laws.specs.laws.{Filing.first_filed, Programs.HasPrograms, Programs.can_replay, Programs.made_after, Programs.round_programs, Programs.stop_programs, Rounds.round_worked, States.Worked, States.IsSoundHere, States.lefts, States.earlier_then, States.snapshot_known, Stops.stop_holds, Tracks.tracked_known}

-- a round, and a round with its stop

pub round_holds : (plan : Plan) (s t : State) (replies : List (List Reply)) (rows : List Row) → IsRound plan.config s replies rows t →
    HasPrograms plan s → IsSoundHere plan s → Worked plan (lefts t) s.world t.world t.allocation t.progress
round_holds plan s t replies rows round able h =
    let can = can_replay plan s t replies rows round able h in
    let M : State → Type 0 = λ x. Worked plan (lefts t) s.world x.world x.allocation x.progress in
    subst M (sym round.rest) (round_worked plan (lefts s) (lefts t) plan.config.quota s.world s.allocation t.allocation rows can
    (made_after plan s t replies rows round able h) s.progress h round.swept)

pub turn_holds : (plan : Plan) (s : State) (turn : Turn) → IsTurn plan s turn → HasPrograms plan s → IsSoundHere plan s →
    HasPrograms plan turn.stop.state × IsSoundHere plan turn.stop.state
turn_holds plan s turn i able h = (
  stop_programs plan s.world turn.worked turn.stop.state turn.stop.row turn.stop.cycles i.stop
      (round_programs plan s turn.worked turn.replies.replies turn.history i.round able h),
  (stop_holds plan s.world turn.worked turn.stop.state turn.stop.row turn.stop.cycles i.stop
      (round_holds plan s turn.worked turn.replies.replies turn.history i.round able h)).last,
)

pub turns_hold : (plan : Plan) (s : State) (turns : List Turn) → AreTurns plan s turns → HasPrograms plan s → IsSoundHere plan s →
    HasPrograms plan (state_after s turns) × IsSoundHere plan (state_after s turns)
turns_hold plan s [] i able h = (able, h)
turns_hold plan s (turn ∷ turns) i able h = let next = turn_holds plan s turn i.0 able h in turns_hold plan turn.stop.state turns i.1 next.0 next.1

-- the beginning: no object was made

pub new_serial : (mutators m : ℕ) → serial_of (new_world mutators) m ≡ 0
new_serial mutators m = each_new (λ (state : MutatorState). length state.nodes ≡ 0) refl refl mutators m

only_shared : (mutators : ℕ) (n : Name) → IsSome (node_of (new_world mutators) n) → n ≡ shared_name
only_shared mutators n there = let node = is_some_of (node_of (new_world mutators) n) there in
    at_some (node_of (new_world mutators) n) node.0 (λ x. n ≡ shared_name) node.1 (new_nodes (λ name x. name ≡ shared_name) refl mutators n)

none_young : (w : World) (n : Name) → node_of w n ≡ None → IsSome (node_of w n) → ⊥
none_young w n none some = absent (node_of w n) none some

pub opening_worked : (plan : Plan) → IsRunnable plan →
    Worked plan (lefts (start plan)) (new_world (length plan.threads)) (start plan).world (start plan).allocation (start plan).progress
opening_worked plan runnable =
    let k : ℕ = length plan.threads in
    let is : IsWorld (new_world k) = new_is_world k runnable.some runnable.few in
    record {
      world = is;
      mutators = length-replicate k new_mutator;
      made = λ m. rw (new_serial k m) (rw (zero-add (lefts (start plan) m)) (runnable.short m));
      sound_blocks = first_filed (layout_of plan);
      old_known = λ number block n lies. absurd (none_some (name_in (cells (all_empty plan.config.segments) number) block) n (empty number block) lies);
      known = λ number block n lies. absurd (none_some (name_in (cells (all_empty plan.config.segments) number) block) n (empty number block) lies);
      cycle = tt;
      old = λ n tracked other there. absurd (other (only_shared k n there));
      young = λ n tracked young. absurd (none_young (new_world k) n young.0 young.1);
      there = tracked_known (new_world k) [] is (λ e held n wide. absurd (nothing_in e held));
    }
  where
    empty : (number block : ℕ) → name_in (cells (all_empty plan.config.segments) number) block ≡ None
    empty number block = ap (λ c. name_in c block) (first_cells plan.config.segments number)

pub start_programs : (plan : Plan) → IsRunnable plan → HasPrograms plan (start plan)
start_programs plan runnable = record { count = refl; registers = runnable.registers }

pub opening_holds : (plan : Plan) (run : Run) → IsRunnable plan → IsRun plan run → HasPrograms plan run.opening.state × IsSoundHere plan run.opening.state
opening_holds plan run runnable i = (
  stop_programs plan (new_world (length plan.threads)) (start plan) run.opening.state run.opening.row run.opening.cycles i.opening
      (start_programs plan runnable),
  (stop_holds plan (new_world (length plan.threads)) (start plan) run.opening.state run.opening.row run.opening.cycles i.opening
      (opening_worked plan runnable)).last,
)

pub run_holds : (plan : Plan) (run : Run) → IsRunnable plan → IsRun plan run → HasPrograms plan (last_state run) × IsSoundHere plan (last_state run)
run_holds plan run runnable i = let opened = opening_holds plan run runnable i in turns_hold plan run.opening.state run.turns i.turns opened.0 opened.1

-- so the states of a run are sound

-- a round leaves the snapshot
pub noted_snapshots : (p : Progress) (rows : List Row) (e : World) → Contains (snapshots (noted p rows)) e → Contains (snapshots p) e
noted_snapshots idle rows e held = held
noted_snapshots (marking c) rows e held = held
noted_snapshots (sweeping c closed) rows e held = held

pub sound_of : (plan : Plan) (s : State) → HasPrograms plan s → IsSoundHere plan s → IsSoundState plan s
sound_of plan s able h = record {
  world = h.world;
  able = record { programs = able.count; mutators = h.mutators; registers = able.registers; serials = h.made };
  sound_blocks = h.sound_blocks;
  known = h.known;
  cycle = h.cycle;
  earlier = earlier_then s.world s.allocation s.progress h.cycle;
  blocks = h.blocks;
}

pub sound_holds : (plan : Plan) (s : State) → IsSoundState plan s → HasPrograms plan s × IsSoundHere plan s
sound_holds plan s sound = (
  record { count = sound.able.programs; registers = sound.able.registers },
  record {
    world = sound.world;
    mutators = sound.able.mutators;
    made = sound.able.serials;
    sound_blocks = sound.sound_blocks;
    known = sound.known;
    cycle = sound.cycle;
    blocks = sound.blocks;
  },
)

pub states_are_sound : StatesAreSound
states_are_sound plan run runnable i = let h = run_holds plan run runnable i in sound_of plan (last_state run) h.0 h.1

pub rounds_are_sound : RoundsAreSound
rounds_are_sound plan s t replies rows sound round =
    let h = sound_holds plan s sound in
    let able = round_programs plan s t replies rows round h.0 h.1 in
    let m = round_holds plan s t replies rows round h.0 h.1 in
    record {
      can = can_replay plan s t replies rows round h.0 h.1;
      world = m.world;
      able = record { programs = able.count; mutators = m.mutators; registers = able.registers; serials = m.made };
      sound_blocks = m.sound_blocks;
      known = m.old_known;
      cycle = m.cycle;
      earlier = earlier_then t.world t.allocation t.progress m.cycle;
      names = λ e held n there.
          snapshot_known s.world s.allocation s.progress sound.cycle e (noted_snapshots s.progress rows e (rw round.rest at held)) n there;
      blocks = m.old;
    }

pub tracked_have_blocks : TrackedHaveBlocks
tracked_have_blocks plan run runnable i = (states_are_sound plan run runnable i).blocks
