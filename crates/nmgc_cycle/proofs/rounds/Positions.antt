-- A position is the number of commands answered of its program; the rest of the program is left.
use Rattle.nmgc_cycle.proofs.Vocabulary.{ℕ, ◌≡◌, ◌∙◌, ◌+◌, ◌-◌, ◌<◌, ◌≤◌, List, [], ◌∷◌, length, map, slice_index_or, slice_index, ap, arith, Some, slice_get, length-drop, Command, serial_of, Mutator, Script, Run, Turn, AreTurns, state_after, last_state, program_of, State, Plan, plan_of, start, answered_count, left_is_determined, slice_count, round_left, stop_left, report_cycles, Collector, IsAfterStop, FitsRun, left_at, slice_few, serials_are_few}
use Rattle.nmgc_cycle.proofs.{lists.Plans.is_runnable, lists.RootLists.serial_seen}

-- the commands answered and left are the whole program
turns_count : (plan : Plan) (s : State) (turns : List Turn) (m : ℕ) → AreTurns plan s turns →
    answered_count (map (λ (turn : Turn). turn.replies) turns) m + length (program_of (state_after s turns).left m) ≡ length (program_of s.left m)
turns_count plan s [] m h = omega arith
turns_count plan s (turn ∷ turns) m h =
    let rest = turns_count plan turn.stop.state turns m h.1 in
    let stopped : length (program_of turn.stop.state.left m) ≡ length (program_of turn.worked.left m) =
    ap (λ (left : List (List Command)).
    length (program_of left m)) (stop_left plan s.world turn.worked turn.stop.state turn.stop.row turn.stop.cycles h.0.stop) in
    let own : ℕ = length (slice_index_or turn.replies.replies m []) in
    let worked : length (program_of turn.worked.left m) ≡ length (program_of s.left m) - own =
    cc (round_left plan.config s turn.worked turn.replies.replies turn.history m h.0.round, length-drop own (program_of s.left m)) in
    let many = slice_count plan.config s turn.worked turn.replies.replies turn.history m h.0.round in
    let few = slice_few plan.config.slice plan.config.nursery (program_of s.left m) in
    omega (arith, rest, stopped, worked, many, few)

module _ (script : Script) (c : Collector) (run : Run) (still : IsAfterStop script c run) (k : ℕ) (exists : k < length script.threads) where
  -- the rest of a program in the run
  pub left_is : program_of (last_state run).left k ≡ left_at script c.positions.items k
  left_is = cc (left_is_determined (plan_of script) run c.rows.rounds c.rows.stops (report_cycles c) still.at_stop.is_run still.at_stop.agrees k, still.kept.positions k exists)

  -- a position lies within its program
  pub position_within : slice_index c.positions.items k ≤ length (program_of script.threads k)
  position_within =
      let plan : Plan = plan_of script in
      let turns : answered_count c.rows.rounds k + length (program_of (last_state run).left k) ≡ length (program_of run.opening.state.left k) =
      cc (still.at_stop.agrees.rounds_are, turns_count plan run.opening.state run.turns k still.at_stop.is_run.turns) in
      let opening : length (program_of run.opening.state.left k) ≡ length (program_of script.threads k) =
      ap (λ (left : List (List Command)).
      length (program_of left k)) (stop_left plan _ (start plan) run.opening.state run.opening.row run.opening.cycles still.at_stop.is_run.opening) in
      let position = still.kept.positions k exists in
      omega (arith, turns, opening, position)

  -- a mutator made at most one object with each command answered
  pub serial_few : (m : Mutator) → FitsRun script → slice_get c.mutators.items k ≡ Some m → m.serial ≤ slice_index c.positions.items k
  serial_few m limits e =
      let next : m.serial ≡ serial_of (last_state run).world k = still.at_stop.heap.holds.roots.next k m.serial (serial_seen c.mutators.items k m e) in
      let few = serials_are_few (plan_of script) run (is_runnable script limits) still.at_stop.is_run k in
      let left : length (program_of (last_state run).left k) ≡ length (program_of script.threads k) - slice_index c.positions.items k =
      ap (λ (program : List Command). length program) left_is ∙ length-drop (slice_index c.positions.items k) (program_of script.threads k) in
      let inside = position_within in
      omega (arith, next, few, left, inside)
