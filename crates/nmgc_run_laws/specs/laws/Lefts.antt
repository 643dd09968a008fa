-- The rest of the programs after a stop and after a round.
use Rattle.std.specs.Prelude.{◌≡◌, ◌∷◌}
use Rattle.nmgc_run_laws.specs.laws.Vocabulary.{ℕ, List, [], length, map, drop, get_or, slice_index_or, refl, sym, ap, ◌∙◌, inl, inr, get_or-map, drop-drop, Command, Reply, Row, World, Config, StopRow, CycleRow, slice_of, rest_of, program_of, slices, Plan, State, Progress, idle, marking, sweeping, start, cycle_started, ClosesOrWaits, ClosesNow, IsStop, EndsOrWaits, Finishes, DoesFullCycle, BeginsOrWaits, Proceeds, with_all_retired, IsRound, Turn, AreTurns, state_after, LeftIsDetermined, answered_count}

same_left : (s t : State) → t ≡ s → t.left ≡ s.left
same_left s t e = ap (λ (x : State). x.left) e

closing_left : (quota : ℕ) (p : Progress) (s t : State) → ClosesOrWaits quota p s t → t.left ≡ s.left
closing_left quota idle s t e = same_left s t e
closing_left quota (marking c) s t (inl (e, may)) = same_left s t e
closing_left quota (marking c) s t (inr h) = ap (λ (x : State). x.left) h.0.rest
closing_left quota (sweeping c closed) s t e = same_left s t e

closed_left : (p : Progress) (s t : State) → ClosesNow p s t → t.left ≡ s.left
closed_left idle s t e = same_left s t e
closed_left (marking c) s t h = ap (λ (x : State). x.left) h.rest
closed_left (sweeping c closed) s t e = same_left s t e

ending_left : (p : Progress) (s t : State) (cycles : List CycleRow) → EndsOrWaits p s t cycles → t.left ≡ s.left
ending_left idle s t cycles e = same_left s t e.0
ending_left (marking c) s t cycles e = same_left s t e.0
ending_left (sweeping c closed) s t cycles (inl h) = ap (λ (x : State). x.left) h.1.rest
ending_left (sweeping c closed) s t cycles (inr h) = same_left s t h.1

finished_left : (s t : State) (cycles : List CycleRow) → Finishes s t cycles → t.left ≡ s.left
finished_left s t cycles h = cc (ending_left h.swept.progress h.swept t cycles h.ends, h.others, closed_left s.progress s h.closed h.closes)

full_left : (s t : State) (cycles : List CycleRow) → DoesFullCycle s t cycles → t.left ≡ s.left
full_left s t cycles h = cc (h.rest, finished_left (cycle_started (with_all_retired h.idled)) h.last h.own h.again, finished_left s h.idled h.before h.finishes)

beginning_left : (config : Config) (s t : State) → BeginsOrWaits config s t → t.left ≡ s.left
beginning_left config s t (inl h) = ap (λ (x : State). x.left) h.1
beginning_left config s t (inr h) = same_left s t h.1

pub proceeding_left : (plan : Plan) (s t : State) (cycles : List CycleRow) → Proceeds plan s t cycles → t.left ≡ s.left
proceeding_left plan s t cycles (inl h) = full_left s t cycles h.1
proceeding_left plan s t cycles (inr h) = beginning_left plan.config s t h.1

-- a stop does no command
pub stop_left : (plan : Plan) (began : World) (s t : State) (row : StopRow) (cycles : List CycleRow) → IsStop plan began s t row cycles → t.left ≡ s.left
stop_left plan began s t row cycles h =
    cc (
      proceeding_left plan h.ended t h.more h.proceeds,
      ending_left h.closed.progress h.closed h.ended h.first h.ends,
      closing_left plan.config.quota h.promoted.progress h.promoted h.closed h.closes,
      h.promotes.rest,
    )

-- a list's length in the list of lengths
length_at : {A : Type 0} (lists : List (List A)) (m : ℕ) → get_or (map length lists) m 0 ≡ length (get_or lists m [])
length_at lists m = get_or-map length lists m []

-- there is one reply for each command in the slice
pub slice_count : (config : Config) (s t : State) (replies : List (List Reply)) (rows : List Row) (m : ℕ) → IsRound config s replies rows t →
    length (slice_index_or replies m []) ≡ length (slice_of config (program_of s.left m))
slice_count config s t replies rows m h = cc (length_at replies m, h.history.lengths, length_at (slices config s.left) m, get_or-map (slice_of config) s.left m [])

-- a round does a slice of each program, and has a reply for each command of it
pub round_left : (config : Config) (s t : State) (replies : List (List Reply)) (rows : List Row) (m : ℕ) → IsRound config s replies rows t →
    program_of t.left m ≡ drop (length (slice_index_or replies m [])) (program_of s.left m)
round_left config s t replies rows m h =
    let new : t.left ≡ map (rest_of config) s.left = ap (λ (x : State). x.left) h.rest in
    let many : length (get_or replies m []) ≡ length (get_or (slices config s.left) m []) = cc (length_at replies m, h.history.lengths, length_at (slices config s.left) m) in
    let own : get_or (slices config s.left) m [] ≡ slice_of config (get_or s.left m []) = get_or-map (slice_of config) s.left m [] in
    let rest : get_or (map (rest_of config) s.left) m [] ≡ rest_of config (get_or s.left m []) = get_or-map (rest_of config) s.left m [] in
    ap (λ (left : List (List Command)). program_of left m) new ∙ rest ∙ ap (λ (n : ℕ). drop n (get_or s.left m [])) (sym (many ∙ ap length own))

turns_left : (plan : Plan) (s : State) (turns : List Turn) (m : ℕ) → AreTurns plan s turns →
    program_of (state_after s turns).left m ≡ drop (answered_count (map (λ (turn : Turn). turn.replies) turns) m) (program_of s.left m)
turns_left plan s [] m h = refl
turns_left plan s (turn ∷ turns) m h =
    let after = turns_left plan turn.stop.state turns m h.1 in
    let stopped = stop_left plan s.world turn.worked turn.stop.state turn.stop.row turn.stop.cycles h.0.stop in
    let worked = round_left plan.config s turn.worked turn.replies.replies turn.history m h.0.round in
    let more = answered_count (map (λ (turn : Turn). turn.replies) turns) m in
    cc (after, stopped, worked, drop-drop more (length (slice_index_or turn.replies.replies m [])) (program_of s.left m))

pub left_is_determined : LeftIsDetermined
left_is_determined plan run rounds stops cycles is_run agrees m =
    cc (turns_left plan run.opening.state run.turns m is_run.turns, agrees.rounds_are, stop_left plan _ (start plan) run.opening.state run.opening.row run.opening.cycles is_run.opening)
