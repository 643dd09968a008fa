-- A run answers no more commands than its programs have.
use Rattle.nmgc_cli.proofs.Vocabulary.{◌≡◌, ◌≤◌, ◌<◌, ℕ, ◌+◌, ◌-◌, ◌*◌, ◌^◌, List, [], ◌∷◌, length, map, refl, ap, arith, sum_by, length-drop, sum_by-cons, sum_by-le, most_script_bytes, MAKERS, Command, Reply, Row, HasFewCommands, Config, Script, Report, RoundRows, reply_count, command_count, IsLawful, IsRound, Turn, AreTurns, state_after, slice_of, slices, rest_of, Plan, State, plan_of, start, stop_left, slice_few}

-- the number of items in all lists together
abbrev total : {A : Type 0} → List (List A) → ℕ
total lists = sum_by length lists

-- the slices of programs, and the rest of them
parts : (config : Config) (left : List (List Command)) → total (slices config left) + total (map (rest_of config) left) ≡ total left
parts config [] = refl
parts config (program ∷ left) =
    let own : length (slice_of config program) ≤ length program = slice_few config.slice config.nursery program in
    let rest : length (rest_of config program) ≡ length program - length (slice_of config program) = length-drop (length (slice_of config program)) program in
    let before : total (slices config left) + total (map (rest_of config) left) ≡ total left = parts config left in
    let a : total (slices config (program ∷ left)) ≡ length (slice_of config program) + total (slices config left) =
    sum_by-cons length (slice_of config program) (slices config left) in
    let b : total (map (rest_of config) (program ∷ left)) ≡ length (rest_of config program) + total (map (rest_of config) left) =
    sum_by-cons length (rest_of config program) (map (rest_of config) left) in
    let c : total (program ∷ left) ≡ length program + total left = sum_by-cons length program left in
    omega (arith, own, rest, before, a, b, c)

-- lists of the same lengths
same_total : {A B : Type 0} (xs : List (List A)) (ys : List (List B)) → map length xs ≡ map length ys → total xs ≡ total ys
same_total [] [] e = refl
same_total [] (y ∷ ys) e = absurd cc
same_total (x ∷ xs) [] e = absurd cc
same_total (x ∷ xs) (y ∷ ys) e =
    let head : length x ≡ length y = cc in
    let tail : map length xs ≡ map length ys = cc in
    let rest : total xs ≡ total ys = same_total xs ys tail in
    omega (arith, head, rest, sum_by-cons length x xs, sum_by-cons length y ys)

-- a round answers exactly the commands that it takes from the programs
round_counts : (config : Config) (s t : State) (replies : List (List Reply)) (rows : List Row) → IsRound config s replies rows t →
    total replies + total t.left ≡ total s.left
round_counts config s t replies rows round =
    let answers : total replies ≡ total (slices config s.left) = same_total replies (slices config s.left) round.history.lengths in
    let left : total t.left ≡ total (map (rest_of config) s.left) = ap (λ (x : State). total x.left) round.rest in
    omega (arith, answers, left, parts config s.left)

turns_count : (plan : Plan) (s : State) (turns : List Turn) → AreTurns plan s turns →
    command_count (map (λ (turn : Turn). turn.replies) turns) + total (state_after s turns).left ≡ total s.left
turns_count plan s [] are = omega arith
turns_count plan s (turn ∷ turns) are =
    let rest : command_count (map (λ (turn : Turn). turn.replies) turns) + total (state_after turn.stop.state turns).left ≡
    total turn.stop.state.left = turns_count plan turn.stop.state turns are.1 in
    let stopped : total turn.stop.state.left ≡ total turn.worked.left =
    ap (λ (left : List (List Command)). total left) (stop_left plan s.world turn.worked turn.stop.state turn.stop.row turn.stop.cycles are.0.stop) in
    let own : total turn.replies.replies + total turn.worked.left ≡ total s.left =
    round_counts plan.config s turn.worked turn.replies.replies turn.history are.0.round in
    let more : command_count (map (λ (turn : Turn). turn.replies) (turn ∷ turns)) ≡
    reply_count turn.replies + command_count (map (λ (turn : Turn). turn.replies) turns) =
    sum_by-cons reply_count turn.replies (map (λ (turn : Turn). turn.replies) turns) in
    omega (arith, rest, stopped, own, more)

-- a lawful report answers no more commands than the programs of its script have
lawful_count : (script : Script) (report : Report) → IsLawful script report → command_count report.rounds ≤ total script.threads
lawful_count script report lawful =
    let plan : Plan = plan_of script in
    let turns : command_count (map (λ (turn : Turn).
    turn.replies) lawful.run.turns) + total (state_after lawful.run.opening.state lawful.run.turns).left ≡
    total lawful.run.opening.state.left = turns_count plan lawful.run.opening.state lawful.run.turns lawful.is_run.turns in
    let opened : total lawful.run.opening.state.left ≡ total script.threads =
    ap (λ (left : List (List Command)).
    total left) (stop_left plan _ (start plan) lawful.run.opening.state lawful.run.opening.row lawful.run.opening.cycles lawful.is_run.opening) in
    let reported : command_count report.rounds ≡ command_count (map (λ (turn : Turn). turn.replies) lawful.run.turns) =
    ap (λ (rounds : List RoundRows). command_count rounds) lawful.agrees.rounds_are in
    omega (arith, turns, opened, reported)

-- a lawful report answers fewer than 2^64 commands
pub few_answers : (script : Script) (report : Report) → length script.threads ≤ MAKERS → HasFewCommands script → IsLawful script report →
    command_count report.rounds < 2 ^ 64
few_answers script report threads few lawful =
    let programs : total script.threads ≤ length script.threads * most_script_bytes = sum_by-le length most_script_bytes script.threads few in
    let answered : command_count report.rounds ≤ total script.threads = lawful_count script report lawful in
    omega (arith, programs, answered, threads)
