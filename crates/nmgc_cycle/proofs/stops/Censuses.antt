-- Each row of a run has the census of a cycle, so it has no name twice.
use Rattle.nmgc_cycle.proofs.Vocabulary.{ℕ, ◌≡◌, ◌<◌, List, [], ◌∷◌, ◌++◌, length, map, take, drop, get_or, inl, inr, refl, sym, subst, arith, zero, suc, All, flat_map, All-nil, All-cons, All-head, All-tail, All-append, World, ordered_once, Cycle, CycleRow, StopRow, RoundRows, Run, Turn, IsRun, AreTurns, AreRowsOf, Plan, State, Progress, idle, marking, sweeping, plan_of, IsCensus, IsStop, EndsOrWaits, Finishes, Proceeds, Script, Collector, HasStopped, report_row, HasNamesOnce}

-- the row has the census of some cycle
abbrev IsOfCycle : CycleRow → Type 0
IsOfCycle row = (c : Cycle) × (closed : ℕ) × (ended : ℕ) × IsCensus c closed ended row

none_of : (rows : List CycleRow) → rows ≡ [] → All IsOfCycle rows
none_of rows none = subst (λ (reported : List CycleRow). All IsOfCycle reported) (sym none) (All-nil IsOfCycle)

ends_of : (p : Progress) (s t : State) (rows : List CycleRow) → EndsOrWaits p s t rows → All IsOfCycle rows
ends_of idle s t rows waits = none_of rows waits.1
ends_of (marking c) s t rows waits = none_of rows waits.1
ends_of (sweeping c closed) s t rows (inr waits) = none_of rows waits.2
ends_of (sweeping c closed) s t rows (inl ends) =
    let row : CycleRow = ends.1.row in
    rw ends.1.cycles_are (All-cons IsOfCycle row [] (c, closed, s.number, ends.1.census)
    (All-nil IsOfCycle))

both_of : (rows first more : List CycleRow) → rows ≡ first ++ more → All IsOfCycle first → All IsOfCycle more → All IsOfCycle rows
both_of rows first more reported a b = subst (λ (all : List CycleRow). All IsOfCycle all) (sym reported) (All-append IsOfCycle first more a b)

finishes_of : (s t : State) (rows : List CycleRow) → Finishes s t rows → All IsOfCycle rows
finishes_of s t rows f = ends_of f.swept.progress f.swept t rows f.ends

proceeds_of : (plan : Plan) (s t : State) (rows : List CycleRow) → Proceeds plan s t rows → All IsOfCycle rows
proceeds_of plan s t rows (inl full) =
    let f = full.1 in
    both_of rows f.before f.own f.cycles_are (finishes_of s f.idled f.before f.finishes) (finishes_of _ f.last f.own f.again)
proceeds_of plan s t rows (inr goes) = none_of rows goes.2

stop_of : (plan : Plan) (began : World) (s t : State) (row : StopRow) (rows : List CycleRow) → IsStop plan began s t row rows → All IsOfCycle rows
stop_of plan began s t row rows i =
    both_of rows i.first i.more i.cycles_are (ends_of i.closed.progress i.closed i.ended i.first i.ends) (proceeds_of plan i.ended t i.more i.proceeds)

turns_of : (plan : Plan) (s : State) (turns : List Turn) → AreTurns plan s turns → All IsOfCycle (flat_map (λ (turn : Turn). turn.stop.cycles) turns)
turns_of plan s [] i = All-nil IsOfCycle
turns_of plan s (turn ∷ turns) i = All-append IsOfCycle turn.stop.cycles (flat_map (λ (t : Turn). t.stop.cycles) turns)
    (stop_of plan s.world turn.worked turn.stop.state turn.stop.row turn.stop.cycles i.0.stop) (turns_of plan turn.stop.state turns i.1)

run_of : (plan : Plan) (run : Run) (rounds : List RoundRows) (stops : List StopRow) (cycles : List CycleRow) → IsRun plan run →
    AreRowsOf run rounds stops cycles → All IsOfCycle cycles
run_of plan run rounds stops cycles i agrees =
    both_of cycles run.opening.cycles (flat_map (λ (turn : Turn). turn.stop.cycles) run.turns) agrees.cycles_are
    (stop_of plan _ _ run.opening.state run.opening.row run.opening.cycles i.opening) (turns_of plan run.opening.state run.turns i.turns)

-- if rows with names in order have censuses, no row has a name twice
rows_once : (rows : List CycleRow) → All IsOfCycle (map report_row rows) → All HasNamesOnce rows
rows_once [] all = All-nil HasNamesOnce
rows_once (row ∷ rows) all =
    let census = (All-head IsOfCycle (report_row row) (map report_row rows) all).3 in
    All-cons HasNamesOnce row rows (ordered_once row.had census.had.ordered, ordered_once row.freed census.freed.ordered)
    (rows_once rows (All-tail IsOfCycle (report_row row) (map report_row rows) all))

-- so for the rows of a collector after a stop
pub names_stopped : (script : Script) (c : Collector) → HasStopped script c → All HasNamesOnce c.rows.cycles
names_stopped script c stop =
    let at = stop.1.at_stop in
    rows_once c.rows.cycles (run_of (plan_of script) stop.0 _ _ (map report_row c.rows.cycles) at.is_run at.agrees)

-- a loop that puts one row after the other in order doesn't change the rest
pub still_there : (rows now : List CycleRow) (i : ℕ) (row : CycleRow) → i < length rows → now ≡ map report_row (take i rows) ++ drop i rows →
    get_or now i row ≡ get_or rows i row
still_there rows now i row low is = cc (is, there rows i low)
  where
    there : (rows : List CycleRow) (i : ℕ) → i < length rows → get_or (map report_row (take i rows) ++ drop i rows) i row ≡ get_or rows i row
    there [] i low = absurd (omega (arith, low))
    there (r ∷ rows) zero low = refl
    there (r ∷ rows) (suc i) low = let less : suc i < suc (length rows) = low in there rows i (omega (arith, less))
