-- The bound on the closings of a run's cycles: none is later, also if a full cycle closes the cycle, and the rows show it.
use Rattle.std.specs.Prelude.{◌≡◌, ◌+◌, ◌-◌, ◌*◌, ◌/◌, ◌≤◌, ◌∷◌}
use Rattle.nmgc_run_laws.specs.laws.Vocabulary.{ℕ, suc, List, [], refl, sym, ap, subst, ◌∙◌, arith, inl, inr, All, flat_map, le-div_iff_mul-le, All-nil, All-cons, All-append, Row, World, CycleRow, StopRow, Config, IsCensus, IsStop, EndsOrWaits, Finishes, DoesFullCycle, BeginsOrWaits, Proceeds, with_all_retired, IsKeptObject, Cycle, ClosesOrWaits, ClosesNow, IsForcedSoon, IsSoon, Counts, noted, Run, Turn, AreTurns, Plan, State, Progress, idle, marking, sweeping, start, cycle_started, plan_of, IsClosedSoon, ClosingsAreSoon, one_count}

-- one more round scans one more quota
pub one_more : (n from quota : ℕ) → from + 1 ≤ n → (n - from - 1) * quota + quota ≡ (n - from) * quota
one_more n from quota le =
    let k : ℕ = n - from - 1 in
    let next : n - from ≡ suc k = omega arith in
    sym (ap (λ j. j * quota) next ∙ (omega arith))

-- a closing that isn't too late comes at most (kept - 1) / quota + 1 rounds after the snapshot
pub within_rounds : (quota : ℕ) (c : Cycle) (closed kept : ℕ) → 1 ≤ quota → IsSoon quota c closed → Counts (IsKeptObject c) kept →
    closed ≤ c.from + ((kept - 1) / quota + 1)
within_rounds quota c closed kept some (inl first) counts = omega arith
within_rounds quota c closed kept some (inr (count, own, less)) counts =
    let same : count ≡ kept = one_count (IsKeptObject c) count kept own counts in
    let rounds : (closed - c.from - 1) * quota ≤ kept - 1 = omega arith in
    let most : closed - c.from - 1 ≤ (kept - 1) / quota = (le-div_iff_mul-le {k = quota} {x = closed - c.from - 1} {y = kept - 1} (omega arith)).1 rounds in
    omega arith

-- the closing in a row is within these rounds too
row_within : (closed at from began rounds : ℕ) → closed ≡ at → from ≡ began → at ≤ began + rounds → closed ≤ from + rounds
row_within closed at from began rounds e f within = omega arith

row_soon : (quota : ℕ) (c : Cycle) (closed ended : ℕ) (row : CycleRow) → 1 ≤ quota → IsSoon quota c closed → IsCensus c closed ended row →
    IsClosedSoon quota row
row_soon quota c closed ended row some soon census =
    row_within row.closed closed row.from c.from ((row.kept - 1) / quota + 1) census.closed_at census.from
    (within_rounds quota c closed row.kept some soon census.kept)

-- the steps of a stop

-- a cycle that sweeps wasn't closed too late
abbrev WasSoon : ℕ → Progress → Type 0
WasSoon quota (sweeping c closed) = IsSoon quota c closed
WasSoon quota _ = Unit {0}

-- a step's rows are of cycles that weren't closed too late either
record IsInTime (quota : ℕ) (t : State) (rows : List CycleRow) : Type 0 where
  now : WasSoon quota t.progress
  known : All (IsClosedSoon quota) rows

same_soon : (quota : ℕ) (p : Progress) (t : State) → t.progress ≡ p → WasSoon quota p → WasSoon quota t.progress
same_soon quota p t e h = subst (λ (q : Progress). WasSoon quota q) (sym e) h

stays_soon : (quota : ℕ) (p : Progress) (s t : State) → s.progress ≡ p → t ≡ s → WasSoon quota p → WasSoon quota t.progress
stays_soon quota p s t e same h = same_soon quota p t (ap (λ (x : State). x.progress) same ∙ e) h

none_known : (quota : ℕ) (rows : List CycleRow) → rows ≡ [] → All (IsClosedSoon quota) rows
none_known quota rows none = subst (λ (known : List CycleRow). All (IsClosedSoon quota) known) (sym none) (All-nil (IsClosedSoon quota))

closes_soon : (quota : ℕ) (p : Progress) (s t : State) → WasSoon quota p → s.progress ≡ p → ClosesOrWaits quota p s t → WasSoon quota t.progress
closes_soon quota idle s t h e same = stays_soon quota idle s t e same h
closes_soon quota (marking c) s t h e (inl (same, may)) = stays_soon quota (marking c) s t e same h
closes_soon quota (marking c) s t h e (inr closes) =
    same_soon quota (sweeping c s.number) t (ap (λ (x : State). x.progress) closes.0.rest) closes.1.0
closes_soon quota (sweeping c closed) s t h e same = stays_soon quota (sweeping c closed) s t e same h

forced_soon : (quota : ℕ) (p : Progress) (s t : State) → WasSoon quota p → s.progress ≡ p → IsForcedSoon quota p s.number → ClosesNow p s t →
    WasSoon quota t.progress
forced_soon quota idle s t h e soon same = stays_soon quota idle s t e same h
forced_soon quota (marking c) s t h e soon closes = same_soon quota (sweeping c s.number) t (ap (λ (x : State). x.progress) closes.rest) soon
forced_soon quota (sweeping c closed) s t h e soon same = stays_soon quota (sweeping c closed) s t e same h

ends_soon : (quota : ℕ) (p : Progress) (s t : State) (rows : List CycleRow) → 1 ≤ quota → WasSoon quota p → s.progress ≡ p → EndsOrWaits p s t rows →
    IsInTime quota t rows
ends_soon quota idle s t rows some h e waits = record { now = stays_soon quota idle s t e waits.0 h; known = none_known quota rows waits.1 }
ends_soon quota (marking c) s t rows some h e waits = record { now = stays_soon quota (marking c) s t e waits.0 h; known = none_known quota rows waits.1 }
ends_soon quota (sweeping c closed) s t rows some h e (inr waits) = record {
  now = stays_soon quota (sweeping c closed) s t e waits.1 h;
  known = none_known quota rows waits.2;
}
ends_soon quota (sweeping c closed) s t rows some h e (inl ends) =
    let row : CycleRow = ends.1.row in
    let soon : IsClosedSoon quota row = row_soon quota c closed s.number row some h ends.1.census in
    record {
      now = same_soon quota idle t (ap (λ (x : State). x.progress) ends.1.rest) tt;
      known = rw ends.1.cycles_are (All-cons (IsClosedSoon quota) row [] soon
          (All-nil (IsClosedSoon quota)));
    }

finishes_soon : (quota : ℕ) (s t : State) (rows : List CycleRow) → 1 ≤ quota → WasSoon quota s.progress → IsForcedSoon quota s.progress s.number →
    Finishes s t rows → IsInTime quota t rows
finishes_soon quota s t rows some h soon f =
    let closed : WasSoon quota f.closed.progress = forced_soon quota s.progress s f.closed h refl soon f.closes in
    let swept : WasSoon quota f.swept.progress =
    same_soon quota f.closed.progress f.swept (ap (λ (x : State). x.progress) f.others) closed in
    ends_soon quota f.swept.progress f.swept t rows some swept refl f.ends

-- the full cycle's own cycle is closed at the stop of its snapshot
full_soon : (quota : ℕ) (s t : State) (rows : List CycleRow) → 1 ≤ quota → WasSoon quota s.progress → IsForcedSoon quota s.progress s.number →
    DoesFullCycle s t rows → IsInTime quota t rows
full_soon quota s t rows some h soon d =
    let before : IsInTime quota d.idled d.before = finishes_soon quota s d.idled d.before some h soon d.finishes in
    let first : d.idled.number ≤ d.idled.number + 1 = omega arith in
    let own : IsInTime quota d.last d.own =
    finishes_soon quota (cycle_started (with_all_retired d.idled)) d.last d.own some tt (inl first) d.again in
    record {
      now = same_soon quota d.last.progress t (ap (λ (x : State). x.progress) d.rest) own.now;
      known = rw d.cycles_are (All-append (IsClosedSoon quota) d.before d.own before.known
          own.known);
    }

begins_soon : (quota : ℕ) (config : Config) (s t : State) → WasSoon quota s.progress → BeginsOrWaits config s t → WasSoon quota t.progress
begins_soon quota config s t h (inl begins) = subst (λ (q : Progress). WasSoon quota q) (sym (ap (λ (x : State). x.progress) begins.1)) tt
begins_soon quota config s t h (inr waits) = stays_soon quota s.progress s t refl waits.1 h

proceeds_soon : (plan : Plan) (s t : State) (rows : List CycleRow) → 1 ≤ plan.config.quota → WasSoon plan.config.quota s.progress →
    Proceeds plan s t rows → IsInTime plan.config.quota t rows
proceeds_soon plan s t rows some h (inl full) = full_soon plan.config.quota s t rows some h full.2 full.1
proceeds_soon plan s t rows some h (inr goes) = record {
  now = begins_soon plan.config.quota plan.config s t h goes.1;
  known = none_known plan.config.quota rows goes.2;
}

stop_soon : (plan : Plan) (began : World) (s t : State) (row : StopRow) (rows : List CycleRow) → 1 ≤ plan.config.quota →
    WasSoon plan.config.quota s.progress → IsStop plan began s t row rows → IsInTime plan.config.quota t rows
stop_soon plan began s t row rows some h i =
    let quota : ℕ = plan.config.quota in
    let promoted : WasSoon quota i.promoted.progress =
    same_soon quota s.progress i.promoted (ap (λ (x : State). x.progress) i.promotes.rest) h in
    let closed : WasSoon quota i.closed.progress = closes_soon quota i.promoted.progress i.promoted i.closed promoted refl i.closes in
    let ended : IsInTime quota i.ended i.first = ends_soon quota i.closed.progress i.closed i.ended i.first some closed refl i.ends in
    let last : IsInTime quota t i.more = proceeds_soon plan i.ended t i.more some ended.now i.proceeds in
    record {
      now = last.now;
      known = rw i.cycles_are (All-append (IsClosedSoon quota) i.first i.more ended.known
          last.known);
    }

-- the run

-- a round closes no cycle
noted_soon : (quota : ℕ) (p : Progress) (rows : List Row) → WasSoon quota p → WasSoon quota (noted p rows)
noted_soon quota idle rows h = tt
noted_soon quota (marking c) rows h = tt
noted_soon quota (sweeping c closed) rows h = h

turns_soon : (plan : Plan) (s : State) (turns : List Turn) → 1 ≤ plan.config.quota → WasSoon plan.config.quota s.progress → AreTurns plan s turns →
    All (IsClosedSoon plan.config.quota) (flat_map (λ (turn : Turn). turn.stop.cycles) turns)
turns_soon plan s [] some h i = All-nil (IsClosedSoon plan.config.quota)
turns_soon plan s (turn ∷ turns) some h i =
    let quota : ℕ = plan.config.quota in
    let worked : WasSoon quota turn.worked.progress =
    same_soon quota (noted s.progress turn.history) turn.worked (ap (λ (x : State). x.progress) i.0.round.rest) (noted_soon quota s.progress
    turn.history h) in
    let stop : IsInTime quota turn.stop.state turn.stop.cycles =
    stop_soon plan s.world turn.worked turn.stop.state turn.stop.row turn.stop.cycles some worked i.0.stop in
    All-append (IsClosedSoon quota) turn.stop.cycles (flat_map (λ (t : Turn). t.stop.cycles) turns) stop.known
    (turns_soon plan turn.stop.state turns some stop.now i.1)

pub closings_are_soon : ClosingsAreSoon
closings_are_soon script report fits lawful =
    let plan : Plan = plan_of script in
    let run : Run = lawful.run in
    let quota : ℕ = script.config.quota in
    let some : 1 ≤ quota = fits.config.some_quota in
    let opened : IsInTime quota run.opening.state run.opening.cycles =
    stop_soon plan _ (start plan) run.opening.state run.opening.row run.opening.cycles some tt lawful.is_run.opening in
    let later = turns_soon plan run.opening.state run.turns some opened.now lawful.is_run.turns in
    rw lawful.agrees.cycles_are (All-append (IsClosedSoon quota) run.opening.cycles
    (flat_map (λ (turn : Turn). turn.stop.cycles) run.turns) opened.known later)
