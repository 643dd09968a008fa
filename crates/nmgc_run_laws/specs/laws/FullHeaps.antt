-- The rows of a run that ends as heap full: its last cycle kept more objects than there are segments above the reserve.
use Rattle.std.proofs.{Common.ℕ, Common.◌≡◌, Common.◌+◌, Common.◌-◌, Common.◌<◌, Common.◌≤◌, Common.List, Common.[], Common.◌∷◌, Common.◌++◌, Common.length, Common.length-append, Common.arith, Common.refl, Common.sym, Common.ap, Common.subst, Common.◌∙◌, Common.Some, Common.None, Common.Bool, Common.true, Common.false, Common.inl, Common.inr, Common.append_assoc, Common.append-nil, lemmas.Bool.ltb-true}
use Rattle.std.specs.{Prelude.Option, Prelude.slice_get, Prelude.sum_by, Prelude.nat_lt, Prelude.◌&&◌, Prelude.flat_map, Prelude.if◌then◌else◌, Option.option_map_or}
use Rattle.nmgc_lists.specs.laws.Truths.{and_both}
use Rattle.nmgc_world_spec.specs.World.{World, new_world}
use Rattle.nmgc_segment.specs.declared.state.State.TheVariants as stands
use Rattle.nmgc_alloc.specs.{AllocState.AllocState, AllocState.IsIn, AllocState.NoneIs, laws.Cells.all_swept}
use Rattle.nmgc_journal.specs.{declared.report.CycleRow.CycleRow, Text.kept_count, declared.report.End.End, declared.report.End.TheVariants.Done, declared.report.End.TheVariants.HeapFull, declared.report.RoundRows.RoundRows, declared.report.StopRow.StopRow}
use Rattle.nmgc_stop_spec.specs.Cycle.{IsKeptIn, Cycle}
use Rattle.nmgc_run_spec.specs.{Run.Run, Run.Turn, Run.IsRun, Run.AreTurns, Run.AreRowsOf, Run.state_after, Run.last_state, Run.has_left, Run.State, Run.Plan, Run.Progress, Run.sweeping, Run.free_count, Run.start, Run.cycle_started, Run.layout_of, Run.next_cycle, Run.IsStop, Run.EndsOrWaits, Run.DoesFullCycle, Run.Proceeds, Run.answer_of, Run.is_short, Terms.reserve_of, Terms.with_all_retired, Terms.is_done, Terms.SweepsRest}
use Rattle.nmgc_run_laws.specs.{Sound.AreSoundBlocks, Sound.IsRunnable, laws.Crowds.IsJudged, laws.Crowds.each_judged, laws.Crowds.begun_judged, laws.Crowds.crowded, laws.CycleCounts.free, laws.CycleCounts.free_kept, laws.Filing.each_filed, laws.Programs.HasPrograms, laws.Runs.round_holds, laws.Runs.turn_holds, laws.Runs.opening_worked, laws.Runs.opening_holds, laws.States.IsSoundHere, laws.States.Worked, laws.States.lefts, laws.Stops.stop_holds, laws.Stops.full_begins}

-- the heap after a full cycle

-- the last row's kept objects and the free segments are together no fewer than the segments
abbrev pub Crowded : Plan → State → List CycleRow → Type 0
Crowded plan t cycles = (before : List CycleRow) × (row : CycleRow) × (cycles ≡ before ++ row ∷ []) × (plan.config.segments ≤ row.kept + free_count t)

pub full_crowded : (plan : Plan) (s t : State) (cycles : List CycleRow) → DoesFullCycle s t cycles → IsSoundHere plan s → Crowded plan t cycles
full_crowded plan s t cycles f h =
    let F : AllocState → Type 0 = AreSoundBlocks (layout_of plan) in
    let g : State = cycle_started (with_all_retired f.idled) in
    let c : Cycle = next_cycle (with_all_retired f.idled) in
    let started : F g.allocation = (full_begins plan s t cycles f h).sound_blocks in
    let closed_progress : f.again.closed.progress ≡ sweeping c g.number = ap (λ (x : State). x.progress) f.again.closes.rest in
    let closed_alloc : f.again.closed.allocation ≡ g.allocation = ap (λ (x : State). x.allocation) f.again.closes.rest in
    let sweeps = subst (λ (p : Progress). SweepsRest p f.again.closed.allocation f.again.swept.allocation) closed_progress f.again.sweeps in
    let from : F f.again.closed.allocation = subst F (sym closed_alloc) started in
    let swept : F f.again.swept.allocation =
    each_filed (layout_of plan) (IsKeptIn c) f.again.closed.allocation f.again.swept.allocation sweeps.numbers sweeps.sweeps from in
    let none : NoneIs (IsIn stands.Sweeping) f.again.swept.allocation = all_swept (IsKeptIn c) f.again.closed.allocation f.again.swept.allocation sweeps in
    let judged = each_judged (layout_of plan) (IsKeptIn c) f.again.closed.allocation f.again.swept.allocation sweeps.numbers sweeps.sweeps from
    (subst (λ (a : AllocState). (k : ℕ) → IsJudged (IsKeptIn c) a k) (sym closed_alloc) (begun_judged (IsKeptIn c) f.idled.allocation)) in
    let progress : f.again.swept.progress ≡ sweeping c g.number = ap (λ (x : State). x.progress) f.again.others ∙ closed_progress in
    let ends = subst (λ (p : Progress). EndsOrWaits p f.again.swept f.last f.own) progress f.again.ends in
    elim ends [
      | inl e ↦
          let same : t.allocation ≡ f.again.swept.allocation = ap (λ (x : State). x.allocation) f.rest ∙ ap (λ (x : State). x.allocation) e.1.rest in
          let many : plan.config.segments ≤ length e.1.census.kept.0 + free_count f.again.swept =
          crowded (layout_of plan) c f.again.swept.allocation e.1.census.kept.0 swept none judged e.1.census.kept.1 in
          let count : free_count t ≡ free_count f.again.swept = ap (λ (a : AllocState). sum_by free a.segments) same in
          let kept : e.1.row.kept ≡ length e.1.census.kept.0 = e.1.census.kept.2 in
          (f.before, e.1.row, f.cycles_are ∙ ap (λ (rows : List CycleRow). f.before ++ rows) e.1.cycles_are, omega (arith, many, count, kept))
      | inr waits ↦ absurd (waits.0 none)
    ]

-- a stop: if the heap is short after it, it did a full cycle

-- the rows up to a stop that ends as heap full, its cycles last
abbrev pub IsCrowdedIfFull : Plan → State → List CycleRow → Type 0
IsCrowdedIfFull plan t cycles = is_short plan t ≡ true → Crowded plan t cycles

proceeds_crowded : (plan : Plan) (s t : State) (cycles : List CycleRow) → Proceeds plan s t cycles → IsSoundHere plan s → IsCrowdedIfFull plan t cycles
proceeds_crowded plan s t cycles (inl f) h short = full_crowded plan s t cycles f.1 h
proceeds_crowded plan s t cycles (inr (not, inr b, none)) h short = absurd (not (inr (sym (ap (λ (x : State). is_short plan x) b.1) ∙ short)))
proceeds_crowded plan s t cycles (inr (not, inl b, none)) h short =
    let same : is_short plan t ≡ is_short plan s = ap (λ (x : State). is_short plan x) b.1 ∙
    ap (λ (count : ℕ). has_left s.left && nat_lt count (reserve_of plan)) (free_kept s.allocation.segments) in
    absurd (not (inr (sym same ∙ short)))

more_known : (plan : Plan) (t : State) (before cycles : List CycleRow) → IsCrowdedIfFull plan t cycles → IsCrowdedIfFull plan t (before ++ cycles)
more_known plan t before cycles known short = let k = known short in
    (before ++ k.0, k.1, ap (λ (rows : List CycleRow). before ++ rows) k.2 ∙ sym (append_assoc before k.0 (k.1 ∷ [])), k.3)

pub stop_known : (plan : Plan) (began : World) (s t : State) (row : StopRow) (cycles : List CycleRow) → IsStop plan began s t row cycles →
    Worked plan (lefts s) began s.world s.allocation s.progress → IsCrowdedIfFull plan t cycles
stop_known plan began s t row cycles i h =
    let ended : IsSoundHere plan i.ended = (stop_holds plan began s t row cycles i h).ended in
    subst (IsCrowdedIfFull plan t) (sym i.cycles_are) (more_known plan t i.first i.more (proceeds_crowded plan i.ended t i.more i.proceeds ended))

-- the run

turns_known : (plan : Plan) (s : State) (turns : List Turn) (before : List CycleRow) → AreTurns plan s turns → HasPrograms plan s →
    IsSoundHere plan s → IsCrowdedIfFull plan s before → IsCrowdedIfFull plan (state_after s turns) (before ++ flat_map (λ (turn : Turn). turn.stop.cycles) turns)
turns_known plan s [] before i able h known = subst (λ (rows : List CycleRow). IsCrowdedIfFull plan s rows) (sym (append-nil before)) known
turns_known plan s (turn ∷ turns) before i able h known =
    let next = turn_holds plan s turn i.0 able h in
    let worked = round_holds plan s turn.worked turn.replies.replies turn.history i.0.round able h in
    let stop : IsCrowdedIfFull plan turn.stop.state turn.stop.cycles = stop_known plan s.world turn.worked turn.stop.state turn.stop.row turn.stop.cycles i.0.stop worked in
    let rest : IsCrowdedIfFull plan (state_after turn.stop.state turns) ((before ++ turn.stop.cycles) ++ flat_map (λ (t : Turn). t.stop.cycles) turns) =
    turns_known plan turn.stop.state turns (before ++ turn.stop.cycles) i.1 next.0 next.1 (more_known plan turn.stop.state before turn.stop.cycles stop) in
    subst (λ (rows : List CycleRow).
    IsCrowdedIfFull plan (state_after turn.stop.state turns) rows) (append_assoc before turn.stop.cycles (flat_map (λ (t : Turn). t.stop.cycles) turns)) rest

-- the last row has the number of objects that the last cycle kept
pub kept_last : (before : List CycleRow) (row : CycleRow) → kept_count (before ++ row ∷ []) ≡ row.kept
kept_last before row =
    let size : length (before ++ row ∷ []) - 1 ≡ length before = let sum = length-append before (row ∷ []) in omega arith in
    ap (λ n. option_map_or (λ (cycle : CycleRow). cycle.kept) (slice_get (before ++ row ∷ []) n) 0) size ∙
    ap (λ (o : Option CycleRow). option_map_or (λ (cycle : CycleRow). cycle.kept) o 0) (last_is before)
  where
    last_is : (rows : List CycleRow) → slice_get (rows ++ row ∷ []) (length rows) ≡ Some row
    last_is [] = refl
    last_is (c ∷ rows) = last_is rows

-- only a short heap gives the answer heap full
pub full_short : (short quiet : Bool) (full : End) (free_segments reserve : ℕ) →
    (if short then Some full else (if quiet then Some Done else None)) ≡ Some (HeapFull free_segments reserve) → short ≡ true
full_short true quiet full free_segments reserve e = refl
full_short false true full free_segments reserve e = absurd cc
full_short false false full free_segments reserve e = absurd cc

pub full_heap_is_crowded : (plan : Plan) (run : Run) (rounds : List RoundRows) (stops : List StopRow) (cycles : List CycleRow) (free reserve : ℕ) →
    IsRunnable plan → IsRun plan run → AreRowsOf run rounds stops cycles → answer_of plan (last_state run) ≡ Some (HeapFull free reserve) →
    plan.config.segments < kept_count cycles + reserve_of plan
full_heap_is_crowded plan run rounds stops cycles free_segments reserve runnable i agrees e =
    let opened = opening_holds plan run runnable i in
    let first : IsCrowdedIfFull plan run.opening.state run.opening.cycles =
    stop_known plan (new_world (length plan.threads)) (start plan) run.opening.state run.opening.row run.opening.cycles i.opening
    (opening_worked plan runnable) in
    let last : State = last_state run in
    let known : IsCrowdedIfFull plan last (run.opening.cycles ++ flat_map (λ (turn : Turn). turn.stop.cycles) run.turns) =
    turns_known plan run.opening.state run.turns run.opening.cycles i.turns opened.0 opened.1 first in
    let short : is_short plan last ≡ true = full_short (is_short plan last) (is_done last) _ free_segments reserve e in
    let crowd = known short in
    let few : free_count last < reserve_of plan =
    ltb-true (free_count last) (reserve_of plan) (and_both (has_left last.left) (nat_lt (free_count last) (reserve_of plan)) short).1 in
    let kept : kept_count cycles ≡ crowd.1.kept = ap kept_count (agrees.cycles_are ∙ crowd.2) ∙ kept_last crowd.0 crowd.1 in
    let most : plan.config.segments ≤ crowd.1.kept + free_count last = crowd.3 in
    omega (arith, few, kept, most)
