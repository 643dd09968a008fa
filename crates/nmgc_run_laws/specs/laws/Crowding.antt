-- The last stop of a run that ends as heap full did a full cycle, and is crowded. So every lawful report is one of its run.
use Rattle.std.proofs.{Common.ℕ, Common.◌≡◌, Common.◌+◌, Common.◌<◌, Common.◌≤◌, Common.List, Common.[], Common.◌∷◌, Common.◌++◌, Common.length, Common.arith, Common.refl, Common.sym, Common.ap, Common.subst, Common.◌∙◌, Common.Bool, Common.true, Common.Some, Common.None, Common.inl, Common.inr, Common.zero, Common.suc, Common.◌*◌, lemmas.Bool.ltb-true, lemmas.List.Sums.sum_by-cons, lemmas.List.Sums.sum_by-le}
use Rattle.std.specs.Prelude.{sum_by, nat_lt, ◌&&◌, if◌then◌else◌}
use Rattle.nmgc_lists.specs.laws.Truths.{and_both}
use Rattle.nmgc_world_spec.specs.{declared.command.Command.Command, World.World, World.new_world, Reach.IsKept, Reach.Counts}
use Rattle.nmgc_alloc.specs.laws.Cells.{all_swept}
use Rattle.nmgc_journal.specs.{declared.report.CycleRow.CycleRow, declared.report.Report.Report, declared.report.End.End, declared.report.End.TheVariants.Done, declared.report.End.TheVariants.HeapFull, Text.kept_count}
use Rattle.nmgc_limits.specs.Limits.{most_script_bytes}
use Rattle.nmgc_script.specs.{Spelling.IsInLimits, declared.script.Script.Script, laws.Versions.threads_few}
use Rattle.nmgc_stop_spec.specs.Cycle.{ExceptShared, IsKeptIn, Cycle}
use Rattle.nmgc_run_spec.specs.{Lawful.StopInRun, Lawful.last_after, Lawful.last_stop, Lawful.IsCrowded, Lawful.LeavesHeapFull, Lawful.IsHeapFull, Lawful.IsRunOf, Lawful.IsLawful, Run.Run, Run.Turn, Run.IsRun, Run.IsTurn, Run.AreTurns, Run.state_after, Run.last_state, Run.has_left, Run.State, Run.Plan, Run.Progress, Run.idle, Run.marking, Run.sweeping, Run.free_count, Run.cycle_started, Run.next_cycle, Run.plan_of, Run.start, Run.EndsOrWaits, Run.Finishes, Run.DoesFullCycle, Run.Proceeds, Run.is_short, Run.answer_of, AfterRound.program_of, Terms.reserve_of, Terms.with_all_retired, Terms.is_done, Terms.SweepsRest}
use Rattle.nmgc_run_laws.specs.{Limits.FitsRun, Limits.most_commands, Statements.LawfulAreOfRuns, Sound.IsRunnable, laws.CycleCounts.free_kept, laws.FullHeaps.full_crowded, laws.FullHeaps.full_short, laws.FullHeaps.kept_last, laws.FullHeaps.full_heap_is_crowded, laws.Limits.scripts_have_good_plans, laws.Programs.HasPrograms, laws.Runs.round_holds, laws.Runs.turn_holds, laws.Runs.opening_worked, laws.Runs.opening_holds, laws.States.IsSoundHere, laws.States.Worked, laws.States.lefts, laws.Stops.stop_holds}

-- the objects that a full cycle keeps

-- the end of a cycle leaves the world
ended_world : (p : Progress) (s t : State) (cycles : List CycleRow) → EndsOrWaits p s t cycles → t.world ≡ s.world
ended_world idle s t cycles e = ap (λ (x : State). x.world) e.0
ended_world (marking c) s t cycles e = ap (λ (x : State). x.world) e.0
ended_world (sweeping c number) s t cycles (inl e) = ap (λ (x : State). x.world) e.1.rest
ended_world (sweeping c number) s t cycles (inr e) = ap (λ (x : State). x.world) e.1

-- a cycle that was closed, swept and ended leaves the world of its closing
finished_world : (s t : State) (cycles : List CycleRow) (f : Finishes s t cycles) → t.world ≡ f.closed.world
finished_world s t cycles f = ended_world f.swept.progress f.swept t cycles f.ends ∙ ap (λ (x : State). x.world) f.others

-- if a full cycle leaves too few segments free, its first world keeps more objects than there are segments above the reserve
record KeepsMuch (plan : Plan) (w : World) : Type 0 where
  kept : ℕ
  counts : Counts (ExceptShared (IsKept w [] [])) kept
  more : plan.config.segments < kept + reserve_of plan

full_keeps : (plan : Plan) (s t : State) (cycles : List CycleRow) (f : DoesFullCycle s t cycles) → IsSoundHere plan s →
    free_count t < reserve_of plan → KeepsMuch plan f.idled.world
full_keeps plan s t cycles f h few =
    let c : Cycle = next_cycle (with_all_retired f.idled) in
    let g : State = cycle_started (with_all_retired f.idled) in
    let closed_progress : f.again.closed.progress ≡ sweeping c g.number = ap (λ (x : State). x.progress) f.again.closes.rest in
    let sweeps = subst (λ (p : Progress). SweepsRest p f.again.closed.allocation f.again.swept.allocation) closed_progress f.again.sweeps in
    let none = all_swept (IsKeptIn c) f.again.closed.allocation f.again.swept.allocation sweeps in
    let progress : f.again.swept.progress ≡ sweeping c g.number = ap (λ (x : State). x.progress) f.again.others ∙ closed_progress in
    let ends = subst (λ (p : Progress). EndsOrWaits p f.again.swept f.last f.own) progress f.again.ends in
    let crowd = full_crowded plan s t cycles f h in
    elim ends [
      | inl e ↦
          let known : cycles ≡ f.before ++ e.1.row ∷ [] = f.cycles_are ∙ ap (λ (rows : List CycleRow). f.before ++ rows) e.1.cycles_are in
          let same : crowd.1.kept ≡ e.1.row.kept = sym (kept_last crowd.0 crowd.1) ∙ ap kept_count (sym crowd.2 ∙ known) ∙ kept_last f.before e.1.row in
          let many : plan.config.segments ≤ crowd.1.kept + free_count t = crowd.3 in
          record { kept = e.1.row.kept; counts = e.1.census.kept; more = omega (arith, many, same, few) }
      | inr waits ↦ absurd (waits.0 none)
    ]

-- a stop: if the heap is short after it, it did a full cycle

-- the claim about a stop
abbrev Claim : (plan : Plan) → StopInRun plan → Type 0
Claim plan stop = is_short plan stop.stop.state ≡ true → LeavesHeapFull plan stop × IsCrowded plan stop

proceeds_claim : (plan : Plan) (stop : StopInRun plan) → IsSoundHere plan stop.is.ended → Proceeds plan stop.is.ended stop.stop.state stop.is.more →
    Claim plan stop
proceeds_claim plan stop h (inl f) short =
    let s : State = stop.is.ended in
    let t : State = stop.stop.state in
    let few : free_count t < reserve_of plan =
    ltb-true (free_count t) (reserve_of plan) (and_both (has_left t.left) (nat_lt (free_count t) (reserve_of plan)) short).1 in
    let much : KeepsMuch plan f.1.idled.world = full_keeps plan s t stop.is.more f.1 h few in (
      record { cycle = f.1; short = short },
      record {
        closed = f.1.finishes.closed;
        closes = f.1.finishes.closes;
        kept = much.kept;
        counts = subst (λ (w : World). Counts (ExceptShared (IsKept w [] [])) much.kept) (finished_world s f.1.idled f.1.before f.1.finishes) much.counts;
        more = much.more;
      },
    )
proceeds_claim plan stop h (inr (not, inr b, none)) short = absurd (not (inr (sym (ap (λ (x : State). is_short plan x) b.1) ∙ short)))
proceeds_claim plan stop h (inr (not, inl b, none)) short =
    let s : State = stop.is.ended in
    let t : State = stop.stop.state in
    let same : is_short plan t ≡ is_short plan s = ap (λ (x : State). is_short plan x) b.1 ∙
    ap (λ (count : ℕ). has_left s.left && nat_lt count (reserve_of plan)) (free_kept s.allocation.segments) in
    absurd (not (inr (sym same ∙ short)))

stop_claim : (plan : Plan) (stop : StopInRun plan) →
    Worked plan (lefts stop.worked) stop.began stop.worked.world stop.worked.allocation stop.worked.progress → Claim plan stop
stop_claim plan stop h =
    proceeds_claim plan stop (stop_holds plan stop.began stop.worked stop.stop.state stop.stop.row stop.stop.cycles stop.is h).ended stop.is.proceeds

-- the run

-- its opening stop
abbrev opening_stop : (plan : Plan) (run : Run) → IsRun plan run → StopInRun plan
opening_stop plan run i = record { began = new_world (length plan.threads); worked = start plan; stop = run.opening; is = i.opening }

-- the stop after a round
abbrev next_stop : (plan : Plan) (before : StopInRun plan) (turn : Turn) → IsTurn plan before.stop.state turn → StopInRun plan
next_stop plan before turn i = record { began = before.stop.state.world; worked = turn.worked; stop = turn.stop; is = i.stop }

turns_claim : (plan : Plan) (before : StopInRun plan) (turns : List Turn) (i : AreTurns plan before.stop.state turns) →
    HasPrograms plan before.stop.state → IsSoundHere plan before.stop.state → Claim plan before → Claim plan (last_after plan before turns i)
turns_claim plan before [] i able h claim = claim
turns_claim plan before (turn ∷ turns) i able h claim =
    let s : State = before.stop.state in
    let next = turn_holds plan s turn i.0 able h in
    let worked = round_holds plan s turn.worked turn.replies.replies turn.history i.0.round able h in
    let stop : StopInRun plan = next_stop plan before turn i.0 in
    turns_claim plan stop turns i.1 next.0 next.1 (stop_claim plan stop worked)

run_claim : (plan : Plan) (run : Run) (i : IsRun plan run) → IsRunnable plan → Claim plan (last_stop plan run i)
run_claim plan run i runnable =
    let opened = opening_holds plan run runnable i in
    let first : StopInRun plan = opening_stop plan run i in
    turns_claim plan first run.turns i.turns opened.0 opened.1 (stop_claim plan first (opening_worked plan runnable))

-- the state after the last stop is the last state
turns_last : (plan : Plan) (before : StopInRun plan) (turns : List Turn) (i : AreTurns plan before.stop.state turns) →
    (last_after plan before turns i).stop.state ≡ state_after before.stop.state turns
turns_last plan before [] i = refl
turns_last plan before (turn ∷ turns) i = turns_last plan (next_stop plan before turn i.0) turns i.1

run_last : (plan : Plan) (run : Run) (i : IsRun plan run) → (last_stop plan run i).stop.state ≡ last_state run
run_last plan run i = turns_last plan (opening_stop plan run i) run.turns i.turns

-- the end

-- only a short heap gives the end heap full
end_short : (plan : Plan) (s : State) (end : End) → answer_of plan s ≡ Some end → IsHeapFull end → is_short plan s ≡ true
end_short plan s Done e full = absurd full
end_short plan s (HeapFull free reserve) e full = full_short (is_short plan s) (is_done s) (HeapFull (free_count s) (reserve_of plan)) free reserve e

-- a short heap gives that end
short_end : (plan : Plan) (s : State) (end : End) → answer_of plan s ≡ Some end → is_short plan s ≡ true → IsHeapFull end
short_end plan s end e short =
    let A : Bool → Type 0 = λ (b : Bool).
    (if b then Some (HeapFull (free_count s) (reserve_of plan)) else (if is_done s then Some Done else None)) ≡ Some end in
    of_some end (subst A short e)
  where
    of_some : (end : End) → Some (HeapFull (free_count s) (reserve_of plan)) ≡ Some end → IsHeapFull end
    of_some Done e = absurd cc
    of_some (HeapFull free reserve) e = tt

kept_many : (script : Script) (report : Report) (end : End) (lawful : IsLawful script report) → IsRunnable (plan_of script) →
    answer_of (plan_of script) (last_state lawful.run) ≡ Some end → IsHeapFull end →
    script.config.segments < kept_count report.cycles + reserve_of (plan_of script)
kept_many script report Done lawful runnable e full = absurd full
kept_many script report (HeapFull free reserve) lawful runnable e full =
    full_heap_is_crowded (plan_of script) lawful.run report.rounds report.stops report.cycles free reserve runnable lawful.is_run lawful.agrees e

-- a program has no more commands than all together, and so it is short enough for serials
one_of_all : (programs : List (List Command)) (m : ℕ) → length (program_of programs m) ≤ sum_by length programs
one_of_all [] m = omega arith
one_of_all (p ∷ programs) zero = let all = sum_by-cons length p programs in omega (arith, all)
one_of_all (p ∷ programs) (suc m) =
    let all = sum_by-cons length p programs in
    let rest = one_of_all programs m in
    omega (arith, all, rest)

pub few_in_each : (script : Script) → FitsRun script → (m : ℕ) → length (program_of script.threads m) ≤ most_commands
few_in_each script h m = let one = one_of_all script.threads m in let few = h.few in omega (arith, one, few)

pub runnable_of : (script : Script) → FitsRun script → IsRunnable (plan_of script)
runnable_of script h = (scripts_have_good_plans script h.fits).runnable (λ m. let short = few_in_each script h m in omega (arith, short))

-- a script within the limits of scripts fits a run
pub in_limits_fit : (script : Script) → IsInLimits script → FitsRun script
in_limits_fit script limits = record {
  fits = limits.fits;
  few =
      let all : sum_by length script.threads ≤ length script.threads * most_script_bytes = sum_by-le length most_script_bytes script.threads limits.few in
      let threads = threads_few script limits.fits in
      omega (arith, all, threads);
}

-- a lawful report of a script that fits a run is a report of its run, for which it is lawful
pub lawful_are_of_runs : LawfulAreOfRuns
lawful_are_of_runs script report fits lawful =
    let plan : Plan = plan_of script in
    let run : Run = lawful.run in
    let runnable : IsRunnable plan = runnable_of script fits in
    let last : (last_stop plan run lawful.is_run).stop.state ≡ last_state run = run_last plan run lawful.is_run in
    let claim : Claim plan (last_stop plan run lawful.is_run) = run_claim plan run lawful.is_run runnable in
    let short : IsHeapFull report.end → is_short plan (last_stop plan run lawful.is_run).stop.state ≡ true = λ full.
    ap (λ (s : State). is_short plan s) last ∙ end_short plan (last_state run) report.end lawful.end_is full in
    let of_run : IsRunOf script report = record {
      lawful = lawful;
      full = (
        λ full. (claim (short full)).0,
        λ is. short_end plan (last_state run) report.end lawful.end_is (sym (ap (λ (s : State).
            is_short plan s) last) ∙ is.short),
      );
      kept = λ full. kept_many script report report.end lawful runnable lawful.end_is full;
      crowded = λ full. (claim (short full)).1;
    } in
    (of_run, refl)
