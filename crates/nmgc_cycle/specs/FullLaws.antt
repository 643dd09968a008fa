-- The parts of a full cycle as steps of the run, and their requirements.
use Rattle.std.specs.Prelude.{ℕ, ◌≡◌, ◌++◌, Bool, List}
use Rattle.nmgc_alloc.specs.{AllocState.AllocState, Segments.IsSegments}
use Rattle.nmgc_journal.specs.declared.report.CycleRow.{CycleRow}
use Rattle.nmgc_run_spec.specs.Run.{State, has_left, plan_of}
use Rattle.nmgc_run_spec.specs.Run as run
use Rattle.nmgc_run_spec.specs.Terms as run_terms
use Rattle.nmgc_script.specs.declared.script.Script.{Script}
use Rattle.nmgc_run_laws.specs.Limits.{FitsRun}
use Rattle.nmgc_cycle.specs.{declared.collector.Collector.Collector, Cycles.HasClosed, Roots.queues_in, Shown.report_cycles, Shown.words_in, Steps.StandsAt, Full.CanCloseNow, Full.ClosesNow, Full.CanSweepRest, Full.HasSweptRest, Full.HasFinished, Full.with_all_retired, Full.HasDoneFull, Full.Proceeds}
use Rattle.nmgc_cycle.specs.declared.progress.Progress.TheVariants as doing

-- the collector represents a state of a script's run at this stop
abbrev pub StandsAtStop : ℕ → Collector → Type 0
StandsAtStop stop c = (script : Script) × (s : State) × FitsRun script × (s.number ≡ stop) × StandsAt script c s

-- a closing in a full cycle is a closing of the run, within its bound, whatever is left to scan
abbrev pub FinishingNowLeads : Type 0
FinishingNowLeads = (script : Script) (old new : Collector) (s : State) → FitsRun script → StandsAt script old s →
    HasClosed ClosesNow s.number old new → (t : State) × run.ClosesNow s.progress s t × StandsAt script new t ×
    run.IsForcedSoon script.config.quota s.progress s.number

-- a sweep of all waiting segments in the code is a sweep of them in the run
abbrev pub SweepingRestLeads : Type 0
SweepingRestLeads = (script : Script) (old new : Collector) (s : State) → FitsRun script → StandsAt script old s → HasSweptRest old new →
    (b : AllocState) × run_terms.SweepsRest s.progress s.allocation b × StandsAt script new (record s { allocation = b })

-- a cycle that the code finishes is finished in the run too, within its bound, and then no cycle is in progress
abbrev pub FinishLeads : Type 0
FinishLeads = (script : Script) (old new : Collector) (s : State) → FitsRun script → StandsAt script old s → HasFinished s.number old new →
    (t : State) × (rows : List CycleRow) × run.Finishes s t rows × (report_cycles new ≡ report_cycles old ++ rows) × StandsAt script new t ×
    (new.cycle.progress ≡ doing.Idle) × run.IsForcedSoon script.config.quota s.progress s.number

-- after all segments were filed, the collector represents the state of the run with all segments filed
abbrev pub FilingLeads : Type 0
FilingLeads = (script : Script) (c : Collector) (s : State) → FitsRun script → StandsAt script c s → c.cycle.progress ≡ doing.Idle →
    IsSegments (with_all_retired c).heap.segments → StandsAt script (with_all_retired c) (run_terms.with_all_retired s)

-- a full cycle in the code is a full cycle of the run, with its rows, and within its bound
abbrev pub FullLeads : Type 0
FullLeads = (script : Script) (old new : Collector) (s : State) → FitsRun script → StandsAt script old s → HasDoneFull s.number old new →
    (t : State) × (rows : List CycleRow) × run.DoesFullCycle s t rows × (report_cycles new ≡ report_cycles old ++ rows) × StandsAt script new t ×
    run.IsForcedSoon script.config.quota s.progress s.number

-- the stop goes on as the run does: by a full cycle, by the beginning of a cycle, or by neither
abbrev pub ProceedingLeads : Type 0
ProceedingLeads = (script : Script) (old new : Collector) (s : State) (left : Bool) → FitsRun script → StandsAt script old s →
    left ≡ has_left s.left → Proceeds script.config.trigger left s.number old new → (t : State) × (rows : List CycleRow) ×
    run.Proceeds (plan_of script) s t rows × (report_cycles new ≡ report_cycles old ++ rows) × StandsAt script new t

-- The requirements of the parts

-- a cycle that marks may be closed, whatever its last work left
abbrev pub CloseNowReady : Type 0
CloseNowReady = (script : Script) (c : Collector) (s : State) → StandsAt script c s →
    CanCloseNow (words_in c.heap.words) c.heap.segments c.heap.weaks.list (queues_in c.mutators.items) c.cycle.progress

-- the waiting segments may be swept
abbrev pub SweepRestReady : Type 0
SweepRestReady = (script : Script) (c : Collector) (s : State) → StandsAt script c s → CanSweepRest c.heap.segments c.heap.names c.cycle.progress
