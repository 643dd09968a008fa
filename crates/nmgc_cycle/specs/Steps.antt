-- The steps of a stop in the run: the states that the collector represents from its promotion to its answer.
--
-- Note [The steps of a stop] in stop.rt has the steps (`Full`, `FullLaws` the full cycle). After each step the collector
-- represents a state of the run at that stop. Only the facts on the pace and on remembered entries differ.
use Rattle.std.specs.Prelude.{ℕ, ◌≡◌, ◌+◌, ◌++◌, ◌≤◌, List, [], true, false}
use Rattle.nmgc_stop_spec.specs.{Kept.IsKeptObject, Cycle.Cycle, Nurseries.AreEmpty}
use Rattle.nmgc_run_spec.specs.{Run.Closes, Run.ClosesOrWaits, Run.MayWait, Run.State, Run.marking, Run.cycle_started, Run.plan_of, Run.layout_of, Run.EndsOrWaits, Run.BeginsOrWaits, Terms.MayClose, Heap.HoldsAtStop}
use Rattle.nmgc_collector_laws.specs.{Collector.Matches, Collector.AreNurseries, Collector.EachMutator, Collector.IsEmptied, Collector.HoldsInCycle, Collector.IsPacedAtStop, Collector.IsPacedAfterRound, Seen.CollectorSeen, Seen.MutatorSeen, Seen.ends_of, Seen.nurseries_of}
use Rattle.nmgc_run_laws.specs.{Course.IsStateInCourse, Sound.IsSoundState}
use Rattle.nmgc_world_spec.specs.Reach.{Counts}
use Rattle.nmgc_journal.specs.declared.report.CycleRow.{CycleRow}
use Rattle.nmgc_script.specs.declared.script.Script.{Script}
use Rattle.nmgc_run_laws.specs.Limits.{FitsRun}
use Rattle.nmgc_sweep.specs.NameTable.{AreNamed}
use Rattle.nmgc_cycle.specs.{declared.collector.Collector.Collector, declared.progress.Marking.Marking, declared.progress.Sweeping.Sweeping, Keeps.IsWellFormed, Keeps.Sweeps, Roots.queues_in, Shown.seen, Shown.report_cycles, Shown.words_in}
use Rattle.nmgc_cycle.specs.declared.progress.Progress.TheVariants as doing
use Rattle.nmgc_cycle.specs.Cycles.{HasTaken, CanClose, Closes as ClosesThen, HasClosed, IsClosed, Ends, CanBegin, HasStarted, Begins}

-- the pace of marking after adding: if the last work left something, the cycle may go on, and does so in pace. Otherwise it
-- may be closed
pub record IsPacedWithin (quota : ℕ) (c : Cycle) (s : State) (seen : CollectorSeen) : Type 0 where
  pub goes_on : seen.work.empty ≡ false → IsPacedAtStop quota c s seen
  pub waits : seen.work.empty ≡ false → MayWait quota c s.number
  pub closes : seen.work.empty ≡ true → (kept : ℕ) → seen.marker.marked ≤ kept → Counts (IsKeptObject c) kept → MayClose quota c s.number

-- the pace of marking after the promotion: the same as after the round, which came after the snapshot
pub record IsPacedPromoted (quota : ℕ) (c : Cycle) (s : State) (seen : CollectorSeen) : Type 0 where
  pub paced : IsPacedAfterRound quota c s seen
  pub later : c.from + 1 ≤ s.number

-- a mutator that has only its remembered entries left
pub record HasOnlyEntries (mutator : MutatorSeen) : Type 0 where
  pub recorded : mutator.recorded ≡ []
  pub young_weaks : mutator.young_weaks ≡ []
  pub finalised : mutator.finalised ≡ []

-- a state at a stop that words, segments, mutators, marker and sweeper of the collector represent, from promotion to answer
pub record StandsForState (Paced : Cycle → State → CollectorSeen → Type 0) (Rests : MutatorSeen → Type 0) (script : Script) (c : Collector) (s : State) : Type 0 where
  pub kept : IsWellFormed script c
  pub sound : IsSoundState (plan_of script) s
  pub course : IsStateInCourse s
  pub matches : Matches (seen c) s
  pub heap : HoldsAtStop (layout_of (plan_of script)) s (seen c).words c.heap.segments (ends_of (seen c)) (seen c).weaks
  pub nurseries : AreNurseries (layout_of (plan_of script)) heap.places s.world (nurseries_of (seen c))
  pub empty : AreEmpty (nurseries_of (seen c))
  pub rest : EachMutator (seen c) (λ m mutator. Rests mutator)
  pub cycle : HoldsInCycle (λ k. Paced k s (seen c)) s.progress s (seen c) heap.places
  pub sweeper : Sweeps s.progress s c
  pub named : AreNamed (layout_of (plan_of script)) c.heap.names s.allocation

-- the state after the promotion; after adding; and from the closing on
abbrev pub StandsPromoted : Script → Collector → State → Type 0
StandsPromoted script c s = StandsForState (IsPacedPromoted script.config.quota) HasOnlyEntries script c s

abbrev pub StandsWithin : Script → Collector → State → Type 0
StandsWithin script c s = StandsForState (IsPacedWithin script.config.quota) IsEmptied script c s

abbrev pub StandsAt : Script → Collector → State → Type 0
StandsAt script c s = StandsForState (IsPacedAtStop script.config.quota) IsEmptied script c s

-- Each step leads from such a state to the next, by the rule of the run

-- adding the remembered entries leaves the state as it is
abbrev pub AddingLeads : Type 0
AddingLeads = (script : Script) (old new : Collector) (s : State) → FitsRun script → StandsPromoted script old s → HasTaken old new →
    StandsWithin script new s

-- a marker that finished closes its cycle, within the bounds
abbrev pub FinishingLeads : Type 0
FinishingLeads = (script : Script) (old new : Collector) (s : State) (k : Cycle) (m : Marking) (w : Sweeping) → FitsRun script →
    StandsWithin script old s → s.progress ≡ marking k → old.cycle.progress ≡ doing.Marking m → m.last.empty ≡ true → new.cycle.progress ≡ doing.Sweeping w →
    HasClosed ClosesThen s.number old new →
    IsClosed s.number (words_in old.heap.words) (words_in new.heap.words) old.heap.segments new.heap.segments old.heap.weaks new.heap.weaks
    old.mutators.items new.mutators.items m w → (t : State) × Closes k s t × MayClose script.config.quota k s.number × StandsAt script new t

-- closing leads to the next state by the run's own rule, within its bounds
abbrev pub ClosingLeads : Type 0
ClosingLeads = (script : Script) (old new : Collector) (s : State) → FitsRun script → StandsWithin script old s →
    HasClosed ClosesThen s.number old new → (t : State) × ClosesOrWaits script.config.quota s.progress s t × StandsAt script new t

-- an end leads to the next state by the run's own rule, and its row has the census
abbrev pub EndLeads : Type 0
EndLeads = (script : Script) (old new : Collector) (s : State) → FitsRun script → StandsAt script old s → Ends s.number old.cycle.progress old new →
    (t : State) × (rows : List CycleRow) × EndsOrWaits s.progress s t rows × (report_cycles new ≡ report_cycles old ++ rows) × StandsAt script new t

-- if none is in progress, a cycle that is started is the run's next cycle
abbrev pub StartingLeads : Type 0
StartingLeads = (script : Script) (old new : Collector) (s : State) → FitsRun script → StandsAt script old s → old.cycle.progress ≡ doing.Idle →
    HasStarted s.number old new → StandsAt script new (record (cycle_started s) { collect = false })

-- a beginning leads to the next state by the run's own rule: if a cycle is due, it begins
abbrev pub BeginningLeads : Type 0
BeginningLeads = (script : Script) (old new : Collector) (s : State) → FitsRun script → StandsAt script old s →
    Begins script.config.trigger s.number old new → (t : State) × BeginsOrWaits script.config s t × StandsAt script new t

-- The requirements of the steps

-- if the last work of a cycle's marker left nothing, the marker may finish
abbrev pub CloseReady : Type 0
CloseReady = (script : Script) (c : Collector) (s : State) → FitsRun script → StandsWithin script c s →
    CanClose (words_in c.heap.words) c.heap.segments c.heap.weaks.list (queues_in c.mutators.items) c.cycle.progress

-- if no cycle is in progress, a cycle may begin
abbrev pub BeginReady : Type 0
BeginReady = (script : Script) (c : Collector) (s : State) → FitsRun script → StandsAt script c s → c.cycle.progress ≡ doing.Idle → CanBegin c
