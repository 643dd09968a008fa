-- The view of a collector in contracts.
use Rattle.std.specs.Prelude.{ℕ, List, [], map, Bool, true, false, Option, Some, None}
use Rattle.nmgc_journal.specs.{declared.report.Phase.Phase, declared.report.CycleRow.CycleRow, declared.report.Report.Report, declared.report.End.End}
use Rattle.nmgc_journal.specs.declared.report.Phase.TheVariants as phase
use Rattle.nmgc_collector_laws.specs.Seen.{CollectorSeen, ends_of}
use Rattle.nmgc_mark.specs.Seen.{MarkerSeen, WorkSeen}
use Rattle.nmgc_sweep.specs.{Seen.CycleSeen, Sweeper.Sweeper}
pub use Rattle.nmgc_collector_laws.specs.Heaps.{seen_mutator}
use Rattle.nmgc_mutator.specs.declared.mutator.Mutator.{Mutator}
use Rattle.nmgc_name_lists.specs.Order.{in_order}
use Rattle.nmgc_world_spec.specs.{Reach.AreDistinct, declared.value.Name.Name}
use Rattle.nmgc_weak.specs.{declared.weaks.Death.Death, Weaks.names_of, Weaks.places_of}
use Rattle.nmgc_cycle.specs.{declared.collector.Collector.Collector, declared.progress.Progress.Progress}
use Rattle.nmgc_cycle.specs.declared.progress.Progress.TheVariants as progress

-- the words that a collector has between two calls
abbrev pub words_in : Option (List ℕ) → List ℕ
words_in None = []
words_in (Some words) = words

-- the phase in a stop's row
abbrev pub phase_in : Progress → Phase
phase_in progress.Idle = phase.Idle
phase_in (progress.Marking m) = phase.Marking
phase_in (progress.Sweeping w) = phase.Sweeping

-- whether a cycle is marking
abbrev pub is_marking_in : Progress → Bool
is_marking_in (progress.Marking m) = true
is_marking_in _ = false

-- the names of the weak pointers that died at the last closing
abbrev pub died : List Death → List Name
died deaths = map (λ (death : Death). death.weak) deaths

-- marker, work, sweeper and cycle, each with a default if there is none
abbrev pub marker_in : Progress → MarkerSeen
marker_in (progress.Marking m) = m.marker
marker_in _ = record { epoch = 0; queue = []; spare = 0; marked = 0; turns = 0 }

abbrev pub work_in : Progress → WorkSeen
work_in (progress.Marking m) = record { scanned = m.last.scanned; empty = m.last.empty }
work_in _ = record { scanned = 0; empty = false }

abbrev pub no_sweeper : Sweeper
no_sweeper = record { seen = record { epoch = 0; swept = []; had = []; freed = [] }; left = []; most = 0; turns = 0; upper_turns = 0 }

abbrev pub sweeper_in : Progress → Sweeper
sweeper_in progress.Idle = no_sweeper
sweeper_in (progress.Marking m) = m.sweeper
sweeper_in (progress.Sweeping w) = w.sweeper

abbrev pub cycle_in : Progress → List Name → CycleSeen
cycle_in progress.Idle dead = record { from = 0; closed = 0; dead = []; kept = 0 }
cycle_in (progress.Marking m) dead = record { from = m.from; closed = 0; dead = []; kept = 0 }
cycle_in (progress.Sweeping w) dead = record { from = w.from; closed = w.closed; dead = dead; kept = w.kept }

-- the count of passes in the marker or the sweeper of a cycle in progress, and otherwise the given count
abbrev pub turns_by : Progress → ℕ → ℕ
turns_by progress.Idle turns = turns
turns_by (progress.Marking m) turns = m.marker.turns
turns_by (progress.Sweeping w) turns = w.sweeper.turns

-- passes of the gate by the collector in the whole run: the count of a cycle's marker or sweeper, or else the collector's
abbrev pub turns_of : Collector → ℕ
turns_of c = turns_by c.cycle.progress c.cycle.turns

-- the count of the upper halves' passes in the sweeper of a cycle in progress, and otherwise the given count
abbrev pub upper_turns_by : Progress → ℕ → ℕ
upper_turns_by progress.Idle turns = turns
upper_turns_by (progress.Marking m) turns = m.sweeper.upper_turns
upper_turns_by (progress.Sweeping w) turns = w.sweeper.upper_turns

-- passes of the gate by the upper halves of sweeps in the whole run, which have a count of their own
abbrev pub upper_turns_of : Collector → ℕ
upper_turns_of c = upper_turns_by c.cycle.progress c.cycle.upper_turns

-- each mutator's passes of the gate in the whole run
abbrev pub turns_in : List Mutator → List ℕ
turns_in mutators = map (λ (m : Mutator). m.turns) mutators

abbrev pub mutator_turns_of : Collector → List ℕ
mutator_turns_of c = turns_in c.mutators.items

-- a row as a report has it: the collector keeps its names as they were listed, and a report has them in order
abbrev pub report_row : CycleRow → CycleRow
report_row row = record row { had = in_order row.had; freed = in_order row.freed }

-- no name is twice among the names that a row had, nor among those that it freed. So if its spans are in order, its names are
abbrev pub HasNamesOnce : CycleRow → Type 0
HasNamesOnce row = AreDistinct row.had × AreDistinct row.freed

-- the cycles' rows as a report has them, with their names in order
abbrev pub report_cycles : Collector → List CycleRow
report_cycles c = map report_row c.rows.cycles

-- the view of a collector in contracts (`IsAtStop`, `IsAfterRound`): its report so far, its nurseries, recorded fields and
-- remembered addresses, and the views of its marker and its sweeper
abbrev pub seen : Collector → CollectorSeen
seen c = record {
  rounds = c.rows.rounds;
  stops = c.rows.stops;
  cycles = report_cycles c;
  words = words_in c.heap.words;
  segments = c.heap.segments;
  mutators = map seen_mutator c.mutators.items;
  weaks = places_of c.heap.weaks.list;
  phase = phase_in c.cycle.progress;
  begun = c.cycle.begun;
  collect = c.cycle.collect;
  full = c.cycle.full;
  answered = c.answered;
  work = work_in c.cycle.progress;
  marker = marker_in c.cycle.progress;
  sweeper = (sweeper_in c.cycle.progress).seen;
  cycle = cycle_in c.cycle.progress (died c.heap.weaks.deaths);
}

-- the report of a collector, with this end
abbrev pub report_of : Collector → End → Report
report_of c end = record {
  rounds = c.rows.rounds;
  stops = c.rows.stops;
  cycles = report_cycles c;
  words = (seen c).words;
  segments = c.heap.segments;
  mutators = ends_of (seen c);
  weaks = names_of c.heap.weaks.list;
  end = end;
}
