-- The bound by which a run ends, and by which its stops and its cycles have numbers of 32 bits.
--
-- While commands are left, each round answers at least one. After that no object is made: each round scans an object, finds
-- that none waits to be scanned, or sweeps a segment. So the cycle in progress ends, and at most one more begins. The rounds
-- that may still follow are counted; with the stops done they never exceed the bound at the run's beginning.
use Rattle.std.specs.Prelude.{ℕ, ◌≡◌, ◌+◌, ◌-◌, ◌*◌, ◌<◌, ◌≤◌, List, [], ◌∷◌, length, false, if◌then◌else◌}
use Rattle.nmgc_world_spec.specs.{World.World, declared.command.Command.Command}
use Rattle.nmgc_journal.specs.declared.report.RoundRows.{RoundRows}
use Rattle.nmgc_mark.specs.Beginning.{most_blocks}
use Rattle.nmgc_object.specs.declared.layout.Layout.{Layout}
use Rattle.nmgc_run_spec.specs.Run.{plan_of, layout_of}
use Rattle.nmgc_run_laws.specs.Statements.{answered_count}
use Rattle.nmgc_script.specs.declared.script.Script.{Script}
use Rattle.nmgc_cycle.specs.{declared.collector.Collector.Collector, declared.progress.Progress.Progress}
use Rattle.nmgc_cycle.specs.declared.progress.Progress.TheVariants as progress

-- the number of commands left in programs numbered from `m`; `answered` is the number of commands answered of each
abbrev pub left_from : (ℕ → ℕ) → ℕ → List (List Command) → ℕ
left_from answered m [] = 0
left_from answered m (program ∷ programs) = (length program - answered m) + left_from answered (m + 1) programs

-- the number of commands left in all programs after these rounds
unfoldable pub commands_left : List (List Command) → List RoundRows → ℕ
commands_left threads rounds = left_from (answered_count rounds) 0 threads

-- the most rounds of one cycle
abbrev pub cycle_most : Layout → ℕ
cycle_most layout = most_blocks layout + layout.segments + 3

-- the most rounds left of a cycle: one for each object that waits or may be marked, one that finds none, one for each segment
abbrev pub phase_left : ℕ → Progress → ℕ
phase_left segments progress.Idle = 0
phase_left segments (progress.Marking m) = if m.last.empty then segments + 1 else m.marker.spare + length m.marker.queue + segments + 2
phase_left segments (progress.Sweeping w) = length w.sweeper.left

-- if a cycle is in progress, the next round has work for it: its marker wasn't done, or a segment waits
abbrev pub HasMore : Progress → Type 0
HasMore progress.Idle = Unit {0}
HasMore (progress.Marking m) = m.last.empty ≡ false
HasMore (progress.Sweeping w) = 1 ≤ length w.sweeper.left

-- no cycle is due after the end of the cycle in progress, unless more is promoted or asked for
pub record NoneIsDue (trigger : ℕ) (c : Collector) : Type 0 where
  pub not_asked : c.cycle.collect ≡ false
  pub not_filled : 1 ≤ trigger → c.heap.segments.fresh < trigger

-- the sizes of a script's heap
abbrev pub heap_of : Script → Layout
heap_of script = layout_of (plan_of script)

-- the most stops of a run
abbrev pub most_stops : Script → ℕ
most_stops script = commands_left script.threads [] + 2 * cycle_most (heap_of script) + 1

-- a bound of the stops that may follow `stops` stops, which falls with each round. While commands are left each round answers
-- at least one command. If none are left, each round brings the cycle in progress nearer to its end. At most one more cycle
-- begins, and none if no object was made since the last stop
pub data MayFollow (Nothing : Type 0) (script : Script) (c : Collector) (stops : ℕ) : Type 0 where
  commands : stops + commands_left script.threads c.rows.rounds + 2 * cycle_most (heap_of script) ≤ most_stops script → MayFollow Nothing script c stops
  one_cycle : commands_left script.threads c.rows.rounds ≡ 0 →
      stops + phase_left script.config.segments c.cycle.progress + cycle_most (heap_of script) ≤ most_stops script → MayFollow Nothing script c stops
  no_cycle : commands_left script.threads c.rows.rounds ≡ 0 → Nothing → NoneIsDue script.config.trigger c →
      stops + phase_left script.config.segments c.cycle.progress ≤ most_stops script → MayFollow Nothing script c stops

-- a bound of the rounds that may follow; the cycle in progress takes at most the rounds of one cycle
pub record AreFew (Nothing : Type 0) (script : Script) (c : Collector) (stops : ℕ) : Type 0 where
  pub follow : MayFollow Nothing script c stops
  pub phase : phase_left script.config.segments c.cycle.progress ≤ cycle_most (heap_of script)

-- the bound after a stop: no more cycles were begun than stops were done, and the cycle in progress has work
pub record AreFewAtStop (script : Script) (c : Collector) : Type 0 where
  pub few : AreFew (Unit {0}) script c (length c.rows.stops)
  pub begun : c.cycle.begun ≤ length c.rows.stops
  pub more : HasMore c.cycle.progress

-- the bound before a stop, which counts as done: the last round began with the world `began` and left the world `w`
pub record AreFewBeforeStop (script : Script) (c : Collector) (began w : World) : Type 0 where
  pub few : AreFew (w ≡ began) script c (length c.rows.stops + 1)
  pub begun : c.cycle.begun ≤ length c.rows.stops
