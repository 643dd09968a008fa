-- The events of a run that an observer was given.
use Rattle.std.specs.Prelude.{ℕ, ◌≡◌, ◌+◌, All, List, [], ◌∷◌, ◌++◌, length, Bool, true, false, Option, Some, None}
use Rattle.nmgc_journal.specs.{declared.report.RoundRows.RoundRows, declared.report.StopRow.StopRow, declared.report.CycleRow.CycleRow}
use Rattle.nmgc_world_spec.specs.declared.command.{Command.Command, Reply.Reply}
use Rattle.nmgc_script.specs.declared.script.{Config.Config, Script.Script}
use Rattle.nmgc_run_laws.specs.Limits.{FitsRun}
use Rattle.nmgc_collector_laws.specs.Worked.{Done}
use Rattle.nmgc_cycle.specs.{declared.collector.Collector.Collector, declared.observer.Event.Event, declared.observer.KeptRows.KeptRows, Keeps.CanStop, Keeps.HasStopped, Programs.GaveEach, Programs.GaveSome, Programs.script_of, Shown.report_cycles}
use Rattle.nmgc_cycle.specs.declared.observer.Event.TheVariants as event

-- the rows of the rounds, of the stops and of the cycles among events
abbrev pub rounds_in : List Event → List RoundRows
rounds_in [] = []
rounds_in (event.Stop row cycles ∷ events) = rounds_in events
rounds_in (event.Round rows ∷ events) = rows ∷ rounds_in events

abbrev pub stops_in : List Event → List StopRow
stops_in [] = []
stops_in (event.Stop row cycles ∷ events) = row ∷ stops_in events
stops_in (event.Round rows ∷ events) = stops_in events

abbrev pub cycles_in : List Event → List CycleRow
cycles_in [] = []
cycles_in (event.Stop row cycles ∷ events) = cycles ++ cycles_in events
cycles_in (event.Round rows ∷ events) = cycles_in events

-- stops and rounds alternate; `stop` says whether a stop comes first
abbrev pub AlternateFrom : Bool → List Event → Type 0
AlternateFrom stop [] = Unit {0}
AlternateFrom stop (event.Stop row cycles ∷ events) = (stop ≡ true) × AlternateFrom false events
AlternateFrom stop (event.Round rows ∷ events) = (stop ≡ false) × AlternateFrom true events

-- whether a stop comes after these events; `stop` says whether a stop comes first
abbrev pub stop_follows : Bool → List Event → Bool
stop_follows stop [] = stop
stop_follows stop (event.Stop row cycles ∷ events) = stop_follows false events
stop_follows stop (event.Round rows ∷ events) = stop_follows true events

-- an observer was given these events, one after the other: its state went from p to q
abbrev pub Observed : {J : Type 0} → (J → Event → J → Type 0) → J → List Event → J → Type 0
Observed steps p [] q = p ≡ q
Observed steps p (e ∷ events) q = (m : _) × steps p e m × Observed steps m events q

-- a stop's row, if there is one, and these cycles are one event that an observer was given
abbrev pub ObservedStop : {J : Type 0} → (J → Event → J → Type 0) → J → Option StopRow → List CycleRow → J → Type 0
ObservedStop steps p None cycles q = p ≡ q
ObservedStop steps p (Some row) cycles q = steps p (event.Stop row cycles) q

-- an observer failed at a stop's row, with these cycles
abbrev pub FailedStop : {J : Type 0} → (J → Event → J → Type 0) → J → Option StopRow → List CycleRow → J → Type 0
FailedStop fails p stop cycles q = (row : StopRow) × (stop ≡ Some row) × fails p (event.Stop row cycles) q

-- the stops among events are numbered from n, and the cycles of a stop ended there
abbrev pub AreNumbered : ℕ → List Event → Type 0
AreNumbered n [] = Unit {0}
AreNumbered n (event.Stop row cycles ∷ events) = (row.number ≡ n) × All (λ (cycle : CycleRow). cycle.ended ≡ n) cycles × AreNumbered (n + 1) events
AreNumbered n (event.Round rows ∷ events) = AreNumbered n events

-- the events of the collector's run so far. Their rows are all its rows, in order. Stops and rounds alternate, and stops are
-- numbered from 0. `stop` says whether a stop comes next
pub record AreEventsOf (c : Collector) (stop : Bool) (events : List Event) : Type 0 where
  pub rounds : rounds_in events ≡ c.rows.rounds
  pub stops : stops_in events ≡ c.rows.stops
  pub cycles : cycles_in events ≡ report_cycles c
  pub alternate : AlternateFrom true events
  pub next : stop_follows true events ≡ stop
  pub numbered : AreNumbered 0 events

-- an observer was given exactly the events of a collector's run so far
abbrev pub ObservedRun : {J : Type 0} → (J → Event → J → Type 0) → J → Collector → Bool → J → Type 0
ObservedRun steps p c stop q = (events : List Event) × Observed steps p events q × AreEventsOf c stop events

-- an observer was given all events of a collector's run so far but the last one, at which it failed
abbrev pub FailedRun : {J : Type 0} → (J → Event → J → Type 0) → (J → Event → J → Type 0) → J → Collector → Bool → J → Type 0
FailedRun steps fails p c stop q = (events : List Event) × (m : _) × (e : Event) × Observed steps p events m × fails m e q ×
    AreEventsOf c stop (events ++ e ∷ [])

-- the events of a run from a stop on. Their rows follow the rows of the run until then, in order. A stop comes first, and stops
-- and rounds alternate. Stops are numbered on. `stop` says whether a stop comes next
pub record AreEventsFrom (old new : Collector) (stop : Bool) (events : List Event) : Type 0 where
  pub rounds : new.rows.rounds ≡ old.rows.rounds ++ rounds_in events
  pub stops : new.rows.stops ≡ old.rows.stops ++ stops_in events
  pub cycles : report_cycles new ≡ report_cycles old ++ cycles_in events
  pub alternate : AlternateFrom true events
  pub next : stop_follows true events ≡ stop
  pub numbered : AreNumbered (length old.rows.stops) events

-- an observer was given exactly the events from a stop on
abbrev pub ObservedFrom : {J : Type 0} → (J → Event → J → Type 0) → Collector → J → Collector → Bool → J → Type 0
ObservedFrom steps old p new stop q = (events : List Event) × Observed steps p events q × AreEventsFrom old new stop events

-- an observer was given all events from a stop on but the last one, at which it failed
abbrev pub FailedFrom : {J : Type 0} → (J → Event → J → Type 0) → (J → Event → J → Type 0) → Collector → J → Collector → Bool → J → Type 0
FailedFrom steps fails old p new stop q = (events : List Event) × (m : _) × (e : Event) × Observed steps p events m × fails m e q ×
    AreEventsFrom old new stop (events ++ e ∷ [])

-- a collector in the run of a script; `stop` says whether a stop comes next
abbrev pub IsInRun : Script → Collector → Bool → Type 0
IsInRun script c true = CanStop script c
IsInRun script c false = HasStopped script c

-- the part of a script's run that an observer was given before the run was given up. It is no event, or exactly the events of a
-- run so far, or these but the last one, at which the observer failed
pub data ObservedPart {J : Type 0} (steps fails : J → Event → J → Type 0) (script : Script) (p q : J) : Type 0 where
  no_event : p ≡ q → ObservedPart steps fails script p q
  each_event : (c : Collector) (stop : Bool) → IsInRun script c stop → ObservedRun steps p c stop q → ObservedPart steps fails script p q
  but_last : (c : Collector) (stop : Bool) → IsInRun script c stop → FailedRun steps fails p c stop q → ObservedPart steps fails script p q

-- the part of a script's run from a stop on that an observer was given before the run was given up. It is exactly the events
-- from that stop on, or these but the last one, at which the observer failed
pub data ObservedRest {J : Type 0} (steps fails : J → Event → J → Type 0) (script : Script) (old : Collector) (p q : J) : Type 0 where
  each_further : (c : Collector) (stop : Bool) → IsInRun script c stop → ObservedFrom steps old p c stop q → ObservedRest steps fails script old p q
  last_failed : (c : Collector) (stop : Bool) → IsInRun script c stop → FailedFrom steps fails old p c stop q → ObservedRest steps fails script old p q

-- the part of a run of programs that an observer was given before the run was given up. It is a part of the run of the script
-- that the programs had at some stop: the commands that each gave, and then its waiting command. They may have given more since
pub record ObservedPrograms {J P : Type 0} (steps fails : J → Event → J → Type 0) (next : P → Option Command) (replies : P → Reply → P → Type 0)
    (words most : P → ℕ) (valid : P → Type 0) (config : Config) (before after : List P) (p q : J) : Type 0 where
  pub given : List (List Done)
  pub between : List P
  pub gave : GaveEach next replies words most valid before between given
  pub limits : FitsRun (script_of next config given between)
  pub observed : ObservedPart steps fails (script_of next config given between) p q
  pub since : GaveSome next replies words most valid between after

-- rows that are kept: the event's rows joined them
abbrev pub KeepsEvent : KeptRows → Event → KeptRows → Type 0
KeepsEvent before (event.Stop row cycles) after = (after.rounds ≡ before.rounds) × (after.stops ≡ before.stops ++ row ∷ []) ×
    (after.cycles ≡ before.cycles ++ cycles)
KeepsEvent before (event.Round rows) after = (after.rounds ≡ before.rounds ++ rows ∷ []) × (after.stops ≡ before.stops) × (after.cycles ≡ before.cycles)

-- the same cycles joined the collector's rows, and were handed on after those that wait already. They ended at this stop
abbrev pub HandsOn : ℕ → List CycleRow → List CycleRow → List CycleRow → List CycleRow → Type 0
HandsOn stop old new before after = (rows : List CycleRow) × (new ≡ old ++ rows) × (after ≡ before ++ rows) × All (λ (row : CycleRow). row.ended ≡ stop) rows
