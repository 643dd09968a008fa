-- The parts of a stop: its promotion, the commands left in programs, and its answer.
use Rattle.std.specs.Prelude.{ℕ, ◌≡◌, ◌⊎◌, ◌<◌, Contains, List, [], map, length, slice_index, slice_index_or, Option, Some, None, IsSome}
use Rattle.nmgc_world_spec.specs.{declared.value.Name.Name, declared.command.Command.Command, Known.IsWorld}
use Rattle.nmgc_alloc.specs.{AllocState.AllocState, AllocState.StandsFor, Reserve.free_count, Segments.IsSegments}
use Rattle.nmgc_heap_spec.specs.{Moves.Moved, Moves.settled, Roots.ListsWeaks}
use Rattle.nmgc_weak.specs.{declared.weaks.OldWeak.OldWeak, Closes.KeepsOldWeaks, Weaks.places_of}
use Rattle.nmgc_stop_spec.specs.{Occupied.KeepsMarks, Cycle.PlacesEach, Stopped.Stopped, Stopped.IsStopped, Stopped.IsSettled, Stopped.young_base}
use Rattle.nmgc_collector_laws.specs.{Joins.HaveMoved, Worked.registers_of, Worked.queues_of, Worked.nurseries_of, Worked.recorded_of, Worked.finalised_of, Worked.ListsFinalised}
use Rattle.nmgc_journal.specs.declared.report.End.{End}
use Rattle.nmgc_journal.specs.declared.report.End.TheVariants as end
use Rattle.nmgc_minor.specs.{Placing.moved_of, Promotion.IsFor}
use Rattle.nmgc_object.specs.Words.{reserve_count}
use Rattle.nmgc_script.specs.declared.script.Script.{Script}
use Rattle.nmgc_sweep.specs.NameTable.{HaveNoted}
pub use Rattle.nmgc_collector_laws.specs.Worked.{weaks_of as young_weaks_of}
use Rattle.nmgc_cycle.specs.{declared.collector.Collector.Collector, declared.stop.StopEnd.StopEnd, Roots.promoted_by, Shown.words_in}
use Rattle.nmgc_cycle.specs.declared.progress.Progress.TheVariants as doing
use Rattle.nmgc_cycle.specs.declared.stop.StopEnd.TheVariants as answer

-- words, segments and mutators of the collector represent the heap at a stop
abbrev pub StandsStopped : Stopped → Collector → Type 0
StandsStopped t c = IsStopped t c.heap.segments (words_in c.heap.words) (nurseries_of c.mutators.items) (registers_of c.mutators.items)
    (queues_of c.mutators.items) (recorded_of c.mutators.items) (young_weaks_of c.mutators.items)

-- the moves of the last promotion
abbrev pub moves_of : Collector → List Moved
moves_of c = map moved_of c.heap.promotion.moves

-- the names of the moved objects
abbrev pub moved_names : Collector → List Name
moved_names c = map (λ (m : Moved). m.name) (moves_of c)

-- the objects of the round were promoted: of the collector only its heap and mutators changed, and moved names are noted
pub record HasPromoted (old new : Collector) : Type 0 where
  pub rest : new ≡ record old { heap = new.heap; mutators = new.mutators }
  pub has_words : IsSome new.heap.words
  pub noted : HaveNoted (moves_of new) old.heap.names new.heap.names
  pub forward : ℕ → ℕ
  pub held : new.mutators.items ≡ map (promoted_by forward) old.mutators.items
  pub settled : (t : Stopped) → StandsStopped t old →
      IsSettled t new.heap.segments (words_in new.heap.words) (registers_of new.mutators.items) (queues_of new.mutators.items) (moves_of new)
  pub places : (t : Stopped) → StandsStopped t old → (a : AllocState) → StandsFor old.heap.segments (words_in old.heap.words) a → (b : AllocState) ×
      PlacesEach old.heap.segments.layout t.world a (moved_names new) b × StandsFor new.heap.segments (words_in new.heap.words) b
  pub sound : IsSegments new.heap.segments
  pub marks : KeepsMarks old.heap.segments new.heap.segments
  pub layout : new.heap.segments.layout ≡ old.heap.segments.layout
  pub lists : IsFor old.heap.segments.layout new.heap.promotion
  pub copied : HaveMoved (young_base old.heap.segments) (moves_of new) (words_in old.heap.words) (words_in new.heap.words)

-- the list before a promotion: it has the weak pointers that were alive as the round began. The round kept each as it was or
-- finalised it, and the mutators report those that it finalised
pub record CanList (t : Stopped) (c : Collector) : Type 0 where
  pub began : IsWorld t.began
  pub listed : ListsWeaks c.heap.segments.layout t.places t.began (places_of c.heap.weaks.list)
  pub old : KeepsOldWeaks c.heap.segments.layout t.places t.began t.world
  pub reported : ListsFinalised (young_base c.heap.segments) t.places t.began t.world (finalised_of c.mutators.items)

-- the list at a stop: weak pointers finalised in the round have left it, and those that moved and are alive have joined it.
-- So it has exactly those that are alive and have a block
pub record HasListed (old new : Collector) : Type 0 where
  pub from : (weak : OldWeak) → Contains new.heap.weaks.list weak → Contains old.heap.weaks.list weak ⊎
      ((m : Moved) × Contains (moves_of new) m × (weak.weak ≡ m.name))
  pub lists : (t : Stopped) → StandsStopped t old → CanList t old →
      ListsWeaks new.heap.segments.layout (settled (young_base new.heap.segments) (moves_of new) t.places) t.world (places_of new.heap.weaks.list)
  pub deaths : new.heap.weaks.deaths ≡ old.heap.weaks.deaths

-- some program has commands left after its position
abbrev pub SomeIsLeft : List (List Command) → List ℕ → Type 0
SomeIsLeft programs positions = (k : ℕ) × (k < length programs) × (slice_index positions k < length (slice_index_or programs k []))

-- done: no command is left, and no cycle is in progress
abbrev pub IsDone : Script → Collector → Type 0
IsDone script c = (SomeIsLeft script.threads c.positions.items → ⊥) × (c.cycle.progress ≡ doing.Idle)

-- full: commands are left, and only `free` segments are free, fewer than the reserve
pub record IsHeapFullAt (script : Script) (c : Collector) (free reserve : ℕ) : Type 0 where
  pub left : SomeIsLeft script.threads c.positions.items
  pub free_is : free ≡ free_count c.heap.segments.segments
  pub reserve_is : reserve ≡ reserve_count c.heap.segments.layout
  pub less : free < reserve

-- the end of the run that a stop's answer gives; none if the run goes on
abbrev pub ended_by : StopEnd → Option End
ended_by answer.GoOn = None
ended_by answer.Done = Some end.Done
ended_by (answer.HeapFull free reserve) = Some (end.HeapFull free reserve)
