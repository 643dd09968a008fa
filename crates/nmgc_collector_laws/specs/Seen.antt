-- The view of a collector in contracts: all that its report would have now, and its state between two calls.
use Rattle.std.specs.Prelude.{ℕ, List, map, flat_map, Bool, Option}
use Rattle.nmgc_object.specs.{declared.layout.Nursery.Nursery, FinQueue.FinQueue}
use Rattle.nmgc_alloc.specs.AllocState.{Segments}
use Rattle.nmgc_heap_spec.specs.Objects.{Place}
use Rattle.nmgc_journal.specs.{declared.report.RoundRows.RoundRows, declared.report.Phase.Phase, declared.report.StopRow.StopRow, declared.report.CycleRow.CycleRow, declared.report.MutatorEnd.MutatorEnd, declared.report.End.End}
use Rattle.nmgc_mark.specs.Seen.{MarkerSeen, WorkSeen}
use Rattle.nmgc_sweep.specs.Seen.{SweeperSeen, CycleSeen}

-- a mutator in the contracts of a collector: its roots, its next serial, its nursery and its lists for the stop. The lists
-- are the addresses of recorded fields, of new weak pointers and of finalised weak pointers, and the remembered entries
pub record MutatorSeen : Type 0 where
  pub registers : List ℕ
  pub queue : FinQueue
  pub serial : ℕ
  pub nursery : Nursery
  pub recorded : List ℕ
  pub young_weaks : List ℕ
  pub finalised : List ℕ
  pub entries : List ℕ

-- the whole collector in contracts: all that its report would have now, and its state between two calls. Marker, sweeper and
-- cycle are meaningful while a cycle is in progress
pub record CollectorSeen : Type 0 where
  pub rounds : List RoundRows
  pub stops : List StopRow
  pub cycles : List CycleRow
  pub words : List ℕ
  pub segments : Segments
  pub mutators : List MutatorSeen
  pub weaks : List Place
  pub phase : Phase
  pub begun : ℕ
  pub collect : Bool
  pub full : Bool
  pub answered : Option End
  pub work : WorkSeen
  pub marker : MarkerSeen
  pub sweeper : SweeperSeen
  pub cycle : CycleSeen

-- a mutator in a report made now
abbrev pub end_of : MutatorSeen → MutatorEnd
end_of m = record { registers = m.registers; queue = m.queue.words; serial = m.serial }

abbrev pub ends_of : CollectorSeen → List MutatorEnd
ends_of seen = map end_of seen.mutators

-- the nurseries of all mutators
abbrev pub nurseries_of : CollectorSeen → List Nursery
nurseries_of seen = map (λ (m : MutatorSeen). m.nursery) seen.mutators

-- the addresses of the fields that the round recorded
abbrev pub recorded_in : CollectorSeen → List ℕ
recorded_in seen = flat_map (λ (m : MutatorSeen). m.recorded) seen.mutators

-- the addresses of the weak pointers that the round made
abbrev pub young_weaks_in : CollectorSeen → List ℕ
young_weaks_in seen = flat_map (λ (m : MutatorSeen). m.young_weaks) seen.mutators

-- the addresses of the weak pointers in segments that the round finalised
abbrev pub finalised_in : CollectorSeen → List ℕ
finalised_in seen = flat_map (λ (m : MutatorSeen). m.finalised) seen.mutators
