-- A heap at a stop when a cycle begins: its segments are prepared, and the collector uses the world as the snapshot.
use Rattle.std.specs.Prelude.{ℕ, ◌≡◌, ◌+◌, List, map}
use Rattle.nmgc_world_spec.specs.Known.{IsWorld}
use Rattle.nmgc_segment.specs.declared.state.State.TheVariants as stands
use Rattle.nmgc_object.specs.{FinQueue.FinQueue, declared.layout.Layout.Layout}
use Rattle.nmgc_alloc.specs.{AllocState.Segments, AllocState.IsIn, AllocState.NoneIs, AllocState.prepared, Segments.IsSegments, Settled.AreSettled}
use Rattle.nmgc_heap_spec.specs.Objects.{Place}
use Rattle.nmgc_journal.specs.declared.report.MutatorEnd.{MutatorEnd}
use Rattle.nmgc_round.specs.View.{Opening}
use Rattle.nmgc_run_spec.specs.{Heap.HoldsAtStop, Terms.registers_of, Terms.queues_of, Run.State, Run.cycle_started}
use Rattle.nmgc_segment.specs.Marks.{epoch_of}
use Rattle.nmgc_mark.specs.Beginning.{IsPrepared}

-- prepared segments: the segments when a cycle begins
abbrev pub all_prepared : Segments → Segments
all_prepared s = record s { segments = map prepared s.segments; fresh = 0 }

-- the law that a heap with prepared segments is ready for marking, if no segment waits and no mark byte is the next epoch
abbrev pub StopIsPrepared : Type 0
StopIsPrepared = (layout : Layout) (s : State) (words : List ℕ) (segments : Segments) (ends : List MutatorEnd) (weaks : List Place)
    (queues : List FinQueue) (o : Opening) → (h : HoldsAtStop layout s words segments ends weaks) → IsWorld s.world → IsSegments segments →
    IsSegments (all_prepared segments) → NoneIs (IsIn stands.Sweeping) s.allocation → AreSettled s.begun segments
    → queues_of ends ≡ map (λ (q : FinQueue). q.words) queues → o.layout ≡ layout → o.places ≡ h.places → o.core.snapshot ≡ s.world
    → IsPrepared o (all_prepared segments) (epoch_of (s.begun + 1)) words (registers_of ends) queues

-- the law that words and prepared segments represent the state with which the cycle begins, at the same places
abbrev pub StopBegins : Type 0
StopBegins = (layout : Layout) (s : State) (words : List ℕ) (segments : Segments) (ends : List MutatorEnd) (weaks : List Place) →
    (h : HoldsAtStop layout s words segments ends weaks) →
    (k : HoldsAtStop layout (cycle_started s) words (all_prepared segments) ends weaks) × (k.places ≡ h.places)
