-- The heap at a stop of a run, as markers find it.
use Rattle.std.specs.{Prelude.ℕ, Prelude.◌≡◌, Prelude.List, Prelude.◌++◌, List.flat_map}
use Rattle.nmgc_world_spec.specs.Known.{IsWorld}
use Rattle.nmgc_object.specs.declared.layout.Layout.{Layout}
use Rattle.nmgc_alloc.specs.{AllocState.Segments, Segments.IsSegments}
use Rattle.nmgc_heap_spec.specs.Objects.{Place}
use Rattle.nmgc_journal.specs.declared.report.MutatorEnd.{MutatorEnd}
use Rattle.nmgc_run_spec.specs.{Heap.HoldsAtStop, Terms.registers_of, Run.State}
use Rattle.nmgc_pmark.specs.{Claims.Stopped, Claims.IsStopped, Strong.roots_of}

-- the root words of a heap: the words of the registers of all mutators, and then of their finaliser queues
abbrev pub root_words : List MutatorEnd → List ℕ
root_words mutators = registers_of mutators ++ flat_map (λ (m : MutatorEnd). m.queue) mutators

-- words, segments and root words represent a stopped heap with the state's world and, as roots, its registers and queues
pub record IsStoppedAs (s : State) (segments : Segments) (words roots : List ℕ) : Type 0 where
  pub heap : Stopped
  pub world : heap.world ≡ s.world
  pub roots_are : heap.roots ≡ roots_of s.world
  pub is : IsStopped heap segments words roots

-- the law that the heap at a stop of a run is a stopped heap
abbrev pub StopsAreStopped : Type 0
StopsAreStopped = (layout : Layout) (s : State) (words : List ℕ) (segments : Segments) (mutators : List MutatorEnd) (weaks : List Place) →
    IsWorld s.world → IsSegments segments → HoldsAtStop layout s words segments mutators weaks → IsStoppedAs s segments words (root_words mutators)
