-- The heap after a round, a run with one more round, and a mutator's program: for the contracts of the steps of a run.
use Rattle.std.specs.Prelude.{ℕ, ◌⊎◌, List, [], ◌∷◌, Contains, ◌++◌, slice_index_or}
use Rattle.nmgc_world_spec.specs.{declared.value.Name.Name, World.World, declared.command.Command.Command}
use Rattle.nmgc_object.specs.{Words.InNursery, declared.layout.Layout.Layout}
use Rattle.nmgc_alloc.specs.AllocState.{Segments}
use Rattle.nmgc_heap_spec.specs.{Objects.Place, Roots.ListsWeaks}
use Rattle.nmgc_stop_spec.specs.Cycle.{IsYoung, IsPlaceAtStop}
use Rattle.nmgc_journal.specs.declared.report.MutatorEnd.{MutatorEnd}
use Rattle.nmgc_run_spec.specs.{Run.State, Run.Turn, Run.Run, Heap.snapshots, Heap.HeapStandsFor}

-- the place of an object that the round made in its maker's nursery
pub record IsBornPlace (layout : Layout) (began w : World) (p : Place) : Type 0 where
  pub young : IsYoung began w p.name
  pub nursery : InNursery layout p.name.maker p.at

-- a place after a round: the place of g, of a block, or of a new object
abbrev pub IsPlaceAfterRound : Layout → State → State → Place → Type 0
IsPlaceAfterRound layout s t p = IsPlaceAtStop layout t.allocation p ⊎ IsBornPlace layout s.world t.world p

-- the heap after a round: the places at a stop, and a place in a nursery for each new object. The collector still uses the
-- world as the round began, and weak pointers are listed for that world, as at the stop before
pub record HoldsAfterRound (layout : Layout) (s t : State) (places : List Place) (words : List ℕ) (segments : Segments) (mutators : List MutatorEnd)
    (weaks : List Place) : Type 0 where
  pub sound : (p : Place) → Contains places p → IsPlaceAfterRound layout s t p
  pub old : (p : Place) → IsPlaceAtStop layout t.allocation p → Contains places p
  pub born : (name : Name) → IsYoung s.world t.world name → (at : ℕ) × Contains places (record { at = at; name = name })
  pub holds : HeapStandsFor layout (s.world ∷ snapshots t.progress) places t.world t.allocation words segments mutators
  pub listed : ListsWeaks layout places s.world weaks

-- the run with a further round and its stop at the end
abbrev pub with_turn : Run → Turn → Run
with_turn run turn = record run { turns = run.turns ++ turn ∷ [] }

-- the program of mutator `m`
abbrev pub program_of : List (List Command) → ℕ → List Command
program_of programs m = slice_index_or programs m []
