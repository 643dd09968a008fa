-- The real heap at a stop: words, segments, roots and weak pointers that represent a state of a run.
use Rattle.std.specs.Prelude.{ℕ, ◌≡◌, ◌↔◌, ◌≤◌, List, [], ◌∷◌, length, map, flat_map, Some, Contains, All}
use Rattle.nmgc_limits.specs.declared.mutators.TheConstants.{REGISTERS}
use Rattle.nmgc_world_spec.specs.{declared.value.Name.Name, declared.node.Node.Node, World.World, World.node_of}
use Rattle.nmgc_object.specs.{Words.block_size, declared.layout.Layout.Layout}
use Rattle.nmgc_alloc.specs.AllocState.{Segments, AllocState, LiesIn, cells, StandsFor}
use Rattle.nmgc_heap_spec.specs.{Objects.size_of, Objects.Place, Represents.Represents, Represents.NoNode, Roots.RepresentsRoots, Roots.ListsWeaks}
use Rattle.nmgc_stop_spec.specs.Cycle.{IsPlaceAtStop}
use Rattle.nmgc_journal.specs.declared.report.MutatorEnd.{MutatorEnd}
use Rattle.nmgc_run_spec.specs.Run.{State, Progress, marking}

-- the worlds that the collector still uses: the snapshot of a cycle that is marking, and otherwise none
abbrev pub snapshots : Progress → List World
snapshots (marking c) = c.snapshot ∷ []
snapshots _ = []

-- words, roots and segments represent a state while the collector uses these earlier worlds, and each object fits its block
pub record HeapStandsFor (layout : Layout) (earlier : List World) (places : List Place) (w : World) (allocation : AllocState) (words : List ℕ)
    (segments : Segments) (mutators : List MutatorEnd) : Type 0 where
  pub fit : (number block : ℕ) (name : Name) (node : Node) → LiesIn allocation number block name → node_of w name ≡ Some node →
      size_of node ≤ block_size (cells allocation number).class
  pub represents : Represents layout earlier NoNode places w words
  pub registers : All (λ (m : MutatorEnd). length m.registers ≡ REGISTERS) mutators
  pub roots : RepresentsRoots places w (flat_map (λ (m : MutatorEnd). m.registers) mutators) (map (λ (m : MutatorEnd). m.queue) mutators)
      (map (λ (m : MutatorEnd). m.serial) mutators)
  pub layout_is : segments.layout ≡ layout
  pub stands : StandsFor segments words allocation

-- the heap at a stop: exactly g and the blocks have places, since nurseries are empty, and weak pointers in blocks are listed
pub record HoldsAtStop (layout : Layout) (s : State) (words : List ℕ) (segments : Segments) (mutators : List MutatorEnd) (weaks : List Place) : Type 0 where
  pub places : List Place
  pub all : (p : Place) → Contains places p ↔ IsPlaceAtStop layout s.allocation p
  pub holds : HeapStandsFor layout (snapshots s.progress) places s.world s.allocation words segments mutators
  pub listed : ListsWeaks layout places s.world weaks
