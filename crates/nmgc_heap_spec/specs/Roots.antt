-- The state outside the words: registers, finaliser queues, serials, and the list of weak pointers.
use Rattle.std.specs.Prelude.{ℕ, ◌≡◌, ◌*◌, ◌<◌, List, length, map, slice_get, Contains, Some}
use Rattle.nmgc_limits.specs.declared.mutators.TheConstants.{REGISTERS}
use Rattle.nmgc_world_spec.specs.{World.World, World.state_of, World.serial_of, Reach.IsAliveWeak, Reach.IsInOrder}
use Rattle.nmgc_object.specs.{Words.InSegment, declared.layout.Layout.Layout}
use Rattle.nmgc_heap_spec.specs.Objects.{Place, AllMean, ListMeans}

-- words represent the roots: all registers in one list, `REGISTERS` for each mutator, finaliser queues and next serials
pub record RepresentsRoots (places : List Place) (w : World) (registers : List ℕ) (queues : List (List ℕ)) (serials : List ℕ) : Type 0 where
  pub count : length registers ≡ REGISTERS * length w.mutators
  pub mutators : (length queues ≡ length w.mutators) × (length serials ≡ length w.mutators)
  pub held : (m : ℕ) → m < length w.mutators → AllMean (Contains places) registers (REGISTERS * m) (state_of w m).registers
  pub queued : (m : ℕ) (own : List ℕ) → slice_get queues m ≡ Some own → ListMeans (Contains places) own (state_of w m).queue
  pub next : (m : ℕ) (serial : ℕ) → slice_get serials m ≡ Some serial → serial ≡ serial_of w m

-- a weak pointer that is alive in the world and has a block, with its place
abbrev pub IsListedWeak : Layout → List Place → World → Place → Type 0
IsListedWeak layout places w p = Contains places p × IsAliveWeak w p.name × ((segment : ℕ) × InSegment layout segment p.at)

-- the list of weak pointers: exactly those that are alive and have a block, each with its place, in order of names. From a
-- round's start up to the promotion after it, the list has those that were alive as the round began
pub record ListsWeaks (layout : Layout) (places : List Place) (w : World) (weaks : List Place) : Type 0 where
  pub ordered : IsInOrder (map (λ (p : Place). p.name) weaks)
  pub sound : (p : Place) → Contains weaks p → IsListedWeak layout places w p
  pub complete : (p : Place) → IsListedWeak layout places w p → Contains weaks p
