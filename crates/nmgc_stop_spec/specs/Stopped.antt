-- The heap at a stop, as its promotion begins and once it is done.
--
-- Until the promotion is done the collector uses the world as the round began too: the recorded fields belong to objects that
-- the mutators may have dropped in the round. So the places and the used worlds are given with the world.
use Rattle.std.specs.Prelude.{ℕ, ◌≡◌, ◌<◌, ◌≤◌, ◌⊎◌, ◌↔◌, List, ◌∷◌, map, Contains, None, IsSome}
use Rattle.nmgc_world_spec.specs.{declared.value.Name.Name, declared.node.Parts.Parts, World.World, World.node_of, Known.IsWorld, Reach.RefersTo, Reach.IsAlive, Reach.Lists}
use Rattle.nmgc_object.specs.{Words.nursery_place, Words.reserve_count, declared.layout.Nursery.Nursery}
use Rattle.nmgc_alloc.specs.{AllocState.Segments, Segments.IsSegments, Reserve.free_count}
use Rattle.nmgc_heap_spec.specs.{Tracked.IsTracked, Objects.Place, Represents.Represents, Represents.NoNode, Changes.IsEarlier, Roots.RepresentsRoots, Moves.Moved, Moves.old_place, Moves.settled}
use Rattle.nmgc_stop_spec.specs.{Nurseries.AreUsed, Nurseries.LieInOrder, Nurseries.AreEmpty, Occupied.AreBlocks, Cycle.IsPromoted, Remembers.Remembers}

-- the state at a stop: the world, the world as the round began, the earlier worlds that the collector still uses after the
-- promotion, the places of objects, and the next serials
pub record Stopped : Type 0 where
  pub world : World
  pub began : World
  pub later : List World
  pub places : List Place
  pub serials : List ℕ

-- the earlier worlds used until the promotion is done: the world as the round began, and the worlds used afterwards
abbrev pub earlier_of : Stopped → List World
earlier_of t = t.began ∷ t.later

-- the address at which the nurseries begin
abbrev pub young_base : Segments → ℕ
young_base s = nursery_place s.layout 0

-- a round's effect on the world, as far as promotion depends on it. The earlier worlds that the collector uses come before
-- the world at the stop. If an earlier world is still used after the promotion, none of its objects lies in a nursery. A
-- place is in a nursery exactly if its name is new. An older object that refers to a new object is tracked. An older weak
-- pointer that is alive has the parts that it had as the round began
pub record IsRoundOf (base : ℕ) (t : Stopped) : Type 0 where
  pub past : (e : World) → Contains (earlier_of t) e → IsEarlier e t.world
  pub outside : (e : World) (p : Place) → Contains t.later e → Contains t.places p → IsSome (node_of e p.name) → p.at < base
  pub young : (p : Place) → Contains t.places p → (base ≤ p.at) ↔ (node_of t.began p.name ≡ None)
  pub changed : (holder name : Name) → IsSome (node_of t.began holder) → node_of t.began name ≡ None → RefersTo t.world holder name →
      IsTracked t.world (earlier_of t) holder
  pub parts : (weak : Name) (parts : Parts) → IsSome (node_of t.began weak) → IsAlive t.world weak parts → IsAlive t.began weak parts

-- a heap at a stop: words, roots, segments, nurseries and the lists of the round represent the world, the world as the round
-- began, and the earlier worlds. The reserve of segments is free, or no nursery has an object
pub record IsStopped (t : Stopped) (s : Segments) (words : List ℕ) (nurseries : List Nursery) (registers : List ℕ) (queues : List (List ℕ))
    (recorded weaks : List ℕ) : Type 0 where
  pub world : IsWorld t.world
  pub round : IsRoundOf (young_base s) t
  pub represents : Represents s.layout (earlier_of t) NoNode t.places t.world words
  pub roots : RepresentsRoots t.places t.world registers queues t.serials
  pub segments : IsSegments s
  pub blocks : AreBlocks s (young_base s) t.places t.world
  pub used : AreUsed s.layout (young_base s) t.places t.world nurseries
  pub order : LieInOrder (young_base s) t.places
  pub left : Remembers (young_base s) (earlier_of t) t.places t.world recorded weaks
  pub reserve : (reserve_count s.layout ≤ free_count s.segments) ⊎ AreEmpty nurseries

-- a settled heap: exactly the promoted objects moved, to addresses below the nurseries, and the moves are listed in order of
-- names. Words, roots and blocks in use have the new places. The collector no longer uses the world as the round began
pub record IsSettled (t : Stopped) (s : Segments) (words : List ℕ) (registers : List ℕ) (queues : List (List ℕ)) (moves : List Moved) : Type 0 where
  pub promoted : Lists (IsPromoted t.began t.world) (map (λ (m : Moved). m.name) moves)
  pub moved : (m : Moved) → Contains moves m → Contains t.places (old_place m)
  pub low : (m : Moved) → Contains moves m → m.to < young_base s
  pub represents : Represents s.layout t.later NoNode (settled (young_base s) moves t.places) t.world words
  pub roots : RepresentsRoots (settled (young_base s) moves t.places) t.world registers queues t.serials
  pub blocks : AreBlocks s (young_base s) (settled (young_base s) moves t.places) t.world
