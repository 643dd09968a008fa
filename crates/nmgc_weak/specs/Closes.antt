-- The queues of finalisers after a cycle was closed, and the list of weak pointers after a round.
use Rattle.std.specs.Prelude.{Option, ℕ, ◌≡◌, ◌≤◌, List, ◌∷◌, length, map, Some, slice_get, Contains, IsSome}
use Rattle.nmgc_world_spec.specs.{declared.value.Name.Name, declared.node.Parts.Parts, declared.node.Node.TheVariants.Weak, World.World, Known.IsWorld, World.node_of, Reach.IsInOrder, Reach.IsAlive, Reach.closed}
use Rattle.nmgc_object.specs.{FinQueue.FinQueue, Words.InSegment, declared.layout.Layout.Layout}
use Rattle.nmgc_alloc.specs.AllocState.{Segments}
use Rattle.nmgc_heap_spec.specs.{Objects.Place, Represents.Represents, Represents.NoNode, Roots.RepresentsRoots, Roots.ListsWeaks}
use Rattle.nmgc_round.specs.View.{Opening}
use Rattle.nmgc_weak.specs.{Queues.weak_count, Queues.HaveRoom, Queues.AllJoin, declared.weaks.Death.Death, declared.weaks.OldWeak.OldWeak, Resolve.CanResolve, Resolve.AreDeaths, Resolve.HasResolved, Weaks.places_of, Weaks.alive_of}
use Rattle.nmgc_mark.specs.Seen.{MarkerSeen}

-- the law that a queue with room for its mutator's listed weak pointers of the snapshot has room for the deaths' finalisers
abbrev pub DeathsHaveRoom : Type 0
DeathsHaveRoom = (o : Opening) (words before : List ℕ) (s t : Segments) (marker after : MarkerSeen) (weaks : List Place) (list : List OldWeak)
    (deaths : List Death) (queues : List FinQueue) → CanResolve o before s marker weaks → HasResolved o words t after list deaths →
    length queues ≡ length o.core.world.mutators → ((m : ℕ) (queue : FinQueue) → slice_get queues m ≡ Some queue →
    weak_count o.core.snapshot m weaks ≤ queue.spare) → HaveRoom deaths queues

-- the law that registers and queues represent the closed world once the finalisers of the deaths have joined the queues
abbrev pub QueuesClose : Type 0
QueuesClose = (o : Opening) (dead : List Name) (deaths : List Death) (registers : List ℕ) (old new : List FinQueue) (serials : List ℕ) →
    IsWorld o.core.world → AreDeaths o dead deaths → IsInOrder dead →
    RepresentsRoots o.places o.core.world registers (map (λ (q : FinQueue). q.words) old) serials → AllJoin deaths old new →
    RepresentsRoots o.places (closed o.core.world dead) registers (map (λ (q : FinQueue). q.words) new) serials

-- a round that keeps the listed weak pointers. Each object with a block existed before the round. An older weak pointer that
-- is alive was alive before, with the same parts. A weak pointer that was alive is still a weak pointer, alive or dead.
pub record KeepsOldWeaks (layout : Layout) (places : List Place) (began w : World) : Type 0 where
  pub blocks : (p : Place) → Contains places p → (segment : ℕ) × InSegment layout segment p.at → IsSome (node_of began p.name)
  pub alive : (weak : Name) (parts : Parts) → IsAlive w weak parts → IsSome (node_of began weak) → IsAlive began weak parts
  pub weak : (weak : Name) (parts : Parts) → IsAlive began weak parts → (parts_now : Option Parts) × (node_of w weak ≡ Some (Weak parts_now))

-- the law that after a round, once the dead have left, the list has the weak pointers that are alive and have a block
abbrev pub LeavingLists : Type 0
LeavingLists = (layout : Layout) (past : List World) (places : List Place) (began w : World) (words : List ℕ) (list : List OldWeak) →
    IsWorld began → IsWorld w → Represents layout (began ∷ past) NoNode places w words → ListsWeaks layout places began (places_of list) →
    KeepsOldWeaks layout places began w → ListsWeaks layout places w (places_of (alive_of words list))
