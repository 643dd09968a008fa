-- The closing of a cycle in words and marks: its conditions, and why it is the marking machine's closing.
use Rattle.std.specs.Prelude.{ℕ, ◌≡◌, true, List, [], ◌∷◌, Contains}
use Rattle.nmgc_world_spec.specs.{declared.value.Name.Name, declared.node.Parts.Parts, Reach.IsAlive, Reach.AreDistinct}
use Rattle.nmgc_snapshot_laws.specs.declared.event.Event.TheVariants as event
use Rattle.nmgc_snapshot_laws.specs.{Closing.IsClosing, Facts.Facts, Machine.IsPossible, State.State as Core}
use Rattle.nmgc_alloc.specs.AllocState.{Segments}
use Rattle.nmgc_heap_spec.specs.{Objects.Place, Objects.Means, Changes.AreEarlier, Represents.Represents, Represents.NoNode, Roots.ListsWeaks}
use Rattle.nmgc_round.specs.{Marking.marks_of, Objects.earlier, View.Opening}
use Rattle.nmgc_mark.specs.{Seen.MarkerSeen, Stopped.IsReady, Tie.IsTied}
use Rattle.nmgc_weak.specs.{declared.weaks.OldWeak.OldWeak, declared.weaks.Death.Death, Weaks.places_of}

-- the conditions of a closing. The words represent the world of a marking machine that could open a round, and the marker has
-- its marks. The machine's invariant holds, it has marked each name once, and nothing waits, is owed or is pushed. A weak
-- pointer that was finalised since the snapshot is dead. The list has the weak pointers that are alive and have a block.
pub record CanResolve (o : Opening) (words : List ℕ) (s : Segments) (marker : MarkerSeen) (weaks : List Place) : Type 0 where
  pub ready : IsReady o words s marker
  pub marking : o.marking ≡ true
  pub facts : Facts o.core
  pub once : AreDistinct o.core.marked
  pub gone : (weak : Name) (parts : Parts) → Contains o.core.finalised weak → IsAlive o.core.world weak parts → ⊥
  pub can_close : IsPossible o.core event.Close
  pub earlier_are : AreEarlier (earlier o) o.core.world
  pub listed : ListsWeaks o.layout o.places o.core.world weaks

-- the deaths: the dead weak pointers in order, each with the word of its finaliser
abbrev pub AreDeaths : Opening → List Name → List Death → Type 0
AreDeaths o [] [] = Unit {0}
AreDeaths o (weak ∷ weaks) (death ∷ deaths) = ((death.weak ≡ weak) ×
    ((parts : Parts) × IsAlive o.core.world weak parts × Means (Contains o.places) death.finaliser parts.finaliser)) × AreDeaths o weaks deaths
AreDeaths o _ _ = ⊥

-- a resolved closing: the marking machine has closed, and the marker has the machine's marks after the closing. The deaths
-- are the weak pointers that die at the closing, and words and list represent the closed world.
pub record HasResolved (o : Opening) (words : List ℕ) (s : Segments) (marker : MarkerSeen) (list : List OldWeak) (deaths : List Death) : Type 0 where
  pub next : Core
  pub closing : IsClosing o.core next
  pub once : AreDistinct next.marked
  pub tied : IsTied o (marks_of next) s marker
  pub deaths_are : AreDeaths o closing.dead deaths
  pub represents : Represents o.layout (earlier o) NoNode o.places next.world words
  pub listed : ListsWeaks o.layout o.places next.world (places_of list)
