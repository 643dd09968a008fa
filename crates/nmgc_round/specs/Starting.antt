-- When a round may start: the words represent the world, and so does the state outside them.
use Rattle.std.specs.Prelude.{◌≡◌, ℕ, ◌<◌, false, List, [], length, Contains, Some}
use Rattle.nmgc_world_spec.specs.{declared.node.Node.Node, Known.IsWorld, World.state_of, World.node_of, World.serial_of}
use Rattle.nmgc_snapshot_laws.specs.{declared.event.Entry.Entry, State.names_of, State.newest_first, State.unmarked}
use Rattle.nmgc_heap_spec.specs.{Objects.ListMeans, Represents.Represents, Represents.NoNode}
use Rattle.nmgc_round.specs.{View.Hand, View.Opening, View.hand_of, Objects.Object, Objects.IsLater, Objects.IsSnapshot, Objects.earlier, Own.old_stacks, Rule.IsOpening, Rule.IsQueued}

-- a hand that represents a mutator's state in the world, and lists the words of each stack there that it made
pub record HandStands (o : Opening) (m : ℕ) (h : Hand) : Type 0 where
  pub registers : ListMeans (Contains o.places) h.registers (state_of o.core.world m).registers
  pub queue : ListMeans (Contains o.places) h.queue (state_of o.core.world m).queue
  pub serial : h.serial ≡ serial_of o.core.world m
  pub stacks : h.stacks ≡ old_stacks o.places o.core.world m

-- a round may start: the words represent the opening's world, with each mutator's registers, queue and serial. Nothing is
-- owed. Outside marking the state is a bare world's. While marking, queued names have objects, and snapshot nodes are earlier
pub record CanOpen (o : Opening) (words : List ℕ) : Type 0 where
  pub is : IsOpening o
  pub world : IsWorld o.core.world
  pub unmarked_is : o.marking ≡ false → o.core ≡ unmarked newest_first o.core.world
  pub represents : Represents o.layout (earlier o) NoNode o.places o.core.world words
  pub count : length o.hands ≡ o.layout.mutators
  pub hands : (m : ℕ) → m < o.layout.mutators → HandStands o m (hand_of o.hands m)
  pub older : (x : Object) (before : Node) → IsSnapshot o x before → node_of o.core.world x.name ≡ Some x.node → IsLater before x.node
  pub owed : (m : ℕ) → names_of o.core.owed m ≡ []
  pub queued : (entry : Entry) → Contains o.core.queue entry → IsQueued o entry
