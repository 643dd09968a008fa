-- The effect of commands and closings on the nodes and tracked names that words represent: statements of laws.
use Rattle.std.specs.Prelude.{ℕ, ◌≡◌, ◌≢◌, ◌⊎◌, List, slice_get, Contains, Some, None, IsSome}
use Rattle.nmgc_world_spec.specs.{declared.value.Name.Name, declared.node.Node.Node, declared.command.Command.Command, World.World, World.node_of, World.state_of, World.next_name, World.step, Known.IsWorld, Known.CanApply, Reach.closed}
use Rattle.nmgc_heap_spec.specs.{Objects.Slot, Objects.slots_of, Objects.Place, Objects.Fills, Tracked.IsTracked, Changes.IsEarlier, Changes.AreEarlier, Changes.HaveHeaders, Changes.IsSameHeap, Changes.ChangesAt, Changes.ChangesField}

-- a change of a world's nodes: no node changes, one field of one node changes, or there is one new node
pub data NodeStep (w v : World) (new : Name) : Type 0 where
  none : ((name : Name) → node_of v name ≡ node_of w name) → NodeStep w v new
  change : (name : Name) (i : ℕ) (node made : Node) → node_of w name ≡ Some node → node_of v name ≡ Some made →
      ((other : Name) → other ≢ name → node_of v other ≡ node_of w other) → ChangesAt i node made → NodeStep w v new
  birth : (made : Node) → node_of w new ≡ None → node_of v new ≡ Some made → ((other : Name) → other ≢ new → node_of v other ≡ node_of w other) →
      NodeStep w v new

-- a command changes no node, or one field of one node, or makes one node, which has its mutator's next name
abbrev pub StepIsOne : Type 0
StepIsOne = (w : World) (m : ℕ) (c : Command) → IsWorld w → CanApply w m c → NodeStep w (step w m c).0 (next_name (state_of w m) m)

-- a command's change of a tracked object's field fulfils `ChangesField`, if its new word is as the node specifies
abbrev pub StepChangesField : Type 0
StepChangesField = (w : World) (m : ℕ) (c : Command) (earlier : List World) (places : List Place) (p : Place) (i word : ℕ) (node made : Node) →
    IsWorld w → AreEarlier earlier w → CanApply w m c → Contains places p → IsTracked w earlier p.name → node_of w p.name ≡ Some node →
    node_of (step w m c).0 p.name ≡ Some made → ((other : Name) → other ≢ p.name → node_of (step w m c).0 other ≡ node_of w other) →
    ChangesAt i node made → ((slot : Slot) → slice_get (slots_of made) i ≡ Some slot → Fills (Contains places) word slot) →
    ChangesField earlier places w (step w m c).0 p i word node made

-- every tracked name is a name of the world
abbrev pub TrackedAreKnown : Type 0
TrackedAreKnown = (w : World) (earlier : List World) → IsWorld w → AreEarlier earlier w → (name : Name) → IsTracked w earlier name → IsSome (node_of w name)

-- after a command a name is tracked only if it was tracked before, or is the mutator's next name
abbrev pub StepTracks : Type 0
StepTracks = (w : World) (m : ℕ) (c : Command) (earlier : List World) → IsWorld w → CanApply w m c → (name : Name) →
    IsTracked (step w m c).0 earlier name → IsTracked w earlier name ⊎ (name ≡ next_name (state_of w m) m)

-- a command that makes no object adds no tracked name
abbrev pub StepTracksNoMore : Type 0
StepTracksNoMore = (w : World) (m : ℕ) (c : Command) (earlier : List World) → IsWorld w → AreEarlier earlier w → CanApply w m c →
    ((name : Name) → IsSome (node_of (step w m c).0 name) → IsSome (node_of w name)) → (name : Name) → IsTracked (step w m c).0 earlier name →
    IsTracked w earlier name

-- after a closing no further name is tracked
abbrev pub ClosingTracks : Type 0
ClosingTracks = (w : World) (weaks : List Name) (earlier : List World) → IsWorld w → (name : Name) → IsTracked (closed w weaks) earlier name →
    IsTracked w earlier name

-- a command that changes no node leaves the heap as it is
abbrev pub StepLeavesHeap : Type 0
StepLeavesHeap = (w : World) (m : ℕ) (c : Command) (earlier : List World) (places : List Place) → IsWorld w → AreEarlier earlier w →
    CanApply w m c → ((name : Name) → node_of (step w m c).0 name ≡ node_of w name) → IsSameHeap earlier places w (step w m c).0

-- a world is an earlier world of itself, and an earlier world stays an earlier world after a command and after a closing
abbrev pub WorldIsEarlier : Type 0
WorldIsEarlier = (w : World) → IsWorld w → IsEarlier w w

abbrev pub StepKeepsEarlier : Type 0
StepKeepsEarlier = (e w : World) (m : ℕ) (c : Command) → IsWorld w → CanApply w m c → IsEarlier e w → IsEarlier e (step w m c).0

abbrev pub ClosingKeepsEarlier : Type 0
ClosingKeepsEarlier = (e w : World) (weaks : List Name) → IsWorld w → IsEarlier e w → IsEarlier e (closed w weaks)

-- the nodes known to K, whose names the world has, keep their headers after a command and after a closing
abbrev pub StepKeepsHeaders : (Name → Node → Type 0) → Type 0
StepKeepsHeaders K = (w : World) (m : ℕ) (c : Command) → IsWorld w → CanApply w m c →
    ((name : Name) (node : Node) → K name node → IsSome (node_of w name)) → HaveHeaders K w → HaveHeaders K (step w m c).0

abbrev pub ClosingKeepsHeaders : (Name → Node → Type 0) → Type 0
ClosingKeepsHeaders K = (w : World) (weaks : List Name) → IsWorld w → ((name : Name) (node : Node) → K name node → IsSome (node_of w name)) →
    HaveHeaders K w → HaveHeaders K (closed w weaks)
