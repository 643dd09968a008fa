-- The names that a world holds, and the parts of an object that stay.
--
-- A mutator gets a name only by a read of a field that has it, or by making it. So a set that covers all names that mutators
-- can reach (`CoversReach`) still covers them after each command that makes no name outside the set.
use Rattle.std.specs.Prelude.{◌≡◌, ℕ, List, Option, Some, None, Bool, true, false, IfSome, All}
use Rattle.nmgc_world_spec.specs.{declared.value.Name.Name, declared.value.Value.Value, declared.node.Parts.Parts, declared.node.Node.Node, declared.node.Node.TheVariants.Thunk, World.World, World.state_of, World.node_of, Reach.strong_fields}
pub use Rattle.nmgc_world_spec.specs.Reach.{HasStrongField, strong_at}
use Rattle.nmgc_world_spec.specs.declared.value.Value.TheVariants as value

-- a value that is plain, or refers to a name of the set
abbrev pub Names : (Name → Type 0) → Value → Type 0
Names P value.Nil = Unit {0}
Names P (value.Number n) = Unit {0}
Names P (value.Ref name) = P name

-- each value in a node's strong fields has the property
abbrev pub Fields : (Value → Type 0) → Node → Type 0
Fields Q node = All Q (strong_fields node)

-- a set with all names that mutators hold, and all in strong fields of its names; unreferenced weak pointers may be missing
pub record CoversReach (P : Name → Type 0) (w : World) : Type 0 where
  pub registers : (k : ℕ) → All (Names P) (state_of w k).registers
  pub queues : (k : ℕ) → All (Names P) (state_of w k).queue
  pub fields : (name : Name) → P name → IfSome (node_of w name) (Fields (Names P))

-- each of the three parts of a weak pointer is plain, or refers to a name of the set
abbrev pub OfParts : (Name → Type 0) → Parts → Type 0
OfParts P parts = Names P parts.key × Names P parts.value × Names P parts.finaliser

-- whether the node is a thunk with a result
abbrev pub has_result : Node → Bool
has_result (Thunk free (Some result)) = true
has_result _ = false

-- the free variables of a thunk; none for other nodes
abbrev pub free_of : Node → Option (List Value)
free_of (Thunk free result) = Some free
free_of _ = None

-- `made` is a later state of the object: a thunk keeps its free variables, and its result once it has one
pub record IsLater (node made : Node) : Type 0 where
  pub free : free_of made ≡ free_of node
  pub result : has_result node ≡ true → has_result made ≡ true

-- the name still has a node, which is a later state of the same object
pub record StillThere (v : World) (name : Name) (before : Node) : Type 0 where
  pub node : Node
  pub node_is : node_of v name ≡ Some node
  pub later : IsLater before node
