-- The limits that a script sets on worlds: numbers fit a field's word, objects fit a segment, and headers can be written.
use Rattle.std.specs.Prelude.{◌≢◌, ◌<◌, ◌≤◌, ◌^◌, ℕ, List, IfSome, All}
use Rattle.nmgc_world_spec.specs.{declared.value.Name.Name, declared.value.Value.Value, declared.node.Kind.Kind, declared.node.Node.Node, declared.command.Command.Command, World.Fits, World.World, World.state_of, World.node_of, World.new_world, World.held_by, World.shared_name, World.step, Known.IsWorld, Known.CanApply, Reach.Row, Reach.replayed, Reach.closed}
use Rattle.nmgc_world_spec.specs.declared.value.Value.TheVariants as value
use Rattle.nmgc_world_spec.specs.declared.node.Kind.TheVariants as kind
use Rattle.nmgc_world_laws.specs.{Reachable.CanReplay, Shape.kind_of, Shape.tag_of, Shape.part_count, Shape.words_of}

-- a number is below 2^62
abbrev pub IsSmall : Value → Type 0
IsSmall (value.Number n) = n < 2 ^ 62
IsSmall _ = Unit {0}

-- an object of this kind may have this tag and this number of fields: a thunk at most eight free variables beside its result
abbrev pub HasLimits : Kind → ℕ → ℕ → Type 0
HasLimits kind.Con tag parts = tag < 256
HasLimits kind.Arr tag parts = parts < 65536
HasLimits kind.Thunk tag parts = parts ≤ 9
HasLimits kind.Stack tag parts = parts < 65536
HasLimits _ tag parts = Unit {0}

-- the limits of a script's object: its values, its shape and its size; g may be larger, since it is in no segment
pub record IsNodeWithin (words : ℕ) (name : Name) (node : Node) : Type 0 where
  pub held : All IsSmall (held_by node)
  pub shape : HasLimits (kind_of node) (tag_of node) (part_count node)
  pub size : name ≢ shared_name → words_of node ≤ words

-- a world within the limits for segments of `words` words. Numbers are below 2^62, tags below 256, arrays and stacks have
-- fewer than 65,536 fields, thunks at most eight free variables. Each object except g fits a segment
pub record IsWithin (words : ℕ) (w : World) : Type 0 where
  pub registers : (m : ℕ) → All IsSmall (state_of w m).registers
  pub queues : (m : ℕ) → All IsSmall (state_of w m).queue
  pub nodes : (name : Name) → IfSome (node_of w name) (IsNodeWithin words name)

-- a new world is within the limits
abbrev pub NewIsWithin : Type 0
NewIsWithin = (words mutators : ℕ) → IsWithin words (new_world mutators)

-- commands that fit keep a world within the limits
abbrev pub StepKeepsLimits : Type 0
StepKeepsLimits = (words : ℕ) (w : World) (m : ℕ) (c : Command) → IsWorld w → CanApply w m c → Fits words c → IsWithin words w → IsWithin words (step w m c).0

abbrev pub RowsKeepLimits : Type 0
RowsKeepLimits = (words : ℕ) (w : World) (rows : List Row) → IsWorld w → CanReplay w rows → All (λ (row : Row). Fits words row.command) rows →
    IsWithin words w → IsWithin words (replayed w rows)

-- a closing keeps a world within the limits
abbrev pub ClosingKeepsLimits : Type 0
ClosingKeepsLimits = (words : ℕ) (w : World) (weaks : List Name) → IsWorld w → IsWithin words w → IsWithin words (closed w weaks)
