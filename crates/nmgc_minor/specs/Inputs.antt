-- The search's inputs beside the words, and their relation to the world.
use Rattle.std.specs.Prelude.{ℕ, ◌*◌, List, Contains}
use Rattle.nmgc_world_spec.specs.{declared.value.Name.Name, declared.value.Value.Value, declared.value.Value.TheVariants.Ref, World.World, World.state_of}
use Rattle.nmgc_heap_spec.specs.Objects.{Place, Means}
use Rattle.nmgc_stop_spec.specs.Remembers.{Remembers}

-- the search's inputs: the contents of the mutators' registers and queues, and the addresses of the fields recorded and the
-- weak pointers made in the last round
pub record Inputs : Type 0 where
  pub registers : List ℕ
  pub queues : List (List ℕ)
  pub recorded : List ℕ
  pub weaks : List ℕ

-- the search's inputs fit a world: registers and queues hold its values in any order, and both lists are from one round
pub record HasInputs (base : ℕ) (earlier : List World) (places : List Place) (w : World) (inputs : Inputs) : Type 0 where
  pub held : (word : ℕ) → Contains inputs.registers word → (m : ℕ) × (v : Value) × Contains (state_of w m).registers v × Means (Contains places) word v
  pub holds_all : (m : ℕ) (n : Name) → Contains (state_of w m).registers (Ref n) → (at : ℕ) × Contains inputs.registers (2 * at) ×
      Contains places (record { at = at; name = n })
  pub waiting : (queue : List ℕ) (word : ℕ) → Contains inputs.queues queue → Contains queue word → (m : ℕ) × (v : Value) ×
      Contains (state_of w m).queue v × Means (Contains places) word v
  pub waits_all : (m : ℕ) (n : Name) → Contains (state_of w m).queue (Ref n) → (at : ℕ) × (queue : List ℕ) × Contains inputs.queues queue ×
      Contains queue (2 * at) × Contains places (record { at = at; name = n })
  pub left : Remembers base earlier places w inputs.recorded inputs.weaks
