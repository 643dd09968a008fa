-- The lists that a round leaves for its stop: the fields of older objects that it wrote, and its weak pointers.
use Rattle.std.specs.Prelude.{ℕ, ◌≡◌, ◌≢◌, ◌+◌, ◌<◌, ◌≤◌, List, slice_get, Contains, Option, Some}
use Rattle.nmgc_world_spec.specs.{declared.value.Name.Name, declared.value.Value.TheVariants.Ref, declared.node.Node.Node, declared.node.Node.TheVariants.Weak, declared.node.Parts.Parts, World.World, World.node_of, Reach.IsAlive}
use Rattle.nmgc_limits.specs.declared.mutators.TheConstants.{SHARED_MAKER}
use Rattle.nmgc_object.specs.declared.size.TheConstants.{HEADER_WORDS}
use Rattle.nmgc_heap_spec.specs.{Objects.Slot, Objects.holds, Objects.unspecified, Objects.slots_of, Objects.Place, Tracked.IsTracked}

-- the lists of a round: the recorded fields and the weak pointers. Recorded are addresses of specified fields of tracked
-- objects outside the nurseries. They include each field that refers to a nursery object and isn't a slot of g. The weak
-- pointers lie in nurseries, alive or not, and include all nursery weak pointers that are alive
pub record Remembers (base : ℕ) (earlier : List World) (places : List Place) (w : World) (recorded weaks : List ℕ) : Type 0 where
  pub fields : (at : ℕ) → Contains recorded at → (p : Place) × (node : Node) × (i : ℕ) × (slot : Slot) × Contains places p ×
      IsTracked w earlier p.name × (node_of w p.name ≡ Some node) × (slice_get (slots_of node) i ≡ Some slot) × (slot ≢ unspecified) ×
      (at ≡ p.at + HEADER_WORDS + i) × (p.at < base)
  pub all_fields : (p q : Place) (node : Node) (i : ℕ) → Contains places p → p.at < base → p.name.maker ≢ SHARED_MAKER →
      IsTracked w earlier p.name → node_of w p.name ≡ Some node → slice_get (slots_of node) i ≡ Some (holds (Ref q.name)) → Contains places q →
      base ≤ q.at → Contains recorded (p.at + HEADER_WORDS + i)
  pub weak_places : (at : ℕ) → Contains weaks at → (name : Name) × (parts : Option Parts) × Contains places (record { at = at; name = name }) ×
      (base ≤ at) × (node_of w name ≡ Some (Weak parts))
  pub all_weaks : (p : Place) (parts : Parts) → Contains places p → base ≤ p.at → IsAlive w p.name parts → Contains weaks p.at
