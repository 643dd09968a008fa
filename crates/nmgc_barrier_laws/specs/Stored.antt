-- The names that a command stores outside of registers. They depend on the worlds before and after the command alone.
use Rattle.std.specs.Prelude.{ℕ, Some, Contains}
use Rattle.nmgc_world_spec.specs.{declared.value.Name.Name, declared.node.Parts.Parts, World.World, World.state_of, World.parts_held, Reach.IsAlive}
use Rattle.nmgc_world_spec.specs.declared.value.Value.TheVariants as value
use Rattle.nmgc_world_laws.specs.Holds.{HasStrongField}

-- a target that is stored between two worlds. A strong field, a part of a new weak pointer or an entry of a finaliser queue
-- refers to it afterwards, and didn't before
pub data IsStored (before after : World) (target : Name) : Type 0 where
  field : (name : Name) (place : ℕ) → HasStrongField after name place (value.Ref target) → (HasStrongField before name place (value.Ref target) → ⊥) →
      IsStored before after target
  part : (weak : Name) (parts : Parts) → IsAlive after weak parts → (IsAlive before weak parts → ⊥) → Contains (parts_held (Some parts)) (value.Ref target) →
      IsStored before after target
  queue : (k : ℕ) → Contains (state_of after k).queue (value.Ref target) → (Contains (state_of before k).queue (value.Ref target) → ⊥) →
      IsStored before after target
