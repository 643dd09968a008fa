-- The names that a command must at least remember. They depend on the snapshot, the world and the command, not on marks.
use Rattle.std.specs.Prelude.{◌≢◌, ◌⊎◌, ℕ, IsSome, Contains}
use Rattle.nmgc_world_spec.specs.{declared.value.Name.Name, declared.node.Parts.Parts, declared.command.Command.Command, World.World, World.node_of, World.shared_name, World.step, Reach.IsAlive, Reach.IsKeptBy, Reach.opened_by, Reach.finalised_by}
use Rattle.nmgc_world_spec.specs.declared.value.Value.TheVariants as value
use Rattle.nmgc_world_laws.specs.Holds.{HasStrongField}

-- a field of the snapshot that was unchanged in the world before a command and is gone in the world after it
pub record IsBroken (snapshot before after : World) (target : Name) : Type 0 where
  pub name : Name
  pub place : ℕ
  pub then : HasStrongField snapshot name place (value.Ref target)
  pub stood : HasStrongField before name place (value.Ref target)
  pub gone : HasStrongField after name place (value.Ref target) → ⊥

-- the command finalises a weak pointer that was alive in the snapshot and kept this target there
pub record IsEnded (snapshot w : World) (m : ℕ) (c : Command) (target : Name) : Type 0 where
  pub weak : Name
  pub parts : Parts
  pub ended : Contains (finalised_by w m c) weak
  pub alive : IsAlive snapshot weak parts
  pub kept : IsKeptBy weak parts target

-- a name that the command has to remember: a name of the snapshot, not g, for one of three reasons. The command removes a
-- strong field of the snapshot that was still unchanged and refers to the name. It reads the name out of a weak pointer. Or
-- it finalises a weak pointer that was alive at the snapshot: the name is the weak pointer, or its value or finaliser there
pub record IsDue (snapshot w : World) (m : ℕ) (c : Command) (target : Name) : Type 0 where
  pub there : IsSome (node_of snapshot target)
  pub own : target ≢ shared_name
  pub why : IsBroken snapshot w (step w m c).0 target ⊎ (Contains (opened_by w m c) target ⊎ IsEnded snapshot w m c target)
