-- Closing a world with its weak pointers one at a time.
use Rattle.std.specs.Prelude.{◌≡◌, ℕ, List, take, Option, Some}
use Rattle.nmgc_world_spec.specs.{declared.value.Value.Value, declared.value.Value.TheVariants.Nil, declared.node.Node.Node, declared.node.Node.TheVariants.Weak, declared.value.Name.Name, World.World, Reach.closed}

-- a world that was closed with only the first `count` of the weak pointers
abbrev pub IsPartlyClosed : World → List Name → World → Type 0
IsPartlyClosed old weaks new = (count : ℕ) × (new ≡ closed old (take count weaks))

-- the finaliser of a weak pointer that is alive; nil for any other node
abbrev pub finaliser_of : Option Node → Value
finaliser_of (Some (Weak (Some parts))) = parts.finaliser
finaliser_of _ = Nil
