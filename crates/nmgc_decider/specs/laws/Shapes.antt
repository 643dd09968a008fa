-- The commands of a view, on a register that holds such a constructor.
use Rattle.std.proofs.Common.{ℕ, ◌<◌, arith, refl}
use Rattle.std.proofs.lemmas.Option.{slice_get-get_or}
use Rattle.std.specs.Prelude.{slice_index_or}
use Rattle.nmgc_world_spec.specs.World.{World, step}
use Rattle.nmgc_world_spec.specs.declared.command.Command.TheVariants as command
use Rattle.nmgc_world_spec.specs.declared.command.Operand.TheVariants.{Register}
use Rattle.nmgc_world_spec.specs.declared.value.Value.TheVariants as value
use Rattle.nmgc_decider.specs.Shapes.{IsGiven, IsShaped}

-- a field of the shape is given
pub field_given : (tag fields : ℕ) (w : World) (m dest register field : ℕ) → IsShaped tag fields w m register → field < fields →
    IsGiven (step w m (command.Get dest (Register register) field)).1
field_given tag fields w m dest register field s lt =
    let count = s.counted in
    (slice_index_or s.values field value.Nil, rw (s.found, slice_get-get_or s.values field value.Nil (omega (arith, lt, count))) refl)
