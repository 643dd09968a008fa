-- A program's waiting command fits, and a command is left.
use Rattle.std.proofs.Common.{ℕ, ◌≡◌, ◌<◌, Option, None, Some, subst}
use Rattle.nmgc_world_spec.specs.{declared.command.Command.Command, World.Fits}
use Rattle.nmgc_decider.specs.Waiting.{IsWaiting}

-- the next command of a valid program fits, and the program may give it
pub waiting_fits : (words left : ℕ) (o : Option Command) (c : Command) → IsWaiting words left o → o ≡ Some c → Fits words c × (0 < left)
waiting_fits words left o c w e = subst (IsWaiting words left) e w
