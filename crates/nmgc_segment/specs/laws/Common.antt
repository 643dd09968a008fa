-- Lemmas that crates above also need.
use Rattle.std.proofs.Common.{Bool, true, false, arith, ℕ, ◌%◌}
use Rattle.std.specs.Prelude.{if◌then◌else◌, ◌==◌}
use Rattle.nmgc_segment.specs.Marks.{IsEpoch, epoch_of}

pub epoch_by : (even : Bool) → IsEpoch (if even then 2 else 1)
epoch_by true = (omega arith, omega arith)
epoch_by false = (omega arith, omega arith)

pub epoch_sound : (number : ℕ) → IsEpoch (epoch_of number)
epoch_sound number = epoch_by ((number % 2) == 0)
