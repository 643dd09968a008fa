-- The segments that wait to be swept in a cycle.
use Rattle.std.specs.Prelude.{ℕ, ◌≡◌}
use Rattle.nmgc_segment.specs.declared.state.State.TheVariants as stands
use Rattle.nmgc_alloc.specs.AllocState.{AllocState, IsIn, cells}
use Rattle.nmgc_stop_spec.specs.Cycle.{IsSweptIn, Cycle}

-- each segment that waits to be swept was filled when the cycle began, and has the names that it had then
abbrev pub AreAsNoted : Cycle → AllocState → Type 0
AreAsNoted c allocation = (number : ℕ) → IsIn stands.Sweeping (cells allocation number) → IsSweptIn c number ×
    ((cells allocation number).names ≡ (cells c.heap number).names)
