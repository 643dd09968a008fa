-- Mark bytes between two cycles: see Note [Why two epochs are enough] in `nmgc_segment`'s `marks.rt`.
use Rattle.std.specs.Prelude.{ℕ, ◌≡◌, ◌⊎◌, ◌<◌, ◌≢◌}
use Rattle.nmgc_segment.specs.{Marks.epoch_of, Segment.mark_of}
use Rattle.nmgc_segment.specs.declared.state.State.TheVariants as stands
use Rattle.nmgc_alloc.specs.AllocState.{nth, Segments, HasNumber}

-- a mark byte that is 0 or the epoch of the last cycle begun; before the first cycle it is 0
abbrev pub IsSettledByte : ℕ → ℕ → Type 0
IsSettledByte begun byte = (byte ≡ 0) ⊎ ((0 < begun) × (byte ≡ epoch_of begun))

-- marks between cycles: a mark byte is 0 or the epoch of the last cycle begun, in each segment that doesn't wait to be swept.
-- So no byte is the epoch of the next cycle
abbrev pub AreSettled : ℕ → Segments → Type 0
AreSettled begun segments = (number block : ℕ) → HasNumber segments number → (nth segments.segments number).state ≢ stands.Sweeping →
    IsSettledByte begun (mark_of (nth segments.segments number) block)
