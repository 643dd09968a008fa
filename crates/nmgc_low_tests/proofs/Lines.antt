-- The state of an inbox after a change of one receiver.
use Rattle.std.proofs.Common.{◌≡◌, ℕ, List, length, ap, ◌∙◌, length-set}
use Rattle.nmgc_updrem.specs.Rings.{Receiver, AtLine}

-- the number of receivers stays
pub same_count : (C : Receiver → Receiver → Type 0) (k : ℕ) (old new : List Receiver) → AtLine C k old new → length new ≡ length old
same_count C k old new h = ap (λ (l : List Receiver). length l) h.rest ∙ length-set old k h.is
