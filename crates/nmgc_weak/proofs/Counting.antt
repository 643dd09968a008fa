-- The count of marks, step after step.
use Rattle.nmgc_weak.proofs.Vocabulary.{◌+◌, ℕ, Segments, MarkerSeen, HasMarked, marked_then}

-- the count of two steps together
pub marked_sum : (s t u : Segments) (a b c : MarkerSeen) → (i : ℕ) × HasMarked s t a b i → (j : ℕ) × HasMarked t u b c j → (k : ℕ) × HasMarked s u a c k
marked_sum s t u a b c x y = (x.0 + y.0, marked_then s t u a b c x.0 y.0 x.1 y.1)
