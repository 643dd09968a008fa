use Rattle.nmgc_alloc.proofs.Vocabulary.{ℕ, ◌<◌, ◌≤◌, Is, nth}
use Rattle.nmgc_alloc.proofs.search.first_of_kind.Given as goal

-- no segment so far is of the kind
abbrev pub invariant-loop-number : goal.invariant-loop-number
invariant-loop-number l = (i : ℕ) → l.from ≤ i → i < l.number → Is l.category (nth l.segments i) → ⊥
