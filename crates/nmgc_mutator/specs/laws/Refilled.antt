-- Words that replace other words, the same number.
use Rattle.std.specs.Prelude.{◌≡◌, ◌++◌}
use Rattle.nmgc_mutator.specs.laws.Vocabulary.{ℕ, List, length, take, drop, ap, sym, ◌∙◌, take-append_seam, refill}

-- no old word is left
pub refill_all : (old words : List ℕ) → length words ≡ length old → refill (length old) old words ≡ words
refill_all old words e = ap (λ (n : ℕ). take n (words ++ drop (length words) old)) (sym e) ∙ take-append_seam words (drop (length words) old)
