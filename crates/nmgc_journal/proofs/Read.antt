-- The word at a position of a list is the word that is read there.
use Rattle.nmgc_journal.proofs.Vocabulary.{◌≡◌, ℕ, zero, suc, List, [], ◌∷◌, sym, slice_index, some, some-injective, some-ne-none, get_elem?}

pub read_at : (words : List ℕ) (at word : ℕ) → get_elem? words at ≡ some word → word ≡ slice_index words at
read_at [] at word e = absurd (some-ne-none word (sym e))
read_at (w ∷ words) zero word e = sym (some-injective w word e)
read_at (w ∷ words) (suc at) word e = read_at words at word e
