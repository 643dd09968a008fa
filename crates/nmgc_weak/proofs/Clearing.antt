-- Value words that become 0 in order.
use Rattle.nmgc_weak.proofs.Vocabulary.{◌≡◌, ◌+◌, ◌<◌, ℕ, zero, suc, List, [], ◌∷◌, ◌++◌, length, take, get_or, set, refl, ap, ◌∙◌, arith, length-set, slice_index, OldWeak, Death, value_place, finaliser_place, without_values, deaths_of}

pub cleared_length : (words : List ℕ) (dying : List OldWeak) → length (without_values words dying) ≡ length words
cleared_length words [] = refl
cleared_length words (w ∷ ws) = cleared_length (set words (value_place w.at.0) 0) ws ∙ length-set words (value_place w.at.0) 0

pub cleared_more : (words : List ℕ) (dying : List OldWeak) (i : ℕ) (d : OldWeak) → i < length dying →
    without_values words (take (i + 1) dying) ≡ set (without_values words (take i dying)) (value_place (get_or dying i d).at.0) 0
cleared_more words [] i d lt = absurd (omega arith)
cleared_more words (x ∷ xs) zero d lt = refl
cleared_more words (x ∷ xs) (suc i) d lt =
    let z : suc i + 1 ≡ suc (i + 1) = omega arith in
    ap (λ n. without_values words (take n (x ∷ xs))) z ∙ cleared_more (set words (value_place x.at.0) 0) xs i d (omega arith)

-- the death of a weak pointer
abbrev pub death_of : List ℕ → OldWeak → Death
death_of words weak = record { weak = weak.weak; finaliser = slice_index words (finaliser_place weak.at.0) }

pub deaths_more : (words : List ℕ) (dying : List OldWeak) (i : ℕ) (d : OldWeak) → i < length dying →
    deaths_of words (take (i + 1) dying) ≡ deaths_of words (take i dying) ++ death_of words (get_or dying i d) ∷ []
deaths_more words [] i d lt = absurd (omega arith)
deaths_more words (x ∷ xs) zero d lt = refl
deaths_more words (x ∷ xs) (suc i) d lt =
    let z : suc i + 1 ≡ suc (i + 1) = omega arith in
    ap (λ n. deaths_of words (take n (x ∷ xs))) z ∙ ap (λ (l : List Death). death_of words x ∷ l) (deaths_more words xs i d (omega arith))
