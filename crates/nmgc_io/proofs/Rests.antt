-- The first line of a text, and the rest of a line after a token.
use Rattle.nmgc_io.proofs.Vocabulary.{◌≡◌, ℕ, List, [], ◌∷◌, ◌++◌, ◌+◌, length, take, drop, sym, ap, ◌∙◌, arith, append_assoc, length-append, drop-drop, refl}
use Rattle.std.proofs.lemmas.List.{drop-take, take_at, drop_at, length_push}

-- a first part is the front of the bytes
pub front_of : (s : ℕ) (bytes front back : List ℕ) → bytes ≡ front ++ s ∷ back → front ≡ take (length front) bytes
front_of s bytes front back e = sym (ap (λ (l : List ℕ). take (length front) l) e ∙ take_at front (s ∷ back) (length front) refl)

-- the rest after a token lies in the text, at the end of the token's space
pub rest_on : (s : ℕ) (text rest token after : List ℕ) (from : ℕ) → rest ≡ take (length rest) (drop from text) → rest ≡ token ++ s ∷ after →
    after ≡ take (length after) (drop (from + (length token + 1)) text)
rest_on s text rest token after from is e =
    let n : ℕ = length token + 1 in
    let long : length rest ≡ n + length after = ap (λ (l : List ℕ). length l) e ∙ length-append token (s ∷ after) ∙ omega arith in
    let behind : drop n rest ≡ after = cc (e, append_assoc token (s ∷ []) after, drop_at (token ++ s ∷ []) after n (length_push token s)) in
    cc (behind, is, long, drop-take n (length after) (drop from text), drop-drop n from text)

-- and the rest is shorter by the token and its space
pub rest_less : (s : ℕ) (rest token after : List ℕ) → rest ≡ token ++ s ∷ after → length token + 1 + length after ≡ length rest
rest_less s rest token after e = sym (ap (λ (l : List ℕ). length l) e ∙ length-append token (s ∷ after) ∙ omega arith)
