-- The lines of a text that are kept.
use Rattle.nmgc_script.proofs.Vocabulary.{◌≡◌, ℕ, List, [], ◌∷◌, ◌+◌, true, false, length, refl, arith, lines_of, is_blank_or_comment, kept_from}

module _ (n : ℕ) (bytes line rest : List ℕ) (split : lines_of bytes ≡ line ∷ lines_of rest) where
  -- a line that is passed over is counted
  pub passed : is_blank_or_comment line ≡ true → kept_from (n + 1) (lines_of rest) ≡ kept_from n (lines_of bytes)
  unfolding kept_from
  passed h = rw (split, h) refl

  -- a line that is kept has its number
  pub kept : is_blank_or_comment line ≡ false → kept_from n (lines_of bytes) ≡ (n, line) ∷ kept_from (n + 1) (lines_of rest)
  unfolding kept_from
  kept h = rw (split, h) refl

  pub counted : (n + 1) + length (lines_of rest) ≡ n + length (lines_of bytes)
  counted = rw split (omega arith)

-- an empty text has no kept lines
pub kept_none : (n : ℕ) (bytes : List ℕ) → lines_of bytes ≡ [] → kept_from n (lines_of bytes) ≡ []
unfolding kept_from
kept_none n bytes none = rw none refl
