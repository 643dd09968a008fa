-- Tokens of a line, each behind a space.
use Rattle.std.specs.Prelude.{ℕ, List, [], ◌∷◌, ◌++◌}

-- tokens, each behind a space
abbrev pub after_spaces : List (List ℕ) → List ℕ
after_spaces [] = []
after_spaces (token ∷ tokens) = 32 ∷ (token ++ after_spaces tokens)
