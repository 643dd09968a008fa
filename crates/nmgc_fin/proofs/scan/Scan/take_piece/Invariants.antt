use Rattle.nmgc_fin.proofs.Vocabulary.{◌≡◌, ◌++◌, ℕ, List, length, HasScanned}
use Rattle.nmgc_fin.proofs.scan.Scan.take_piece.Given as goal

-- the bytes of the piece that were passed, and the rest; the bytes passed were taken
abbrev pub invariant-loop-part : goal.invariant-loop-part
invariant-loop-part l =
    (seen : List ℕ) × (seen ++ l.rest ≡ l.piece) × ((bytes : List ℕ) → HasScanned l.initial.self bytes → HasScanned l.self (bytes ++ seen))

abbrev pub decreases-loop-part : goal.decreases-loop-part
decreases-loop-part l = length l.rest
