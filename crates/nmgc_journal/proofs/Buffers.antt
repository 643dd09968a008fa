-- The bytes of a buffer that is written from its end backwards.
use Rattle.nmgc_journal.proofs.Vocabulary.{◌≡◌, ◌+◌, ◌-◌, ◌<◌, ◌≤◌, ◌∙◌, ℕ, List, [], ◌∷◌, ◌++◌, length, drop, sym, ap, arith, append_assoc, drop-set, set}

-- a byte was stored before a position
pub stored : (line : List ℕ) (end byte : ℕ) → 0 < end → end ≤ length line → drop (end - 1) (set line (end - 1) byte) ≡ byte ∷ drop end line
stored line end byte some inside =
    let next : (end - 1) + 1 ≡ end = omega arith in
    drop-set line (end - 1) byte (omega arith) ∙ ap (λ (k : ℕ). byte ∷ drop k line) next

-- a number and a byte were written before a position
pub written : (line text : List ℕ) (from end byte : ℕ) (after : List ℕ) → 0 < end → end ≤ length line →
    drop from after ≡ text ++ drop (end - 1) (set line (end - 1) byte) → drop from after ≡ text ++ byte ∷ drop end line
written line text from end byte after some inside is = is ∙ ap (λ (l : List ℕ). text ++ l) (stored line end byte some inside)

-- two numbers, one after the other, with nothing behind the second
pub two_written : (mutator number rest first second : List ℕ) (at from : ℕ) → drop at first ≡ number ++ 10 ∷ rest →
    drop from second ≡ mutator ++ 32 ∷ drop at first → rest ≡ [] → drop from second ≡ mutator ++ 32 ∷ number ++ 10 ∷ []
two_written mutator number rest first second at from one two nothing =
    two ∙ ap (λ (l : List ℕ). mutator ++ 32 ∷ l) (one ∙ ap (λ (l : List ℕ). number ++ 10 ∷ l) nothing) ∙
    sym (append_assoc mutator (32 ∷ number) (10 ∷ []))

-- and three numbers
pub three_written : (mutator maker serial rest first second third : List ℕ) (low at from : ℕ) → drop low first ≡ serial ++ 10 ∷ rest →
    drop at second ≡ maker ++ 46 ∷ drop low first → drop from third ≡ mutator ++ 32 ∷ drop at second → rest ≡ [] →
    drop from third ≡ mutator ++ 32 ∷ (maker ++ 46 ∷ serial) ++ 10 ∷ []
three_written mutator maker serial rest first second third low at from one two three nothing =
    let serials : drop low first ≡ serial ++ 10 ∷ [] = one ∙ ap (λ (l : List ℕ). serial ++ 10 ∷ l) nothing in
    let names : drop at second ≡ (maker ++ 46 ∷ serial) ++ 10 ∷ [] =
    two ∙ ap (λ (l : List ℕ). maker ++ 46 ∷ l) serials ∙ sym (append_assoc maker (46 ∷ serial) (10 ∷ [])) in
    three ∙ ap (λ (l : List ℕ). mutator ++ 32 ∷ l) names ∙ sym (append_assoc mutator (32 ∷ (maker ++ 46 ∷ serial)) (10 ∷ []))
