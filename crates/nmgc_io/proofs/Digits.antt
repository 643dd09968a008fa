-- The value of a text of digits, read from its front.
use Rattle.nmgc_io.proofs.Vocabulary.{rules, ◌≡◌, ◌≢◌, ◌≤◌, ◌<◌, ◌∙◌, ℕ, zero, suc, ◌+◌, ◌-◌, ◌*◌, ◌^◌, List, [], ◌∷◌, Option, Some, None, true, arith, decimal, get_or, drop, length, ap, sym, refl, drop-cons, IfSome, IfNone, IsInRange, all_ascii_digits, drop_all, IsDigitsTest, IsNumeralModel, numerals_by_fold, digits_decimal, digits_value-decimal, decimal-digits_value, decimal_digit, decimal_nonempty, first_decimal}

-- the value of the digits, read after digits with the value n
abbrev pub value_after : ℕ → List ℕ → ℕ
value_after n [] = n
value_after n (c ∷ cs) = value_after (10 * n + (c - 48)) cs

digits_test : IsDigitsTest (λ ds. all_ascii_digits ds ≡ true)
digits_test = search rules

pub numerals : IsNumeralModel (λ ds. all_ascii_digits ds ≡ true) (value_after 0)
numerals = numerals_by_fold _ digits_test value_after (search rules)

-- more digits never make the value less
value_after-le : (n : ℕ) (cs : List ℕ) → n ≤ value_after n cs
value_after-le n [] = omega arith
value_after-le n (c ∷ cs) = omega (arith, value_after-le (10 * n + (c - 48)) cs)

-- how a number's text begins
pub begins : (n : ℕ) (word : List ℕ) → n < 2 ^ 64 → word ≡ decimal n → (0 < length word) × (get_or word 0 0 ≡ 48 → length word ≡ 1)
begins zero word small e =
    let one : length word ≡ 1 = ap length (e ∙ decimal_digit 0 (omega arith)) in
    (omega arith, λ _. one)
begins (suc n) word small e =
    let some : 0 < length word = omega (arith, decimal_nonempty (suc n) small, ap length e) in
    (some, λ is_zero. absurd (omega (arith, first_decimal (suc n) (omega arith) small, ap (λ (ds : List ℕ). get_or ds 0 0) e)))

-- the next byte is a digit that makes the value too large, or is no digit
exceeds : (number limit c : ℕ) (cs : List ℕ) → all_ascii_digits (c ∷ cs) ≡ true → (IsInRange 48 57 c → limit < 10 * number + (c - 48)) →
    limit < value_after number (c ∷ cs)
exceeds number limit c cs digits none =
    let large = none (digits_test.parts c cs digits).0 in
    omega (arith, large, value_after-le (10 * number + (c - 48)) cs)

-- a token that can't be read on at a position is no number's text
pub stops : (number limit n i : ℕ) (word : List ℕ) → n < 2 ^ 64 → i < length word → value_after 0 word ≡ value_after number (drop i word) →
    all_ascii_digits word ≡ all_ascii_digits (drop i word) → (IsInRange 48 57 (get_or word i 0) → limit < 10 * number + (get_or word i 0 - 48)) →
    n ≤ limit → word ≡ decimal n → ⊥
stops number limit n i word small within value digits none le e =
    let here : drop i word ≡ get_or word i 0 ∷ drop (suc i) word = drop-cons word i 0 within in
    let all : all_ascii_digits word ≡ true = ap all_ascii_digits e ∙ digits_decimal numerals n small in
    let rest : all_ascii_digits (get_or word i 0 ∷ drop (suc i) word) ≡ true = sym (ap all_ascii_digits here) ∙ sym digits ∙ all in
    let large : limit < value_after number (get_or word i 0 ∷ drop (suc i) word) = exceeds number limit (get_or word i 0) (drop (suc i) word) rest none in
    let is_n : value_after 0 word ≡ n = ap (value_after 0) e ∙ digits_value-decimal numerals n small in
    omega (arith, ap (value_after number) here)

-- a token that is read to its end is the text of its value
pub reads_whole : (number i : ℕ) (word : List ℕ) → number < 2 ^ 64 → length word ≤ i → value_after 0 word ≡ value_after number (drop i word) →
    all_ascii_digits word ≡ all_ascii_digits (drop i word) → (0 < length word) × (get_or word 0 0 ≡ 48 → length word ≡ 1) → word ≡ decimal number
reads_whole number i word small end value digits begin =
    let none : drop i word ≡ [] = drop_all i word end in
    let is_number : value_after 0 word ≡ number = value ∙ ap (value_after number) none in
    let all : all_ascii_digits word ≡ true = digits ∙ ap all_ascii_digits none in
    sym (decimal-digits_value numerals word all begin.0 begin.1 (omega arith)) ∙ ap decimal is_number

-- a token of one byte
pub single : (word : List ℕ) → length word ≡ 1 → word ≡ get_or word 0 0 ∷ []
single [] one = absurd (omega (arith, one))
single (b ∷ []) one = refl
single (b ∷ c ∷ rest) one = absurd (omega (arith, one))

-- is the text of the number that is read from it
pub one_found : (word : List ℕ) (byte limit : ℕ) (read : Option ℕ) → word ≡ byte ∷ [] → IfSome read (λ n. IsInRange 48 57 byte × (n ≡ 10 * 0 + (byte - 48))) →
    IfSome read (λ n. n ≤ limit) → IfSome read (λ n. (word ≡ decimal n) × (n ≤ limit))
one_found word byte limit None is digit within = tt
one_found word byte limit (Some n) is digit within =
    let small : n < 10 = omega arith in
    let same : byte ≡ 48 + n = omega arith in
    (is ∙ ap (λ (b : ℕ). b ∷ []) same ∙ sym (decimal_digit n small), within)

-- and no number's text if none is read
pub one_none : (word : List ℕ) (limit : ℕ) (read : Option ℕ) → limit < 2 ^ 64 → length word ≡ 1 →
    IfNone read (IsInRange 48 57 (get_or word 0 0) → limit < 10 * 0 + (get_or word 0 0 - 48)) → IfNone read ((n : ℕ) → n ≤ limit → word ≢ decimal n)
one_none word limit (Some m) small one none = tt
one_none word limit None small one none =
    λ n le e. stops 0 limit n 0 word (omega (arith, small, le)) (omega (arith, one)) refl refl none le e
