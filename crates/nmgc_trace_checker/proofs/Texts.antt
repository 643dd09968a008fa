-- The lines of a text, as they are read: each up to its line feed, which is taken off with a carriage return before it.
use Rattle.nmgc_trace_checker.proofs.Vocabulary.{◌≡◌, ◌≢◌, ℕ, ◌+◌, ◌-◌, ◌<◌, List, [], ◌∷◌, ◌++◌, length, take, get_or, refl, sym, ap, subst, ◌∙◌, arith, inl, inr, ◌⊎◌, Bool, true, false, not, cond, eqb, ltb, Option, Some, None, Bor, unwrap_or, MatchOption, IfSome, AllByRecursion, take_through, drop_through, DropsThrough, ends_with_byte, strip_last, FindsCharSuffix, cases_Bool, and_parts, and_from, ltb-true, lt-ltb, eqb-true, eq-eqb, ne_eqb, cond-true, cond-false, eqb_tells, length_push, get_or_push, take_all, take_more, strip_suffix_char, onto_first, lines_of, texts_of, ahead, IsNextLine}
use Rattle.std.proofs.lemmas.List.{take_at}

-- A BYTE AT THE END

strip_on : (byte : ℕ) (front : List ℕ) → strip_last byte (front ++ byte ∷ []) ≡ front
strip_on byte front =
    let n : length (front ++ byte ∷ []) ≡ length front + 1 = length_push front byte in
    let place : length front ≡ length (front ++ byte ∷ []) - 1 = omega arith in
    let some : ltb 0 (length (front ++ byte ∷ [])) ≡ true = lt-ltb 0 (length (front ++ byte ∷ [])) (omega arith) in
    let last : get_or (front ++ byte ∷ []) (length (front ++ byte ∷ []) - 1) 0 ≡ byte = get_or_push front byte 0 (length (front ++ byte ∷ []) - 1) place in
    let ends : ends_with_byte byte (front ++ byte ∷ []) ≡ true =
    and_from (ltb 0 (length (front ++ byte ∷ []))) (eqb (get_or (front ++ byte ∷ []) (length (front ++ byte ∷ []) - 1) 0) byte) some
    (eq-eqb (get_or (front ++ byte ∷ []) (length (front ++ byte ∷ []) - 1) 0) byte last) in
    cond-true (ends_with_byte byte (front ++ byte ∷ [])) (take (length (front ++ byte ∷ []) - 1) (front ++ byte ∷ [])) (front ++ byte ∷ []) ends ∙
    take_at front (byte ∷ []) (length (front ++ byte ∷ []) - 1) place

strip_off : (byte : ℕ) (xs : List ℕ) → ((front : List ℕ) → xs ≢ front ++ byte ∷ []) → strip_last byte xs ≡ xs
strip_off byte xs none = elim (cases_Bool (ends_with_byte byte xs)) [
  | inl t ↦
      let p : (ltb 0 (length xs) ≡ true) × (eqb (get_or xs (length xs - 1) 0) byte ≡ true) =
      and_parts (ltb 0 (length xs)) (eqb (get_or xs (length xs - 1) 0) byte) t in
      let some : 0 < length xs = ltb-true 0 (length xs) p.0 in
      let last : get_or xs (length xs - 1) 0 ≡ byte = eqb-true (get_or xs (length xs - 1) 0) byte p.1 in
      absurd (none (take (length xs - 1) xs) (cc (take_all (length xs - 1 + 1) xs (omega arith), take_more xs (length xs - 1) 0 (omega arith), last)))
  | inr f ↦ cond-false (ends_with_byte byte xs) (take (length xs - 1) xs) xs f
]

-- the rest after `strip_suffix` with such a character, or otherwise the text
pub stripped_by : (byte : ℕ) (text : List ℕ) (o : Option (Bor (List ℕ))) (default : Bor (List ℕ)) → byte < 128 → default.now ≡ text →
    MatchOption o (FindsCharSuffix byte text None) (λ x. (n : ℕ) × FindsCharSuffix byte text (Some n) × (x.now ≡ take (length text - n) text) ×
    (length x.now + n ≡ length text)) → (unwrap_or o default).now ≡ strip_last byte text
stripped_by byte text None default small same h = same ∙ sym (strip_off byte text (strip_suffix_char byte text None h small))
stripped_by byte text (Some x) default small same h =
    let is : text ≡ x.now ++ byte ∷ [] = strip_suffix_char byte text (Some x) h small in
    sym (ap (strip_last byte) is ∙ strip_on byte x.now)

-- THE FIRST LINE

-- the bytes before the first line feed
abbrev line_of : List ℕ → List ℕ
line_of [] = []
line_of (b ∷ bytes) = cond (eqb b 10) [] (b ∷ line_of bytes)

through : (xs : List ℕ) → (take_through 10 xs ≡ line_of xs ++ 10 ∷ []) ⊎ (take_through 10 xs ≡ line_of xs)
through [] = inr refl
through (b ∷ bytes) = elim (eqb_tells b 10) [
  | inl p ↦ inl (rw p.0 (ap (λ (k : ℕ). k ∷ []) p.1))
  | inr p ↦ elim (through bytes) [
    | inl e ↦ inl (rw p.0 (ap (λ (l : List ℕ). b ∷ l) e))
    | inr e ↦ inr (rw p.0 (ap (λ (l : List ℕ). b ∷ l) e))
  ]
]

no_feed : (xs : List ℕ) → AllByRecursion (λ b. b ≢ 10) (line_of xs)
no_feed [] = tt
no_feed (b ∷ bytes) = elim (eqb_tells b 10) [ inl p ↦ rw p.0 tt | inr p ↦ rw p.0 (p.1, no_feed bytes) ]

last_feed : (front : List ℕ) → AllByRecursion (λ b. b ≢ 10) (front ++ 10 ∷ []) → ⊥
last_feed [] h = h.0 refl
last_feed (b ∷ front) h = last_feed front h.1

stripped : (xs : List ℕ) → strip_last 10 (take_through 10 xs) ≡ line_of xs
stripped xs = elim (through xs) [
  | inl e ↦ ap (strip_last 10) e ∙ strip_on 10 (line_of xs)
  | inr e ↦ ap (strip_last 10) e ∙ strip_off 10 (line_of xs) (λ front is. last_feed front (subst (AllByRecursion (λ b. b ≢ 10)) is (no_feed xs)))
]

first_line_of : (b : ℕ) (bytes : List ℕ) → lines_of (b ∷ bytes) ≡ line_of (b ∷ bytes) ∷ lines_of (drop_through 10 (b ∷ bytes))
first_line_of b [] = elim (eqb_tells b 10) [ inl p ↦ rw p.0 refl | inr p ↦ rw p.0 refl ]
first_line_of b (c ∷ bytes) = elim (eqb_tells b 10) [ inl p ↦ rw p.0 refl | inr p ↦ rw p.0 (ap (onto_first b) (first_line_of c bytes)) ]

first_text : (b : ℕ) (bytes : List ℕ) →
    texts_of (b ∷ bytes) ≡ strip_last 13 (strip_last 10 (take_through 10 (b ∷ bytes))) ∷ texts_of (drop_through 10 (b ∷ bytes))
first_text b bytes =
    cc (first_line_of b bytes, stripped (b ∷ bytes))

-- A LINE THAT IS READ

some_read : (b : ℕ) (bytes : List ℕ) → 0 < length (take_through 10 (b ∷ bytes))
some_read b bytes = elim (eqb_tells b 10) [ inl p ↦ rw p.0 (omega arith) | inr p ↦ rw p.0 (omega arith) ]

next_texts : (xs line : List ℕ) (is_empty : Bool) → line ≡ take_through 10 xs → is_empty ≡ eqb (length line) 0 →
    texts_of xs ≡ ahead (not is_empty) line (drop_through 10 xs)
next_texts [] line is_empty read e =
    let none : is_empty ≡ true = e ∙ eq-eqb (length line) 0 (ap length read) in
    subst (λ (b : Bool). texts_of [] ≡ ahead (not b) line []) (sym none) refl
next_texts (b ∷ bytes) line is_empty read e =
    let some : 0 < length (take_through 10 (b ∷ bytes)) = some_read b bytes in
    let same : length line ≡ length (take_through 10 (b ∷ bytes)) = ap length read in
    let there : is_empty ≡ false = e ∙ ne_eqb (length line) 0 (λ z. omega arith) in
    rw there (first_text b bytes ∙ ap (λ (l : List ℕ). strip_last 13 (strip_last 10 l) ∷ texts_of (drop_through 10 (b ∷ bytes))) (sym read))

-- the bytes that a call of `read_line` with an empty buffer reads
pub next_is : (old new : Option (List ℕ)) (before line : List ℕ) (is_empty : Bool) → before ≡ [] → IfSome old (λ xs. line ≡ before ++ take_through 10 xs) →
    DropsThrough old new 10 → is_empty ≡ eqb (length line) 0 → IsNextLine old new line (not is_empty)
next_is None new before line is_empty none read rest e = tt
next_is (Some xs) new before line is_empty none read rest e = (
  drop_through 10 xs,
  rest,
  next_texts xs line is_empty (read ∙ ap (λ (l : List ℕ). l ++ take_through 10 xs) none) e,
)
