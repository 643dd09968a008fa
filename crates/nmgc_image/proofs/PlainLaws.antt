-- A line read in one pass is the text of an object, and its tokens are read as this object.
use Rattle.nmgc_image.proofs.Vocabulary.{◌≡◌, ◌≢◌, ◌<◌, ◌+◌, ◌*◌, ◌/◌, ◌%◌, ◌^◌, ℕ, List, [], ◌∷◌, ◌++◌, map, length, refl, sym, ap, subst, ◌∙◌, arith, Bool, Some, decimal, codes, append_assoc, ne_eqb, decimal_digit, decimal_step, length-append, map_push, recursion_from_All, All-from_recursion, SHARED_MAKER, Name, Value, held_by, name_text, value_text, IsValue, Entry, Reader, LineFault, Lines, IsWritable, IsPlain, after_spaces, spaced, entry_words, tokens_of, Cut, cut, object_at, next_at, line_at, Refuses, IsStep, Halts}
use Rattle.nmgc_io.specs.laws.Parts.{spaced_after}
use Rattle.nmgc_image.proofs.{Cutting.cut_first, LineLaws.tokens_of-line, LineLaws.entry_line, LineLaws.IsLine, LineLaws.made_lines, NodeLaws.IsSpellable, NodeLaws.entry_again, Steps.line_step, Steps.line_fails}

-- NUMBERS AND NAMES

-- one more digit
pub decimal_more : (n d : ℕ) → 0 < n → d < 10 → n * 10 + d < 2 ^ 64 → decimal (n * 10 + d) ≡ decimal n ++ (48 + d) ∷ []
decimal_more n d some small fits =
    let q : (n * 10 + d) / 10 ≡ n = omega arith in
    let r : (n * 10 + d) % 10 ≡ d = omega arith in
    cc (decimal_step (n * 10 + d) (omega arith) fits, q, r)

-- the first digit
pub digit_first : (bytes after : List ℕ) (d : ℕ) → d < 10 → bytes ≡ (48 + d) ∷ after → bytes ≡ decimal d ++ after
digit_first bytes after d small is = is ∙ ap (λ (l : List ℕ). l ++ after) (sym (decimal_digit d small))

pub digit_more : (bytes rest after : List ℕ) (n d : ℕ) → 0 < n → d < 10 → n * 10 + d < 2 ^ 64 → bytes ≡ decimal n ++ rest →
    rest ≡ (48 + d) ∷ after → bytes ≡ decimal (n * 10 + d) ++ after
digit_more bytes rest after n d some small fits so_far is =
    cc (so_far, is, append_assoc (decimal n) ((48 + d) ∷ []) after, decimal_more n d some small fits)

-- a maker, a full stop and a serial
pub dotted_text : (name : Name) (old after new : List ℕ) → name.maker < SHARED_MAKER → old ≡ 46 ∷ after → after ≡ decimal name.serial ++ new →
    decimal name.maker ++ old ≡ name_text name ++ new
dotted_text name old after new few dot serial =
    let text : name_text name ≡ decimal name.maker ++ 46 ∷ decimal name.serial = rw (ne_eqb name.maker SHARED_MAKER (λ e. omega arith)) refl in
    cc (dot, serial, append_assoc (decimal name.maker) (46 ∷ decimal name.serial) new, text)

-- LISTS OF VALUES

after_append : (xs ys : List (List ℕ)) → after_spaces (xs ++ ys) ≡ after_spaces xs ++ after_spaces ys
after_append [] ys = refl
after_append (x ∷ xs) ys = cc (after_append xs ys, append_assoc x (after_spaces xs) (after_spaces ys))

-- one value more
pub value_more : (bytes rest new : List ℕ) (values : List Value) (v : Value) → bytes ≡ after_spaces (map value_text values) ++ rest →
    rest ≡ 32 ∷ (value_text v ++ new) → bytes ≡ after_spaces (map value_text (values ++ v ∷ [])) ++ new
value_more bytes rest new values v so_far is =
    let texts : List (List ℕ) = map value_text values in
    let one : List (List ℕ) = value_text v ∷ [] in
    cc (so_far, is, append_assoc (value_text v) [] new, append_assoc (after_spaces texts) (after_spaces one) new, after_append texts one, map_push value_text values v)

-- two values
pub pair_text : (old middle last new first second : List ℕ) → old ≡ 32 ∷ (first ++ middle) → middle ≡ 32 ∷ (second ++ last) → last ≡ 10 ∷ new →
    old ≡ after_spaces (first ∷ second ∷ []) ++ 10 ∷ new
pair_text old middle last new first second a b c =
    cc (a, b, c, append_assoc second [] (10 ∷ new), append_assoc first (32 ∷ (second ++ [])) (10 ∷ new))

-- WHOLE LINES

-- the tokens of a constructor
pub con_text : (old at_tag at_values new tag : List ℕ) (values : List (List ℕ)) → old ≡ codes " con " ++ at_tag → at_tag ≡ tag ++ at_values →
    at_values ≡ after_spaces values ++ 10 ∷ new → old ≡ after_spaces (codes "con" ∷ tag ∷ values) ++ 10 ∷ new
con_text old at_tag at_values new tag values a b c =
    a ∙ ap (λ (l : List ℕ). codes " con " ++ l) (b ∙ ap (λ (l : List ℕ). tag ++ l) c ∙ sym (append_assoc tag (after_spaces values) (10 ∷ new)))

-- a node line
pub node_text : (old at_name at_node new name : List ℕ) (words : List (List ℕ)) → old ≡ codes "node " ++ at_name → at_name ≡ name ++ at_node →
    at_node ≡ after_spaces words ++ 10 ∷ new → old ≡ spaced (codes "node" ∷ name ∷ words) ++ 10 ∷ new
node_text old at_name at_node new name words a b c =
    cc (a, b, c, append_assoc name (after_spaces words) (10 ∷ new), spaced_after (codes "node") (name ∷ words))

spelt_of : (entry : Entry) → IsWritable entry → IsSpellable entry
spelt_of entry h = (h.name, h.node, recursion_from_All IsValue (held_by entry.node) h.values)

-- the effect of a node line
line_is : (d : Name → Bool) (r : Reader) (entry : Entry) → IsSpellable entry → line_at d r (entry_words entry) ≡ object_at d r entry
unfolding line_at next_at
line_is d r entry spelt = rw (entry_again entry spelt) refl

module _ (old new : Lines) (entry : Entry) (after : List ℕ) (plain : IsPlain old.rest.now entry after) where
  plain_words : tokens_of (spaced (entry_words entry)) ≡ entry_words entry
  plain_words = tokens_of-line (entry_words entry) (entry_line entry (spelt_of entry plain.writable))

  plain_cut : cut old.rest.now ≡ record { lines = spaced (entry_words entry) ∷ (cut after).lines; rest = (cut after).rest }
  plain_cut =
      let none : IsLine (spaced (entry_words entry)) = (made_lines (entry_words entry ∷ []) (entry_line entry (spelt_of entry plain.writable), tt)).0 in
      cut_first old.rest.now (spaced (entry_words entry)) after (All-from_recursion (λ b. b ≢ 10) (spaced (entry_words entry)) none) plain.text

  pub plain_less : length after < length old.rest.now
  plain_less = let long = ap length plain.text in omega (arith, long, length-append (spaced (entry_words entry)) (10 ∷ after))

  pub plain_step : (d : Name → Bool) (r s : Reader) → object_at d r entry ≡ Some s → new.rest.now ≡ after → IsStep d r s old.rest.now new.rest.now
  plain_step d r s takes is = line_step d r s old new (spaced (entry_words entry)) after (entry_words entry) (ap (λ (c : Cut).
      c.lines) plain_cut) (ap (λ (c : Cut). c.rest) plain_cut) plain_less (sym plain_words) (line_is d r entry (spelt_of entry plain.writable) ∙ takes) is

  pub plain_fails : (d : Name → Bool) (e : LineFault) (r s : Reader) → Refuses e r s (object_at d r entry) → Halts d e r s old old
  plain_fails d e r s fails = line_fails d e r s old (spaced (entry_words entry)) after (entry_words entry) (ap (λ (c : Cut).
      c.lines) plain_cut) (sym plain_words) (subst (Refuses e r s) (sym (line_is d r entry (spelt_of entry plain.writable))) fails)
