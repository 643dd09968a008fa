-- A sorted list of keys decides which names have node lines.
use Rattle.nmgc_image.proofs.Vocabulary.{◌≡◌, ◌≤◌, ◌<◌, ℕ, zero, suc, List, [], ◌∷◌, length, map, get_or, refl, sym, ap, subst, ◌∙◌, arith, inl, inr, Bool, true, Option, Some, None, Result, Ok, Err, eqb, slice_get, All, Contains, MatchResult, list_any, is_ok, cases_Bool, cases_lt, eq-eqb, eqb-true, none-some, same_Some, slice_get_within, get_or_from_slice_get, list_any_at, All-contains, recursion_from_All, All-from_recursion, Contains-from_any, Name, same_name, held_by, contains_at, place_of, nothing_in, contains_flat, flat_contains, item_map, map_item, IsName, IsValue, Entry, IsTestOf, spaced, entry_words, tokens_of, IsDeclared, node_line_at, key_of, has_key, key_in, keys_in, keys_of, FindsDeclared}
use Rattle.nmgc_io.specs.laws.Parts.{spaced-tokens_of}
use Rattle.nmgc_image.proofs.{NodeLaws.IsSpellable, NodeLaws.line_takes, NodeLaws.line_again, LineLaws.tokens_of-line, LineLaws.entry_line}

-- a test that finds a key
pub any_has : (keys : List ℕ) (k : ℕ) → list_any (λ key. eqb key k) keys ≡ true → Contains keys k
any_has keys k e = Contains-from_any {eq = λ x y. eqb y x} (λ x y h. sym (eqb-true y x h)) k keys e

pub has_any : (keys : List ℕ) (k : ℕ) → Contains keys k → list_any (λ key. eqb key k) keys ≡ true
has_any keys k c =
    let p = place_of keys k c in
    list_any_at (λ key. eqb key k) keys p.0 0 (slice_get_within keys p.0 k p.1) (eq-eqb (get_or keys p.0 0) k (get_or_from_slice_get keys p.0 k 0 p.1))

-- the result of a search in sorted keys
abbrev Finds : List ℕ → ℕ → Result ℕ ℕ → Type 0
Finds keys k r = MatchResult r (λ i. (i < length keys) × (get_or keys i 0 ≡ k)) (λ i. (i ≤ length keys) × ((j : ℕ) → j < i → get_or keys j 0 < k) ×
    ((j : ℕ) → i ≤ j → j < length keys → k < get_or keys j 0))

pub found_key : (keys : List ℕ) (k : ℕ) (r : Result ℕ ℕ) → Finds keys k r → is_ok r ≡ list_any (λ key. eqb key k) keys
found_key keys k (Ok i) h = sym (list_any_at (λ key. eqb key k) keys i 0 h.0 (eq-eqb (get_or keys i 0) k h.1))
found_key keys k (Err i) h = elim (cases_Bool (list_any (λ key. eqb key k) keys)) [
  | inl has ↦
      let p = place_of keys k (any_has keys k has) in
      let at : get_or keys p.0 0 ≡ k = get_or_from_slice_get keys p.0 k 0 p.1 in
      absurd (elim (cases_lt p.0 i) [
        | inl lt ↦ let below = h.1 p.0 lt in omega (arith, at, below)
        | inr le ↦ let above = h.2 p.0 le (slice_get_within keys p.0 k p.1) in omega (arith, at, above)
      ])
  | inr none ↦ sym none
]

-- names of the same key are the same
pub same_key : (a b : Name) → IsName a → IsName b → key_of a ≡ key_of b → a ≡ b
same_key a b h k e =
    let small = h.1 in
    let short = k.1 in
    let maker : a.maker ≡ b.maker = omega arith in
    let serial : a.serial ≡ b.serial = omega arith in
    same_name a b maker serial

key_at : (o : Option Entry) (key : ℕ) → Contains (key_in o) key → (entry : Entry) × (o ≡ Some entry) × (key ≡ key_of entry.name)
key_at None key c = absurd (nothing_in key c)
key_at (Some entry) key c = let p = place_of (key_of entry.name ∷ []) key c in (entry, refl, one p.0 p.1)
  where
    one : (i : ℕ) → slice_get (key_of entry.name ∷ []) i ≡ Some key → key ≡ key_of entry.name
    one zero e = sym (same_Some (key_of entry.name) key e)
    one (suc i) e = absurd (none-some key e)

-- the keys of the node lines decide which names are declared
module _ (lines : List (List ℕ)) where
  sound : (name : Name) → IsName name → has_key (keys_of lines) name ≡ true → IsDeclared lines name
  sound name valid has =
      let line = flat_contains (λ line. keys_in (tokens_of line)) lines (key_of name) (any_has (keys_of lines) (key_of name) has) in
      let entry = key_at (node_line_at (tokens_of line.0)) (key_of name) line.2 in
      let takes = line_takes (tokens_of line.0) entry.0 entry.1 in
      let text : line.0 ≡ spaced (entry_words entry.0) = sym (spaced-tokens_of line.0) ∙ ap spaced takes.0 in
      let is = takes.1 in (
        entry.0,
        record { name = is.0; node = is.1; values = All-from_recursion IsValue (held_by entry.0.node) is.2 },
        same_key entry.0.name name is.0 valid (sym entry.2),
        subst (Contains lines) text line.1,
      )

  complete : (name : Name) → IsDeclared lines name → has_key (keys_of lines) name ≡ true
  complete name h =
      let entry : Entry = h.0 in
      let is : IsSpellable entry = (h.1.name, h.1.node, recursion_from_All IsValue (held_by entry.node) h.1.values) in
      let line : List ℕ = spaced (entry_words entry) in
      let reads : node_line_at (tokens_of line) ≡ Some entry = ap node_line_at (tokens_of-line (entry_words entry) (entry_line entry is)) ∙ line_again entry is in
      let one : Contains (keys_in (tokens_of line)) (key_of entry.name) =
      rw reads (contains_at (key_of entry.name ∷
      []) 0 (key_of entry.name) refl) in
      let all : Contains (keys_of lines) (key_of entry.name) = contains_flat (λ l. keys_in (tokens_of l)) lines line (key_of entry.name) h.3 one in
      has_any (keys_of lines) (key_of name) (subst (λ (n : Name). Contains (keys_of lines) (key_of n)) h.2 all)

  pub keys_find : FindsDeclared (has_key (keys_of lines)) lines
  keys_find = record { sound = sound; complete = complete }

-- and so does an equal test
pub finds_same : (d e : Name → Bool) (lines : List (List ℕ)) → ((name : Name) → d name ≡ e name) → FindsDeclared e lines → FindsDeclared d lines
finds_same d e lines same agrees = record {
  sound = λ name valid h. agrees.sound name valid (sym (same name) ∙ h);
  complete = λ name h. same name ∙ agrees.complete name h;
}

-- the keys of names decide which names are among them
pub names_find : (names : List Name) → All IsName names → IsTestOf (has_key (map key_of names)) names
names_find names valid = record {
  sound = λ name is has.
      let p = place_of (map key_of names) (key_of name) (any_has (map key_of names) (key_of name) has) in
      let n = map_item key_of names p.0 (key_of name) p.1 in
      let held : Contains names n.0 = contains_at names p.0 n.0 n.1 in
      let same : n.0 ≡ name = same_key n.0 name (All-contains IsName names n.0 valid held) is (sym n.2) in
      subst (Contains names) same held;
  complete = λ name held.
      let p = place_of names name held in
      has_any (map key_of names) (key_of name) (contains_at (map key_of names) p.0 (key_of name) (item_map key_of names p.0 name p.1));
}

-- and so does an equal test
pub names_same : (d e : Name → Bool) (names : List Name) → ((name : Name) → d name ≡ e name) → IsTestOf e names → IsTestOf d names
names_same d e names same agrees = record {
  sound = λ name valid h. agrees.sound name valid (sym (same name) ∙ h);
  complete = λ name h. same name ∙ agrees.complete name h;
}
