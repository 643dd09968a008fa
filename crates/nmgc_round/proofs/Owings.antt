-- Words that fixed words name, and lists of owed words.
use Rattle.nmgc_round.proofs.Vocabulary.{◌≡◌, inl, inr, ℕ, suc, ◌+◌, ◌<◌, ◌≤◌, Bool, true, false, ◌&&◌, cond, eqb, List, [], ◌∷◌, ◌++◌, length, refl, sym, ap, ◌∙◌, arith, slice_index, append-nil, eqb-true, eq-eqb, Contains, some, get_elem?, Name, Value, contains_head, contains_tail, contains_cases, and_both, header_word, Header, names_among, size_of, Place, AllMean, ListMeans, lies_above, FixedWord, Opening, Part, Seen, Object, place_of, IsIn, Owes, Rests, Keeps, IsMutator, Names, header_at, fixed_at, fixed_from, owed_words}
use Rattle.nmgc_round.proofs.{Lists.owed_append, Refusals.header_there}

-- the named word is the one that all such fixed words have
pub fixed_there : (fixed : List FixedWord) (at offset n w : ℕ) → ((f : FixedWord) → Contains fixed f → f.at ≡ at → f.offset ≡ offset → f.word ≡ w) →
    Contains fixed (record { at = at; offset = offset; word = n }) → fixed_at fixed at offset ≡ w
fixed_there [] at offset n w stand c = absurd (let lt = c.1 in omega arith)
fixed_there (f ∷ fs) at offset n w stand c = by_test (eqb f.at at && eqb f.offset offset) refl (λ d.
    fixed_there fs at offset n w (λ g h. stand g (contains_tail f fs g h)) d)
  where
    by_test : (b : Bool) → (eqb f.at at && eqb f.offset offset) ≡ b →
        (Contains fs (record { at = at; offset = offset; word = n }) → fixed_at fs at offset ≡ w) → cond b f.word (fixed_at fs at offset) ≡ w
    by_test true e rec = let t = and_both (eqb f.at at) (eqb f.offset offset) e in
        stand f (contains_head f fs) (eqb-true f.at at t.0) (eqb-true f.offset offset t.1)
    by_test false e rec = elim (contains_cases f fs (record { at = at; offset = offset; word = n }) c) [
      | inl same ↦
          let yes : (eqb f.at at && eqb f.offset offset) ≡ true = cc (same, eq-eqb at at refl, eq-eqb offset offset refl) in
          let bad : true ≡ false = sym yes ∙ e in
          absurd cc
      | inr d ↦ rec d
    ]

-- words that are named one after the other represent the values of the words there
pub named_list : (P : Place → Type 0) (fixed : List FixedWord) (words : List ℕ) (at from offset : ℕ) (values : List Value) →
    ((i : ℕ) → i < length values → fixed_at fixed at (offset + i) ≡ slice_index words (from + i)) → AllMean P words from values →
    ListMeans P (fixed_from fixed at offset (length values)) values
named_list P fixed words at from offset [] stand means = tt
named_list P fixed words at from offset (x ∷ values) stand means =
    let z : offset + 0 ≡ offset = omega arith in
    let first : slice_index words (from + 0) ≡ fixed_at fixed at offset = cc (stand 0 (omega arith), z) in (
      rw first at (means 0 x refl),
      named_list P fixed words at (from + 1) (offset + 1) values
          (λ i lt. let a : offset + 1 + i ≡ offset + suc i = omega arith in let b : from + suc i ≡ from + 1 + i = omega arith in
          cc (a, stand (suc i) (omega arith), b))
          (λ i v e. let b : from + suc i ≡ from + 1 + i = omega arith in rw b at (means (suc i) v e)),
    )

module _ (o : Opening) (words : List ℕ) (views : List Seen) (h : Keeps o words views) (id : ℕ) (v : Seen) (here : get_elem? views id ≡
    some v) (p : Part) (is : IsMutator v p) where
  rests : Rests o h.born words p
  rests = ((h.agrees id v here).parts 0 p (ap (λ l. get_elem? l 0) is.alone)).2

  -- no object begins at word 0
  pub above : (q : Place) → IsIn o h.born q → 1 ≤ q.at
  above q there = let x : Object = record { at = q.at; name = q.name; node = there.0 } in
      lies_above o.layout (place_of x) (size_of there.0) (omega arith) (h.stands.apart x there.1).lies

  -- the named word is the word there
  pub named_word : (at offset n : ℕ) → Contains p.fixed (record { at = at; offset = offset; word = n }) →
      fixed_at p.fixed at offset ≡ slice_index words (at + offset)
  named_word at offset n c = fixed_there p.fixed at offset n (slice_index words (at + offset)) (λ f d a z. sym (rests.fixed f d).1 ∙
      ap (λ j. slice_index words j) (λ i. a i + z i)) c

  pub named_header : (at : ℕ) (header : Header) → Names p at header → header_at p.fixed at ≡ header_word header
  named_header at header names = let there = rests.fixed (record { at = at; offset = 0; word = header_word header }) names.there in
      header_there p.fixed at (header_word header) (λ f c a z. let t = rests.fixed f c in sym t.1 ∙ ap (λ j. slice_index words j) (λ i. a i + z i) ∙
      there.1) names.there

-- the owed words grow by words that represent values
pub owes_list : (P : Place → Type 0) (b : Bool) (ws us : List ℕ) (ns : List Name) (xs : List Value) → Owes b P ws ns → ListMeans P us xs →
    Owes b P (ws ++ owed_words b us) (ns ++ names_among xs)
owes_list P true ws us ns xs k m = owed_append P ws us ns xs k m
owes_list P false ws us ns xs k m = append-nil ws ∙ k
