-- Node lines are appended object by object, and the lines of an image make up its text.
use Rattle.nmgc_image.proofs.Vocabulary.{ℕ, zero, suc, ◌≡◌, ◌+◌, ◌<◌, ◌∙◌, arith, List, [], ◌∷◌, ◌++◌, length, length-map, map, map-append, take, get_or, append_assoc, append-nil, refl, sym, ap, subst, true, false, All, All-head, All-tail, All-map, All-weaker, IsNonDecreasingBy, IsPermutation, IsPermutation-sym, Contains-permutation, codes, spaced, ended, Option, Some, None, Name, Node, Entry, Keyed, ImageMutator, IsObjectAt, name_in, node_read, is_before, is_after, comes_after, entry_words, mutator_lines, first_words, image_lines, printed, keyed_at, IsReadableObject, IsKeyed, ListsObjects}
use Rattle.nmgc_image.proofs.Listing.{places_of, lists_start, lists_taken, lists_skipped}

-- THE LINES OF OBJECTS

printed_append : (xs ys : List (List (List ℕ))) → printed (xs ++ ys) ≡ printed xs ++ printed ys
printed_append [] ys = refl
printed_append (x ∷ xs) ys =
    ap (λ (l : List ℕ). (spaced x ++ 10 ∷ []) ++ l) (printed_append xs ys) ∙ sym (append_assoc (spaced x ++ 10 ∷ []) (printed xs) (printed ys))

-- one more line
printed_more : (nodes : List Entry) (entry : Entry) →
    printed (map entry_words (nodes ++ entry ∷ [])) ≡ printed (map entry_words nodes) ++ (spaced (entry_words entry) ++ 10 ∷ [])
printed_more nodes entry =
    ap printed (map-append entry_words nodes (entry ∷ [])) ∙ printed_append (map entry_words nodes) (entry_words entry ∷ []) ∙
    ap (λ (l : List ℕ). printed (map entry_words nodes) ++ l) (append-nil (spaced (entry_words entry) ++ 10 ∷ []))

-- a name comes after a list of objects if it comes after the last one's name
after_last : (nodes : List Entry) (entry : Entry) (name : Name) → is_before entry.name name ≡ is_after (nodes ++ entry ∷ []) name
after_last [] entry name = refl
after_last (x ∷ []) entry name = refl
after_last (x ∷ y ∷ nodes) entry name = after_last (y ∷ nodes) entry name

-- the lines of the objects at these addresses were appended, and this is the name of the last one
pub record IsWrittenTo (words places old new : List ℕ) (last : Option Name) : Type 0 where
  pub nodes : List Entry
  pub listed : ListsObjects words places nodes
  pub text : new ≡ old ++ printed (map entry_words nodes)
  pub after : (name : Name) → comes_after last name ≡ is_after nodes name

module _ (words : List ℕ) (keyed : List Keyed) (old : List ℕ) where
  pub written_start : IsWrittenTo words (places_of (take 0 keyed)) old old None
  written_start = record { nodes = []; listed = lists_start words keyed; text = sym (append-nil old); after = λ name. refl }

  module _ (i : ℕ) (d : Keyed) (lt : i < length keyed) (out : List ℕ) (last : Option Name)
      (h : IsWrittenTo words (places_of (take i keyed)) old out last) (name : Name) (is : name ≡ name_in words (get_or keyed i d).at) where
    pub written_taken : (new : List ℕ) (node : Node) → comes_after last name ≡ true →
        ((object : IsObjectAt words (get_or keyed i d).at) → node ≡ node_read words (get_or keyed i d).at object.header) →
        new ≡ out ++ (spaced (entry_words (record { name = name; node = node })) ++ 10 ∷ []) →
        IsWrittenTo words (places_of (take (i + 1) keyed)) old new (Some name)
    written_taken new node after read more =
        let entry : Entry = record { name = name; node = node } in
        let line : List ℕ = spaced (entry_words entry) ++ 10 ∷ [] in
        record {
          nodes = h.nodes ++ entry ∷ [];
          listed = lists_taken words keyed h.nodes i d lt h.listed name node is (sym (h.after name) ∙ after) read;
          text =
              more ∙ ap (λ (l : List ℕ). l ++ line) h.text ∙ append_assoc old (printed (map entry_words h.nodes)) line ∙
              ap (λ (l : List ℕ). old ++ l) (sym (printed_more h.nodes entry));
          after = λ n. after_last h.nodes entry n;
        }

    pub written_skipped : comes_after last name ≡ false → IsNonDecreasingBy (λ (o : Keyed). o.key) keyed → All (IsKeyed words) keyed →
        IsWrittenTo words (places_of (take (i + 1) keyed)) old out last
    written_skipped after sorted all = record {
      nodes = h.nodes;
      listed = lists_skipped words keyed h.nodes i d lt h.listed name sorted all is (sym (h.after name) ∙ after);
      text = h.text;
      after = h.after;
    }

-- the same by addresses, each with its own name
keyed_front : (words places : List ℕ) (i : ℕ) → places_of (take i (map (keyed_at words) places)) ≡ take i places
keyed_front words places zero = refl
keyed_front words [] (suc i) = refl
keyed_front words (p ∷ places) (suc i) = ap (λ (l : List ℕ). p ∷ l) (keyed_front words places i)

keyed_item : (words places : List ℕ) (i d : ℕ) → get_or (map (keyed_at words) places) i (keyed_at words d) ≡ keyed_at words (get_or places i d)
keyed_item words [] i d = refl
keyed_item words (p ∷ places) zero d = refl
keyed_item words (p ∷ places) (suc i) d = keyed_item words places i d

pub all_keyed : (words places : List ℕ) → All (IsReadableObject words) places → All (IsKeyed words) (map (keyed_at words) places)
all_keyed words places all =
    All-map (IsKeyed words) (keyed_at words) places
    (All-weaker (IsReadableObject words) (λ at. IsKeyed words (keyed_at words at)) (λ at readable. record { readable = readable; key = refl }) places all)

module _ (words places old : List ℕ) where
  abbrev keyed : List Keyed
  keyed = map (keyed_at words) places

  pub placed_start : IsWrittenTo words (take 0 places) old old None
  placed_start = written_start words keyed old

  module _ (i d : ℕ) (lt : i < length places) (out : List ℕ) (last : Option Name) (h : IsWrittenTo words (take i places) old out last)
      (name : Name) (is : name ≡ name_in words (get_or places i d)) where
    within : i < length keyed
    within = let long = length-map places (keyed_at words) in omega (arith, long, lt)

    item : get_or places i d ≡ (get_or keyed i (keyed_at words d)).at
    item = sym (ap (λ (o : Keyed). o.at) (keyed_item words places i d))

    so_far : IsWrittenTo words (places_of (take i keyed)) old out last
    so_far = subst (λ (l : List ℕ). IsWrittenTo words l old out last) (sym (keyed_front words places i)) h

    named : name ≡ name_in words (get_or keyed i (keyed_at words d)).at
    named = is ∙ ap (name_in words) item

    pub placed_taken : (new : List ℕ) (node : Node) → comes_after last name ≡ true →
        ((object : IsObjectAt words (get_or places i d)) → node ≡ node_read words (get_or places i d) object.header) →
        new ≡ out ++ (spaced (entry_words (record { name = name; node = node })) ++ 10 ∷ []) →
        IsWrittenTo words (take (i + 1) places) old new (Some name)
    placed_taken new node after read more = subst (λ (l : List ℕ). IsWrittenTo words l old new (Some name)) (keyed_front words places (i + 1))
        (written_taken words keyed old i (keyed_at words d) within out last so_far name named new node after
        (subst (λ (at : ℕ). (object : IsObjectAt words at) → node ≡ node_read words at object.header) item read) more)

    pub placed_skipped : comes_after last name ≡ false → IsNonDecreasingBy (λ (o : Keyed). o.key) keyed → All (IsReadableObject words) places →
        IsWrittenTo words (take (i + 1) places) old out last
    placed_skipped after sorted all = subst (λ (l : List ℕ). IsWrittenTo words l old out last) (keyed_front words places (i + 1))
        (written_skipped words keyed old i (keyed_at words d) within out last so_far name named after sorted (all_keyed words places all))

-- objects with their own names are what their addresses give
pub rekeyed : (words : List ℕ) (keyed : List Keyed) → All (IsKeyed words) keyed → map (keyed_at words) (places_of keyed) ≡ keyed
rekeyed words [] all = refl
rekeyed words (o ∷ keyed) all =
    let here : keyed_at words o.at ≡ o = ap (λ (k : ℕ). let x : Keyed = record { key = k; at = o.at } in x) (sym (All-head (IsKeyed words) o keyed all).key) in
    ap (λ (x : Keyed). x ∷ map (keyed_at words) (places_of keyed)) here ∙
    ap (λ (l : List Keyed). o ∷ l) (rekeyed words keyed (All-tail (IsKeyed words) o keyed all))

-- objects listed at the same addresses in another order
pub lists_same : (words ps qs : List ℕ) (nodes : List Entry) → IsPermutation ps qs → ListsObjects words qs nodes → ListsObjects words ps nodes
lists_same words ps qs nodes moved l = record {
  ordered = l.ordered;
  sound = λ entry c. let s = l.sound entry c in (s.0, Contains-permutation _ _ s.0 (IsPermutation-sym _ _ moved) s.1, s.2);
  complete = λ at c. l.complete at (Contains-permutation _ _ at moved c);
}

-- THE TEXT

-- the lines before the node lines, the node lines and the last line are the text of the image
pub image_written : (mutators : List ImageMutator) (nodes : List Entry) (a b c d : List ℕ) → a ≡ [] →
    b ≡ (a ++ (spaced (first_words (length mutators)) ++ 10 ∷ [])) ++ printed (mutator_lines 0 mutators) →
    c ≡ b ++ printed (map entry_words nodes) → d ≡ c ++ codes "end\n" →
    d ≡ ended (map spaced (image_lines (record { mutators = mutators; nodes = nodes })))
image_written mutators nodes a b c d none start objects end =
    let first : List ℕ = spaced (first_words (length mutators)) ++ 10 ∷ [] in
    let own : List (List (List ℕ)) = mutator_lines 0 mutators in
    let lines : List (List (List ℕ)) = map entry_words nodes in
    let last : List ℕ = codes "end\n" in
    let behind : printed (own ++ (lines ++ (codes "end" ∷ []) ∷ [])) ≡ printed own ++ (printed lines ++ last) =
    printed_append own (lines ++ (codes "end" ∷ []) ∷ []) ∙ ap (λ (l : List ℕ). printed own ++ l) (printed_append lines ((codes "end" ∷ []) ∷ [])) in
    end ∙ ap (λ (l : List ℕ). l ++ last) objects ∙ ap (λ (l : List ℕ). (l ++ printed lines) ++ last) start ∙
    ap (λ (l : List ℕ). (((l ++ first) ++ printed own) ++ printed lines) ++ last) none ∙
    append_assoc (first ++ printed own) (printed lines) last ∙ append_assoc first (printed own) (printed lines ++ last) ∙
    ap (λ (l : List ℕ). first ++ l) (sym (ap printed (append_assoc own lines ((codes "end" ∷ []) ∷ [])) ∙ behind))
