-- Objects are put into an image one by one, in order of their names.
use Rattle.nmgc_image.proofs.Vocabulary.{ℕ, ◌≡◌, ◌≢◌, ◌<◌, ◌≤◌, ◌+◌, zero, suc, List, [], ◌∷◌, ◌++◌, length, map, take, get_or, arith, sym, ap, subst, ◌∙◌, true, false, inl, inr, Contains, All, IsNonDecreasingBy, cases_lt, cases_eq, map-append, take_more, get_or-take, Contains-append_left, Contains-push, Contains-push_cases, All-get_or, slice_get_within, get_or_from_slice_get, Name, Node, IsBefore, contains_head, contains_tail, contains_at, place_of, nothing_in, item_map, map_item, IsName, Entry, Keyed, names_of, IsNamedAt, IsObjectAt, name_in, node_read, key_of, is_before, is_after, IsKeyed, IsShownAt, ListsObjects}
use Rattle.nmgc_image.proofs.{Keys.same_key, Lines.after_more, Machine.before_is, Words.name_reads}

-- the addresses of objects
abbrev pub places_of : List Keyed → List ℕ
places_of keyed = map (λ (o : Keyed). o.at) keyed

-- a name that can be read is a valid name
pub read_valid : (words : List ℕ) (at : ℕ) → IsNamedAt words at → IsName (name_in words at)
read_valid words at named = subst IsName (sym (name_reads named.name _ named.valid named.word)) named.valid

-- if a name doesn't come after all names of a list, one of them isn't before it
not_after : (nodes : List Entry) (name : Name) → is_after nodes name ≡ false → (entry : Entry) × Contains nodes entry × (is_before entry.name name ≡ false)
not_after [] name e = absurd cc
not_after (entry ∷ []) name e = (entry, contains_head entry [], e)
not_after (entry ∷ next ∷ others) name e = let r = not_after (next ∷ others) name e in (r.0, contains_tail entry (next ∷ others) r.0 r.1, r.2)

entry_named : (nodes : List Entry) (entry : Entry) → Contains nodes entry → Contains (names_of nodes) entry.name
entry_named nodes entry c = let p = place_of nodes entry c in contains_at (names_of nodes) p.0 entry.name (item_map (λ (e : Entry). e.name) nodes p.0 entry p.1)

-- the name with the smaller key is before the other name
key_orders : (a b : Name) → IsName a → IsName b → key_of a ≤ key_of b → is_before a b ≡ false → a ≡ b
key_orders a b va vb le apart = elim (cases_eq (key_of a) (key_of b)) [
  | inl same ↦ same_key a b va vb same
  | inr other ↦ absurd (let first : is_before a b ≡ true = before_is a b (before other) in cc)
]
  where
    before : key_of a ≢ key_of b → IsBefore a b
    before other = elim (cases_lt a.maker b.maker) [
      | inl lt ↦ inl lt
      | inr ge ↦ let x = va.1 in let y = vb.1 in inr (omega (arith, le, ge, x, y), omega (arith, le, ge, x, y, other))
    ]

module _ (words : List ℕ) (keyed : List Keyed) where
  pub lists_start : ListsObjects words (places_of (take 0 keyed)) []
  lists_start = record { ordered = tt; sound = λ entry c. absurd (nothing_in entry c); complete = λ at c. absurd (nothing_in at c) }

  module _ (nodes : List Entry) (i : ℕ) (d : Keyed) (lt : i < length keyed) (so_far : ListsObjects words (places_of (take i keyed)) nodes) where
    one_more : places_of (take (i + 1) keyed) ≡ places_of (take i keyed) ++ (get_or keyed i d).at ∷ []
    one_more = ap places_of (take_more keyed i d lt) ∙ map-append (λ (o : Keyed). o.at) (take i keyed) (get_or keyed i d ∷ [])

    more_places : (at : ℕ) → Contains (places_of (take i keyed)) at → Contains (places_of (take (i + 1) keyed)) at
    more_places at c = subst (λ (l : List ℕ). Contains l at) (sym one_more) (Contains-append_left (places_of (take i keyed)) ((get_or keyed i d).at ∷ []) at c)

    -- an object after all other objects
    pub lists_taken : (name : Name) (node : Node) → name ≡ name_in words (get_or keyed i d).at → is_after nodes name ≡ true →
        ((object : IsObjectAt words (get_or keyed i d).at) → node ≡ node_read words (get_or keyed i d).at object.header) →
        ListsObjects words (places_of (take (i + 1) keyed)) (nodes ++ record { name = name; node = node } ∷ [])
    lists_taken name node is after read =
        let entry : Entry = record { name = name; node = node } in
        let at : ℕ = (get_or keyed i d).at in
        let names : names_of (nodes ++ entry ∷ []) ≡ names_of nodes ++ name ∷ [] = map-append (λ (e : Entry). e.name) nodes (entry ∷ []) in
        record {
          ordered = after_more nodes entry so_far.ordered after;
          sound = λ e c. elim (Contains-push_cases nodes entry e c) [
            | inl old ↦ let s = so_far.sound e old in (s.0, more_places s.0 s.1, s.2)
            | inr same ↦ (
              at,
              subst (λ (l : List ℕ). Contains l at) (sym one_more) (Contains-push (places_of (take i keyed)) at),
              subst (λ (x : Entry). IsShownAt words at x) same (record { name = is; node = read }),
            )
          ];
          complete = λ p c. rw names (elim (Contains-push_cases (places_of (take i keyed)) at p (rw one_more at c)) [
            | inl old ↦ Contains-append_left (names_of nodes) (name ∷ []) (name_in words p) (so_far.complete p old)
            | inr same ↦ subst (λ (n : Name). Contains (names_of nodes ++ name ∷ []) n) (is ∙ ap (name_in words) same) (Contains-push (names_of nodes) name)
          ]);
        }

    -- an object that is already in the list
    pub lists_skipped : (name : Name) → IsNonDecreasingBy (λ (o : Keyed). o.key) keyed → All (IsKeyed words) keyed →
        name ≡ name_in words (get_or keyed i d).at → is_after nodes name ≡ false → ListsObjects words (places_of (take (i + 1) keyed)) nodes
    lists_skipped name sorted all is after =
        let here : IsKeyed words (get_or keyed i d) = All-get_or (IsKeyed words) keyed i d lt all in
        let e = not_after nodes name after in
        let s = so_far.sound e.0 e.1 in
        let p = place_of (places_of (take i keyed)) s.0 s.1 in
        let q = map_item (λ (o : Keyed). o.at) (take i keyed) p.0 s.0 p.1 in
        let below : p.0 < i = short i keyed p.0 (slice_get_within (take i keyed) p.0 q.0 q.1) in
        let is_there : get_or keyed p.0 d ≡ q.0 = sym (get_or-take i keyed p.0 d below) ∙ get_or_from_slice_get (take i keyed) p.0 q.0 d q.1 in
        let there : IsKeyed words q.0 = subst (IsKeyed words) is_there (All-get_or (IsKeyed words) keyed p.0 d (omega (arith, below, lt)) all) in
        let le : q.0.key ≤ (get_or keyed i d).key = subst (λ (o : Keyed). o.key ≤ (get_or keyed i d).key) is_there (sorted p.0 i d (omega (arith, below)) lt) in
        let old_name : e.0.name ≡ name_in words q.0.at = s.2.name ∙ ap (name_in words) q.2 in
        let old_valid : IsName e.0.name = subst IsName (sym old_name) (read_valid words q.0.at there.readable.object.named) in
        let new_valid : IsName name = subst IsName (sym is) (read_valid words (get_or keyed i d).at here.readable.object.named) in
        let old_key : key_of e.0.name ≡ q.0.key = ap key_of old_name ∙ sym there.key in
        let new_key : key_of name ≡ (get_or keyed i d).key = ap key_of is ∙ sym here.key in
        let same : e.0.name ≡ name = key_orders e.0.name name old_valid new_valid (omega (arith, le, old_key, new_key)) e.2 in
        let listed : Contains (names_of nodes) name = subst (λ (n : Name). Contains (names_of nodes) n) same (entry_named nodes e.0 e.1) in
        record {
          ordered = so_far.ordered;
          sound = λ x c. let t = so_far.sound x c in (t.0, more_places t.0 t.1, t.2);
          complete = λ at c. elim (Contains-push_cases (places_of (take i keyed)) (get_or keyed i d).at at (subst (λ (l : List ℕ). Contains l at) one_more c)) [
            | inl old ↦ so_far.complete at old
            | inr at_is ↦ subst (λ (n : Name). Contains (names_of nodes) n) (is ∙ ap (name_in words) at_is) listed
          ];
        }
      where
        short : (i : ℕ) (xs : List Keyed) (k : ℕ) → k < length (take i xs) → k < i
        short zero xs k h = absurd (omega arith)
        short (suc i) [] k h = absurd (omega arith)
        short (suc i) (x ∷ xs) zero h = omega arith
        short (suc i) (x ∷ xs) (suc k) h = let r = short i xs k (omega arith) in omega (arith, r)
