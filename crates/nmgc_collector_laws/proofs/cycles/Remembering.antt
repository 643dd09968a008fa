-- Remembered entries of owed words: addresses of names, and exactly the names that count are among them.
use Rattle.nmgc_collector_laws.proofs.Vocabulary.{◌≡◌, ◌*◌, ◌+◌, ◌/◌, ◌%◌, ◌<◌, ◌&&◌, ◌⊎◌, ◌++◌, ℕ, Bool, true, false, not, cond, eqb, leb, List, [], ◌∷◌, refl, sym, ap, subst, ◌∙◌, arith, inl, inr, Option, None, leb-true, Contains, is_some, filter, and_parts, Node, Name, Value, World, node_of, is_same_name, shared_name, contains_cases, nothing_in, Layout, SHARED_PLACE, FIRST_PLACE, HEADER_WORDS, nursery_place, names_among, is_pushed_in, is_same_name-refl, Place, ListMeans, LiesWell, Opening, Seen, CanOpen, IsFinished, places_then, is_old, all_pushed, opened_below, in_place, is_place, AreAt, old_word, odd_word}
use Rattle.nmgc_round.specs.Objects.{IsIn}
use Rattle.nmgc_world_spec.specs.declared.value.Value.TheVariants as value

-- the address of an old word's object is below the nurseries
old_low : (layout : Layout) (w : ℕ) → is_old layout w ≡ true → w / 2 < nursery_place layout 0
old_low layout w old =
    let second = (and_parts (eqb (w % 2) 0) (leb FIRST_PLACE (w / 2) && leb (w / 2 + 1) (nursery_place layout 0)) old).1 in
    let below = leb-true (w / 2 + 1) (nursery_place layout 0) (and_parts (leb FIRST_PLACE (w / 2)) (leb (w / 2 + 1) (nursery_place layout 0)) second).1 in
    omega arith

low_first : (layout : Layout) (w : ℕ) (b : Bool) (rest : List ℕ) → is_old layout w ≡ b →
    ((at : ℕ) → Contains rest at → at < nursery_place layout 0) → (at : ℕ) → Contains (cond b (w / 2 ∷ []) [] ++ rest) at → at < nursery_place layout 0
low_first layout w true rest old later at c = elim (contains_cases (w / 2) rest at c) [
  | inl is ↦ subst (λ n. n < nursery_place layout 0) is (old_low layout w old)
  | inr d ↦ later at d
]
low_first layout w false rest old later at c = later at c

-- all remembered addresses are below the nurseries
pub pushed_low : (layout : Layout) (ws : List ℕ) (at : ℕ) → Contains (all_pushed layout ws) at → at < nursery_place layout 0
pushed_low layout [] at c = absurd (nothing_in at c)
pushed_low layout (w ∷ ws) at c = low_first layout w (is_old layout w) (all_pushed layout ws) refl (pushed_low layout ws) at c

-- entries at places of names; the same names count among them as among `all`
pub record AreFound (snapshot : World) (places : List Place) (entries : List ℕ) (all : List Name) : Type 0 where
  pub names : List Name
  pub at : AreAt places entries names
  pub counted : filter (is_pushed_in snapshot) names ≡ filter (is_pushed_in snapshot) all

module _ (o : Opening) (before words : List ℕ) (v : Seen) (can : CanOpen o before) (h : IsFinished o words v) where
  abbrev snapshot : World
  snapshot = o.core.snapshot

  abbrev places : List Place
  places = places_then o h.born

  abbrev counts : Name → Bool
  counts = is_pushed_in snapshot

  -- a name that isn't in the snapshot doesn't count, and neither does g
  unknown_counts : (name : Name) → node_of snapshot name ≡ None → counts name ≡ false
  unknown_counts name none = ap (λ (n : Option Node). is_some n && not (is_same_name name shared_name)) none

  shared_counts : (name : Name) → name ≡ shared_name → counts name ≡ false
  shared_counts name is =
      let same : is_same_name name shared_name ≡ true = subst (λ (n : Name). is_same_name n shared_name ≡ true) (sym is) (is_same_name-refl shared_name) in
      by_node (is_some (node_of snapshot name)) same
    where
      by_node : (b : Bool) → is_same_name name shared_name ≡ true → (b && not (is_same_name name shared_name)) ≡ false
      by_node true same = ap not same
      by_node false same = refl

  -- an object of the round lies in a segment, or its name doesn't count
  old_or_not : (at : ℕ) (name : Name) → IsIn o h.born (record { at = at; name = name }) → (is_old o.layout (2 * at) ≡ true) ⊎ (counts name ≡ false)
  old_or_not at name (node, inr new) = inr (unknown_counts name (h.new (record { at = at; name = name; node = node }) new).no_snapshot)
  old_or_not at name (node, inl old) =
      let p : Place = record { at = at; name = name } in
      let low : at < nursery_place o.layout 0 = opened_below o before can p old.there in
      by_place low (can.represents.named p old.there).lies
    where
      by_place : at < nursery_place o.layout 0 → LiesWell o.layout (record { at = at; name = name }) HEADER_WORDS →
          (is_old o.layout (2 * at) ≡ true) ⊎ (counts name ≡ false)
      by_place low (inl g) =
          let same = h.stands.one (record { at = at; name = name }) (record {
            at = SHARED_PLACE;
            name = shared_name;
          }) (is_place o h.born (record { at = at; name = name }) (
            node,
            inl old,
          )) (is_place o h.born (record { at = SHARED_PLACE; name = shared_name }) h.shared) (inr g.1) in
          inr (shared_counts name (ap (λ (q : Place). q.name) same))
      by_place low (inr (own, inl s)) = let k = (s.1 at (omega arith) (omega arith)).from in inl (old_word o.layout at (omega arith) low)
      by_place low (inr (own, inr n)) = absurd (let k = (n.1 at (omega arith) (omega arith)).from in omega arith)

  -- one more word, a reference
  found_first : (at : ℕ) (name : Name) (b : Bool) (entries : List ℕ) (all : List Name) → is_old o.layout (2 * at) ≡ b →
      IsIn o h.born (record { at = at; name = name }) → AreFound snapshot places entries all →
      AreFound snapshot places (cond b (2 * at / 2 ∷ []) [] ++ entries) (name ∷ all)
  found_first at name true entries all old here f =
      let half : 2 * at / 2 ≡ at = omega arith in
      record {
        names = name ∷ f.names;
        at = (subst (λ n. Contains places (record { at = n; name = name })) (sym half) (in_place o h.born (record { at = at; name = name }) here), f.at);
        counted = ap (λ (l : List Name). cond (counts name) (name ∷ l) l) f.counted;
      }
  found_first at name false entries all old here f = record {
    names = f.names;
    at = f.at;
    counted = elim (old_or_not at name here) [
      | inl is ↦ absurd (let bad : true ≡ false = sym is ∙ old in cc)
      | inr not_counted ↦ f.counted ∙ sym (ap (λ (b : Bool). cond b (name ∷ filter counts all) (filter counts all)) not_counted)
    ];
  }

  -- the owed words of objects in segments are remembered, and the same names count
  pub all_found : (ws : List ℕ) (values : List Value) → ListMeans (IsIn o h.born) ws values →
      AreFound snapshot places (all_pushed o.layout ws) (names_among values)
  all_found [] [] means = record { names = []; at = tt; counted = refl }
  all_found [] (x ∷ values) means = absurd means
  all_found (w ∷ ws) [] means = absurd means
  all_found (w ∷ ws) (value.Nil ∷ values) means =
      let none : is_old o.layout w ≡ false = odd_word o.layout w (let e = means.0 in omega arith) in
      rw none (all_found ws values means.1)
  all_found (w ∷ ws) (value.Number n ∷ values) means =
      let none : is_old o.layout w ≡ false = odd_word o.layout w (let e = means.0 in omega arith) in
      rw none (all_found ws values means.1)
  all_found (w ∷ ws) (value.Ref name ∷ values) means =
      let at : ℕ = means.0.0 in
      rw means.0.1 (found_first at name (is_old o.layout (2 * at)) (all_pushed o.layout ws) (names_among values) refl means.0.2 (all_found ws values means.1))
