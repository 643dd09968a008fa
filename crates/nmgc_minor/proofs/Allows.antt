-- A world whose nurseries are used up to their tops can be promoted.
use Rattle.nmgc_minor.proofs.Vocabulary.{◌≡◌, ◌<◌, ◌≤◌, ◌+◌, ◌-◌, ◌*◌, ◌⊎◌, ℕ, List, length, inl, inr, sym, ap, subst, ◌∙◌, arith, Contains, mul-le-mul_right, cases_eq, slice_get_within, SHARED_SLOTS, Node, Con, Var, Arr, Thunk, Weak, Stack, World, node_of, IsNodeOf, IsShared, IsWorld, at_some, header_word, IsHeader, InNursery, nursery_place, Header, Layout, Nursery, HEADER_WORDS, Segments, IsSegments, KeepsReserve, header_of, size_of, slots_of, Place, Represents, NoNode, StillSpoken, slot_count, stands, Young, Inputs, HasInputs, IsStart, IsFound, AreUsed, AreEmpty, nursery_at, AreNurseries, CanPlaceEach, IsMarked, CanPromoteWith, slice_index}
use Rattle.nmgc_minor.proofs.{FoundLaws.in_nursery, FoundLaws.node_at, FoundLaws.found_tracked, FoundLaws.is_shared_node, Conditions.starts_within, Conditions.found_can, Conditions.can_place_all, Conditions.same_nursery}

module _ (layout : Layout) (base : ℕ) (later earlier : List World) (places : List Place) (w : World) (words : List ℕ) (inputs : Inputs)
    (s : Segments) (nurseries : List Nursery)
    (differ : (a b : Header) → IsHeader a → IsHeader b → header_word a ≡ header_word b → a ≡ b)
    (world : IsWorld w)
    (spoken : StillSpoken base later earlier places w)
    (emptied : base ≡ nursery_place layout 0)
    (r : Represents layout earlier NoNode places w words)
    (m : HasInputs base earlier places w inputs)
    (sound : IsSegments s)
    (same : s.layout ≡ layout)
    (used : AreUsed layout base places w nurseries)
    (reserve : KeepsReserve s.layout s.segments 0 ⊎ AreEmpty nurseries) where
  -- a found object lies in the used part of its nursery
  found_used : (at : ℕ) → IsFound base words (IsStart inputs words) at → base ≤ at → (maker : ℕ) × InNursery layout maker at ×
      (at + 2 ≤ (nursery_at nurseries maker).top)
  found_used at f l =
      let h = found_tracked layout base later earlier places w words inputs differ world spoken emptied r m at f in
      let node = node_at layout base later earlier places w words inputs differ world spoken emptied r m h.0 at h.1 in
      let u = used.used (record { at = at; name = h.0 }) node.0 h.1 l node.1 in (
        h.0.maker,
        in_nursery layout base later earlier places w words inputs differ world spoken emptied r m (record { at = at; name = h.0 }) h.1 l,
        omega (arith, u),
      )

  all_found : (y : Young) (table : List ℕ) → y.base ≡ base → ((at : ℕ) → y.base ≤ at → IsMarked y.base table at →
      IsFound y.base words (IsStart inputs words) at) → (at : ℕ) → base ≤ at → IsMarked base table at → IsFound base words (IsStart inputs words) at
  all_found y table e marked at l k = rw e at (marked at (omega (
    arith,
    e,
    l,
  )) (subst (λ (b : ℕ). IsMarked b table at) (sym e) k))

  are_nurseries : (table : List ℕ) → length table ≡ layout.mutators * layout.nursery →
      ((at : ℕ) → base ≤ at → IsMarked base table at → IsFound base words (IsStart inputs words) at) → AreNurseries layout base table nurseries
  are_nurseries table size marked = record {
    begins = emptied;
    count = used.count;
    size = size;
    places = used.places_are;
    tops = used.tops;
    unused = λ maker at lt up high. elim (cases_eq (slice_index table (at - base)) 0) [
      | inl z ↦ z
      | inr ne ↦
          let places_are = used.places_are maker lt in
          let tops = used.tops maker lt in
          let l : base ≤ at = omega (arith, places_are, tops.0, up, emptied) in
          let f = found_used at (marked at l ne) l in
          let own = same_nursery layout base later earlier places w words inputs differ world spoken emptied r m f.0 maker at f.1 (omega (
            arith,
            places_are,
            tops.0,
            up,
          )) high in
          let top : (nursery_at nurseries f.0).top ≡ (nursery_at nurseries maker).top = ap (λ (k : ℕ). (nursery_at nurseries k).top) own in
          absurd (let g = f.2 in omega (arith, g, top, up))
    ];
  }

  can_place : (table : List ℕ) → ((at : ℕ) → base ≤ at → IsMarked base table at → IsFound base words (IsStart inputs words) at) →
      CanPlaceEach layout words table base nurseries
  can_place table marked maker lt =
      let c = can_place_all layout base later earlier places w words inputs differ world spoken emptied r m table maker lt marked in
      let from = used.places_are maker lt in
      let tops = used.tops maker lt in
      let n = nursery_at nurseries maker in
      record {
        each = λ at low high k. c.each at (omega (arith, low, from)) (omega (arith, high, tops.1, from)) k;
        within = λ at header low high k is.
            let l : base ≤ at = omega (arith, low, from, emptied) in
            let f = marked at l k in
            let h = found_tracked layout base later earlier places w words inputs differ world spoken emptied r m at f in
            let node = node_at layout base later earlier places w words inputs differ world spoken emptied r m h.0 at h.1 in
            let o = stands layout earlier NoNode places w words differ world r h.0 node.0 at h.2 node.1 h.1 in
            let same_header : header ≡ header_of node.0 = differ header (header_of node.0) is.0 o.object.valid (sym is.1 ∙ o.object.header) in
            let count : HEADER_WORDS + header.fields ≡ size_of node.0 = ap (λ (x : Header). HEADER_WORDS + x.fields) same_header in
            let u = used.used (record { at = at; name = h.0 }) node.0 h.1 l node.1 in
            let own = same_nursery layout base later earlier places w words inputs differ world spoken emptied r m h.0.maker maker at
            (in_nursery layout base later earlier places w words inputs differ world spoken emptied r m (record {
              at = at;
              name = h.0;
            }) h.1 l) (omega (arith, low, from)) (omega (arith, high, tops.1, from)) in
            let top : (nursery_at nurseries h.0.maker).top ≡ (nursery_at nurseries maker).top = ap (λ (i : ℕ). (nursery_at nurseries i).top) own in
            omega (arith, u, top, count);
        apart = λ at next header low lt' high k k' is. c.apart at next header (omega (arith, low, from)) lt' (omega (arith, high, tops.1, from)) k k' is;
      }

  pub recorded_low : (at : ℕ) → Contains inputs.recorded at → at < base
  recorded_low at c =
      let h = m.left.fields at c in
      let o = stands layout earlier NoNode places w words differ world r h.0.name h.1 h.0.at h.5 h.6 h.4 in
      let of = at_some (node_of w h.0.name) h.1 (IsNodeOf w) h.6 (world.nodes h.0.name) in
      let count = slot_count h.1 of.sized in
      let within = slice_get_within (slots_of h.1) h.2 h.3 h.7 in
      let e = h.9 in
      let low = h.10 in
      elim o.object.lies [
        | inl g ↦
            let shared : IsShared h.1 = subst (λ (x : Node). IsShared x) (sym (is_shared_node w h.0.name h.1 g.0 h.6)) world.shared in
            let few_fields = shared_fields h.1 shared in
            omega (arith, e, g.1, count, within, few_fields, emptied)
        | inr x ↦ elim x.1 [
          | inl g ↦
              let last = g.1 at (omega (arith, e)) (omega (arith, e, count, within)) in
              let b = last.before in
              let up : (g.0 + 1) * layout.words ≤ layout.segments * layout.words = mul-le-mul_right layout.words (let z = last.exists in
              let f : g.0 + 1 ≤ layout.segments = omega arith in f) in
              let flat : (g.0 + 1) * layout.words ≡ g.0 * layout.words + layout.words = omega arith in
              omega (arith, b, up, flat, emptied)
          | inr g ↦ let first = g.1 h.0.at (omega arith) (omega arith) in let f = first.from in absurd (omega (arith, f, low, emptied))
        ]
      ]
    where
      shared_fields : (node : Node) → IsShared node → (header_of node).fields ≡ SHARED_SLOTS
      shared_fields (Con tag values) x = absurd x
      shared_fields (Var v) x = absurd x
      shared_fields (Arr values) x = x
      shared_fields (Thunk free result) x = absurd x
      shared_fields (Weak parts) x = absurd x
      shared_fields (Stack size values) x = absurd x

  weak_inside : (at : ℕ) → Contains inputs.weaks at → at + 5 ≤ length words
  weak_inside at c =
      let h = m.left.weak_places at c in
      let there : Place = record { at = at; name = h.0 } in
      let n = in_nursery layout base later earlier places w words inputs differ world spoken emptied r m there h.2 h.3 in
      let u = used.used there (Weak h.1) h.2 h.3 h.4 in
      let lt = n.exists in
      let tops = used.tops h.0.maker lt in
      let from = used.places_are h.0.maker lt in
      let up : (h.0.maker + 1) * layout.nursery ≤ layout.mutators * layout.nursery =
      mul-le-mul_right layout.nursery (let e : h.0.maker + 1 ≤ layout.mutators = omega arith in e) in
      let flat : (h.0.maker + 1) * layout.nursery ≡ h.0.maker * layout.nursery + layout.nursery = omega arith in
      let total = r.total in
      omega (arith, u, tops.1, from, up, flat, total)

  pub world_allows : CanPromoteWith s words nurseries inputs
  world_allows y young none begins size =
      let e : y.base ≡ base = begins ∙ ap (λ (l : Layout). nursery_place l 0) same ∙ sym emptied in
      let count : length y.table.items ≡ layout.mutators * layout.nursery = size ∙ ap (λ (l : Layout). l.mutators * l.nursery) same in
      let total = r.total in
      record {
        sound = sound;
        lists = young;
        empty = none;
        above = omega (arith, e, emptied);
        inside = omega (arith, e, emptied, total);
        recorded = λ at c. let l = recorded_low at c in omega (arith, l, e);
        weaks = weak_inside;
        within = starts_within layout base later earlier places w words inputs differ world spoken emptied r m y e count;
        can = λ at f. found_can layout base later earlier places w words inputs differ world spoken emptied r m y e count at (rw e at f);
        parts = λ table length_is marked.
            let found = all_found y table e marked in (
              rw same (rw e (are_nurseries table (length_is ∙ count) found)),
              rw same (rw e (can_place table found)),
            );
        reserve = reserve;
      }
