-- The world has all that the passes require of the words.
use Rattle.std.proofs.{Common.◌≡◌, Common.◌<◌, Common.◌≤◌, Common.◌+◌, Common.◌-◌, Common.◌*◌, Common.ℕ, Common.List, Common.length, Common.inl, Common.inr, Common.sym, Common.ap, Common.subst, Common.◌∙◌, Common.arith, Common.Some, Math.Nat.mul-le-mul_right, lemmas.Bool.cases_order}
use Rattle.std.specs.Prelude.{Contains}
use Rattle.nmgc_world_spec.specs.{declared.value.Name.Name, declared.node.Node.Node, World.World, World.node_of, Known.IsWorld}
use Rattle.nmgc_object.specs.{Words.header_word, Words.IsHeader, Words.InNursery, Words.nursery_place, declared.words.Header.Header, declared.layout.Layout.Layout, declared.size.TheConstants.HEADER_WORDS}
use Rattle.nmgc_heap_spec.specs.{Objects.header_of, Objects.size_of, Objects.Place, Objects.LiesInNursery, Tracked.IsTracked, Represents.Represents, Represents.NoNode, Moves.StillSpoken}
use Rattle.nmgc_stop_spec.specs.{Strong.HasStrong, Strong.HasHeader, laws.Fields.stands, laws.Fields.field_in}
use Rattle.nmgc_minor.specs.{declared.young.Young.Young, Inputs.Inputs, Inputs.HasInputs, Found.IsStart, Found.IsFound, Young.IsWithin, Young.CanFollow, Placing.CanPlaceAll, Placing.IsMarked}
use Rattle.nmgc_minor.proofs.FoundLaws.{in_nursery, node_at, started, found_tracked}
use Rattle.nmgc_alloc.specs.laws.Placing.{step}

module _ (layout : Layout) (base : ℕ) (later earlier : List World) (places : List Place) (w : World) (words : List ℕ) (inputs : Inputs)
    (differ : (a b : Header) → IsHeader a → IsHeader b → header_word a ≡ header_word b → a ≡ b)
    (world : IsWorld w)
    (spoken : StillSpoken base later earlier places w)
    (emptied : base ≡ nursery_place layout 0)
    (r : Represents layout earlier NoNode places w words)
    (m : HasInputs base earlier places w inputs) where
  -- a word of a nursery has an entry in the table
  in_table : (maker at : ℕ) → InNursery layout maker at → at < base + layout.mutators * layout.nursery
  in_table maker at h =
      let e : maker + 1 ≤ layout.mutators = let x = h.exists in omega arith in
      let up : (maker + 1) * layout.nursery ≤ layout.mutators * layout.nursery = mul-le-mul_right layout.nursery e in
      let flat : (maker + 1) * layout.nursery ≡ maker * layout.nursery + layout.nursery = omega arith in
      let b = h.before in
      omega (arith, b, up, flat, emptied)

  place_in_table : (n : Name) (at : ℕ) → Contains places (record { at = at; name = n }) → base ≤ at → at < base + layout.mutators * layout.nursery
  place_in_table n at c l =
      in_table n.maker at (in_nursery layout base later earlier places w words inputs differ world spoken emptied r m (record { at = at; name = n }) c l)

  -- the words from which the search starts point into the table
  pub starts_within : (y : Young) → y.base ≡ base → length y.table.items ≡ layout.mutators * layout.nursery → (word : ℕ) →
      IsStart inputs words word → IsWithin y word
  starts_within y same size word s at e l =
      let low : base ≤ at = omega (arith, same, l) in
      let h = started layout base later earlier places w words inputs differ world spoken emptied r m at low (subst (λ (k : ℕ). IsStart inputs words k) e s) in
      let t = place_in_table h.0 at h.1 low in
      omega (arith, same, size, t)

  -- a tracked nursery object lies in its maker's nursery, with its header
  pub young_object : (n : Name) (node : Node) (at : ℕ) → IsTracked w earlier n → node_of w n ≡ Some node →
      Contains places (record { at = at; name = n }) → base ≤ at → LiesInNursery layout n.maker at (size_of node)
  young_object n node at t e c l =
      let o = stands layout earlier NoNode places w words differ world r n node at t e c in
      let four : 2 ≤ size_of node = omega arith in
      elim o.object.lies [
        | inl g ↦ absurd (omega (arith, g.1, emptied, l))
        | inr h ↦ elim h.1 [
          | inl s ↦
              let x = s.1 at (omega arith) (omega arith) in
              let up : (s.0 + 1) * layout.words ≤ layout.segments * layout.words = mul-le-mul_right layout.words (let k = x.exists in
              let f : s.0 + 1 ≤ layout.segments = omega arith in f) in
              let flat : (s.0 + 1) * layout.words ≡ s.0 * layout.words + layout.words = omega arith in
              let b = x.before in
              absurd (omega (arith, b, up, flat, emptied, l))
          | inr n' ↦ n'
        ]
      ]

  header_in : (n : Name) (node : Node) (at : ℕ) → IsTracked w earlier n → node_of w n ≡ Some node → Contains places (record { at = at; name = n }) →
      base ≤ at → HasHeader words at
  header_in n node at t e c l =
      let o = stands layout earlier NoNode places w words differ world r n node at t e c in
      let y = young_object n node at t e c l in
      let last = y.1 (at + size_of node - 1) (omega arith) (omega arith) in
      let below = in_table n.maker (at + size_of node - 1) last in
      let total = r.total in
      record { header = header_of node; valid = o.object.valid; read = o.object.header; inside = omega (arith, below, total, emptied) }

  -- found objects can be followed
  pub found_can : (y : Young) → y.base ≡ base → length y.table.items ≡ layout.mutators * layout.nursery → (at : ℕ) →
      IsFound base words (IsStart inputs words) at → CanFollow y words at
  found_can y same size at f =
      let h = found_tracked layout base later earlier places w words inputs differ world spoken emptied r m at f in
      let node = node_at layout base later earlier places w words inputs differ world spoken emptied r m h.0 at h.1 in
      let low : base ≤ at = found_young at f in
      record {
        header = header_in h.0 node.0 at h.2 node.1 h.1 low;
        within = λ word s to e l.
            let low' : base ≤ to = omega (arith, same, l) in
            let g = field_in layout earlier NoNode places w words differ world r h.0 node.0 at to h.2 node.1 h.1 (omega (
              arith,
              low',
              emptied,
            )) (subst (λ (k : ℕ). HasStrong words at k) e s) in
            let t = place_in_table g.0 to g.1 low' in
            omega (arith, same, size, t);
      }
    where
      found_young : (at : ℕ) → IsFound base words (IsStart inputs words) at → base ≤ at
      found_young at (IsFound.start _ l s) = l
      found_young at (IsFound.field from _ f l h) = l

  -- a word lies in one nursery
  pub same_nursery : (a b at : ℕ) → InNursery layout a at → nursery_place layout b ≤ at → at < nursery_place layout b + layout.nursery → a ≡ b
  same_nursery a b at h low high = elim (cases_order a b) [
    | inl e ↦ e
    | inr (inl lt) ↦ let s = step a b layout.nursery lt in let f = h.before in absurd (omega (arith, s, f, low))
    | inr (inr gt) ↦ let s = step b a layout.nursery gt in let f = h.from in absurd (omega (arith, s, f, high))
  ]

  -- the found objects of a nursery can be given blocks
  pub can_place_all : (table : List ℕ) (maker : ℕ) → maker < layout.mutators
      → ((at : ℕ) → base ≤ at → IsMarked base table at → IsFound base words (IsStart inputs words) at)
      → CanPlaceAll layout maker words table base (nursery_place layout maker) (nursery_place layout maker + layout.nursery)
  unfolding header_in
  can_place_all table maker lt marked =
      let from = nursery_place layout maker in
      let above : base ≤ nursery_place layout maker = omega (arith, emptied) in
      record {
        each = λ at low high mark.
            let f = marked at (omega (arith, above)) mark in
            let h = found_tracked layout base later earlier places w words inputs differ world spoken emptied r m at f in
            let node = node_at layout base later earlier places w words inputs differ world spoken emptied r m h.0 at h.1 in
            let y = young_object h.0 node.0 at h.2 node.1 h.1 (omega (arith, above)) in
            let n = r.named (record { at = at; name = h.0 }) h.1 in
            record {
              object = header_in h.0 node.0 at h.2 node.1 h.1 (omega (arith, above));
              small = y.0;
              name = h.0;
              valid = n.valid;
              made = same_nursery h.0.maker maker at (y.1 at (omega arith) (omega arith)) low high;
              named = n.name;
            };
        within = λ at header low high mark is.
            let f = marked at (omega (arith, above)) mark in
            let h = found_tracked layout base later earlier places w words inputs differ world spoken emptied r m at f in
            let node = node_at layout base later earlier places w words inputs differ world spoken emptied r m h.0 at h.1 in
            let y = young_object h.0 node.0 at h.2 node.1 h.1 (omega (arith, above)) in
            let o = stands layout earlier NoNode places w words differ world r h.0 node.0 at h.2 node.1 h.1 in
            let same : header ≡ header_of node.0 = differ header (header_of node.0) is.0 o.object.valid (sym is.1 ∙ o.object.header) in
            let count : HEADER_WORDS + header.fields ≡ size_of node.0 = ap (λ (x : Header). HEADER_WORDS + x.fields) same in
            let first = y.1 at (omega arith) (omega arith) in
            let last = y.1 (at + size_of node.0 - 1) (omega arith) (omega arith) in
            let own : h.0.maker ≡ maker = same_nursery h.0.maker maker at first low high in
            let b = last.before in
            let there : nursery_place layout h.0.maker ≡ nursery_place layout maker = ap (λ (k : ℕ). nursery_place layout k) own in
            omega (arith, b, count, there);
        apart = λ at next header low lt' high mark mark' is.
            let f = marked at (omega (arith, above)) mark in
            let g = marked next (omega (arith, above)) mark' in
            let h = found_tracked layout base later earlier places w words inputs differ world spoken emptied r m at f in
            let k = found_tracked layout base later earlier places w words inputs differ world spoken emptied r m next g in
            let node = node_at layout base later earlier places w words inputs differ world spoken emptied r m h.0 at h.1 in
            let o = stands layout earlier NoNode places w words differ world r h.0 node.0 at h.2 node.1 h.1 in
            let same : header ≡ header_of node.0 = differ header (header_of node.0) is.0 o.object.valid (sym is.1 ∙ o.object.header) in
            let count : HEADER_WORDS + header.fields ≡ size_of node.0 = ap (λ (x : Header). HEADER_WORDS + x.fields) same in
            elim (o.object.alone (record { at = next; name = k.0 }) k.1) [
              | inl before ↦ absurd (omega (arith, before, lt'))
              | inr after ↦ omega (arith, after, count)
            ];
      }
