-- The result of the three passes is that objects moved.
use Rattle.nmgc_minor.proofs.Vocabulary.{◌≡◌, ◌≢◌, ◌<◌, ◌≤◌, ◌+◌, ◌-◌, ℕ, List, inl, inr, sym, ap, subst, ◌∙◌, arith, ◌⊎◌, Some, Contains, cases_lt, slice_get_within, SHARED_MAKER, SHARED_SLOTS, Name, Node, Con, Var, Arr, Thunk, Weak, Stack, World, node_of, IsNodeOf, IsShared, IsWorld, contains_tail, at_some, is_some_of, header_word, IsHeader, InSegment, nursery_place, Header, Layout, FIRST_PLACE, HEADER_WORDS, Segments, IsSegments, header_of, size_of, slots_of, IsTracked, Place, IsBetween, Represents, NoNode, Moved, Moves, KeepsObject, Forwards, StillSpoken, new_place, old_place, settled, not_between, slot_count, tracked_more, stands, settled_cases, settled_stays, settled_comes, Inputs, HasInputs, IsOccupied, AreBlocks, HasHeaderWord, IsPlacing, IsSharedSlot, IsOutside, Rewrites, occupied_in, is_block, occupied_apart, slice_index}
use Rattle.nmgc_minor.proofs.FoundLaws.{is_shared_node}

module _ (layout : Layout) (base : ℕ) (later earlier : List World) (places : List Place) (w : World) (old new : List ℕ) (inputs : Inputs)
    (s0 s : Segments) (moves : List Moved) (forward : ℕ → ℕ)
    (differ : (a b : Header) → IsHeader a → IsHeader b → header_word a ≡ header_word b → a ≡ b)
    (world : IsWorld w)
    (spoken : StillSpoken base later earlier places w)
    (r : Represents layout earlier NoNode places w old)
    (m : HasInputs base earlier places w inputs)
    (sound : IsSegments s)
    (same_layout : s.layout ≡ layout)
    (emptied : base ≡ nursery_place layout 0)
    (blocks : AreBlocks s0 base places w)
    (placing : IsPlacing s0 s old moves)
    (forwards : Forwards base moves forward)
    (taken : (d : Moved) → Contains moves d → Contains places (old_place d) × (base ≤ d.from) × IsTracked w earlier d.name)
    (all : (p : Place) → Contains places p → base ≤ p.at → IsTracked w later p.name → (d : Moved) × Contains moves d × (p ≡ old_place d))
    (once : (a b : Moved) → Contains moves a → Contains moves b → a.from ≡ b.from → a ≡ b)
    (writes : Rewrites base inputs.recorded moves forward old new) where
  ends : base ≡ nursery_place s.layout 0
  ends = emptied ∙ ap (λ (l : Layout). nursery_place l 0) (sym same_layout)

  node_at : (p : Place) → Contains places p → (node : Node) × (node_of w p.name ≡ Some node)
  node_at p c = is_some_of (node_of w p.name) (r.named p c).known

  -- the header word of a moved object
  header_at : (d : Moved) (node : Node) → Contains moves d → node_of w d.name ≡ Some node → HasHeaderWord old d.from (header_of node)
  header_at d node c e =
      let t = taken d c in
      let o = stands layout earlier NoNode places w old differ world r d.name node d.from t.2 e t.0 in
      (o.object.valid, o.object.header)

  -- its new block, which holds it
  block_at : (d : Moved) (node : Node) → Contains moves d → node_of w d.name ≡ Some node → (size : ℕ) × IsOccupied s d.to size × (size_of node ≤ size)
  block_at d node c e = let b = placing.placed d c in (b.0, b.1, b.2 (header_of node) (header_at d node c e))

  spared : (p : Place) (node : Node) (d : Moved) (other : Node) → Contains places p → p.at < base → node_of w p.name ≡ Some node →
      Contains moves d → node_of w d.name ≡ Some other → (d.to + size_of other ≤ p.at) ⊎ ((p.at + size_of node ≤ d.to) × (p.at + 4 ≤ d.to))
  spared p node d other c l e cd ed =
      let b = block_at d other cd ed in
      let fits = is_block s base d.to b.0 sound ends b.1 in
      elim (r.named p c).lies [
        | inl g ↦
            let same = is_shared_node w p.name node g.0 e in
            let few : size_of node ≡ 18 = shared_size node (subst (λ (x : Node). IsShared x) (sym same) world.shared) in
            inr (omega (arith, g.1, few, fits.above), omega (arith, g.1, fits.above))
        | inr o ↦
            let mine = blocks.held p node c l o.0 e in
            let stays = placing.stays p.at mine.0 mine.1 in
            let four = is_block s base p.at mine.0 sound ends stays in
            elim (occupied_apart s p.at mine.0 d.to b.0 sound stays b.1) [
              | inl same ↦ absurd (placing.fresh d mine.0 cd (subst (λ (k : ℕ). IsOccupied s0 k mine.0) same mine.1))
              | inr (inl low) ↦ inr (omega (arith, low, mine.2), omega (arith, low, four.four))
              | inr (inr high) ↦ inl (omega (arith, high, b.2))
            ]
      ]
    where
      shared_size : (node : Node) → IsShared node → size_of node ≡ 18
      shared_size (Con tag values) h = absurd h
      shared_size (Var v) h = absurd h
      shared_size (Arr values) h = omega (arith, h)
      shared_size (Thunk free result) h = absurd h
      shared_size (Weak parts) h = absurd h
      shared_size (Stack size values) h = absurd h

  -- a word of an object that stays is outside the new blocks' objects
  outside : (p : Place) (node : Node) (k : ℕ) → Contains places p → p.at < base → node_of w p.name ≡ Some node → k < size_of node →
      IsOutside moves old (p.at + k)
  outside p node k c l e lt d header cd h =
      let other = node_at (old_place d) (taken d cd).0 in
      let mine = header_at d other.0 cd other.1 in
      let same : header_of other.0 ≡ header = differ (header_of other.0) header mine.0 h.0 (sym mine.1 ∙ h.1) in
      let count : size_of other.0 ≡ HEADER_WORDS + header.fields = ap (λ (x : Header). HEADER_WORDS + x.fields) same in
      elim (spared p node d other.0 c l e cd other.1) [
        | inl high ↦ inr (omega (arith, high, count))
        | inr low ↦ inl (omega (arith, low.0, lt))
      ]

  -- a recorded address is of a field
  recorded_field : (at : ℕ) → Contains inputs.recorded at → (p : Place) × (node : Node) × Contains places p × IsTracked w earlier p.name ×
      (node_of w p.name ≡ Some node) × (p.at + HEADER_WORDS ≤ at) × (at < p.at + size_of node) × (p.at < base)
  recorded_field at c =
      let h = m.left.fields at c in
      let of = at_some (node_of w h.0.name) h.1 (IsNodeOf w) h.6 (world.nodes h.0.name) in
      let count = slot_count h.1 of.sized in
      let within = slice_get_within (slots_of h.1) h.2 h.3 h.7 in
      let e = h.9 in
      (h.0, h.1, h.4, h.5, h.6, omega (arith, e), omega (arith, e, count, within), h.10)

  -- a recorded field is forwarded
  pub recorded_goes : (at : ℕ) → at < base → Contains inputs.recorded at → slice_index new at ≡ forward (slice_index old at)
  recorded_goes at below c =
      let f = recorded_field at c in
      let k : ℕ = at - f.0.at in
      let there : f.0.at + k ≡ at = omega (arith, f.5) in
      let out = subst (λ (n : ℕ). IsOutside moves old n) there (outside f.0 f.1 k f.2 f.7 f.4 (omega (arith, f.5, f.6))) in
      elim (writes.others at below out) [
        | inl g ↦ g.0
        | inr g ↦ absurd (g.1.0 c)
      ]

  -- headers and names of objects that stay are unchanged
  unchanged : (p : Place) (k : ℕ) → Contains places p → p.at < base → k < HEADER_WORDS → slice_index new (p.at + k) ≡ slice_index old (p.at + k)
  unchanged p k c l lt =
      let node = node_at p c in
      let below : p.at + k < base = elim (r.named p c).lies [
        | inl g ↦ omega (arith, g.1, emptied, lt)
        | inr o ↦ let mine = blocks.held p node.0 c l o.0 node.1 in
            let b = is_block s base p.at mine.0 sound ends (placing.stays p.at mine.0 mine.1) in omega (arith, b.below, b.four, lt)
      ] in
      let not_recorded : Contains inputs.recorded (p.at + k) → ⊥ = λ h.
      let f = recorded_field (p.at + k) h in
      let o = stands layout earlier NoNode places w old differ world r f.0.name f.1 f.0.at f.3 f.4 f.2 in
      elim (o.object.alone p c) [
        | inl low ↦ let x = f.5 in omega (arith, low, x, lt)
        | inr high ↦ let x = f.6 in omega (arith, high, x)
      ] in
      let not_slot : IsSharedSlot (p.at + k) → ⊥ = λ h. elim (r.named p c).lies [
        | inl g ↦ omega (arith, g.1, h.0, lt)
        | inr o ↦ let mine = blocks.held p node.0 c l o.0 node.1 in
            let b = is_block s base p.at mine.0 sound ends (placing.stays p.at mine.0 mine.1) in omega (arith, b.above, h.1)
      ] in
      elim (writes.others (p.at + k) below (outside p node.0 k c l node.1 (omega arith))) [
        | inl f ↦ elim f.1 [ inl h ↦ absurd (not_recorded h) | inr h ↦ absurd (not_slot h) ]
        | inr f ↦ f.0
      ]

  -- and so are the words between the objects
  between : (at : ℕ) → IsBetween at → slice_index new at ≡ slice_index old at
  between at nobody =
      let low : at < FIRST_PLACE = elim nobody [ inl first ↦ omega (arith, first) | inr last ↦ last.1 ] in
      let below : at < base = omega (arith, low, emptied) in
      let out : IsOutside moves old at = λ d header cd h.
      let other = node_at (old_place d) (taken d cd).0 in
      let b = block_at d other.0 cd other.1 in
      let fits = is_block s base d.to b.0 sound ends b.1 in
      inl (omega (arith, low, fits.above)) in
      let not_recorded : Contains inputs.recorded at → ⊥ = λ h.
      let f = recorded_field at h in
      let o = stands layout earlier NoNode places w old differ world r f.0.name f.1 f.0.at f.3 f.4 f.2 in
      not_between layout f.0 (size_of f.1) at o.object.lies (omega (arith, f.5)) f.6 nobody in
      let not_slot : IsSharedSlot at → ⊥ = λ h. elim nobody [ inl first ↦ omega (arith, first, h.0) | inr last ↦ omega (arith, last.0, h.1) ] in
      elim (writes.others at below out) [
        | inl f ↦ elim f.1 [ inl h ↦ absurd (not_recorded h) | inr h ↦ absurd (not_slot h) ]
        | inr f ↦ f.0
      ]

  keeps : (p : Place) (node : Node) → Contains places p → p.at < base → IsTracked w later p.name → node_of w p.name ≡ Some node →
      KeepsObject base places forward old new p.at node
  keeps p node c l t e = record {
    header = subst (λ (k : ℕ). slice_index new k ≡ slice_index old k) (let z : p.at + 0 ≡ p.at = omega arith in z) (unchanged p 0 c l (omega arith));
    fields = λ i lt.
        let te = tracked_more w later earlier (λ x d. contains_tail w earlier x (spoken.fewer x d)) p.name t in
        let below : p.at + HEADER_WORDS + i < base = elim (r.named p c).lies [
          | inl g ↦
              let same = is_shared_node w p.name node g.0 e in
              let few = shared_fields node (subst (λ (x : Node). IsShared x) (sym same) world.shared) in
              omega (arith, g.1, emptied, lt, few)
          | inr o ↦ let mine = blocks.held p node c l o.0 e in let b = is_block s base p.at mine.0 sound ends (placing.stays p.at mine.0 mine.1) in
              omega (arith, b.below, mine.2, lt)
        ] in
        let flat : p.at + (HEADER_WORDS + i) ≡ p.at + HEADER_WORDS + i = omega arith in
        let out = subst (λ (k : ℕ). IsOutside moves old k) flat (outside p node (HEADER_WORDS + i) c l e (omega arith)) in
        elim (writes.others (p.at + HEADER_WORDS + i) below out) [
          | inl f ↦ inl f.0
          | inr f ↦ inr (
            f.0,
            λ q slot cq. elim (cases_lt q.at base) [
              | inl low ↦ low
              | inr young ↦ elim (r.named p c).lies [
                | inl g ↦
                    let same = is_shared_node w p.name node g.0 e in
                    let few = shared_fields node (subst (λ (x : Node). IsShared x) (sym same) world.shared) in
                    absurd (f.1.1 (omega (arith, g.1), omega (arith, g.1, few, lt)))
                | inr o ↦ absurd (f.1.0 (m.left.all_fields p q node i c l o.0 te e slot cq young))
              ]
            ],
          )
        ];
  }
    where
      shared_fields : (node : Node) → IsShared node → (header_of node).fields ≡ SHARED_SLOTS
      shared_fields (Con tag values) h = absurd h
      shared_fields (Var v) h = absurd h
      shared_fields (Arr values) h = h
      shared_fields (Thunk free result) h = absurd h
      shared_fields (Weak parts) h = absurd h
      shared_fields (Stack size values) h = absurd h

  alone : (d : Moved) (node : Node) (q : Place) → Contains moves d → node_of w d.name ≡ Some node →
      ((x : Moved) × Contains moves x × (q ≡ new_place x)) ⊎ (Contains places q × (q.at < base)) → (q.at ≤ d.to) ⊎ (d.to + size_of node ≤ q.at)
  alone d node q c e (inl n) =
      let b = block_at d node c e in
      let other = placing.placed n.0 n.1 in
      let at : q.at ≡ n.0.to = ap (λ (x : Place). x.at) n.2 in
      elim (occupied_apart s n.0.to other.0 d.to b.0 sound other.1 b.1) [
        | inl same ↦ inl (omega (arith, at, same))
        | inr (inl low) ↦ inl (omega (arith, at, low))
        | inr (inr high) ↦ inr (omega (arith, at, high, b.2))
      ]
  alone d node q c e (inr o) =
      let mine = node_at q o.0 in
      elim (spared q mine.0 d node o.0 o.1 mine.1 c e) [
        | inl high ↦ inr high
        | inr low ↦ inl (omega (arith, low.1))
      ]

  -- the addresses of objects afterwards are the addresses of the blocks in use
  pub blocks_made : AreBlocks s base (settled base moves places) w
  blocks_made = record {
    held = λ p node c l other e. held p node e other (settled_cases base moves places p c);
    filled = λ at size o. elim (placing.only at size o) [
      | inl was ↦
          let p = blocks.filled at size was in
          let b = is_block s base at size sound ends o in
          (p.0, settled_stays base moves places (record { at = at; name = p.0 }) p.1 (omega (arith, b.below, b.four)))
      | inr moved ↦ (
        moved.0.name,
        rw moved.2 at (settled_comes base moves places moved.0 moved.1),
      )
    ];
  }
    where
      held : (p : Place) (node : Node) → node_of w p.name ≡ Some node → p.name.maker ≢ SHARED_MAKER →
          ((x : Moved) × Contains moves x × (p ≡ new_place x)) ⊎ (Contains places p × (p.at < base)) → (size : ℕ) × IsOccupied s p.at size ×
          (size_of node ≤ size)
      held p node e other (inl n) =
          let named : p.name ≡ n.0.name = ap (λ (x : Place). x.name) n.2 in
          let at : n.0.to ≡ p.at = sym (ap (λ (x : Place). x.at) n.2) in
          let there : node_of w n.0.name ≡ Some node = sym (ap (λ (x : Name). node_of w x) named) ∙ e in
          let b = block_at n.0 node n.1 there in
          (b.0, subst (λ (k : ℕ). IsOccupied s k b.0) at b.1, b.2)
      held p node e other (inr o) = let b = blocks.held p node o.0 o.1 other e in (b.0, placing.stays p.at b.0 b.1, b.2)

  below_base : (d : Moved) → Contains moves d → d.to < base
  below_base d c = let b = placing.placed d c in let f = is_block s base d.to b.0 sound ends b.1 in omega (arith, f.below, f.four)

  pub moves_made : Moves layout base later places w moves forward old new
  moves_made = record {
    total = writes.total;
    forwards = forwards;
    taken = λ d c. ((taken d c).0, (taken d c).1, below_base d c);
    all = all;
    once = λ a b ca cb h. elim h [ inl f ↦ once a b ca cb f | inr f ↦ placing.once a b ca cb f ];
    apart = λ d p cd cp e. elim (cases_lt p.at base) [
      | inl l ↦
          let node = node_at p cp in
          let other = node_at (old_place d) (taken d cd).0 in
          elim (spared p node.0 d other.0 cp l node.1 cd other.1) [
            | inl high ↦ omega (arith, high, e)
            | inr low ↦ omega (arith, low.1, e)
          ]
      | inr g ↦ let b = below_base d cd in omega (arith, b, e, g)
    ];
    lies = λ d node c e.
        let b = block_at d node c e in (
          b.1.number,
          λ i low high.
              subst (λ (l : Layout). InSegment l b.1.number i) same_layout (occupied_in s d.to b.0 sound b.1 i low (let f = b.2 in omega (arith, f, high))),
        );
    alone = λ d node q c e h. alone d node q c e (settled_cases base moves places q h);
    spared = λ p node d cp l t e cd.
        let other = node_at (old_place d) (taken d cd).0 in
        elim (spared p node d other.0 cp l e cd other.1) [
          | inl high ↦ inl (omega (arith, high))
          | inr low ↦ inr low.0
        ];
    named = λ d c. let node = node_at (old_place d) (taken d c).0 in (writes.moved d (header_of node.0) c (header_at d node.0 c node.1)).1;
    still_named = λ p c l. unchanged p 1 c l (omega arith);
    copied = λ d node c t e. (writes.moved d (header_of node) c (header_at d node c e)).0;
    changed = keeps;
    between = between;
  }
