-- After objects moved, the words still represent the world: each part of the claim follows from its part before.
use Rattle.std.specs.Prelude.{◌≡◌, ◌<◌, ◌≤◌, ◌+◌, ◌*◌, ◌∷◌, ◌⊎◌}
use Rattle.nmgc_heap_spec.specs.laws.Vocabulary.{ℕ, List, [], length, map, inl, inr, refl, sym, ap, subst, ◌∙◌, arith, Some, None, Contains, filter, nat_lt, IsSome, ltb-true, lt-ltb, cases_lt, slice_get_within, get_or-map, All-contains, Contains-append_left, Contains-append_right, Contains-append_cases, Name, Value, Nil, Number, Ref, Node, Weak, World, node_of, held_by, IsKnown, IsNodeOf, IsWorld, contains_head, contains_tail, at_some, is_some_of, contains_read, map_contains, filter_contains, contains_filter, contains_map, header_word, InNursery, nursery_place, Layout, HEADER_WORDS, Slot, holds, unset, unspecified, header_of, slots_of, free_slots, IsTracked, Place, AllMean, ListMeans, Fills, HasSlots, LiesWell, NoNode, IsNamed, IsObject, IsPlaced, Represents, Moved, Moves, StillSpoken, Copies, KeepsObject, new_place, old_place, settled, slice_index}
use Rattle.nmgc_heap_spec.specs.laws.{Slots.slot_count, Slots.free_count, Slots.free_held, Slots.strong_held, Tracking.slot_tracked, Tracking.tracked_more}

-- the origin of a place after the moves
pub settled_cases : (base : ℕ) (moves : List Moved) (places : List Place) (q : Place) → Contains (settled base moves places) q →
    ((d : Moved) × Contains moves d × (q ≡ new_place d)) ⊎ (Contains places q × (q.at < base))
settled_cases base moves places q c = elim (Contains-append_cases (map new_place moves) (filter (λ p. nat_lt p.at base) places) q c) [
  | inl n ↦ inl (map_contains new_place moves q n)
  | inr o ↦ let f = filter_contains (λ p. nat_lt p.at base) places q o in inr (f.0, ltb-true q.at base f.1)
]

-- a place below the base stays, and a new place is added
pub settled_stays : (base : ℕ) (moves : List Moved) (places : List Place) (p : Place) → Contains places p → p.at < base → Contains (settled base moves places) p
settled_stays base moves places p c l = Contains-append_right (map new_place moves) (filter (λ q. nat_lt q.at base) places) p (contains_filter (λ q.
    nat_lt q.at base) places p c (lt-ltb p.at base l))

pub settled_comes : (base : ℕ) (moves : List Moved) (places : List Place) (d : Moved) → Contains moves d → Contains (settled base moves places) (new_place d)
settled_comes base moves places d c = Contains-append_left (map new_place moves) (filter (λ q.
    nat_lt q.at base) places) (new_place d) (contains_map new_place moves d c)

module _ (layout : Layout) (base : ℕ) (later earlier : List World) (K : Name → Node →
    Type 0) (places : List Place) (w : World) (moves : List Moved) (forward : ℕ → ℕ) (old new : List ℕ)
    (world : IsWorld w)
    (spoken : StillSpoken base later earlier places w)
    (emptied : base ≡ nursery_place layout 0)
    (r : Represents layout earlier K places w old)
    (m : Moves layout base later places w moves forward old new) where
  stays_in : (p : Place) → Contains places p → p.at < base → Contains (settled base moves places) p
  stays_in = settled_stays base moves places

  comes_in : (d : Moved) → Contains moves d → Contains (settled base moves places) (new_place d)
  comes_in = settled_comes base moves places

  after_cases : (q : Place) → Contains (settled base moves places) q → ((d : Moved) × Contains moves d × (q ≡ new_place d)) ⊎
      (Contains places q × (q.at < base))
  after_cases = settled_cases base moves places

  -- a name still has its place if it lay outside the emptied part, or is tracked
  goes : (n : Name) (at : ℕ) → Contains places (record { at = at; name = n }) → (at < base) ⊎ IsTracked w later n → (to : ℕ) ×
      (forward (2 * at) ≡ 2 * to) × Contains (settled base moves places) (record { at = to; name = n })
  goes n at c s = elim (cases_lt at base) [
    | inl l ↦ (at, m.forwards.stays at l, stays_in (record { at = at; name = n }) c l)
    | inr g ↦ elim s [
      | inl l ↦ absurd (omega arith)
      | inr t ↦
          let d = m.all (record { at = at; name = n }) c g t in
          let e : at ≡ d.0.from = ap (λ (x : Place). x.at) d.2 in
          let f : n ≡ d.0.name = ap (λ (x : Place). x.name) d.2 in (
            d.0.to,
            ap (λ (k : ℕ). forward (2 * k)) e ∙ m.forwards.goes d.0 d.1,
            subst (λ (x : Name). Contains (settled base moves places) (record { at = d.0.to; name = x })) (sym f) (comes_in d.0 d.1),
          )
    ]
  ]

  -- each reference of the slots is to such a name
  abbrev IsKnownSlot : Slot → Type 0
  IsKnownSlot slot = (n : Name) → slot ≡ holds (Ref n) → (at : ℕ) → Contains places (record { at = at; name = n }) → (at < base) ⊎ IsTracked w later n

  fills_after : (word : ℕ) (slot : Slot) → IsKnownSlot slot → Fills (Contains places) word slot → Fills (Contains (settled base moves places)) (forward word) slot
  fills_after word (holds Nil) is_known f = ap forward f ∙ m.forwards.nil
  fills_after word (holds (Number n)) is_known f = ap forward f ∙ m.forwards.number n
  fills_after word (holds (Ref n)) is_known f =
      let g = goes n f.0 f.2 (is_known n refl f.0 f.2) in
      (g.0, ap forward f.1 ∙ g.1, g.2)
  fills_after word unset is_known f = ap forward f ∙ m.forwards.unset
  fills_after word unspecified is_known f = tt

  slots_after : (from to count : ℕ) (slots : List Slot) → length slots ≤ count → Copies forward old new from to count →
      ((slot : Slot) → Contains slots slot → IsKnownSlot slot) → HasSlots (Contains places) old (from + HEADER_WORDS) slots →
      HasSlots (Contains (settled base moves places)) new (to + HEADER_WORDS) slots
  slots_after from to count slots few copies is_known has i slot e =
      let within : i < count = omega (arith, slice_get_within slots i slot e) in
      rw (copies.fields i within) (fills_after (slice_index old (from + HEADER_WORDS + i)) slot (is_known slot (contains_read slots i slot e)) (has i slot e))

  sized : (name : Name) (node : Node) → node_of w name ≡ Some node → length (slots_of node) ≤ (header_of node).fields
  sized name node e =
      let of = at_some (node_of w name) node (IsNodeOf w) e (world.nodes name) in
      let c = slot_count node of.sized in
      omega (arith, c)

  -- the fields of a tracked object, at its new place
  fields_after : (name : Name) (node : Node) (from to : ℕ) → IsTracked w later name → node_of w name ≡ Some node →
      Copies forward old new from to (header_of node).fields → HasSlots (Contains places) old (from + HEADER_WORDS) (slots_of node) →
      HasSlots (Contains (settled base moves places)) new (to + HEADER_WORDS) (slots_of node)
  fields_after name node from to t e copies has =
      slots_after from to (header_of node).fields (slots_of node) (sized name node e) copies
      (λ slot c n s at there. inr (slot_tracked w later name node n t e (subst (λ (x : Slot). Contains (slots_of node) x) s c)))
      has

  -- the free variables of a node in an earlier world refer to objects outside the emptied part
  last_free_count : (e : World) (before : Node) (name : Name) → Contains later e → node_of e name ≡ Some before → (slot : Slot) →
      Contains (free_slots before) slot → (n : Name) → slot ≡ holds (Ref n) → (at : ℕ) → Contains places (record { at = at; name = n }) → at < base
  last_free_count e before name c is slot d n s at there =
      let of = at_some (node_of e name) before (IsNodeOf e) is ((spoken.past e c).world.nodes name) in
      let held = strong_held before (Ref n) (free_held before (Ref n) (subst (λ (x : Slot). Contains (free_slots before) x) s d)) in
      let known : IsSome (node_of e n) = All-contains (IsKnown e) (held_by before) (Ref n) of.known held in
      spoken.outside e (record { at = at; name = n }) c there known

  fills_same : (word : ℕ) (slot : Slot) → ((n : Name) → slot ≡ holds (Ref n) → (at : ℕ) → Contains places (record { at = at; name = n }) →
      at < base) → Fills (Contains places) word slot → Fills (Contains (settled base moves places)) word slot
  fills_same word (holds Nil) is_known f = f
  fills_same word (holds (Number n)) is_known f = f
  fills_same word (holds (Ref n)) is_known f = (f.0, f.1, stays_in (record { at = f.0; name = n }) f.2 (is_known n refl f.0 f.2))
  fills_same word unset is_known f = f
  fills_same word unspecified is_known f = tt

  -- the fields of a tracked object that stays
  fields_kept : (name : Name) (node : Node) (at : ℕ) → IsTracked w later name → node_of w name ≡ Some node →
      KeepsObject base places forward old new at node → HasSlots (Contains places) old (at + HEADER_WORDS) (slots_of node) →
      HasSlots (Contains (settled base moves places)) new (at + HEADER_WORDS) (slots_of node)
  fields_kept name node at t is keeps has i slot e =
      let few = sized name node is in
      let within : i < (header_of node).fields = omega (arith, few, slice_get_within (slots_of node) i slot e) in
      elim (keeps.fields i within) [
        | inl f ↦ rw f (fills_after (slice_index old (at + HEADER_WORDS + i)) slot (λ n s from there.
            inr (slot_tracked w later name node n t is (rw s at (contains_read (slots_of node) i slot e)))) (has i slot e))
        | inr f ↦ rw f.0 (fills_same (slice_index old (at + HEADER_WORDS + i)) slot (λ n s from there. f.1 (record { at = from; name = n }) (e ∙
            ap Some s) there) (has i slot e))
      ]

  free_after : (name : Name) (node : Node) (at : ℕ) → node_of w name ≡ Some node → KeepsObject base places forward old new at node →
      ((e : World) (before : Node) → Contains earlier e → node_of e name ≡ Some before →
      HasSlots (Contains places) old (at + HEADER_WORDS) (free_slots before)) → (e : World) (before : Node) → Contains later e →
      node_of e name ≡ Some before → HasSlots (Contains (settled base moves places)) new (at + HEADER_WORDS) (free_slots before)
  free_after name node at is keeps free e before c was i slot r =
      let same = (spoken.past e c).headers name before node was is in
      let few = free_count before in
      let fits : length (free_slots before) ≤ (header_of node).fields = subst (λ h. length (free_slots before) ≤ h.fields) same few in
      let within : i < (header_of node).fields = omega (arith, fits, slice_get_within (free_slots before) i slot r) in
      let there = contains_read (free_slots before) i slot r in
      let has = free e before (spoken.fewer e c) was i slot r in
      elim (keeps.fields i within) [
        | inl f ↦ rw f (fills_after (slice_index old (at + HEADER_WORDS + i)) slot (λ n s from h.
            inl (last_free_count e before name c was slot there n s from h)) has)
        | inr f ↦ rw f.0 (fills_same (slice_index old (at + HEADER_WORDS + i)) slot (last_free_count e before name c was slot there) has)
      ]

  -- a tracked object that stays at its address
  stayed : (name : Name) (node : Node) → IsTracked w later name → node_of w name ≡ Some node →
      (p : IsPlaced layout earlier K places old name node) → p.at < base → IsPlaced layout later NoNode (settled base moves places) new name node
  stayed name node t is p l =
      let q : Place = record { at = p.at; name = name } in
      let keeps = m.changed q node p.there l t is in
      record {
        at = p.at;
        there = stays_in q p.there l;
        object = record {
          header = keeps.header ∙ p.object.header;
          valid = p.object.valid;
          lies = p.object.lies;
          alone = λ o c. elim (after_cases o c) [
            | inl d ↦ rw d.2 (m.spared q node d.0 p.there l t is d.1)
            | inr k ↦ p.object.alone o k.0
          ];
        };
        fields = fields_kept name node p.at t is keeps p.fields;
        free = free_after name node p.at is keeps p.free;
        kept = λ before k. absurd k;
      }

  -- a tracked object that moves
  moved : (name : Name) (node : Node) → IsTracked w later name → node_of w name ≡ Some node → (p : IsPlaced layout earlier K places old name node) →
      base ≤ p.at → IsPlaced layout later NoNode (settled base moves places) new name node
  moved name node t is p g =
      let d = m.all (record { at = p.at; name = name }) p.there g t in
      let from : p.at ≡ d.0.from = ap (λ (x : Place). x.at) d.2 in
      let named : name ≡ d.0.name = ap (λ (x : Place). x.name) d.2 in
      let is' : node_of w d.0.name ≡ Some node = subst (λ (x : Name). node_of w x ≡ Some node) named is in
      let t' : IsTracked w later d.0.name = subst (λ (x : Name). IsTracked w later x) named t in
      let copies = m.copied d.0 node d.1 t' is' in
      let fields = subst (λ (k : ℕ). HasSlots (Contains places) old (k + HEADER_WORDS) (slots_of node)) from p.fields in
      let header = subst (λ (k : ℕ). slice_index old k ≡ header_word (header_of node)) from p.object.header in
      record {
        at = d.0.to;
        there = subst (λ (x : Name). Contains (settled base moves places) (record { at = d.0.to; name = x })) (sym named) (comes_in d.0 d.1);
        object = record {
          header = copies.header ∙ header;
          valid = p.object.valid;
          lies = elim p.object.lies [
            | inl g1 ↦ absurd (omega (arith, g1.1, g, emptied))
            | inr l ↦ inr (l.0, inl (m.lies d.0 node d.1 is'))
          ];
          alone = λ o c. m.alone d.0 node o d.1 is' c;
        };
        fields = fields_after name node d.0.from d.0.to t is copies fields;
        free = λ e before c was.
            let known : IsSome (node_of e name) = rw was refl in
            let l = spoken.outside e (record { at = p.at; name = name }) c p.there known in
            absurd (omega (arith, l, g));
        kept = λ before k. absurd k;
      }

  one_after : (p q : Place) → Contains (settled base moves places) p → Contains (settled base moves places) q → (p.name ≡ q.name) ⊎ (p.at ≡ q.at) → p ≡ q
  one_after p q c d same = elim (after_cases p c) [
    | inl a ↦ elim (after_cases q d) [
      | inl b ↦
          let e : a.0 ≡ b.0 = elim same [
            | inl n ↦
                let f = r.one (old_place a.0) (old_place b.0) (m.taken a.0 a.1).0 (m.taken b.0 b.1).0
                (inl (let g : a.0.name ≡ b.0.name = sym (ap (λ (x : Place). x.name) a.2) ∙ n ∙ ap (λ (x : Place). x.name) b.2 in g)) in
                m.once a.0 b.0 a.1 b.1 (inl (let g : a.0.from ≡ b.0.from = ap (λ (x : Place). x.at) f in g))
            | inr n ↦ m.once a.0 b.0 a.1 b.1 (inr (let g : a.0.to ≡ b.0.to = sym (ap (λ (x : Place). x.at) a.2) ∙ n ∙ ap (λ (x : Place). x.at) b.2 in g))
          ] in
          a.2 ∙ ap new_place e ∙ sym b.2
      | inr b ↦ absurd (elim same [
        | inl n ↦
            let f = r.one (old_place a.0) q (m.taken a.0 a.1).0 b.0 (inl (let g : a.0.name ≡ q.name = sym (ap (λ (x : Place). x.name) a.2) ∙ n in g)) in
            let g : a.0.from ≡ q.at = ap (λ (x : Place). x.at) f in
            omega (arith, (m.taken a.0 a.1).1, b.1)
        | inr n ↦ m.apart a.0 q a.1 b.0 (let g : a.0.to ≡ q.at = sym (ap (λ (x : Place). x.at) a.2) ∙ n in g)
      ])
    ]
    | inr a ↦ elim (after_cases q d) [
      | inl b ↦ absurd (elim same [
        | inl n ↦
            let f = r.one (old_place b.0) p (m.taken b.0 b.1).0 a.0 (inl (let g : b.0.name ≡ p.name = sym (ap (λ (x : Place). x.name) b.2) ∙ sym n in g)) in
            let g : b.0.from ≡ p.at = ap (λ (x : Place). x.at) f in
            omega (arith, (m.taken b.0 b.1).1, a.1)
        | inr n ↦ m.apart b.0 p b.1 a.0 (let g : b.0.to ≡ p.at = sym (ap (λ (x : Place). x.at) b.2) ∙ sym n in g)
      ])
      | inr b ↦ r.one p q a.0 b.0 same
    ]
  ]

  named_after : (p : Place) → Contains (settled base moves places) p → IsNamed layout w new p
  named_after p c = elim (after_cases p c) [
    | inl d ↦
        let before = r.named (old_place d.0) (m.taken d.0 d.1).0 in
        let known = is_some_of (node_of w d.0.name) before.known in
        let lies = m.lies d.0 known.0 d.1 known.1 in
        let there : LiesWell layout (new_place d.0) HEADER_WORDS = elim before.lies [
          | inl g ↦ absurd (omega (arith, g.1, (m.taken d.0 d.1).1, emptied))
          | inr l ↦ inr (l.0, inl (lies.0, λ i low high. lies.1 i low (omega arith)))
        ] in
        let named : IsNamed layout w new (new_place d.0) = record {
          known = before.known;
          valid = before.valid;
          name = m.named d.0 d.1 ∙
              before.name;
          lies = there;
        } in
        subst (λ (x : Place). IsNamed layout w new x) (sym d.2) named
    | inr k ↦
        let before = r.named p k.0 in
        record { known = before.known; valid = before.valid; name = m.still_named p k.0 k.1 ∙ before.name; lies = before.lies }
  ]

  -- no place is left in a nursery
  none_born : (p : Place) (node : Node) → Contains (settled base moves places) p → InNursery layout p.name.maker p.at →
      node_of w p.name ≡ Some node → IsObject layout (settled base moves places) new p node × (node ≡ Weak None → slice_index new (p.at + HEADER_WORDS + 1) ≡ 0)
  none_born p node c n is =
      let l : p.at < base = elim (after_cases p c) [
        | inl d ↦ rw d.2 (m.taken d.0 d.1).2
        | inr k ↦ k.1
      ] in
      absurd (omega (arith, n.from, emptied, l))

  pub represents_moved : Represents layout later NoNode (settled base moves places) w new
  represents_moved = record {
    total = m.total ∙ r.total;
    one = one_after;
    named = named_after;
    tracked = λ name node t is.
        let p = r.tracked name node (tracked_more w later earlier (λ e c. contains_tail w earlier e (spoken.fewer e c)) name t) is in
        elim (cases_lt p.at base) [
          | inl l ↦ stayed name node t is p l
          | inr g ↦ moved name node t is p g
        ];
    born = none_born;
    zeros = λ at nobody. m.between at nobody ∙ r.zeros at nobody;
  }

  -- forwarded words still mean values whose references all go to such places
  pub all_mean_after : (own : List ℕ) (from : ℕ) (values : List Value) → ((n : Name) → Contains values (Ref n) → IsTracked w later n) →
      from + length values ≤ length own → AllMean (Contains places) own from values →
      AllMean (Contains (settled base moves places)) (map forward own) from values
  all_mean_after own from values is_known within mean i v e =
      let lt = slice_get_within values i v e in
      let in' : from + i < length own = omega (arith, lt, within) in
      let word : slice_index (map forward own) (from + i) ≡ forward (slice_index own (from + i)) = get_or-map forward own (from + i) 0 0 in' in
      rw word (fills_after (slice_index own (from + i)) (holds v) (λ n s at there.
      inr (is_known n (subst (λ (x : Value). Contains values x) (let f : v ≡ Ref n = cc in f) (contains_read values i v e)))) (mean i v e))

  pub list_means_after : (own : List ℕ) (values : List Value) → ((n : Name) → Contains values (Ref n) → IsTracked w later n) →
      ListMeans (Contains places) own values → ListMeans (Contains (settled base moves places)) (map forward own) values
  list_means_after [] [] is_known mean = tt
  list_means_after [] (v ∷ vs) is_known mean = absurd mean
  list_means_after (o ∷ own) [] is_known mean = absurd mean
  list_means_after (o ∷ own) (v ∷ vs) is_known mean = (
    fills_after o (holds v) (λ n s at there. inr (is_known n (let e : v ≡ Ref n = cc in subst (λ (u : Value). Contains (v ∷ vs) u) e (contains_head v vs)))) mean.0,
    list_means_after own vs (λ n c. is_known n (contains_tail v vs (Ref n) c)) mean.1,
  )
