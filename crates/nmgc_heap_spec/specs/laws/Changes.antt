-- Changes after which the words still represent the world: of unspecified words alone, or of one field.
use Rattle.std.specs.Prelude.{◌≡◌, ◌≢◌, ◌⊎◌, ◌+◌, ◌-◌, ◌*◌, ◌<◌, ◌≤◌}
use Rattle.nmgc_heap_spec.specs.laws.Vocabulary.{inl, inr, ℕ, List, set, refl, sym, ap, subst, ◌∙◌, arith, slice_index, Some, None, get_or-set_same, get_or-set_other, length-set, mul-le-mul_right, slice_get, Contains, IsSome, cases_eq, slice_get_within, Name, Node, Weak, World, node_of, IsWorld, IsNodeOf, contains_cases, at_some, name_cases, header_word, IsHeader, word_total, Header, Layout, HEADER_WORDS, Slot, unset, unspecified, header_of, size_of, slots_of, fixed_slots, free_slots, MayChange, Place, Fills, HasSlots, LiesWell, IsBetween, IsObject, IsPlaced, Represents, AreEarlier, HaveHeaders, IsSameHeap, Remembers, AgreeWhereKnown, IsUnborn, ChangesField, DropsPlaces, AddsPlaces}
use Rattle.nmgc_heap_spec.specs.laws.{Slots.slot_count, Slots.fixed_count, Slots.free_count, Slots.free_fixed, Slots.fixed_stays, Slots.fixed_own, Slots.slots_in, Slots.slots_more, Tracking.tracked_more, Tracking.slot_tracked, Meanings.placed_at}

-- an object lies within the words
pub lies_within : (layout : Layout) (p : Place) (size : ℕ) → 1 ≤ size → LiesWell layout p size → p.at + size ≤ word_total layout
lies_within layout p size some (inl g) = omega (arith, g.2)
lies_within layout p size some (inr (own, inl s)) =
    let h = s.1 (p.at + size - 1) (omega arith) (omega arith) in
    let up : (s.0 + 1) * layout.words ≤ layout.segments * layout.words = let e : s.0 + 1 ≤ layout.segments = let x = h.exists in omega (arith, x) in
    mul-le-mul_right layout.words e in
    omega (arith, h.before, up)
lies_within layout p size some (inr (own, inr n)) =
    let h = n.1 (p.at + size - 1) (omega arith) (omega arith) in
    let up : (p.name.maker + 1) * layout.nursery ≤ layout.mutators * layout.nursery =
    let e : p.name.maker + 1 ≤ layout.mutators = let x = h.exists in omega (arith, x) in mul-le-mul_right layout.nursery e in
    omega (arith, h.before, up)

-- a word beside g is no word of an object
pub not_between : (layout : Layout) (p : Place) (size i : ℕ) → LiesWell layout p size → p.at ≤ i → i < p.at + size → IsBetween i → ⊥
not_between layout p size i (inl g) from before (inl low) = omega (arith, g.1, from, low)
not_between layout p size i (inl g) from before (inr high) = omega (arith, g.2, before, high.0)
not_between layout p size i (inr (own, inl s)) from before (inl low) = let h = (s.1 i from before).from in omega (arith, h, low)
not_between layout p size i (inr (own, inl s)) from before (inr high) = let h = (s.1 i from before).from in omega (arith, h, high.1)
not_between layout p size i (inr (own, inr n)) from before (inl low) = let h = (n.1 i from before).from in omega (arith, h, low)
not_between layout p size i (inr (own, inr n)) from before (inr high) = let h = (n.1 i from before).from in omega (arith, h, high.1)

-- another world with the same nodes, as far as the words specify them
pub same_heap : (layout : Layout) (earlier : List World) (K : Name → Node → Type 0) (places : List Place) (w v : World) (words : List ℕ) →
    IsSameHeap earlier places w v → Represents layout earlier K places w words → Represents layout earlier K places v words
same_heap layout earlier K places w v words same r = record {
  total = r.total;
  one = r.one;
  named = λ p c. let h = r.named p c in record { known = subst (λ y. IsSome y) (sym (same.nodes p c)) h.known; valid = h.valid; name = h.name; lies = h.lies };
  tracked = λ name node t is. let s = same.tracked name node t is in r.tracked name node s.0 s.1;
  born = λ p node c n is. r.born p node c n (sym (same.nodes p c) ∙ is);
  zeros = r.zeros;
}

-- fewer earlier worlds and nodes, or the world itself and its nodes among them
pub remembered : (layout : Layout) (earlier later : List World) (K L : Name → Node → Type 0) (places : List Place) (w : World) (words : List ℕ) →
    Remembers w earlier later K L → Represents layout earlier K places w words → Represents layout later L places w words
remembered layout earlier later K L places w words more r = record {
  total = r.total;
  one = r.one;
  named = r.named;
  tracked = λ name node t is.
      let p = r.tracked name node (tracked_more w later earlier more.worlds name t) is in
      let own = own_fixed p in
      record {
        at = p.at;
        there = p.there;
        object = p.object;
        fields = p.fields;
        free = λ e before c was. elim (contains_cases w earlier e (more.worlds e c)) [
          | inl s ↦
              let now : node_of w name ≡ Some before = ap (λ (x : World). node_of x name) s ∙ was in
              let same : node ≡ before = let z : Some node ≡ Some before = sym is ∙ now in cc in
              rw (← same) (λ i slot f.
              own i slot (free_fixed node i slot f))
          | inr d ↦ p.free e before d was
        ];
        kept = λ before k. elim (more.nodes name before k) [
          | inl d ↦ p.kept before d
          | inr now ↦
              let same : node ≡ before = let z : Some node ≡ Some before = sym is ∙ now in cc in
              subst (λ (x : Node). HasSlots (Contains places) words (p.at + HEADER_WORDS) (fixed_slots x)) same own
        ];
      };
  born = r.born;
  zeros = r.zeros;
}
  where
    own_fixed : {name : Name} {node : Node} (p : IsPlaced layout earlier K places words name node) →
        HasSlots (Contains places) words (p.at + HEADER_WORDS) (fixed_slots node)
    own_fixed {name} {node} p i slot e = elim (fixed_own node i slot e) [
      | inl u ↦ subst (λ (s : Slot). Fills (Contains places) (slice_index words (p.at + HEADER_WORDS + i)) s) (sym u) tt
      | inr f ↦ p.fields i slot f
    ]

-- facts about the nodes of a world, and of earlier worlds
module _ (earlier : List World) (K : Name → Node →
    Type 0) (w : World) (world : IsWorld w) (past : AreEarlier earlier w) (heads : HaveHeaders K w) (name : Name) (node : Node)
    (is : node_of w name ≡ Some node) where
  pub within_slots : (i : ℕ) (slot : Slot) → slice_get (slots_of node) i ≡ Some slot → i < (header_of node).fields
  within_slots i slot e =
      let of = at_some (node_of w name) node (IsNodeOf w) is (world.nodes name) in
      let c = slot_count node of.sized in
      omega (arith, c, slice_get_within (slots_of node) i slot e)

  pub within_free : (e : World) (before : Node) → Contains earlier e → node_of e name ≡ Some before → (i : ℕ) (slot : Slot) →
      slice_get (free_slots before) i ≡ Some slot → i < (header_of node).fields
  within_free e before c was i slot f =
      let n : (header_of before).fields ≡ (header_of node).fields = ap (λ (h : Header). h.fields) ((past e c).headers name before node was is) in
      omega (arith, n, free_count before, slice_get_within (free_slots before) i slot f)

  pub within_fixed : (before : Node) → K name before → (i : ℕ) (slot : Slot) → slice_get (fixed_slots before) i ≡ Some slot → i < (header_of node).fields
  within_fixed before k i slot f =
      let n : (header_of before).fields ≡ (header_of node).fields = ap (λ (h : Header). h.fields) (heads name before node k is) in
      omega (arith, n, fixed_count before, slice_get_within (fixed_slots before) i slot f)

-- words that agree wherever they are specified
module _ (layout : Layout) (earlier : List World) (K : Name → Node →
    Type 0) (places : List Place) (w : World) (words us : List ℕ) (world : IsWorld w) (past : AreEarlier earlier w) (heads : HaveHeaders K w) where
  -- an object stays if none of its words changed, also with other places if none of them is among its words
  pub still_object : (others : List Place) (p : Place) (node : Node) →
      ((q : Place) → Contains others q → (q.at ≤ p.at) ⊎ (p.at + size_of node ≤ q.at)) → slice_index us p.at ≡ slice_index words p.at →
      IsObject layout places words p node → IsObject layout others us p node
  still_object others p node alone same o = record { header = same ∙ o.header; valid = o.valid; lies = o.lies; alone = alone }

  pub still_placed : (others : List Place) (name : Name) (node : Node) → node_of w name ≡ Some node →
      ((q : Place) → Contains places q → Contains others q) → (p : IsPlaced layout earlier K places words name node) →
      ((q : Place) → Contains others q → (q.at ≤ p.at) ⊎ (p.at + size_of node ≤ q.at)) →
      ((i : ℕ) → p.at ≤ i → i < p.at + size_of node → slice_index us i ≡ slice_index words i) → IsPlaced layout earlier K others us name node
  still_placed others name node is more p alone same = record {
    at = p.at;
    there = more (record { at = p.at; name = name }) p.there;
    object = still_object others (record { at = p.at; name = name }) node alone (same p.at (omega arith) (omega arith)) p.object;
    fields = slots_more (Contains places) (Contains others) more words us (p.at + HEADER_WORDS) (slots_of node) (λ i slot e.
        inr (let l = within_slots earlier K w world past heads name node is i slot e in same (p.at + HEADER_WORDS + i) (omega arith) (omega arith))) p.fields;
    free = λ e before c was. slots_more (Contains places) (Contains others) more words us (p.at + HEADER_WORDS) (free_slots before) (λ i slot f.
        inr (let l = within_free earlier K w world past heads name node is e before c was i slot f in
        same (p.at + HEADER_WORDS + i) (omega arith) (omega arith))) (p.free e before c was);
    kept = λ before k. slots_more (Contains places) (Contains others) more words us (p.at + HEADER_WORDS) (fixed_slots before) (λ i slot f.
        inr (let l = within_fixed earlier K w world past heads name node is before k i slot f in
        same (p.at + HEADER_WORDS + i) (omega arith) (omega arith))) (p.kept before k);
  }

  pub agreeing : AgreeWhereKnown layout earlier places w words us → Represents layout earlier K places w words → Represents layout earlier K places w us
  agreeing agree r = record {
    total = agree.total ∙ r.total;
    one = r.one;
    named = λ p c. let h = r.named p c in record { known = h.known; valid = h.valid; name = agree.names p c ∙ h.name; lies = h.lies };
    tracked = λ name node t is.
        let p = r.tracked name node t is in
        still_placed places name node is (λ q c. c) p p.object.alone (λ i lo hi.
        agree.objects (record { at = p.at; name = name }) node i p.there (inl t) is lo hi);
    born = λ p node c n is.
        let h = r.born p node c n is in
        let same : (i : ℕ) → p.at ≤ i → i < p.at + size_of node →
        slice_index us i ≡ slice_index words i = λ i lo hi. agree.objects p node i c (inr n) is lo hi in (
          still_object places p node h.0.alone (same p.at (omega arith) (omega arith)) h.0,
          λ dead. let three : (header_of node).fields ≡ 3 = ap (λ (x : Node). (header_of x).fields) dead in
              same (p.at + HEADER_WORDS + 1) (omega arith) (omega arith) ∙ h.1 dead,
        );
    zeros = λ at nobody. agree.between at nobody ∙ r.zeros at nobody;
  }

-- a word of no specified object changes
pub unborn_stored : (layout : Layout) (earlier : List World) (K : Name → Node →
    Type 0) (places : List Place) (w : World) (words : List ℕ) (i word : ℕ) → IsWorld w → AreEarlier earlier w → HaveHeaders K w →
    IsUnborn layout earlier places w i → Represents layout earlier K places w words → Represents layout earlier K places w (set words i word)
unborn_stored layout earlier K places w words i word world past heads free r =
    agreeing layout earlier K places w words (set words i word) world past heads
    (record {
      total = length-set words i word;
      names = λ p c. get_or-set_other words i (p.at + 1) word 0 (λ e. free.names p c (sym e));
      objects = λ p node j c t is lo hi. get_or-set_other words i j word 0 (λ e.
          elim (free.objects p node c t is) [ inl l ↦ omega arith | inr l ↦ omega arith ]);
      between = λ at nobody. get_or-set_other words i at word 0 (λ e. free.owned (subst IsBetween e nobody));
    })
    r

-- places of untracked names go
pub places_dropped : (layout : Layout) (earlier : List World) (K : Name → Node → Type 0) (places fewer : List Place) (w : World) (words : List ℕ) →
    DropsPlaces earlier K places fewer w → Represents layout earlier K places w words → Represents layout earlier K fewer w words
places_dropped layout earlier K places fewer w words drops r = record {
  total = r.total;
  one = λ p q c d e. r.one p q (drops.old p c) (drops.old q d) e;
  named = λ p c. r.named p (drops.old p c);
  tracked = λ name node t is.
      let p = r.tracked name node t is in
      record {
        at = p.at;
        there = drops.tracked (record { at = p.at; name = name }) p.there t;
        object = record { header = p.object.header; valid = p.object.valid; lies = p.object.lies; alone = λ q c. p.object.alone q (drops.old q c) };
        fields = slots_in (Contains places) (Contains fewer) words words (p.at + HEADER_WORDS) (slots_of node) (λ n at c there.
            drops.tracked (record { at = at; name = n }) there (slot_tracked w earlier name node n t is c)) (λ i slot e. inr refl) p.fields;
        free = λ e before c was. slots_in (Contains places) (Contains fewer) words words (p.at + HEADER_WORDS) (free_slots before) (λ n at h there.
            drops.tracked (record { at = at; name = n }) there (drops.free e name n before c t was h)) (λ i slot f. inr refl) (p.free e before c was);
        kept = λ before k. slots_in (Contains places) (Contains fewer) words words (p.at + HEADER_WORDS) (fixed_slots before) (λ n at h there.
            drops.tracked (record { at = at; name = n }) there (drops.kept name n before t k h)) (λ i slot f. inr refl) (p.kept before k);
      };
  born = λ p node c n is.
      let h = r.born p node (drops.old p c) n is in
      (record { header = h.0.header; valid = h.0.valid; lies = h.0.lies; alone = λ q d. h.0.alone q (drops.old q d) }, h.1);
  zeros = r.zeros;
}

pub places_added : (layout : Layout) (earlier : List World) (K : Name → Node → Type 0) (places more : List Place) (w : World) (words : List ℕ) →
    AddsPlaces layout earlier places more w words → Represents layout earlier K places w words → Represents layout earlier K more w words
places_added layout earlier K places more w words adds r = record {
  total = r.total;
  one = adds.one;
  named = adds.named;
  tracked = λ name node t is.
      let p = r.tracked name node t is in
      record {
        at = p.at;
        there = adds.old (record { at = p.at; name = name }) p.there;
        object = record {
          header = p.object.header;
          valid = p.object.valid;
          lies = p.object.lies;
          alone = λ q c. adds.alone (record { at = p.at; name = name }) q node p.there (inl t) is c;
        };
        fields = slots_more (Contains places) (Contains more) adds.old words words (p.at + HEADER_WORDS) (slots_of node) (λ i slot e. inr refl) p.fields;
        free = λ e before c was.
            slots_more (Contains places) (Contains more) adds.old words words (p.at + HEADER_WORDS) (free_slots before) (λ i slot f.
            inr refl) (p.free e before c was);
        kept = λ before k. slots_more (Contains places) (Contains more) adds.old words words (p.at + HEADER_WORDS) (fixed_slots before) (λ i slot f.
            inr refl) (p.kept before k);
      };
  born = adds.born;
  zeros = r.zeros;
}

-- one field of one object changes with its word
module _ (layout : Layout) (earlier : List World) (K : Name → Node →
    Type 0) (places : List Place) (w v : World) (words : List ℕ) (p : Place) (i word : ℕ) (node made : Node)
    (world : IsWorld w) (past : AreEarlier earlier w) (heads : HaveHeaders K w)
    (c : ChangesField earlier places w v p i word node made)
    (r : Represents layout earlier K places w words) where
  abbrev cell : ℕ
  cell = p.at + HEADER_WORDS + i

  abbrev us : List ℕ
  us = set words (p.at + HEADER_WORDS + i) word

  away : (j : ℕ) → j ≢ cell → slice_index us j ≡ slice_index words j
  away j ne = get_or-set_other words cell j word 0 ne

  mine : (q : IsPlaced layout earlier K places words p.name node) × (q.at ≡ p.at)
  mine = placed_at layout earlier K places w words r p.name node p.at c.is_tracked c.before c.there

  object : IsObject layout places words p node
  object = subst (λ (k : ℕ). IsObject layout places words (record { at = k; name = p.name }) node) mine.1 mine.0.object

  at_cell : slice_index us cell ≡ word
  at_cell =
      let l = lies_within layout p (size_of node) (omega arith) object.lies in
      let n = r.total in
      let lt = c.at_one.within in
      get_or-set_same words cell word 0 (omega arith)

  same_node : (n : Node) → node_of v p.name ≡ Some n → made ≡ n
  same_node n is = let z : Some made ≡ Some n = sym c.after ∙ is in cc

  -- no word of another object changed
  beyond : (q : Place) (n : Node) → Contains places q → q.name ≢ p.name → IsObject layout places words q n → (j : ℕ) → q.at ≤ j →
      j < q.at + size_of n → j ≢ cell
  beyond q n d ne o j lo hi e =
      let lt = c.at_one.within in
      elim (object.alone q d) [
        | inl le ↦ elim (o.alone p c.there) [
          | inl ge ↦ ne (ap (λ (x : Place). x.name) (r.one q p d c.there (inr (omega arith))))
          | inr far ↦ omega arith
        ]
        | inr far ↦ omega arith
      ]

  name_away : (q : Place) → Contains places q → q.at + 1 ≢ cell
  name_away q d e = let lt = c.at_one.within in elim (object.alone q d) [ inl le ↦ omega arith | inr far ↦ omega arith ]

  known : (n : Name) → IsSome (node_of w n) → IsSome (node_of v n)
  known n h = elim (name_cases n p.name) [
    | inl e ↦ subst (λ (m : Name). IsSome (node_of v m)) (sym e) (subst (λ y. IsSome y) (sym c.after) refl)
    | inr ne ↦ subst (λ y. IsSome y) (sym (c.others n ne)) h
  ]

  changed_object : IsObject layout places us p made
  changed_object = record {
    header = away p.at (λ e. omega arith) ∙ object.header ∙ ap header_word (sym c.at_one.header);
    valid = subst IsHeader (sym c.at_one.header) object.valid;
    lies = subst (λ (h : Header). LiesWell layout p (HEADER_WORDS + h.fields)) (sym c.at_one.header) object.lies;
    alone = rw c.at_one.header object.alone;
  }

  stays : (from : ℕ) → from ≡ p.at + HEADER_WORDS → (j : ℕ) → j ≢ i → slice_index us (from + j) ≡ slice_index words (from + j)
  stays from e j ne = away (from + j) (λ z. ne (omega arith))

  changed_fields : HasSlots (Contains places) us (p.at + HEADER_WORDS) (slots_of made)
  changed_fields j slot e = elim (cases_eq j i) [
    | inl same ↦
        let f : Fills (Contains places) word slot = c.field slot (subst (λ (k : ℕ). slice_get (slots_of made) k ≡ Some slot) same e) in
        rw same (rw at_cell f)
    | inr ne ↦ elim (c.at_one.rest j slot ne e) [
      | inl was ↦
          let before : HasSlots (Contains places) words (p.at + HEADER_WORDS) (slots_of node) =
          subst (λ (k : ℕ). HasSlots (Contains places) words (k + HEADER_WORDS) (slots_of node)) mine.1 mine.0.fields in
          subst (λ (k : ℕ). Fills (Contains places) k slot) (sym (stays (p.at + HEADER_WORDS) refl j ne)) (before j slot was)
      | inr u ↦ subst (λ (s : Slot). Fills (Contains places) (slice_index us (p.at + HEADER_WORDS + j)) s) (sym u) tt
    ]
  ]

  -- the permanent fields of earlier nodes are not the field that changed
  fixed_or_unspecified : (before : Node) → header_of before ≡ header_of node → (j : ℕ) (slot : Slot) → slice_get (fixed_slots before) j ≡ Some slot →
      (slot ≡ unspecified) ⊎ (slice_index us (mine.0.at + HEADER_WORDS + j) ≡ slice_index words (mine.0.at + HEADER_WORDS + j))
  fixed_or_unspecified before head j slot f = elim (cases_eq j i) [
    | inl same ↦
        let may : MayChange (header_of before).kind j = rw same (subst (λ (h : Header). MayChange h.kind i) (sym head) c.at_one.may) in
        inl (fixed_stays before j slot may f)
    | inr ne ↦ inr (stays (mine.0.at + HEADER_WORDS) (ap (λ (k : ℕ). k + HEADER_WORDS) mine.1) j ne)
  ]

  changed_placed : IsPlaced layout earlier K places us p.name made
  changed_placed = record {
    at = mine.0.at;
    there = mine.0.there;
    object = subst (λ (k : ℕ). IsObject layout places us (record { at = k; name = p.name }) made) (sym mine.1) changed_object;
    fields = subst (λ (k : ℕ). HasSlots (Contains places) us (k + HEADER_WORDS) (slots_of made)) (sym mine.1) changed_fields;
    free = λ e before d was. slots_more (Contains places) (Contains places) (λ q d.
        d) words us (mine.0.at + HEADER_WORDS) (free_slots before) (λ j slot f.
        fixed_or_unspecified before ((past e d).headers p.name before node was c.before) j slot (free_fixed before j slot f)) (mine.0.free e before d was);
    kept = λ before k. slots_more (Contains places) (Contains places) (λ q d.
        d) words us (mine.0.at + HEADER_WORDS) (fixed_slots before) (fixed_or_unspecified before (heads p.name before node k c.before)) (mine.0.kept before k);
  }

  -- the value word of a weak pointer that dies becomes 0
  dead_value : made ≡ Weak None → slice_index us (p.at + HEADER_WORDS + 1) ≡ 0
  dead_value dead =
      let head : header_of node ≡ header_of (Weak None) = sym c.at_one.header ∙ ap header_of dead in
      let one : i ≡ 1 = subst (λ (h : Header). MayChange h.kind i) head c.at_one.may in
      let unset_there : slice_get (slots_of made) i ≡ Some unset = cc (dead, one) in
      let z : word ≡ 0 = c.field unset unset_there in
      ap (λ (k : ℕ). slice_index us (p.at + HEADER_WORDS + k)) (sym one) ∙ at_cell ∙ z

  pub field_changed : Represents layout earlier K places v us
  field_changed = record {
    total = length-set words cell word ∙ r.total;
    one = r.one;
    named = λ q d. let h = r.named q d in record {
      known = known q.name h.known;
      valid = h.valid;
      name = away (q.at + 1) (name_away q d) ∙ h.name;
      lies = h.lies;
    };
    tracked = λ name n t is. elim (name_cases name p.name) [
      | inl e ↦
          let m : made ≡ n = same_node n (subst (λ (x : Name). node_of v x ≡ Some n) e is) in
          rw e (rw m at changed_placed)
      | inr ne ↦
          let was : node_of w name ≡ Some n = sym (c.others name ne) ∙ is in
          let q = r.tracked name n (c.nothing_new name t) was in
          still_placed layout earlier K places w words us world past heads places name n was (λ o d. d) q q.object.alone (λ j lo hi.
          away j (beyond (record { at = q.at; name = name }) n q.there ne q.object j lo hi))
    ];
    born = λ q n d young is. elim (name_cases q.name p.name) [
      | inl e ↦
          let same : p ≡ q = r.one p q c.there d (inl (sym e)) in
          let m : made ≡ n = same_node n (subst (λ (x : Name). node_of v x ≡ Some n) e is) in
          rw (← same) (subst (λ (x : Node). IsObject layout places us p x × (x ≡ Weak None → slice_index us (p.at + HEADER_WORDS + 1) ≡ 0)) m (changed_object, dead_value))
      | inr ne ↦
          let was : node_of w q.name ≡ Some n = sym (c.others q.name ne) ∙ is in
          let h = r.born q n d young was in (
            still_object layout earlier K places w words us world past heads places q n h.0.alone
                (away q.at (beyond q n d ne h.0 q.at (omega arith) (omega arith))) h.0,
            λ dead. let three : (header_of n).fields ≡ 3 = ap (λ (x : Node). (header_of x).fields) dead in
                away (q.at + HEADER_WORDS + 1) (beyond q n d ne h.0 (q.at + HEADER_WORDS + 1) (omega arith) (omega arith)) ∙ h.1 dead,
          )
    ];
    zeros = λ at nobody.
        let lt = c.at_one.within in
        away at (λ e. not_between layout p (size_of node) cell object.lies (omega arith) (omega arith) (subst IsBetween e nobody)) ∙ r.zeros at nobody;
  }
