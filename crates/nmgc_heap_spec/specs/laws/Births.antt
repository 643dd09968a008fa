-- A new object: its name and its fields are there already, its header is written, and there is one more place.
use Rattle.std.specs.Prelude.{◌≡◌, ◌≢◌, ◌⊎◌, ◌+◌, ◌<◌, ◌≤◌}
use Rattle.nmgc_heap_spec.specs.laws.Vocabulary.{inl, inr, ℕ, List, set, refl, sym, ap, subst, ◌∙◌, arith, slice_index, Some, None, get_or-set_same, get_or-set_other, length-set, slice_get, Contains, IsSome, Name, Node, Weak, World, node_of, IsWorld, name_cases, header_word, Layout, HEADER_WORDS, Slot, unset, header_of, size_of, slots_of, fixed_slots, IsTracked, Place, Fills, HasSlots, LiesWell, IsBetween, IsNamed, IsObject, IsPlaced, Represents, AreEarlier, HaveHeaders, IsSpokenOf, IsBorn}
use Rattle.nmgc_heap_spec.specs.laws.{Slots.fixed_own, Slots.slots_more, Changes.lies_within, Changes.not_between, Changes.still_object, Changes.still_placed}

-- fewer words lie well too
pub lies_less : (layout : Layout) (p : Place) (size n : ℕ) → n ≤ size → LiesWell layout p size → LiesWell layout p n
lies_less layout p size n le (inl g) = inl (g.0, g.1, (let h = g.2 in omega arith))
lies_less layout p size n le (inr (own, inl s)) = inr (own, inl (s.0, λ i l u. s.1 i l (omega arith)))
lies_less layout p size n le (inr (own, inr s)) = inr (own, inr ((let h = s.0 in omega arith), λ i l u. s.1 i l (omega arith)))

module _ (layout : Layout) (earlier : List World) (K L : Name → Node →
    Type 0) (places more : List Place) (w v : World) (words : List ℕ) (x : Place) (made : Node)
    (world : IsWorld w) (past : AreEarlier earlier w) (heads : HaveHeaders K w)
    (b : IsBorn layout earlier K L places more w v words x made)
    (r : Represents layout earlier K places w words) where
  abbrev us : List ℕ
  us = set words x.at (header_word (header_of made))

  away : (j : ℕ) → j ≢ x.at → slice_index us j ≡ slice_index words j
  away j ne = get_or-set_other words x.at j (header_word (header_of made)) 0 ne

  -- a known name differs from the new name
  unlike : (n : Name) → IsSome (node_of w n) → n ≢ x.name
  unlike n h e =
      let none : node_of w n ≡ None = ap (λ m. node_of w m) e ∙ b.unknown in
      let bad : IsSome {T = Node} None = subst (λ y. IsSome y) none h in
      absurd cc

  other_place : (p : Place) → Contains places p → (p.name ≡ x.name) ⊎ (p.at ≡ x.at) → ⊥
  other_place p c (inl e) = unlike p.name (r.named p c).known e
  other_place p c (inr e) = elim (b.apart.names p c) [ inl l ↦ omega arith | inr l ↦ omega arith ]

  one_more : (p q : Place) → Contains more p → Contains more q → (p.name ≡ q.name) ⊎ (p.at ≡ q.at) → p ≡ q
  one_more p q c d e = elim (b.place.no_other p c) [
    | inl f ↦ elim (b.place.no_other q d) [
      | inl g ↦ r.one p q f g e
      | inr g ↦ absurd (other_place p f (subst (λ (y : Place). (p.name ≡ y.name) ⊎ (p.at ≡ y.at)) (sym g) e))
    ]
    | inr f ↦ elim (b.place.no_other q d) [
      | inl g ↦ absurd (other_place q g (elim (subst (λ (y : Place). (y.name ≡ q.name) ⊎ (y.at ≡ q.at)) (sym f) e) [
        | inl k ↦ inl (sym k)
        | inr k ↦
            inr (sym k)
      ]))
      | inr g ↦ sym f ∙ g
    ]
  ]

  old_named : (p : Place) → Contains places p → IsNamed layout v us p
  old_named p c =
      let h = r.named p c in
      let ne : p.at + 1 ≢ x.at = λ e. elim (b.apart.names p c) [ inl l ↦ omega arith | inr l ↦ omega arith ] in
      record {
        known = subst (λ y. IsSome y) (sym (b.others p.name (unlike p.name h.known))) h.known;
        valid = h.valid;
        name = away (p.at + 1) ne ∙
            h.name;
        lies = h.lies;
      }

  new_named : IsNamed layout v us x
  new_named = record {
    known = subst (λ y. IsSome y) (sym b.is) refl;
    valid = b.valid_name;
    name = away (x.at + 1) (λ e. omega arith) ∙ b.name;
    lies = lies_less layout x (size_of made) HEADER_WORDS (omega arith) b.lies;
  }

  new_object : IsObject layout more us x made
  new_object = record {
    header = (let l = lies_within layout x (size_of made) (omega arith) b.lies in let n = r.total in
        get_or-set_same words x.at (header_word (header_of made)) 0 (omega arith));
    valid = b.valid;
    lies = b.lies;
    alone = λ q c. elim (b.place.no_other q c) [
      | inl d ↦ elim (b.apart.names q d) [ inl l ↦ inl (omega arith) | inr l ↦ inr l ]
      | inr e ↦ subst (λ (y : Place). (y.at ≤ x.at) ⊎ (x.at + size_of made ≤ y.at)) e (inl (omega arith))
    ];
  }

  -- a specified object has no further place among its words
  alone_still : (p : Place) (node : Node) → Contains places p → IsSpokenOf layout earlier w p → node_of w p.name ≡ Some node →
      IsObject layout places words p node → (q : Place) → Contains more q → (q.at ≤ p.at) ⊎ (p.at + size_of node ≤ q.at)
  alone_still p node c t is o q d = elim (b.place.no_other q d) [
    | inl old ↦ o.alone q old
    | inr e ↦ rw (← e) (elim (b.apart.objects p node c t is) [
      | inl l ↦ inr l
      | inr l ↦
          inl (omega arith)
    ])
  ]

  same_words : (p : Place) (node : Node) → Contains places p → IsSpokenOf layout earlier w p → node_of w p.name ≡ Some node → (i : ℕ) → p.at ≤ i →
      i < p.at + size_of node → slice_index us i ≡ slice_index words i
  same_words p node c t is i lo hi = away i (λ e. elim (b.apart.objects p node c t is) [ inl l ↦ omega arith | inr l ↦ omega arith ])

  new_fields : HasSlots (Contains more) us (x.at + HEADER_WORDS) (slots_of made)
  new_fields = slots_more (Contains more) (Contains more) (λ p c. c) words us (x.at + HEADER_WORDS) (slots_of made) (λ i slot e.
      inr (away (x.at + HEADER_WORDS + i) (λ z. omega arith))) b.fields

  new_fixed : HasSlots (Contains more) us (x.at + HEADER_WORDS) (fixed_slots made)
  new_fixed i slot e = elim (fixed_own made i slot e) [
    | inl u ↦ subst (λ (s : Slot). Fills (Contains more) (slice_index us (x.at + HEADER_WORDS + i)) s) (sym u) tt
    | inr f ↦ new_fields i slot f
  ]

  new_placed : IsPlaced layout earlier L more us x.name made
  new_placed = record {
    at = x.at;
    there = b.place.new;
    object = new_object;
    fields = new_fields;
    free = λ e before c was. absurd (unlike x.name ((past e c).names x.name (subst (λ y. IsSome y) (sym was) refl)) refl);
    kept = λ before k. subst (λ (n : Node). HasSlots (Contains more) us (x.at + HEADER_WORDS) (fixed_slots n)) (sym (b.first before k)) new_fixed;
  }

  old_placed : (name : Name) (node : Node) → name ≢ x.name → IsTracked w earlier name → node_of w name ≡ Some node → IsPlaced layout earlier L more us name node
  old_placed name node ne t is =
      let p = r.tracked name node t is in
      let at : Place = record { at = p.at; name = name } in
      let q = still_placed layout earlier K places w words us world past heads more name node is b.place.old p
      (alone_still at node p.there (inl t) is p.object) (same_words at node p.there (inl t) is) in
      record { at = q.at; there = q.there; object = q.object; fields = q.fields; free = q.free; kept = λ before k. q.kept before (b.kept name before ne k) }

  pub object_born : Represents layout earlier L more v us
  object_born = record {
    total = length-set words x.at (header_word (header_of made)) ∙ r.total;
    one = one_more;
    named = λ p c. elim (b.place.no_other p c) [ inl d ↦ old_named p d | inr e ↦ subst (IsNamed layout v us) e new_named ];
    tracked = λ name node t is. elim (name_cases name x.name) [
      | inl e ↦
          let z : Some made ≡ Some node = sym b.is ∙ subst (λ (n : Name). node_of v n ≡ Some node) e is in
          let m : made ≡ node = cc in
          subst (λ (n : Name). IsPlaced layout earlier L more us n node) (sym e) (subst (λ (n : Node). IsPlaced layout earlier L more us x.name n) m new_placed)
      | inr ne ↦ elim (b.tracked name t) [
        | inl u ↦ old_placed name node ne u (sym (b.others name ne) ∙ is)
        | inr e ↦ absurd (ne e)
      ]
    ];
    born = λ p node c young is. elim (b.place.no_other p c) [
      | inl d ↦
          let ne = unlike p.name (r.named p d).known in
          let was : node_of w p.name ≡ Some node = sym (b.others p.name ne) ∙ is in
          let h = r.born p node d young was in
          let same = same_words p node d (inr young) was in (
            still_object layout earlier K places w words us world past heads more p node (alone_still p node d (inr young) was h.0)
                (same p.at (omega arith) (omega arith)) h.0,
            λ dead. let three : (header_of node).fields ≡ 3 = ap (λ (n : Node). (header_of n).fields) dead in
                same (p.at + HEADER_WORDS + 1) (omega arith) (omega arith) ∙ h.1 dead,
          )
      | inr e ↦
          let z : Some made ≡ Some node = sym b.is ∙ subst (λ (q : Place). node_of v q.name ≡ Some node) (sym e) is in
          let m : made ≡ node = cc in
          subst (λ (q : Place). IsObject layout more us q node × (node ≡ Weak None → slice_index us (q.at + HEADER_WORDS + 1) ≡ 0)) e
          (subst (λ (n : Node). IsObject layout more us x n × (n ≡ Weak None → slice_index us (x.at + HEADER_WORDS + 1) ≡ 0)) m
          (new_object, λ dead. new_fields 1 unset (ap (λ (n : Node). slice_get (slots_of n) 1) dead)))
    ];
    zeros = λ at nobody. away at (λ e.
        not_between layout x (size_of made) x.at b.lies (omega arith) (omega arith) (subst IsBetween e nobody)) ∙ r.zeros at nobody;
  }
