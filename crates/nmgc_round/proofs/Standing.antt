-- Words that represent a world, when one word changes.
use Rattle.nmgc_round.proofs.Vocabulary.{◌≡◌, ◌≢◌, ◌⊎◌, inl, inr, ℕ, ◌+◌, ◌<◌, ◌≤◌, List, set, refl, sym, ap, subst, ◌∙◌, arith, slice_index, Some, get_or-set_other, length-set, IsSome, cases_eq, name_cases, Name, Node, World, node_of, IsSized, Header, HEADER_WORDS, header_of, size_of, slots_of, MayChange, Place, HasSlots, IsBetween, IsNamed, not_between, Opening, Object, place_of, end_of, IsObject, IsIn, IsPlace, IsLater, IsStanding, RepresentsInRound}
use Rattle.nmgc_round.proofs.Fields.{fields_same, kept_same}

-- a node later than a later node
pub later_of : (n made : Node) → IsLater n made → (first : Node) → IsLater first n → IsLater first made
later_of n made a first b = record {
  header = a.header ∙ b.header;
  free = a.free ∙ b.free;
  result = λ e. a.result (b.result e);
  alive = λ parts e. b.alive parts (a.alive parts e);
}

pub same_node : (n : Node) → IsLater n n
same_node n = record { header = refl; free = refl; result = λ e. e; alive = λ parts e. e }

-- an object has an address
pub placed : (o : Opening) (born : List Object) (x : Object) → IsObject o born x → IsPlace o born (place_of x)
placed o born x (inl h) = inl h.there
placed o born x (inr h) = inr (x, h, refl)

module _ (o : Opening) (born : List Object) (w : World) (ws : List ℕ) (st : RepresentsInRound o born w ws) where
  -- two objects are one, or lie apart
  pub one_or_apart : (x y : Object) → IsObject o born x → IsObject o born y → ((x.name ≡ y.name) × (x.at ≡ y.at)) ⊎ ((end_of x ≤ y.at) ⊎ (end_of y ≤ x.at))
  one_or_apart x y hx hy = elim (cases_eq x.at y.at) [
    | inl e ↦ inl (ap (λ (p : Place). p.name) (st.one (place_of x) (place_of y) (placed o born x hx) (placed o born y hy) (inr e)), e)
    | inr ne ↦ elim ((st.apart x hx).alone (place_of y) (placed o born y hy)) [
      | inl le ↦ elim ((st.apart y hy).alone (place_of x) (placed o born x hx)) [
        | inl le' ↦ absurd (ne (omega arith))
        | inr r ↦ inr (inr r)
      ]
      | inr r ↦ inr (inl r)
    ]
  ]

  -- two objects of one name have one node
  pub one_node : (x y : Object) (hx : IsObject o born x) (hy : IsObject o born y) → x.name ≡ y.name → (st.objects x hx).node ≡ (st.objects y hy).node
  one_node x y hx hy e =
      let a = st.objects x hx in
      let b = st.objects y hy in
      let same : Some a.node ≡ Some b.node = cc (a.there, e, b.there) in
      cc

  -- and one header
  pub one_header : (x y : Object) → IsObject o born x → IsObject o born y → x.name ≡ y.name → header_of x.node ≡ header_of y.node
  one_header x y hx hy e =
      let a = st.objects x hx in
      let b = st.objects y hy in
      let is : a.node ≡ b.node = one_node x y hx hy e in
      sym a.later.header ∙ ap header_of is ∙ b.later.header

  -- a field of an object changes with its word
  module _ (v : World) (x : Object) (hx : IsObject o born x) (i new : ℕ) (made : Node)
      (within : i < (header_of x.node).fields) (may : MayChange (header_of x.node).kind i)
      (later : IsLater (st.objects x hx).node made) (sized : IsSized made)
      (mine : node_of v x.name ≡ Some made) (others : (n : Name) → (n ≡ x.name → ⊥) → node_of v n ≡ node_of w n)
      (fields : HasSlots (IsIn o born) (set ws (x.at + HEADER_WORDS + i) new) (x.at + HEADER_WORDS) (slots_of made)) where
    abbrev us : List ℕ
    us = set ws (x.at + HEADER_WORDS + i) new

    away : (k : ℕ) → k ≢ x.at + HEADER_WORDS + i → slice_index us k ≡ slice_index ws k
    away k ne = get_or-set_other ws (x.at + HEADER_WORDS + i) k new 0 ne

    known : (n : Name) → IsSome (node_of w n) → IsSome (node_of v n)
    known n h = elim (name_cases n x.name) [
      | inl e ↦ rw e (rw mine refl)
      | inr ne ↦ rw (others n ne) h
    ]

    name_kept : (p : Place) → IsPlace o born p → IsNamed o.layout w ws p → IsNamed o.layout v us p
    name_kept p hp h =
        let ne : p.at + 1 ≢ x.at + HEADER_WORDS + i = λ e. elim ((st.apart x hx).alone p hp) [ inl le ↦ omega arith | inr le ↦ omega arith ] in
        record { known = known p.name h.known; valid = h.valid; name = away (p.at + 1) ne ∙ h.name; lies = h.lies }

    same_object : (y : Object) → IsObject o born y → x.name ≡ y.name → x.at ≡ y.at → IsStanding o born v us y
    same_object y hy name at =
        let h = st.objects y hy in
        let head : header_of x.node ≡ header_of y.node = one_header x y hx hy name in
        record {
          header = away y.at (λ e. omega arith) ∙ h.header;
          node = made;
          there = rw name at mine;
          later = later_of h.node made (rw (one_node x y hx hy name) at later) y.node h.later;
          sized = sized;
          fields = rw (← at) fields;
          kept = λ before k.
              let g = h.kept before k in
              let may' : MayChange (header_of before).kind i = rw (head ∙ g.0.header) at may in (
                g.0,
                kept_same o y (IsIn o born) (IsIn o born) (λ p q. q) ws us (y.at + HEADER_WORDS) before k (λ j lo hi fixed.
                    away j (λ e. fixed i (omega arith) may')) g.1,
              );
        }

    other_object : (y : Object) → IsObject o born y → (end_of x ≤ y.at) ⊎ (end_of y ≤ x.at) → IsStanding o born v us y
    other_object y hy far =
        let h = st.objects y hy in
        let named : y.name ≡ x.name →
        ⊥ = λ e. let at : y.at ≡ x.at = ap (λ (p : Place). p.at) (st.one (place_of y) (place_of x) (placed o born y hy) (placed o born x hx) (inl e)) in
        elim far [ inl l ↦ omega arith | inr l ↦ omega arith ] in
        let beyond : (j : ℕ) → y.at ≤ j → j < end_of y → j ≢ x.at + HEADER_WORDS + i = λ j lo hi e. elim far [ inl l ↦ omega arith | inr l ↦ omega arith ] in
        let count : (header_of h.node).fields ≡ (header_of y.node).fields = ap (λ (r : Header). r.fields) h.later.header in
        record {
          header = away y.at (beyond y.at (omega arith) (omega arith)) ∙ h.header;
          node = h.node;
          there = others y.name named ∙ h.there;
          later = h.later;
          sized = h.sized;
          fields = fields_same (IsIn o born) (IsIn o born) (λ p q. q) ws us (y.at + HEADER_WORDS) h.node h.sized (λ j lo hi.
              away j (beyond j (omega arith) (omega arith))) h.fields;
          kept = λ before k.
              let g = h.kept before k in
              let n : (header_of before).fields ≡ (header_of y.node).fields = ap (λ (r : Header). r.fields) (sym g.0.header) in (
                g.0,
                kept_same o y (IsIn o born) (IsIn o born) (λ p q. q) ws us (y.at + HEADER_WORDS) before k (λ j lo hi fixed.
                    away j (beyond j (omega arith) (omega arith))) g.1,
              );
        }

    pub stands_field : RepresentsInRound o born v us
    stands_field = record {
      total = length-set ws (x.at + HEADER_WORDS + i) new ∙ st.total;
      one = st.one;
      named = λ p hp. name_kept p hp (st.named p hp);
      apart = st.apart;
      objects = λ y hy. elim (one_or_apart x y hx hy) [
        | inl e ↦ same_object y hy e.0 e.1
        | inr far ↦ other_object y hy far
      ];
      zeros = λ at nobody.
          away at (λ e. not_between o.layout (place_of x) (size_of x.node) (x.at + HEADER_WORDS + i) (st.apart x hx).lies (omega arith)
          (omega (arith, within)) (subst IsBetween e nobody)) ∙ st.zeros at nobody;
    }

-- the same words, in a world with the same nodes
pub stands_nodes : (o : Opening) (born : List Object) (w v : World) (ws : List ℕ) → ((n : Name) → node_of v n ≡ node_of w n) →
    RepresentsInRound o born w ws → RepresentsInRound o born v ws
stands_nodes o born w v ws same st = record {
  total = st.total;
  one = st.one;
  named = λ p hp. let h = st.named p hp in record { known = rw (same p.name) h.known; valid = h.valid; name = h.name; lies = h.lies };
  apart = st.apart;
  objects = λ y hy. let h = st.objects y hy in record {
    header = h.header;
    node = h.node;
    there = same y.name ∙ h.there;
    later = h.later;
    sized = h.sized;
    fields = h.fields;
    kept = h.kept;
  };
  zeros = st.zeros;
}
