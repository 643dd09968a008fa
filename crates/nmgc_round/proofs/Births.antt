-- Words that represent a world, when a word in no object changes, and when an object is allocated.
use Rattle.nmgc_round.proofs.Vocabulary.{◌≡◌, ◌≢◌, ◌⊎◌, inl, inr, ℕ, ◌+◌, ◌<◌, ◌≤◌, List, [], ◌∷◌, ◌++◌, length, set, refl, sym, ap, subst, ◌∙◌, arith, slice_index, Some, None, get_or-set_same, get_or-set_other, length-set, IsSome, cases_lt, Contains-append_left, Contains-push_cases, Name, Node, World, node_of, IsSized, header_word, name_word, IsHeader, IsName, Header, HEADER_WORDS, header_of, size_of, slots_of, Place, HasSlots, LiesWell, IsBetween, IsNamed, Opening, KeepsOf, Object, place_of, end_of, IsObject, IsIn, IsPlace, IsLater, IsApart, IsStanding, RepresentsInRound, IsFree, lies_less}
use Rattle.nmgc_round.proofs.{Fields.fields_same, Fields.kept_same, Fields.fixed_of_slots, Standing.placed, Standing.same_node}

-- one more object
module _ (o : Opening) (born : List Object) (x : Object) where
  pub more_objects : (y : Object) → IsObject o born y → IsObject o (born ++ x ∷ []) y
  more_objects y (inl h) = inl h
  more_objects y (inr h) = inr (Contains-append_left born (x ∷ []) y h)

  pub more_places : (p : Place) → IsIn o born p → IsIn o (born ++ x ∷ []) p
  more_places p h = (h.0, more_objects (record { at = p.at; name = p.name; node = h.0 }) h.1)

  pub object_cases : (y : Object) → IsObject o (born ++ x ∷ []) y → IsObject o born y ⊎ (x ≡ y)
  object_cases y (inl h) = inl (inl h)
  object_cases y (inr h) = elim (Contains-push_cases born x y h) [ inl c ↦ inl (inr c) | inr e ↦ inr e ]

  pub place_cases : (p : Place) → IsPlace o (born ++ x ∷ []) p → IsPlace o born p ⊎ (place_of x ≡ p)
  place_cases p (inl h) = inl (inl h)
  place_cases p (inr h) = elim (Contains-push_cases born x h.0 h.1) [ inl c ↦ inl (inr (h.0, c, h.2)) | inr e ↦ inr (ap place_of e ∙ h.2) ]

-- a word changes, and an object whose words don't include it stays in the words
module _ (o : Opening) (born more : List Object) (grow : (p : Place) → IsIn o born p →
    IsIn o more p) (w v : World) (ws : List ℕ) (i new : ℕ) (y : Object) (h : IsStanding o born w ws y)
    (free : (i < y.at) ⊎ (end_of y ≤ i)) (same : node_of v y.name ≡ node_of w y.name) where
  abbrev us : List ℕ
  us = set ws i new

  beyond : (j : ℕ) → y.at ≤ j → j < end_of y → slice_index us j ≡ slice_index ws j
  beyond j lo hi = get_or-set_other ws i j new 0 (λ e. elim free [ inl l ↦ omega arith | inr l ↦ omega arith ])

  pub still_stands : IsStanding o more v us y
  still_stands =
      let count : (header_of h.node).fields ≡ (header_of y.node).fields = ap (λ (r : Header). r.fields) h.later.header in
      record {
        header = beyond y.at (omega arith) (omega arith) ∙ h.header;
        node = h.node;
        there = same ∙ h.there;
        later = h.later;
        sized = h.sized;
        fields = fields_same (IsIn o born) (IsIn o more) grow ws us (y.at + HEADER_WORDS) h.node h.sized (λ j lo hi.
            beyond j (omega arith) (omega arith)) h.fields;
        kept = λ before k.
            let g = h.kept before k in
            let n : (header_of before).fields ≡ (header_of y.node).fields = ap (λ (r : Header). r.fields) (sym g.0.header) in (
              g.0,
              kept_same o y (IsIn o born) (IsIn o more) grow ws us (y.at + HEADER_WORDS) before k (λ j lo hi fixed.
                  beyond j (omega arith) (omega arith)) g.1,
            );
      }

-- a word in no object changes
pub stands_free : (o : Opening) (born : List Object) (w : World) (ws : List ℕ) (i new : ℕ) → IsFree o born i → RepresentsInRound o born w ws →
    RepresentsInRound o born w (set ws i new)
stands_free o born w ws i new free st = record {
  total = length-set ws i new ∙ st.total;
  one = st.one;
  named = λ p hp.
      let h = st.named p hp in
      let ne : p.at + 1 ≢ i = λ e. elim (free.places p hp) [ inl l ↦ omega arith | inr l ↦ omega arith ] in
      record { known = h.known; valid = h.valid; name = get_or-set_other ws i (p.at + 1) new 0 ne ∙ h.name; lies = h.lies };
  apart = st.apart;
  objects = λ y hy. still_stands o born born (λ p q. q) w w ws i new y (st.objects y hy) (free.objects y hy) refl;
  zeros = λ at nobody. get_or-set_other ws i at new 0 (λ e. free.owned (subst IsBetween e nobody)) ∙ st.zeros at nobody;
}

-- an object is allocated: its name and its fields were there, and its header is written
module _ (o : Opening) (born : List Object) (w v : World) (ws : List ℕ) (st : RepresentsInRound o born w ws) (x : Object)
    (inside : x.at < length ws) (valid : IsHeader (header_of x.node)) (lies : LiesWell o.layout (place_of x) (size_of x.node))
    (free : (i : ℕ) → x.at ≤ i → i < end_of x → IsFree o born i)
    (mine : node_of v x.name ≡ Some x.node) (others : (n : Name) → (n ≡ x.name → ⊥) → node_of v n ≡ node_of w n)
    (unknown : node_of w x.name ≡ None) (no_snapshot : node_of o.core.snapshot x.name ≡ None)
    (valid_name : IsName x.name) (name : slice_index ws (x.at + 1) ≡
    name_word x.name) (sized : IsSized x.node) (fields : HasSlots (IsIn o born) ws (x.at + HEADER_WORDS) (slots_of x.node)) where
  abbrev more : List Object
  more = born ++ x ∷ []

  abbrev vs : List ℕ
  vs = set ws x.at (header_word (header_of x.node))

  away : (j : ℕ) → j ≢ x.at → slice_index vs j ≡ slice_index ws j
  away j ne = get_or-set_other ws x.at j (header_word (header_of x.node)) 0 ne

  here : IsFree o born x.at
  here = free x.at (omega arith) (omega arith)

  unlike : (n : Name) → IsSome (node_of w n) → n ≡ x.name → ⊥
  unlike n h e =
      let none : node_of w n ≡ None = cc (e, unknown) in
      let bad : IsSome {T = Node} None = rw none at h in
      absurd cc

  -- another address in use
  other_place : (p : Place) → IsPlace o born p → (p.name ≡ x.name) ⊎ (p.at ≡ x.at) → ⊥
  other_place p hp (inl e) = unlike p.name (st.named p hp).known e
  other_place p hp (inr e) = elim (here.places p hp) [ inl l ↦ omega arith | inr l ↦ omega arith ]

  one : (p q : Place) → IsPlace o more p → IsPlace o more q → (p.name ≡ q.name) ⊎ (p.at ≡ q.at) → p ≡ q
  one p q hp hq e = elim (place_cases o born x p hp) [
    | inl a ↦ elim (place_cases o born x q hq) [
      | inl b ↦ st.one p q a b e
      | inr b ↦ absurd (other_place p a (subst (λ (r : Place). (p.name ≡ r.name) ⊎ (p.at ≡ r.at)) (sym b) e))
    ]
    | inr a ↦ elim (place_cases o born x q hq) [
      | inl b ↦ absurd (other_place q b (elim (subst (λ (r : Place). (r.name ≡ q.name) ⊎ (r.at ≡ q.at)) (sym a) e) [
        | inl k ↦ inl (sym k)
        | inr k ↦
            inr (sym k)
      ]))
      | inr b ↦ sym a ∙ b
    ]
  ]

  new_named : IsNamed o.layout v vs (place_of x)
  new_named = record {
    known = rw mine refl;
    valid = valid_name;
    name = away (x.at + 1) (λ e. omega arith) ∙ name;
    lies = lies_less o.layout (place_of x) (size_of x.node) HEADER_WORDS (omega arith) lies;
  }

  old_named : (p : Place) → IsPlace o born p → IsNamed o.layout v vs p
  old_named p hp =
      let h = st.named p hp in
      let ne : p.at + 1 ≢ x.at = λ e. elim (here.places p hp) [ inl l ↦ omega arith | inr l ↦ omega arith ] in
      record {
        known = rw (others p.name (unlike p.name h.known)) h.known;
        valid = h.valid;
        name = away (p.at + 1) ne ∙
            h.name;
        lies = h.lies;
      }

  new_apart : IsApart o more x
  new_apart = record {
    valid = valid;
    lies = lies;
    alone = λ q hq. elim (place_cases o born x q hq) [
      | inl a ↦ elim (cases_lt x.at q.at) [
        | inl lt ↦ elim (cases_lt q.at (end_of x)) [
          | inl lt' ↦ elim ((free q.at (omega arith) lt').places q a) [ inl l ↦ absurd (omega arith) | inr l ↦ absurd (omega arith) ]
          | inr le ↦ inr le
        ]
        | inr le ↦ inl le
      ]
      | inr e ↦ inl (rw (← e) (omega arith))
    ];
  }

  old_apart : (y : Object) → IsObject o born y → IsApart o more y
  old_apart y hy =
      let h = st.apart y hy in record {
        valid = h.valid;
        lies = h.lies;
        alone = λ q hq. elim (place_cases o born x q hq) [
          | inl a ↦ h.alone q a
          | inr e ↦ rw (← e) (elim (here.objects y hy) [ inl l ↦ inl (omega arith) | inr l ↦ inr l ])
        ];
      }

  new_standing : IsStanding o more v vs x
  new_standing = record {
    header = get_or-set_same ws x.at (header_word (header_of x.node)) 0 inside;
    node = x.node;
    there = mine;
    later = same_node x.node;
    sized = sized;
    fields = grown;
    kept = λ before k. elim k as (λ k. IsLater before x.node × KeepsOf o x before (IsIn o more) vs (x.at + HEADER_WORDS) k) [
      | inl e ↦ rw e (
        same_node x.node,
        fixed_of_slots (IsIn o more) vs (x.at + HEADER_WORDS) x.node grown,
      )
      | inr s ↦ let t : node_of o.core.snapshot x.name ≡ Some before = s.there in let bad : None ≡ Some before = sym no_snapshot ∙ t in absurd cc
    ];
  }
    where
      grown : HasSlots (IsIn o more) vs (x.at + HEADER_WORDS) (slots_of x.node)
      grown = fields_same (IsIn o born) (IsIn o more) (more_places o born x) ws vs (x.at + HEADER_WORDS) x.node sized (λ j lo hi.
          away j (λ e. omega arith)) fields

  pub stands_born : RepresentsInRound o more v vs
  stands_born = record {
    total = length-set ws x.at (header_word (header_of x.node)) ∙ st.total;
    one = one;
    named = λ p hp. elim (place_cases o born x p hp) [ inl a ↦ old_named p a | inr e ↦ subst (IsNamed o.layout v vs) e new_named ];
    apart = λ y hy. elim (object_cases o born x y hy) [ inl a ↦ old_apart y a | inr e ↦ subst (IsApart o more) e new_apart ];
    objects = λ y hy. elim (object_cases o born x y hy) [
      | inl a ↦ still_stands o born more (more_places o born x) w v ws x.at (header_word (header_of x.node)) y (st.objects y a) (here.objects y a)
          (others y.name (unlike y.name (st.named (place_of y) (placed o born y a)).known))
      | inr e ↦ subst (IsStanding o more v vs) e new_standing
    ];
    zeros = λ at nobody. away at (λ e. here.owned (subst IsBetween e nobody)) ∙ st.zeros at nobody;
  }
