-- The strong fields that the words of a tracked object show are the strong fields of its node.
use Rattle.std.specs.Prelude.{◌≡◌, ◌<◌, ◌≤◌, ◌+◌, ◌-◌, ◌*◌, ◌∷◌, ◌++◌, ◌⊎◌}
use Rattle.nmgc_stop_spec.specs.laws.Vocabulary.{ℕ, zero, suc, List, [], length, map, replicate, get_or, inl, inr, refl, sym, ap, subst, ◌∙◌, arith, Bool, true, false, eqb, Some, None, eq-eqb, Contains, slice_get, slice_index, cases_lt, ne_eqb, length-map, length-replicate, get_or-replicate, get_or-map, slice_get-get_or, Contains-get_or, Name, Value, Node, Con, Var, Arr, Thunk, Weak, Stack, World, node_of, IsWorld, IsNodeOf, IsSized, strong_fields, RefersTo, at_some, header_word, IsHeader, Header, Layout, HEADER_WORDS, Slot, holds, unset, header_of, slots_of, IsTracked, Place, Means, HasSlots, IsObject, Represents, strong_part, HasStrong}
use Rattle.nmgc_world_spec.specs.declared.value.Value.TheVariants as value

-- a slot that holds a strong field, or is unset
abbrev IsStrongAt : Node → ℕ → Type 0
IsStrongAt node i = ((v : Value) × (slice_get (slots_of node) i ≡ Some (holds v)) × Contains (strong_fields node) v) ⊎
    (slice_get (slots_of node) i ≡ Some unset)

held_at : (values : List Value) (i : ℕ) → i < length values → (v : Value) × (slice_get (map holds values) i ≡ Some (holds v)) × Contains values v
held_at values i lt =
    let v = get_or values i value.Nil in
    let in' : i < length (map holds values) = let e = length-map values holds in omega (arith, e) in (
      v,
      slice_get-get_or (map holds values) i (holds value.Nil) in' ∙ ap Some (get_or-map holds values i value.Nil (holds value.Nil) lt),
      Contains-get_or values i value.Nil lt,
    )

pub held_where : (values : List Value) (v : Value) → Contains values v → (i : ℕ) × (i < length values) × (slice_get (map holds values) i ≡ Some (holds v))
held_where values v c =
    let in' : c.0 < length (map holds values) = let e = length-map values holds in omega (arith, e, c.1) in
    (c.0, c.1, slice_get-get_or (map holds values) c.0 (holds v) in' ∙ ap Some (get_or-map holds values c.0 v (holds v) c.1 ∙ ap holds c.2))

pub left_at : (xs ys : List Slot) (i : ℕ) (s : Slot) → slice_get xs i ≡ Some s → slice_get (xs ++ ys) i ≡ Some s
left_at [] ys i s e = absurd cc
left_at (x ∷ xs) ys zero s e = e
left_at (x ∷ xs) ys (suc i) s e = left_at xs ys i s e

right_at : (xs ys : List Slot) (i : ℕ) (s : Slot) → slice_get ys i ≡ Some s → slice_get (xs ++ ys) (length xs + i) ≡ Some s
right_at [] ys i s e = let same : zero + i ≡ i = omega arith in rw same e
right_at (x ∷ xs) ys i s e = let same : suc (length xs) + i ≡ suc (length xs + i) = omega arith in rw same (right_at xs ys i s e)

all_at : (n i : ℕ) (s : Slot) → i < n → slice_get (replicate n s) i ≡ Some s
all_at n i s lt = slice_get-get_or (replicate n s) i s (let e = length-replicate n s in omega (arith, e)) ∙ ap Some (get_or-replicate n i s s lt)

-- the first field's word is unset exactly if the thunk has no result; for other kinds it doesn't matter
abbrev pub Agrees : Node → Bool → Type 0
Agrees (Thunk free None) b = b ≡ true
Agrees (Thunk free (Some result)) b = b ≡ false
Agrees _ b = Unit {0}

strong_in : (node : Node) (b : Bool) (i : ℕ) → IsSized node → Agrees node b → (strong_part (header_of node).kind (header_of node).fields b).0 ≤ i →
    i < (strong_part (header_of node).kind (header_of node).fields b).1 → IsStrongAt node i
strong_in (Con tag values) b i s a low high = inl (held_at values i high)
strong_in (Var v) b i s a low high = inl (held_at (v ∷ []) i high)
strong_in (Arr values) b i s a low high = inl (held_at values i high)
strong_in (Thunk free None) true zero s a low high = absurd (omega arith)
strong_in (Thunk free None) true (suc i) s a low high = inl (held_at free i (omega arith))
strong_in (Thunk free None) false i s a low high = absurd cc
strong_in (Thunk free (Some result)) true i s a low high = absurd cc
strong_in (Thunk free (Some result)) false zero s a low high = inl (result, refl, (0, omega arith, refl))
strong_in (Thunk free (Some result)) false (suc i) s a low high = absurd (omega arith)
strong_in (Weak parts) b i s a low high = absurd (omega arith)
strong_in (Stack size values) b i s a low high = elim (cases_lt i (length values)) [
  | inl lt ↦ let h = held_at values i lt in inl (h.0, left_at (map holds values) (replicate (size - length values) unset) i (holds h.0) h.1, h.2)
  | inr ge ↦
      let e : i ≡ length (map holds values) + (i - length values) = let l = length-map values holds in omega (arith, l) in
      let r = right_at (map holds values) (replicate (size - length values) unset) (i - length values) unset
      (all_at (size - length values) (i - length values) unset (omega arith)) in
      inr (subst (λ (k : ℕ). slice_get (map holds values ++ replicate (size - length values) unset) k ≡ Some unset) (sym e) r)
]

-- the index of a strong field
record StandsAt (node : Node) (b : Bool) (v : Value) : Type 0 where
  index : ℕ
  from : (strong_part (header_of node).kind (header_of node).fields b).0 ≤ index
  before : index < (strong_part (header_of node).kind (header_of node).fields b).1
  is : slice_get (slots_of node) index ≡ Some (holds v)

strong_out : (node : Node) (b : Bool) (v : Value) → IsSized node → Agrees node b → Contains (strong_fields node) v → StandsAt node b v
strong_out (Con tag values) b v s a c = let h = held_where values v c in record { index = h.0; from = omega arith; before = h.1; is = h.2 }
strong_out (Var x) b v s a c = let h = held_where (x ∷ []) v c in record { index = h.0; from = omega arith; before = h.1; is = h.2 }
strong_out (Arr values) b v s a c = let h = held_where values v c in record { index = h.0; from = omega arith; before = h.1; is = h.2 }
strong_out (Thunk free None) true v s a c = let h = held_where free v c in record { index = suc h.0; from = omega arith; before = omega (arith, h.1); is = h.2 }
strong_out (Thunk free None) false v s a c = absurd cc
strong_out (Thunk free (Some result)) true v s a c = absurd cc
strong_out (Thunk free (Some result)) false v s a c =
    let h = held_where (result ∷ []) v c in
    let e : h.0 ≡ 0 = omega (arith, h.1) in
    record { index = 0; from = omega arith; before = omega arith; is = subst (λ (k : ℕ). slice_get (map holds (result ∷ [])) k ≡ Some (holds v)) e h.2 }
strong_out (Weak parts) b v s a c = absurd (omega (arith, c.1))
strong_out (Stack size values) b v s a c =
    let h = held_where values v c in
    record {
      index = h.0;
      from = omega arith;
      before = omega (arith, h.1, s);
      is = left_at (map holds values) (replicate (size - length values) unset) h.0 (holds v) h.2;
    }

module _ (layout : Layout) (earlier : List World) (K : Name → Node → Type 0) (places : List Place) (w : World) (words : List ℕ)
    (differ : (a b : Header) → IsHeader a → IsHeader b → header_word a ≡ header_word b → a ≡ b)
    (world : IsWorld w)
    (r : Represents layout earlier K places w words) where
  -- a tracked name's object lies at the place that has its name
  pub record Stands (name : Name) (node : Node) (at : ℕ) : Type 0 where
    pub object : IsObject layout places words (record { at = at; name = name }) node
    pub fields : HasSlots (Contains places) words (at + HEADER_WORDS) (slots_of node)

  pub stands : (name : Name) (node : Node) (at : ℕ) → IsTracked w earlier name → node_of w name ≡ Some node →
      Contains places (record { at = at; name = name }) → Stands name node at
  stands name node at t e c =
      let p = r.tracked name node t e in
      let same : p.at ≡ at = ap (λ (x : Place). x.at) (r.one (record { at = p.at; name = name }) (record { at = at; name = name }) p.there c (inl refl)) in
      record {
        object = subst (λ (k : ℕ). IsObject layout places words (record { at = k; name = name }) node) same p.object;
        fields = subst (λ (k : ℕ). HasSlots (Contains places) words (k + HEADER_WORDS) (slots_of node)) same p.fields;
      }

  -- no object begins at word 0
  pub positive : (p : Place) → Contains places p → 1 ≤ p.at
  positive p c = elim (r.named p c).lies [
    | inl g ↦ omega (arith, g.1)
    | inr o ↦ elim o.1 [
      | inl s ↦ let h = s.1 p.at (omega arith) (omega arith) in omega (arith, h.from)
      | inr n ↦ let h = n.1 p.at (omega arith) (omega arith) in omega (arith, h.from)
    ]
  ]

  -- the word of a value isn't 0
  pub not_zero : (v : Value) (word : ℕ) → Means (Contains places) word v → eqb word 0 ≡ false
  not_zero value.Nil word f = ne_eqb word 0 (λ z. omega (arith, f, z))
  not_zero (value.Number n) word f = ne_eqb word 0 (λ z. omega (arith, f, z))
  not_zero (value.Ref n) word f = ne_eqb word 0 (λ z. let l = positive (record { at = f.0; name = n }) f.2 in omega (arith, f.1, z, l))

  -- the first field shows whether a thunk has a result
  agrees : (name : Name) (node : Node) (at : ℕ) → IsTracked w earlier name → node_of w name ≡ Some node →
      HasSlots (Contains places) words (at + HEADER_WORDS) (slots_of node) → Agrees node (eqb (slice_index words (at + HEADER_WORDS)) 0)
  agrees name (Con tag values) at t e f = tt
  agrees name (Var v) at t e f = tt
  agrees name (Arr values) at t e f = tt
  agrees name (Thunk free None) at t e f =
      let first : slice_index words (at + HEADER_WORDS) ≡ 0 =
      subst (λ (k : ℕ). slice_index words k ≡ 0) (let z : at + 2 + 0 ≡ at + 2 = omega arith in z) (f 0 unset refl) in
      eq-eqb (slice_index words (at + HEADER_WORDS)) 0 first
  agrees name (Thunk free (Some result)) at t e f =
      let first = subst (λ (k : ℕ). Means (Contains places) (slice_index words k) result) (let z : at + 2 + 0 ≡ at + 2 = omega arith in
      z) (f 0 (holds result) refl) in
      not_zero result (slice_index words (at + HEADER_WORDS)) first
  agrees name (Weak parts) at t e f = tt
  agrees name (Stack size values) at t e f = tt

  sized : (name : Name) (node : Node) → node_of w name ≡ Some node → IsSized node
  sized name node e = let of = at_some (node_of w name) node (IsNodeOf w) e (world.nodes name) in of.sized

  -- a pointer in a strong field goes to the place of a name that the node refers to
  pub field_in : (name : Name) (node : Node) (at b : ℕ) → IsTracked w earlier name → node_of w name ≡ Some node →
      Contains places (record { at = at; name = name }) → 1 ≤ b → HasStrong words at (2 * b) → (n : Name) ×
      Contains places (record { at = b; name = n }) × RefersTo w name n
  field_in name node at b t e c low h =
      let o = stands name node at t e c in
      let same : h.header ≡ header_of node = differ h.header (header_of node) h.valid o.object.valid (sym h.read ∙ o.object.header) in
      let bit = eqb (slice_index words (at + HEADER_WORDS)) 0 in
      let a = agrees name node at t e o.fields in
      let from = subst (λ (x : Header). (strong_part x.kind x.fields bit).0 ≤ h.index) same h.from in
      let before = subst (λ (x : Header). h.index < (strong_part x.kind x.fields bit).1) same h.before in
      let word = h.is in
      elim (strong_in node bit h.index (sized name node e) a from before) [
        | inl s ↦ pointed (2 * b) b refl low s.0 (subst (λ (k : ℕ). Means (Contains places) k s.0) word (o.fields h.index (holds s.0) s.1)) (λ n d.
            (node, e, subst (λ (x : Value). Contains (strong_fields node) x) d s.2))
        | inr z ↦ absurd (let zero : slice_index words (at + HEADER_WORDS + h.index) ≡ 0 = o.fields h.index unset z in omega (arith, zero, word, low))
      ]
    where
      pointed : (word b : ℕ) → word ≡ 2 * b → 1 ≤ b → (v : Value) → Means (Contains places) word v →
          ((n : Name) → v ≡ value.Ref n → RefersTo w name n) → (n : Name) × Contains places (record { at = b; name = n }) × RefersTo w name n
      pointed word b e low value.Nil m f = absurd (omega (arith, m, e))
      pointed word b e low (value.Number n) m f = absurd (omega (arith, m, e))
      pointed word b e low (value.Ref n) m f =
          let there : m.0 ≡ b = omega (arith, m.1, e) in
          (n, subst (λ (k : ℕ). Contains places (record { at = k; name = n })) there m.2, f n refl)

  -- each name that the node refers to has its pointer in a strong field
  pub field_out : (name : Name) (node : Node) (at : ℕ) (n : Name) (b : ℕ) → IsTracked w earlier name → node_of w name ≡ Some node →
      Contains places (record { at = at; name = name }) → Contains (strong_fields node) (value.Ref n) →
      Contains places (record { at = b; name = n }) → HasStrong words at (2 * b)
  field_out name node at n b t e c s d =
      let o = stands name node at t e c in
      let a = agrees name node at t e o.fields in
      let f = strong_out node (eqb (slice_index words (at + HEADER_WORDS)) 0) (value.Ref n) (sized name node e) a s in
      let m = o.fields f.index (holds (value.Ref n)) f.is in
      let same : m.0 ≡ b = ap (λ (x : Place). x.at) (r.one (record { at = m.0; name = n }) (record { at = b; name = n }) m.2 d (inl refl)) in
      record {
        header = header_of node;
        valid = o.object.valid;
        read = o.object.header;
        index = f.index;
        from = f.from;
        before = f.before;
        is = m.1 ∙ ap (λ (k : ℕ). 2 * k) same;
      }
