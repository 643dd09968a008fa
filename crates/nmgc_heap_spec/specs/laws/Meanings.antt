-- Words have one meaning: a place has one name, a word one value, and a tracked name one node.
use Rattle.std.specs.Prelude.{◌≡◌, ◌≢◌, ◌+◌, ◌-◌, ◌≤◌, ◌∷◌, ◌++◌}
use Rattle.nmgc_heap_spec.specs.laws.Vocabulary.{inl, inr, ℕ, suc, List, [], length, map, replicate, refl, sym, ap, subst, ◌∙◌, arith, slice_index, Some, None, get_or, slice_get, Contains, cases_lt, slice_get-get_or, Name, Value, Node, Con, Var, Arr, Thunk, Weak, Stack, World, node_of, IsWorld, IsNodeOf, IsSized, at_some, header_word, Header, Layout, HEADER_WORDS, Slot, holds, unset, unspecified, header_of, slots_of, Place, Means, Fills, HasSlots, AllMean, ListMeans, LiesWell, IsTracked, IsPlaced, Represents}
use Rattle.nmgc_world_spec.specs.declared.value.Value.TheVariants as value
use Rattle.nmgc_heap_spec.specs.laws.{Headers.same_header, Kinds.HasFields, Kinds.AreUnset, Kinds.fields_of_slots}

-- the address of an object is never word 0
pub lies_above : (layout : Layout) (p : Place) (size : ℕ) → 1 ≤ size → LiesWell layout p size → 1 ≤ p.at
lies_above layout p size some (inl g) = omega (arith, g.1)
lies_above layout p size some (inr (own, inl s)) = let h = s.1 p.at (omega arith) (omega arith) in omega (arith, h.from)
lies_above layout p size some (inr (own, inr n)) = let h = n.1 p.at (omega arith) (omega arith) in omega (arith, h.from)

-- if places differ by their addresses, and none is word 0
module _ (P : Place → Type 0) (one : (p q : Place) → P p → P q → p.at ≡ q.at → p ≡ q) (above : (p : Place) → P p → 1 ≤ p.at) where
  -- a word means one value
  pub one_value : (word : ℕ) (u v : Value) → Means P word u → Means P word v → u ≡ v
  one_value word value.Nil value.Nil a b = refl
  one_value word value.Nil (value.Number m) a b = absurd (omega arith)
  one_value word value.Nil (value.Ref m) a b = absurd (omega (arith, a, b.1))
  one_value word (value.Number n) value.Nil a b = absurd (omega arith)
  one_value word (value.Number n) (value.Number m) a b = ap value.Number (omega arith)
  one_value word (value.Number n) (value.Ref m) a b = absurd (omega (arith, a, b.1))
  one_value word (value.Ref n) value.Nil a b = absurd (omega (arith, a.1, b))
  one_value word (value.Ref n) (value.Number m) a b = absurd (omega (arith, a.1, b))
  one_value word (value.Ref n) (value.Ref m) a b =
      let same : a.0 ≡ b.0 = omega (arith, a.1, b.1) in
      ap (λ (p : Place). value.Ref p.name) (one (record { at = a.0; name = n }) (record { at = b.0; name = m }) a.2 b.2 same)

  -- the word of a value is not the word of an unset field
  pub value_is_set : (word : ℕ) (v : Value) → Means P word v → word ≡ 0 → ⊥
  value_is_set word value.Nil m z = omega arith
  value_is_set word (value.Number n) m z = omega arith
  value_is_set word (value.Ref n) m z = let l = above (record { at = m.0; name = n }) m.2 in omega (arith, m.1, z, l)

  -- a list of words means one list of values
  pub one_list : (words : List ℕ) (us vs : List Value) → ListMeans P words us → ListMeans P words vs → us ≡ vs
  one_list [] [] [] a b = refl
  one_list [] [] (v ∷ vs) a b = absurd b
  one_list [] (u ∷ us) vs a b = absurd a
  one_list (w ∷ words) [] vs a b = absurd a
  one_list (w ∷ words) (u ∷ us) [] a b = absurd b
  one_list (w ∷ words) (u ∷ us) (v ∷ vs) a b =
      let x : u ≡ v = one_value w u v a.0 b.0 in
      let y : us ≡ vs = one_list words us vs a.1 b.1 in
      cc

  module _ (words : List ℕ) where
    rest_mean : (from : ℕ) (v : Value) (vs : List Value) → AllMean P words from (v ∷ vs) → AllMean P words (from + 1) vs
    rest_mean from v vs h i u e = let z : from + suc i ≡ from + 1 + i = omega arith in subst (λ (k : ℕ). Means P (slice_index words k) u) z (h (suc i) u e)

    pub one_row : (from : ℕ) (us vs : List Value) → length us ≡ length vs → AllMean P words from us → AllMean P words from vs → us ≡ vs
    one_row from [] [] n a b = refl
    one_row from [] (v ∷ vs) n a b = absurd (omega arith)
    one_row from (u ∷ us) [] n a b = absurd (omega arith)
    one_row from (u ∷ us) (v ∷ vs) n a b =
        let x : u ≡ v = one_value (slice_index words (from + 0)) u v (a 0 u refl) (b 0 v refl) in
        let y : us ≡ vs = one_row (from + 1) us vs (omega arith) (rest_mean from u us a) (rest_mean from v vs b) in
        cc

    -- a stack has no more values than set slots
    no_fewer : (from size : ℕ) (us vs : List Value) → AllMean P words from us → AreUnset words from (length vs) size → length us ≤ size → length us ≤ length vs
    no_fewer from size us vs a b fits = elim (cases_lt (length vs) (length us)) [
      | inl lt ↦
          let v = get_or us (length vs) value.Nil in
          absurd (value_is_set (slice_index words (from + length vs)) v (a (length vs) v (slice_get-get_or us (length vs) value.Nil lt))
          (b (length vs) (omega arith) (omega arith)))
      | inr le ↦ le
    ]

    -- nodes of one header with their fields in the same words have the same slots
    pub one_node : (from : ℕ) (a b : Node) → header_of a ≡ header_of b → IsSized a → IsSized b → HasFields P words from a →
        HasFields P words from b → slots_of a ≡ slots_of b
    one_node from (Con t us) (Con u vs) h s z a b = ap (λ (l : List Value). map holds l) (one_row from us vs (ap (λ (x : Header). x.fields) h) a b)
    one_node from (Con t us) _ h s z a b = let k = ap (λ (x : Header). x.kind) h in absurd cc
    one_node from (Var u) (Var v) h s z a b = ap (λ (x : Value). holds x ∷ []) (one_value (slice_index words from) u v a b)
    one_node from (Var u) _ h s z a b = let k = ap (λ (x : Header). x.kind) h in absurd cc
    one_node from (Arr us) (Arr vs) h s z a b = ap (λ (l : List Value). map holds l) (one_row from us vs (ap (λ (x : Header). x.fields) h) a b)
    one_node from (Arr us) _ h s z a b = let k = ap (λ (x : Header). x.kind) h in absurd cc
    one_node from (Thunk us None) (Thunk vs None) h s z a b = let n = ap (λ (x : Header). x.fields) h in
        ap (λ (l : List Value). unset ∷ map holds l) (one_row (from + 1) us vs (omega arith) a.1 b.1)
    one_node from (Thunk us None) (Thunk vs (Some r)) h s z a b = absurd (value_is_set (slice_index words from) r b a.0)
    one_node from (Thunk us (Some q)) (Thunk vs None) h s z a b = absurd (value_is_set (slice_index words from) q a b.0)
    one_node from (Thunk us (Some q)) (Thunk vs (Some r)) h s z a b =
        let n = ap (λ (x : Header). x.fields) h in
        let m : length us ≡ length vs = omega arith in
        let e : q ≡ r = one_value (slice_index words from) q r a b in
        ap (λ (k : ℕ). holds q ∷ replicate k unspecified) m ∙ ap (λ (x : Value). holds x ∷ replicate (length vs) unspecified) e
    one_node from (Thunk us q) _ h s z a b = let k = ap (λ (x : Header). x.kind) h in absurd cc
    one_node from (Weak None) (Weak None) h s z a b = refl
    one_node from (Weak None) (Weak (Some q)) h s z a b = absurd (value_is_set (slice_index words (from + 1)) q.value b.1 a)
    one_node from (Weak (Some p)) (Weak None) h s z a b = absurd (value_is_set (slice_index words (from + 1)) p.value a.1 b)
    one_node from (Weak (Some p)) (Weak (Some q)) h s z a b =
        let x : p.key ≡ q.key = one_value (slice_index words from) p.key q.key a.0 b.0 in
        let y : p.value ≡ q.value = one_value (slice_index words (from + 1)) p.value q.value a.1 b.1 in
        let w : p.finaliser ≡ q.finaliser = one_value (slice_index words (from + 2)) p.finaliser q.finaliser a.2 b.2 in
        cc (x, y, w)
    one_node from (Weak p) _ h s z a b = let k = ap (λ (x : Header). x.kind) h in absurd cc
    one_node from (Stack m us) (Stack n vs) h s z a b =
        let size : m ≡ n = ap (λ (x : Header). x.fields) h in
        let few = no_fewer from n us vs a.0 b.1 (omega arith) in
        let more = no_fewer from m vs us b.0 a.1 (omega arith) in
        let same : us ≡ vs = one_row from us vs (omega arith) a.0 b.0 in
        ap (λ (l : List Value). map holds l ++ replicate (m - length l) unset) same ∙ ap (λ (k : ℕ). map holds vs ++ replicate (k - length vs) unset) size
    one_node from (Stack m us) _ h s z a b = let k = ap (λ (x : Header). x.kind) h in absurd cc

module _ (layout : Layout) (earlier : List World) (K : Name → Node →
    Type 0) (places : List Place) (w : World) (words : List ℕ) (r : Represents layout earlier K places w words) where
  pub one_at : (p q : Place) → Contains places p → Contains places q → p.at ≡ q.at → p ≡ q
  one_at p q c d e = r.one p q c d (inr e)

  pub above_zero : (p : Place) → Contains places p → 1 ≤ p.at
  above_zero p c = lies_above layout p HEADER_WORDS (omega arith) (r.named p c).lies

  -- a tracked name's object lies at the place that has its name
  pub placed_at : (name : Name) (node : Node) (at : ℕ) → IsTracked w earlier name → node_of w name ≡ Some node →
      Contains places (record { at = at; name = name }) → (p : IsPlaced layout earlier K places words name node) × (p.at ≡ at)
  placed_at name node at t is c =
      let p = r.tracked name node t is in
      (p, ap (λ (x : Place). x.at) (r.one (record { at = p.at; name = name }) (record { at = at; name = name }) p.there c (inl refl)))

-- if the same words represent two worlds, a name tracked in both has nodes with the same header and slots
pub one_world : (layout : Layout) (earlier earlier' : List World) (K K' : Name → Node →
    Type 0) (places : List Place) (w v : World) (words : List ℕ) → IsWorld w → IsWorld v → Represents layout earlier K places w words →
    Represents layout earlier' K' places v words → (name : Name) (a b : Node) → IsTracked w earlier name → IsTracked v earlier' name →
    node_of w name ≡ Some a → node_of v name ≡ Some b → (header_of a ≡ header_of b) × (slots_of a ≡ slots_of b)
one_world layout earlier earlier' K K' places w v words world world' r s name a b t u is is' =
    let p = r.tracked name a t is in
    let q = placed_at layout earlier' K' places v words s name b p.at u is' p.there in
    let header : header_of a ≡ header_of b = same_header (header_of a) (header_of b) p.object.valid q.0.object.valid (cc (p.object.header, q.1, q.0.object.header)) in
    let of = at_some (node_of w name) a (IsNodeOf w) is (world.nodes name) in
    let of' = at_some (node_of v name) b (IsNodeOf v) is' (world'.nodes name) in
    let mine = fields_of_slots (Contains places) words (p.at + HEADER_WORDS) a p.fields in
    let other = fields_of_slots (Contains places) words (p.at + HEADER_WORDS) b (rw q.1 at q.0.fields) in (
      header,
      one_node (Contains places) (one_at layout earlier K places w words r) (above_zero layout earlier K places w words r) words
          (p.at + HEADER_WORDS) a b header of.sized of'.sized mine other,
    )

-- if places differ by their names, a value has one word
one_word : (P : Place → Type 0) → ((p q : Place) → P p → P q → p.name ≡ q.name → p ≡ q) → (a b : ℕ) (v : Value) → Means P a v → Means P b v → a ≡ b
one_word P one a b value.Nil x y = x ∙ sym y
one_word P one a b (value.Number n) x y = x ∙ sym y
one_word P one a b (value.Ref n) x y =
    let same : x.0 ≡ y.0 = ap (λ (p : Place). p.at) (one (record { at = x.0; name = n }) (record { at = y.0; name = n }) x.2 y.2 refl) in
    omega (arith, x.1, y.1, same)

one_fill : (P : Place → Type 0) → ((p q : Place) → P p → P q → p.name ≡ q.name → p ≡ q) → (a b : ℕ) (slot : Slot) → slot ≢ unspecified → Fills P a slot →
    Fills P b slot → a ≡ b
one_fill P one a b (holds v) known x y = one_word P one a b v x y
one_fill P one a b unset known x y = x ∙ sym y
one_fill P one a b unspecified known x y = absurd (known refl)

-- words that represent one world at the same places agree wherever they are specified: names, headers and specified fields
pub one_wording : (layout : Layout) (earlier other : List World) (K L : Name → Node →
    Type 0) (places : List Place) (w : World) (words us : List ℕ) → Represents layout earlier K places w words →
    Represents layout other L places w us → (p : Place) → Contains places p → (slice_index us (p.at + 1) ≡ slice_index words (p.at + 1)) ×
    ((node : Node) → IsTracked w earlier p.name → IsTracked w other p.name → node_of w p.name ≡ Some node →
    (slice_index us p.at ≡ slice_index words p.at) × ((i : ℕ) (slot : Slot) → slice_get (slots_of node) i ≡ Some slot → slot ≢ unspecified →
    slice_index us (p.at + HEADER_WORDS + i) ≡ slice_index words (p.at + HEADER_WORDS + i)))
one_wording layout earlier other K L places w words us r s p c = (
  (s.named p c).name ∙ sym (r.named p c).name,
  λ node t u is.
      let a = placed_at layout earlier K places w words r p.name node p.at t is c in
      let b = placed_at layout other L places w us s p.name node p.at u is c in
      let head = subst (λ (k : ℕ). slice_index words k ≡ header_word (header_of node)) a.1 a.0.object.header in
      let head' = subst (λ (k : ℕ). slice_index us k ≡ header_word (header_of node)) b.1 b.0.object.header in
      let has = subst (λ (k : ℕ). HasSlots (Contains places) words (k + HEADER_WORDS) (slots_of node)) a.1 a.0.fields in
      let has' = subst (λ (k : ℕ). HasSlots (Contains places) us (k + HEADER_WORDS) (slots_of node)) b.1 b.0.fields in (
        head' ∙ sym head,
        λ i slot e known. one_fill (Contains places) (λ x y d f n.
            r.one x y d f (inl n)) (slice_index us (p.at + HEADER_WORDS + i)) (slice_index words (p.at + HEADER_WORDS + i)) slot known
            (has' i slot e) (has i slot e),
      ),
)
