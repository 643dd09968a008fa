-- Field words that agree with a node, when other words change, and when more addresses are known.
use Rattle.nmgc_round.proofs.Vocabulary.{◌≡◌, ◌≢◌, ℕ, zero, suc, ◌+◌, ◌<◌, ◌≤◌, List, [], ◌∷◌, length, set, sym, ◌∙◌, arith, slice_index, Some, None, get_or-set_same, get_or-set_other, length-set, inl, inr, slice_get, slice_get_within, cases_eq, slice_get-set_same, slice_get-set_other, Value, Node, Con, Var, Arr, Thunk, Weak, Stack, IsSized, Slot, holds, unset, unspecified, slots_of, fixed_slots, free_slots, header_of, MayChange, Place, Means, Fills, HasSlots, AllMean, ListMeans, map_item, slots_none, slots_of_kept, fields_of_slots, slot_count, free_fixed, Opening, Object, IsEarlierNode, KeepsOf}
use Rattle.nmgc_world_spec.specs.declared.value.Value.TheVariants as value

-- a field about which a node says something
abbrev pub IsKnown : Slot → Type 0
IsKnown slot = slot ≡ unspecified → ⊥

-- a word that represents a value with some addresses represents it with more
module _ (P Q : Place → Type 0) (more : (p : Place) → P p → Q p) where
  pub means_more : (w : ℕ) (v : Value) → Means P w v → Means Q w v
  means_more w value.Nil m = m
  means_more w (value.Number n) m = m
  means_more w (value.Ref name) m = (m.0, m.1, more (record { at = m.0; name = name }) m.2)

  pub list_more : (ws : List ℕ) (vs : List Value) → ListMeans P ws vs → ListMeans Q ws vs
  list_more [] [] h = tt
  list_more [] (v ∷ vs) h = absurd h
  list_more (w ∷ ws) [] h = absurd h
  list_more (w ∷ ws) (v ∷ vs) h = (means_more w v h.0, list_more ws vs h.1)

  -- the fields stay, if no word changed about which something is said
  pub slots_same : (ws us : List ℕ) (from : ℕ) (slots : List Slot) →
      ((i : ℕ) (s : Slot) → slice_get slots i ≡ Some s → IsKnown s → slice_index us (from + i) ≡ slice_index ws (from + i)) →
      HasSlots P ws from slots → HasSlots Q us from slots
  slots_same ws us from slots same h i s e = by_slot s e (h i s e)
    where
      by_slot : (s : Slot) → slice_get slots i ≡ Some s → Fills P (slice_index ws (from + i)) s → Fills Q (slice_index us (from + i)) s
      by_slot (holds v) e k = rw (same i (holds v) e (λ x. cc)) (means_more (slice_index ws (from + i)) v k)
      by_slot unset e k = same i unset e (λ x. cc) ∙ k
      by_slot unspecified e k = tt

-- a slot that never changes is a field, and may not change
never_changes : (n : Node) (i : ℕ) (s : Slot) → slice_get (fixed_slots n) i ≡ Some s → IsKnown s → (i < (header_of n).fields) ×
    (MayChange (header_of n).kind i → ⊥)
never_changes (Con tag values) i s e known = absurd cc
never_changes (Var v) i s e known = absurd cc
never_changes (Arr values) i s e known = absurd cc
never_changes (Thunk free None) zero s e known = absurd (known cc)
never_changes (Thunk free None) (suc i) s e known = let x = map_item holds free i s e in let lt = slice_get_within free i x.0 x.1 in
    (omega (arith, lt), λ c. omega arith)
never_changes (Thunk free (Some result)) i s e known = absurd cc
never_changes (Weak None) i s e known = absurd cc
never_changes (Weak (Some parts)) zero s e known = (omega arith, λ c. omega arith)
never_changes (Weak (Some parts)) (suc zero) s e known = absurd (known cc)
never_changes (Weak (Some parts)) (suc (suc zero)) s e known = (omega arith, λ c. omega arith)
never_changes (Weak (Some parts)) (suc (suc (suc i))) s e known = absurd cc
never_changes (Stack size values) i s e known = absurd cc

-- free variables never change
pub free_of_fixed : (P : Place → Type 0) (ws : List ℕ) (from : ℕ) (n : Node) → HasSlots P ws from (fixed_slots n) → HasSlots P ws from (free_slots n)
free_of_fixed P ws from n h i s e = h i s (free_fixed n i s e)

-- a node's fields have the slots that never change
pub fixed_of_slots : (P : Place → Type 0) (ws : List ℕ) (from : ℕ) (n : Node) → HasSlots P ws from (slots_of n) → HasSlots P ws from (fixed_slots n)
fixed_of_slots P ws from (Con tag values) h = slots_none P ws from
fixed_of_slots P ws from (Var v) h = slots_none P ws from
fixed_of_slots P ws from (Arr values) h = slots_none P ws from
fixed_of_slots P ws from (Thunk free None) h = slots_of_kept P ws from (Thunk free None) (fields_of_slots P ws from (Thunk free None) h).1
fixed_of_slots P ws from (Thunk free (Some result)) h = slots_none P ws from
fixed_of_slots P ws from (Weak None) h = slots_none P ws from
fixed_of_slots P ws from (Weak (Some parts)) h = let k = fields_of_slots P ws from (Weak (Some parts)) h in
    slots_of_kept P ws from (Weak (Some parts)) (k.0, k.2)
fixed_of_slots P ws from (Stack size values) h = slots_none P ws from

module _ (P Q : Place → Type 0) (more : (p : Place) → P p → Q p) (ws us : List ℕ) (from : ℕ) (n : Node) where
  -- the fields stay, if none of their words changed
  pub fields_same : IsSized n → ((j : ℕ) → from ≤ j → j < from + (header_of n).fields → slice_index us j ≡ slice_index ws j) →
      HasSlots P ws from (slots_of n) → HasSlots Q us from (slots_of n)
  fields_same sized same h = slots_same P Q more ws us from (slots_of n) (λ i s e known. let lt = slice_get_within (slots_of n) i s e in
      let c = slot_count n sized in same (from + i) (omega arith) (omega (arith, lt, c))) h

  -- and the slots that never change stay, if at most words of other fields changed
  abbrev IsSame : Type 0
  IsSame = (j : ℕ) → from ≤ j → j < from + (header_of n).fields → ((i : ℕ) → j ≡ from + i → MayChange (header_of n).kind i → ⊥) →
      slice_index us j ≡ slice_index ws j

  word_same : IsSame → (i : ℕ) (s : Slot) → slice_get (fixed_slots n) i ≡ Some s → IsKnown s → slice_index us (from + i) ≡ slice_index ws (from + i)
  word_same same i s e known = let k = never_changes n i s e known in
      same (from + i) (omega arith) (omega (arith, k.0)) (λ j at may. let z : j ≡ i = omega (arith, at) in
      k.1 (rw z at may))

  pub fixed_same : IsSame → HasSlots P ws from (fixed_slots n) → HasSlots Q us from (fixed_slots n)
  fixed_same same h = slots_same P Q more ws us from (fixed_slots n) (word_same same) h

  -- the free variables among them
  pub free_same : IsSame → HasSlots P ws from (free_slots n) → HasSlots Q us from (free_slots n)
  free_same same h = slots_same P Q more ws us from (free_slots n) (λ i s e known. word_same same i s (free_fixed n i s e) known) h

-- the slots of an earlier node stay
pub kept_same : (o : Opening) (x : Object) (P Q : Place → Type 0) (more : (p : Place) → P p →
    Q p) (ws us : List ℕ) (from : ℕ) (before : Node) (k : IsEarlierNode o x before) →
    ((j : ℕ) → from ≤ j → j < from + (header_of before).fields → ((i : ℕ) → j ≡ from + i → MayChange (header_of before).kind i → ⊥) →
    slice_index us j ≡ slice_index ws j) → KeepsOf o x before P ws from k → KeepsOf o x before Q us from k
kept_same o x P Q more ws us from before (inl e) same h = fixed_same P Q more ws us from before same h
kept_same o x P Q more ws us from before (inr s) same h = free_same P Q more ws us from before same h

-- a field of an array changes with its word
pub all_set : (P : Place → Type 0) (ws : List ℕ) (from index new : ℕ) (values : List Value) (v : Value) → from + index < length ws →
    AllMean P ws from values → Means P new v → AllMean P (set ws (from + index) new) from (set values index v)
all_set P ws from index new values v inside h m i x e =
    let lt : i < length (set values index v) = slice_get_within (set values index v) i x e in
    elim (cases_eq i index) [
      | inl same ↦
          let within : index < length values = omega (arith, length-set values index v) in
          let is : Some v ≡ Some x = sym (slice_get-set_same values index v within) ∙ rw same at e in
          let vx : v ≡ x = cc in
          rw (← vx) (rw same (rw (get_or-set_same ws (from + index) new 0 inside) m))
      | inr other ↦
          let far : from + i ≢ from + index = λ k. other (omega arith) in
          rw (get_or-set_other ws (from + index) (from + i) new 0 far) (h i x (sym (slice_get-set_other values index i v other) ∙ e))
    ]
