-- The specification of a field, by its index.
use Rattle.nmgc_collector_laws.proofs.Vocabulary.{◌≡◌, ◌≢◌, ◌⊎◌, ℕ, zero, suc, ◌+◌, ◌-◌, ◌<◌, List, [], ◌∷◌, ◌++◌, get_or, length, map, replicate, refl, sym, ap, ◌∙◌, arith, Some, None, inl, inr, slice_get, Contains, slice_get-get_or, cases_lt, length-map, Value, Node, Con, Var, Arr, Thunk, Weak, Stack, Parts, held_by, strong_at, contains_at, item_map, item_left, Slot, holds, unset, unspecified, slots_of, map_item, item_right, item_all}
use Rattle.nmgc_world_spec.specs.declared.value.Value.TheVariants as value
use Rattle.nmgc_collector_laws.proofs.rounds.Recorded.{IsField}

-- each slot of a stack is specified
stack_slot : (values : List Value) (size index : ℕ) → index < size → (slot : Slot) ×
    (slice_get (map holds values ++ replicate (size - length values) unset) index ≡ Some slot) × (slot ≢ unspecified)
stack_slot values size index lt =
    let n : ℕ = size - length values in
    let front : List Slot = map holds values in
    let long = length-map values holds in
    elim (cases_lt index (length values)) [
      | inl l ↦ let v : Value = get_or values index value.Nil in
          (holds v, item_left front (replicate n unset) index (holds v) (item_map holds values index v (slice_get-get_or values index value.Nil l)), λ e. cc)
      | inr le ↦
          let j : ℕ = index - length values in
          let place : length front + j ≡ index = omega arith in (
            unset,
            rw place at (item_right front (replicate n unset) j unset (item_all n j unset (omega arith))),
            λ e. cc,
          )
    ]

-- a field that a command writes is specified
pub known_slot : (node : Node) (index : ℕ) → IsField node index → (slot : Slot) × (slice_get (slots_of node) index ≡ Some slot) × (slot ≢ unspecified)
known_slot (Con tag values) index f = absurd f.written
known_slot (Var old) zero f = (holds old, refl, λ e. cc)
known_slot (Var old) (suc index) f = absurd (let lt = f.within in omega arith)
known_slot (Arr values) index f = let v : Value = get_or values index value.Nil in
    (holds v, item_map holds values index v (slice_get-get_or values index value.Nil f.within), λ e. cc)
known_slot (Thunk free None) zero f = (unset, refl, λ e. cc)
known_slot (Thunk free (Some result)) zero f = (holds result, refl, λ e. cc)
known_slot (Thunk free result) (suc index) f = absurd (let z = f.written in omega arith)
known_slot (Weak parts) index f = absurd f.written
known_slot (Stack size values) index f = stack_slot values size index f.within

held_item : (values : List Value) (i : ℕ) (v : Value) → slice_get (map holds values) i ≡ Some (holds v) → slice_get values i ≡ Some v
held_item values i v h = let t = map_item holds values i (holds v) h in let same : v ≡ t.0 = let e = t.2 in cc in t.1 ∙ ap (λ x. Some x) (sym same)

none_held : (n : ℕ) (slot : Slot) (i : ℕ) (v : Value) → slot ≢ holds v → slice_get (replicate n slot) i ≡ Some (holds v) → ⊥
none_held zero slot i v ne h = cc
none_held (suc n) slot zero v ne h = ne cc
none_held (suc n) slot (suc i) v ne h = none_held n slot i v ne h

stack_item : (values : List Value) (n i : ℕ) (v : Value) → slice_get (map holds values ++ replicate n unset) i ≡ Some (holds v) → slice_get values i ≡ Some v
stack_item [] n i v h = absurd (none_held n unset i v (λ e. cc) h)
stack_item (x ∷ values) n zero v h = cc
stack_item (x ∷ values) n (suc i) v h = stack_item values n i v h

-- a value in a field is in a strong field, or a part of an alive weak pointer
pub held_at : (node : Node) (i : ℕ) (v : Value) → slice_get (slots_of node) i ≡ Some (holds v) → (strong_at node i ≡ Some v) ⊎
    ((parts : Parts) × (node ≡ Weak (Some parts)) × Contains (held_by (Weak (Some parts))) v)
held_at (Con tag values) i v h = inl (held_item values i v h)
held_at (Var old) i v h = inl (held_item (old ∷ []) i v h)
held_at (Arr values) i v h = inl (held_item values i v h)
held_at (Thunk free None) zero v h = absurd cc
held_at (Thunk free None) (suc i) v h = inl (held_item free i v h)
held_at (Thunk free (Some result)) zero v h = inl cc
held_at (Thunk free (Some result)) (suc i) v h = absurd (none_held (length free) unspecified i v (λ e. cc) h)
held_at (Weak None) zero v h = absurd cc
held_at (Weak None) (suc zero) v h = absurd cc
held_at (Weak None) (suc (suc zero)) v h = absurd cc
held_at (Weak None) (suc (suc (suc i))) v h = absurd cc
held_at (Weak (Some parts)) i v h = let all : List Value = parts.key ∷ parts.value ∷ parts.finaliser ∷ [] in
    inr (parts, refl, contains_at all i v (held_item all i v h))
held_at (Stack size values) i v h = inl (stack_item values (size - length values) i v h)
