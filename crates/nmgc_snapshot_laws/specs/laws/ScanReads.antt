-- The values that a scan reads, and the values in the fields.
use Rattle.std.specs.Prelude.{◌≡◌, ◌<◌, ◌≤◌, ◌∷◌, ◌⊎◌}
use Rattle.nmgc_snapshot_laws.specs.laws.Vocabulary.{ℕ, List, [], zero, suc, length, refl, subst, arith, Some, None, true, inl, inr, slice_get, slice_get_within, same_Some, Value, Node, Con, Var, Arr, Thunk, Weak, Stack, IsSized, strong_at, has_result, free_of, field_at, fields_of}

-- a scan reads the value of the field
pub read_at_place : (node : Node) (i : ℕ) (v : Value) → strong_at node i ≡ Some v → field_at node i ≡ Some v
read_at_place (Con tag values) i v h = h
read_at_place (Var old) i v h = h
read_at_place (Arr values) i v h = h
read_at_place (Thunk free None) zero v h = absurd cc
read_at_place (Thunk free None) (suc i) v h = h
read_at_place (Thunk free (Some result)) zero v h = h
read_at_place (Thunk free (Some result)) (suc i) v h = absurd cc
read_at_place (Weak parts) i v h = absurd cc
read_at_place (Stack size values) i v h = h

-- a field with a value is among the scanned fields
pub within_fields : (node : Node) (i : ℕ) (v : Value) → IsSized node → strong_at node i ≡ Some v → i < fields_of node
within_fields (Con tag values) i v z h = slice_get_within values i v h
within_fields (Var old) i v z h = slice_get_within (old ∷ []) i v h
within_fields (Arr values) i v z h = slice_get_within values i v h
within_fields (Thunk free None) zero v z h = absurd cc
within_fields (Thunk free None) (suc i) v z h = let lt : i < length free = slice_get_within free i v h in omega arith
within_fields (Thunk free (Some result)) zero v z h = omega arith
within_fields (Thunk free (Some result)) (suc i) v z h = absurd cc
within_fields (Weak parts) i v z h = absurd cc
within_fields (Stack size values) i v z h = let lt : i < length values = slice_get_within values i v h in let le : length values ≤ size = z in omega arith

-- a scan reads the value of the field, or a free variable of a thunk that has a result
pub read_cases : (node : Node) (i : ℕ) (v : Value) → field_at node i ≡ Some v → (strong_at node i ≡ Some v) ⊎
    ((has_result node ≡ true) × (1 ≤ i) × ((free : List Value) → free_of node ≡ Some free → strong_at (Thunk free None) i ≡ Some v))
read_cases (Con tag values) i v h = inl h
read_cases (Var old) i v h = inl h
read_cases (Arr values) i v h = inl h
read_cases (Thunk free None) zero v h = absurd cc
read_cases (Thunk free None) (suc i) v h = inl h
read_cases (Thunk free (Some result)) zero v h = inl h
read_cases (Thunk free (Some result)) (suc i) v h = inr (
  refl,
  omega arith,
  λ other e. let same : free ≡ other = same_Some free other e in
      subst (λ xs. slice_get xs i ≡ Some v) same h,
)
read_cases (Weak parts) i v h = absurd cc
read_cases (Stack size values) i v h = inl h
