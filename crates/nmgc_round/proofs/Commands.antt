-- The effect of a command on a known node, and on the words.
use Rattle.nmgc_round.proofs.Vocabulary.{get_or, length-set, ◌≡◌, ℕ, zero, suc, ◌+◌, ◌<◌, List, [], ◌∷◌, length, set, refl, ap, arith, slice_index, Some, cond, get_or-set_same, lt-ltb, slice_get, slice_get-get_or, Name, Value, Node, Con, Var, Arr, Thunk, Weak, Stack, Change, Operand, Get, Set, Reply, Fine, Given, NoField, World, node_of, IsSized, given_or, field_set, field_read, value_for, with_node, with_register, step, field_held, names_among, owed_by, header_of, holds, slots_of, Place, Means, HasSlots, values_fill, slots_mean, slots_of_fields, IsLater, IsWritable, IsReadable}
use Rattle.nmgc_world_spec.specs.declared.value.Value.TheVariants as value
use Rattle.nmgc_world_spec.specs.declared.change.Change.TheVariants as change
use Rattle.nmgc_round.proofs.Fields.{all_set}

-- `set` of a field that exists
pub step_set : (w : World) (m : ℕ) (object v : Operand) (index : ℕ) (name : Name) (found made : Node) → value_for w m object ≡ value.Ref name →
    node_of w name ≡ Some found → field_set found index (value_for w m v) ≡ (made, Fine) → step w m (Set object index v) ≡ (with_node w name made, Fine)
step_set w m object v index name found made is there does =
    let c : Change = change.Set index (value_for w m v) in
    rw (is, there, does)

-- it owes the old value
pub owes_set : (w : World) (m : ℕ) (object v : Operand) (index : ℕ) (name : Name) (found : Node) (old : Value) →
    value_for w m object ≡ value.Ref name → node_of w name ≡ Some found → field_held found index ≡ Some old →
    owed_by w m (Set object index v) ≡ names_among (old ∷ [])
owes_set w m object v index name found old is there held =
    let c : Change = change.Set index (value_for w m v) in
    cc (is, there, held)

-- `get` of a field that exists
pub step_get : (w : World) (m dest : ℕ) (object : Operand) (index : ℕ) (name : Name) (found : Node) (v : Value) →
    value_for w m object ≡ value.Ref name → node_of w name ≡ Some found → field_read found index ≡ Given v →
    step w m (Get dest object index) ≡ (with_register w m dest v, Given v)
step_get w m dest object index name found v is there reads =
    let read : Node → Reply = λ n. field_read n index in
    cc (is, there, reads)

-- a field that is written, with its word
pub record Written (P : Place → Type 0) (ws : List ℕ) (from index new : ℕ) (found : Node) (v : Value) : Type 0 where
  pub made : Node
  pub does : field_set found index v ≡ (made, Fine)
  pub later : IsLater found made
  pub sized : IsSized made
  pub fields : HasSlots P (set ws (from + index) new) from (slots_of made)
  pub old : Value
  pub held : field_held found index ≡ Some old
  pub was : Means P (slice_index ws (from + index)) old
  pub no_stack : (size : ℕ) (values : List Value) → found ≡ Stack size values → ⊥

pub written : (P : Place → Type 0) (ws : List ℕ) (from index new : ℕ) (found : Node) (v : Value) → IsWritable (header_of found).kind →
    index < (header_of found).fields → from + index < length ws → HasSlots P ws from (slots_of found) → Means P new v → Written P ws from index new found v
written P ws from index new (Con tag values) v may within inside h m = absurd may
written P ws from index new (Thunk free result) v may within inside h m = absurd may
written P ws from index new (Weak parts) v may within inside h m = absurd may
written P ws from index new (Stack size values) v may within inside h m = absurd may
written P ws from (suc index) new (Var old) v may within inside h m = absurd (omega arith)
written P ws from zero new (Var old) v may within inside h m =
    let z : from + 0 ≡ from = omega arith in
    let here : slice_index (set ws (from + 0) new) from ≡ new = cc (z, get_or-set_same ws from new 0 (omega arith)) in
    record {
      made = Var v;
      does = refl;
      later = record { header = refl; free = refl; result = λ e. e; alive = λ parts e. absurd cc };
      sized = tt;
      fields = slots_of_fields P (set ws (from + 0) new) from (Var v) (rw here m);
      old = old;
      held = refl;
      was = h zero (holds old) refl;
      no_stack = λ size values e. cc;
    }
written P ws from index new (Arr values) v may within inside h m =
    let all = slots_mean P ws from values h in
    let old : Value = get_or values index value.Nil in
    let held : slice_get values index ≡ Some old = slice_get-get_or values index value.Nil within in
    record {
      made = Arr (set values index v);
      does = ap (λ b. cond {A = Node × Reply} b (Arr (set values index v), Fine) (Arr values, NoField)) (lt-ltb index (length values) within);
      later = record { header = rw length-set refl; free = refl; result = λ e. e; alive = λ parts e. absurd cc };
      sized = tt;
      fields = values_fill P (set ws (from + index) new) from (set values index v) (all_set P ws from index new values v inside all m);
      old = old;
      held = held;
      was = all index old held;
      no_stack = λ size values' e. cc;
    }

-- a field that is read, with its word
pub record Read (P : Place → Type 0) (ws : List ℕ) (from index : ℕ) (found : Node) : Type 0 where
  pub value : Value
  pub reads : field_read found index ≡ Given value
  pub means : Means P (slice_index ws (from + index)) value

read_at : (P : Place → Type 0) (ws : List ℕ) (from index : ℕ) (values : List Value) → index < length values →
    ((i : ℕ) (v : Value) → slice_get values i ≡ Some v → Means P (slice_index ws (from + i)) v) → (v : Value) ×
    (given_or NoField (slice_get values index) ≡ Given v) × Means P (slice_index ws (from + index)) v
read_at P ws from index values within h =
    let e : slice_get values index ≡ Some (get_or values index value.Nil) = slice_get-get_or values index value.Nil within in
    (get_or values index value.Nil, ap (λ o. given_or NoField o) e, h index (get_or values index value.Nil) e)

pub read : (P : Place → Type 0) (ws : List ℕ) (from index : ℕ) (found : Node) → IsReadable (header_of found).kind →
    index < (header_of found).fields → HasSlots P ws from (slots_of found) → Read P ws from index found
read P ws from index (Thunk free result) may within h = absurd may
read P ws from index (Weak parts) may within h = absurd may
read P ws from index (Stack size values) may within h = absurd may
read P ws from index (Con tag values) may within h = let r = read_at P ws from index values within (slots_mean P ws from values h) in
    record { value = r.0; reads = r.1; means = r.2 }
read P ws from index (Arr values) may within h = let r = read_at P ws from index values within (slots_mean P ws from values h) in
    record { value = r.0; reads = r.1; means = r.2 }
read P ws from (suc index) (Var old) may within h = absurd (omega arith)
read P ws from zero (Var old) may within h = record { value = old; reads = refl; means = h zero (holds old) refl }
