-- The deletion barrier on one node: a change owes each value that it takes out of a strong field, and stores only its own.
use Rattle.std.specs.Prelude.{◌≡◌, ◌-◌, ◌∷◌, ◌++◌, ◌⊎◌}
use Rattle.nmgc_world_laws.specs.laws.Vocabulary.{ℕ, List, [], zero, suc, length, set, refl, ap, arith, Option, Some, None, Bool, true, false, cond, eqb, ltb, inl, inr, slice_get, All, Contains, IfSome, option_to_list, All-cons, All-nil, All-head, All-set, All-push, All-take, Name, Value, Node, Con, Var, Arr, Thunk, Weak, Stack, Reply, Fine, Yes, No, NoField, StackFull, StackEmpty, Change, Number, is_same, given_or, field_read, tag_read, result_read, exchanged_at, changed, last_of, stack_pushed, stack_popped, given, strong_fields, field_held, if_same, owed_in, free_held, top_held, strong_at, Fields, IsLater, item_has, contains_at, place_of, contains_option, kept_or_held, kept_or_last, slice_get-append, ne_eqb}
use Rattle.nmgc_world_spec.specs.declared.change.Change.TheVariants as change

-- a value in a strong field has a position
pub place_of_field : (node : Node) (v : Value) → Contains (strong_fields node) v → (i : ℕ) × (strong_at node i ≡ Some v)
place_of_field (Con tag values) v h = place_of values v h
place_of_field (Var old) v h = place_of (old ∷ []) v h
place_of_field (Arr values) v h = place_of values v h
place_of_field (Thunk free None) v h = let p : (i : ℕ) × (slice_get free i ≡ Some v) = place_of free v h in (suc p.0, p.1)
place_of_field (Thunk free (Some result)) v (zero, lt, e) = (zero, ap (λ x. Some x) e)
place_of_field (Thunk free (Some result)) v (suc i, lt, e) = absurd (omega arith)
place_of_field (Weak parts) v (i, lt, e) = absurd (omega arith)
place_of_field (Stack size values) v h = place_of values v h

-- a value at a position is in a strong field
pub field_at_place : (node : Node) (i : ℕ) (v : Value) → strong_at node i ≡ Some v → Contains (strong_fields node) v
field_at_place (Con tag values) i v h = contains_at values i v h
field_at_place (Var old) i v h = contains_at (old ∷ []) i v h
field_at_place (Arr values) i v h = contains_at values i v h
field_at_place (Thunk free None) zero v h = absurd cc
field_at_place (Thunk free None) (suc i) v h = contains_at free i v h
field_at_place (Thunk free (Some result)) zero v h = contains_option (Some result) v h
field_at_place (Thunk free (Some result)) (suc i) v h = absurd cc
field_at_place (Weak parts) i v h = absurd cc
field_at_place (Stack size values) i v h = contains_at values i v h

-- a change that isn't `finalise`
abbrev pub IsStrongChange : Change → Type 0
IsStrongChange change.Finalise = ⊥
IsStrongChange _ = Unit {0}

-- the value that a change writes has Q
abbrev pub Writes : (Value → Type 0) → Change → Type 0
Writes Q (change.Set index v) = Q v
Writes Q (change.Exchange index expected v) = Q v
Writes Q (change.Update v) = Q v
Writes Q (change.Push m v) = Q v
Writes Q _ = Unit {0}

-- either of two nodes, by a test
pub two_nodes : (P : Node → Type 0) (b : Bool) (made kept : Node) (r s : Reply) → P made → P kept → P (cond {A = Node × Reply} b (made, r) (kept, s)).0
two_nodes P true made kept r s h k = h
two_nodes P false made kept r s h k = k

pub exchanged_node : (P : Node → Type 0) (old : Option Value) (expected : Value) (kept made : Node) → P made → P kept →
    P (exchanged_at old expected kept made).0
exchanged_node P None expected kept made h k = k
exchanged_node P (Some old) expected kept made h k = two_nodes P (is_same old expected) made kept Yes No h k

module _ (Q : Value → Type 0) where
  one : (v : Value) → Q v → All Q (v ∷ [])
  one v h = All-cons Q v [] h (All-nil Q)

  -- a change puts only the value that it writes into strong fields
  pub changed_fields : (c : Change) (maker : ℕ) (node : Node) → IsStrongChange c → Writes Q c → Fields Q node → Fields Q (changed c maker node).0
  changed_fields (change.Set index v) maker (Con tag values) s q h = h
  changed_fields (change.Set index v) maker (Var old) s q h = two_nodes (Fields Q) (eqb index 0) (Var v) (Var old) Fine NoField (one v q) h
  changed_fields (change.Set index v) maker (Arr values) s q h =
      two_nodes (Fields Q) (ltb index (length values)) (Arr (set values index v)) (Arr values) Fine NoField (All-set Q values index v q h) h
  changed_fields (change.Set index v) maker (Thunk free result) s q h = h
  changed_fields (change.Set index v) maker (Weak parts) s q h = h
  changed_fields (change.Set index v) maker (Stack size values) s q h = h
  changed_fields (change.Exchange index expected v) maker (Con tag values) s q h = h
  changed_fields (change.Exchange index expected v) maker (Var old) s q h =
      exchanged_node (Fields Q) (slice_get (old ∷ []) index) expected (Var old) (Var v) (one v q) h
  changed_fields (change.Exchange index expected v) maker (Arr values) s q h =
      exchanged_node (Fields Q) (slice_get values index) expected (Arr values) (Arr (set values index v)) (All-set Q values index v q h) h
  changed_fields (change.Exchange index expected v) maker (Thunk free result) s q h = h
  changed_fields (change.Exchange index expected v) maker (Weak parts) s q h = h
  changed_fields (change.Exchange index expected v) maker (Stack size values) s q h = h
  changed_fields (change.Update v) maker (Con tag values) s q h = h
  changed_fields (change.Update v) maker (Var old) s q h = h
  changed_fields (change.Update v) maker (Arr values) s q h = h
  changed_fields (change.Update v) maker (Thunk free None) s q h = one v q
  changed_fields (change.Update v) maker (Thunk free (Some result)) s q h = h
  changed_fields (change.Update v) maker (Weak parts) s q h = h
  changed_fields (change.Update v) maker (Stack size values) s q h = h
  changed_fields (change.Push m v) maker (Con tag values) s q h = h
  changed_fields (change.Push m v) maker (Var old) s q h = h
  changed_fields (change.Push m v) maker (Arr values) s q h = h
  changed_fields (change.Push m v) maker (Thunk free result) s q h = h
  changed_fields (change.Push m v) maker (Weak parts) s q h = h
  changed_fields (change.Push m v) maker (Stack size values) s q h = pushed (eqb maker m)
    where
      pushed : (own : Bool) → Fields Q (stack_pushed own (Stack size values) v).0
      pushed true = two_nodes (Fields Q) (ltb (length values) size) (Stack size (values ++ v ∷
          [])) (Stack size values) Fine StackFull (All-push Q values v h q) h
      pushed false = h
  changed_fields (change.Pop m) maker (Con tag values) s q h = h
  changed_fields (change.Pop m) maker (Var old) s q h = h
  changed_fields (change.Pop m) maker (Arr values) s q h = h
  changed_fields (change.Pop m) maker (Thunk free result) s q h = h
  changed_fields (change.Pop m) maker (Weak parts) s q h = h
  changed_fields (change.Pop m) maker (Stack size values) s q h = popped (eqb maker m)
    where
      popped : (own : Bool) → Fields Q (stack_popped own (Stack size values)).0
      popped true = All-take Q (length values - 1) values h
      popped false = h
  changed_fields change.Finalise maker node s q h = absurd s

  -- each value owed was in a strong field
  if_same_has : (expected : Value) (o : Option Value) → IfSome o Q → All Q (if_same expected o)
  if_same_has expected None h = All-nil Q
  if_same_has expected (Some v) h = by_test (is_same v expected)
    where
      by_test : (b : Bool) → All Q (cond b (v ∷ []) [])
      by_test true = one v h
      by_test false = All-nil Q

  option_has : (o : Option Value) → IfSome o Q → All Q (option_to_list o)
  option_has None h = All-nil Q
  option_has (Some v) h = one v h

  held_has : (node : Node) (index : ℕ) → Fields Q node → IfSome (field_held node index) Q
  held_has (Con tag values) index h = tt
  held_has (Var old) index h = item_has Q (old ∷ []) index h
  held_has (Arr values) index h = item_has Q values index h
  held_has (Thunk free result) index h = tt
  held_has (Weak parts) index h = tt
  held_has (Stack size values) index h = tt

  free_has : (node : Node) → Fields Q node → All Q (free_held node)
  free_has (Con tag values) h = All-nil Q
  free_has (Var old) h = All-nil Q
  free_has (Arr values) h = All-nil Q
  free_has (Thunk free None) h = h
  free_has (Thunk free (Some result)) h = All-nil Q
  free_has (Weak parts) h = All-nil Q
  free_has (Stack size values) h = All-nil Q

  top_has : (own : Bool) (node : Node) → Fields Q node → All Q (top_held own node)
  top_has own (Con tag values) h = All-nil Q
  top_has own (Var old) h = All-nil Q
  top_has own (Arr values) h = All-nil Q
  top_has own (Thunk free result) h = All-nil Q
  top_has own (Weak parts) h = All-nil Q
  top_has true (Stack size values) h = option_has (last_of values) (item_has Q values (length values - 1) h)
  top_has false (Stack size values) h = All-nil Q

  pub owed_fields : (c : Change) (name : Name) (node : Node) → IsStrongChange c → Fields Q node → All Q (owed_in c name node)
  owed_fields (change.Set index v) name node s h = option_has (field_held node index) (held_has node index h)
  owed_fields (change.Exchange index expected v) name node s h = if_same_has expected (field_held node index) (held_has node index h)
  owed_fields (change.Update v) name node s h = free_has node h
  owed_fields (change.Push m v) name node s h = All-nil Q
  owed_fields (change.Pop m) name node s h = top_has (eqb name.maker m) node h
  owed_fields change.Finalise name node s h = absurd s

  given_has : (refusal : Reply) (o : Option Value) → given refusal ≡ None → IfSome o Q → IfSome (given (given_or refusal o)) Q
  given_has refusal None e h = rw e tt
  given_has refusal (Some v) e h = h

  -- the answers of `get` and `force` were in a strong field
  pub field_read_has : (node : Node) (index : ℕ) → Fields Q node → IfSome (given (field_read node index)) Q
  field_read_has (Con tag values) index h = given_has NoField (slice_get values index) refl (item_has Q values index h)
  field_read_has (Var old) index h = given_has NoField (slice_get (old ∷ []) index) refl (item_has Q (old ∷ []) index h)
  field_read_has (Arr values) index h = given_has NoField (slice_get values index) refl (item_has Q values index h)
  field_read_has (Thunk free result) index h = tt
  field_read_has (Weak parts) index h = tt
  field_read_has (Stack size values) index h = tt

  pub result_read_has : (node : Node) → Fields Q node → IfSome (given (result_read node)) Q
  result_read_has (Con tag values) h = tt
  result_read_has (Var old) h = tt
  result_read_has (Arr values) h = tt
  result_read_has (Thunk free None) h = tt
  result_read_has (Thunk free (Some result)) h = All-head Q result [] h
  result_read_has (Weak parts) h = tt
  result_read_has (Stack size values) h = tt

  -- the answer of `tag` is a number
  pub tag_read_has : (node : Node) → ((n : ℕ) → Q (Number n)) → IfSome (given (tag_read node)) Q
  tag_read_has (Con tag values) h = h tag
  tag_read_has (Var old) h = tt
  tag_read_has (Arr values) h = tt
  tag_read_has (Thunk free result) h = tt
  tag_read_has (Weak parts) h = tt
  tag_read_has (Stack size values) h = tt

  -- the answer of a change was in a strong field
  two_answers : (b : Bool) (made kept : Node) (r s : Reply) → given r ≡ None → given s ≡ None →
      IfSome (given (cond {A = Node × Reply} b (made, r) (kept, s)).1) Q
  two_answers true made kept r s e d = rw e tt
  two_answers false made kept r s e d = rw d tt

  exchanged_answer : (old : Option Value) (expected : Value) (kept made : Node) → IfSome (given (exchanged_at old expected kept made).1) Q
  exchanged_answer None expected kept made = tt
  exchanged_answer (Some old) expected kept made = two_answers (is_same old expected) made kept Yes No refl refl

  pub answer_has : (c : Change) (maker : ℕ) (node : Node) → IsStrongChange c → Fields Q node → IfSome (given (changed c maker node).1) Q
  answer_has (change.Set index v) maker (Con tag values) s h = tt
  answer_has (change.Set index v) maker (Var old) s h = two_answers (eqb index 0) (Var v) (Var old) Fine NoField refl refl
  answer_has (change.Set index v) maker (Arr values) s h =
      two_answers (ltb index (length values)) (Arr (set values index v)) (Arr values) Fine NoField refl refl
  answer_has (change.Set index v) maker (Thunk free result) s h = tt
  answer_has (change.Set index v) maker (Weak parts) s h = tt
  answer_has (change.Set index v) maker (Stack size values) s h = tt
  answer_has (change.Exchange index expected v) maker (Con tag values) s h = tt
  answer_has (change.Exchange index expected v) maker (Var old) s h = exchanged_answer (slice_get (old ∷ []) index) expected (Var old) (Var v)
  answer_has (change.Exchange index expected v) maker (Arr values) s h =
      exchanged_answer (slice_get values index) expected (Arr values) (Arr (set values index v))
  answer_has (change.Exchange index expected v) maker (Thunk free result) s h = tt
  answer_has (change.Exchange index expected v) maker (Weak parts) s h = tt
  answer_has (change.Exchange index expected v) maker (Stack size values) s h = tt
  answer_has (change.Update v) maker (Con tag values) s h = tt
  answer_has (change.Update v) maker (Var old) s h = tt
  answer_has (change.Update v) maker (Arr values) s h = tt
  answer_has (change.Update v) maker (Thunk free None) s h = tt
  answer_has (change.Update v) maker (Thunk free (Some result)) s h = tt
  answer_has (change.Update v) maker (Weak parts) s h = tt
  answer_has (change.Update v) maker (Stack size values) s h = tt
  answer_has (change.Push m v) maker (Con tag values) s h = tt
  answer_has (change.Push m v) maker (Var old) s h = tt
  answer_has (change.Push m v) maker (Arr values) s h = tt
  answer_has (change.Push m v) maker (Thunk free result) s h = tt
  answer_has (change.Push m v) maker (Weak parts) s h = tt
  answer_has (change.Push m v) maker (Stack size values) s h = pushed (eqb maker m)
    where
      pushed : (own : Bool) → IfSome (given (stack_pushed own (Stack size values) v).1) Q
      pushed true = two_answers (ltb (length values) size) (Stack size (values ++ v ∷ [])) (Stack size values) Fine StackFull refl refl
      pushed false = tt
  answer_has (change.Pop m) maker (Con tag values) s h = tt
  answer_has (change.Pop m) maker (Var old) s h = tt
  answer_has (change.Pop m) maker (Arr values) s h = tt
  answer_has (change.Pop m) maker (Thunk free result) s h = tt
  answer_has (change.Pop m) maker (Weak parts) s h = tt
  answer_has (change.Pop m) maker (Stack size values) s h = popped (eqb maker m)
    where
      popped : (own : Bool) → IfSome (given (stack_popped own (Stack size values)).1) Q
      popped true = given_has StackEmpty (last_of values) refl (item_has Q values (length values - 1) h)
      popped false = tt
  answer_has change.Finalise maker node s h = absurd s

-- a value stays in its strong field after a change, or it is owed
abbrev Stays : Change → Name → Node → ℕ → Value → Node → Type 0
Stays c name node i x made = (strong_at made i ≡ Some x) ⊎ Contains (owed_in c name node) x

-- the same for either of two nodes, if the second is the old node
written_or_kept : (i : ℕ) (x : Value) (owed : List Value) (b : Bool) (made kept : Node) (r s : Reply) → (strong_at made i ≡ Some x) ⊎
    Contains owed x → strong_at kept i ≡ Some x → (strong_at (cond {A = Node × Reply} b (made, r) (kept, s)).0 i ≡ Some x) ⊎ Contains owed x
written_or_kept i x owed true made kept r s h k = h
written_or_kept i x owed false made kept r s h k = inl k

-- a write to an item owes the item
set_owes : (values : List Value) (index : ℕ) (v : Value) (i : ℕ) (x : Value) → slice_get values i ≡ Some x →
    (slice_get (set values index v) i ≡ Some x) ⊎ Contains (option_to_list (slice_get values index)) x
set_owes values index v i x h = elim (kept_or_held values index v i x h) [
  | inl e ↦ inl e
  | inr e ↦ inr (contains_option (slice_get values index) x e)
]

var_owes : (old : Value) (index i : ℕ) (v x : Value) → slice_get (old ∷ []) i ≡ Some x →
    (strong_at (cond {A = Node × Reply} (eqb index 0) (Var v, Fine) (Var old, NoField)).0 i ≡ Some x) ⊎ Contains (option_to_list (slice_get (old ∷ []) index)) x
var_owes old zero zero v x h = inr (contains_option (Some old) x h)
var_owes old zero (suc i) v x h = absurd cc
var_owes old (suc index) i v x h = let e : eqb (suc index) 0 ≡ false = ne_eqb (suc index) 0 (λ z. absurd (omega arith)) in rw e (inl h)

-- an exchange owes the item if it writes
exchange_owes : (i : ℕ) (x : Value) (made kept : Node) (o : Option Value) (expected : Value) → strong_at kept i ≡ Some x →
    ((strong_at made i ≡ Some x) ⊎ (o ≡ Some x)) → (strong_at (exchanged_at o expected kept made).0 i ≡ Some x) ⊎ Contains (if_same expected o) x
exchange_owes i x made kept None expected k h = inl k
exchange_owes i x made kept (Some old) expected k h = by_test (is_same old expected)
  where
    by_test : (b : Bool) → (strong_at (cond {A = Node × Reply} b (made, Yes) (kept, No)).0 i ≡ Some x) ⊎ Contains (cond b (old ∷ []) []) x
    by_test true = elim h [ inl e ↦ inl e | inr e ↦ inr (contains_option (Some old) x e) ]
    by_test false = inl k

exchange_var : (old : Value) (index i : ℕ) (expected v x : Value) → slice_get (old ∷ []) i ≡ Some x →
    (strong_at (exchanged_at (slice_get (old ∷ []) index) expected (Var old) (Var v)).0 i ≡ Some x) ⊎ Contains (if_same expected (slice_get (old ∷ []) index)) x
exchange_var old zero zero expected v x h = exchange_owes zero x (Var v) (Var old) (Some old) expected h (inr h)
exchange_var old zero (suc i) expected v x h = absurd cc
exchange_var old (suc index) i expected v x h = inl h

-- the deletion barrier: a value stays in its strong field after a change, or it is owed
pub stays_or_owed : (c : Change) (name : Name) (node : Node) (i : ℕ) (x : Value) → IsStrongChange c → strong_at node i ≡ Some x →
    Stays c name node i x (changed c name.maker node).0
stays_or_owed (change.Set index v) name (Con tag values) i x s h = inl h
stays_or_owed (change.Set index v) name (Var old) i x s h = var_owes old index i v x h
stays_or_owed (change.Set index v) name (Arr values) i x s h =
    written_or_kept i x (option_to_list (slice_get values index)) (ltb index (length values)) (Arr (set values index v)) (Arr values) Fine NoField
    (set_owes values index v i x h) h
stays_or_owed (change.Set index v) name (Thunk free result) i x s h = inl h
stays_or_owed (change.Set index v) name (Weak parts) i x s h = inl h
stays_or_owed (change.Set index v) name (Stack size values) i x s h = inl h
stays_or_owed (change.Exchange index expected v) name (Con tag values) i x s h = inl h
stays_or_owed (change.Exchange index expected v) name (Var old) i x s h = exchange_var old index i expected v x h
stays_or_owed (change.Exchange index expected v) name (Arr values) i x s h =
    exchange_owes i x (Arr (set values index v)) (Arr values) (slice_get values index) expected h (kept_or_held values index v i x h)
stays_or_owed (change.Exchange index expected v) name (Thunk free result) i x s h = inl h
stays_or_owed (change.Exchange index expected v) name (Weak parts) i x s h = inl h
stays_or_owed (change.Exchange index expected v) name (Stack size values) i x s h = inl h
stays_or_owed (change.Update v) name (Con tag values) i x s h = inl h
stays_or_owed (change.Update v) name (Var old) i x s h = inl h
stays_or_owed (change.Update v) name (Arr values) i x s h = inl h
stays_or_owed (change.Update v) name (Thunk free None) zero x s h = absurd cc
stays_or_owed (change.Update v) name (Thunk free None) (suc i) x s h = inr (contains_at free i x h)
stays_or_owed (change.Update v) name (Thunk free (Some result)) i x s h = inl h
stays_or_owed (change.Update v) name (Weak parts) i x s h = inl h
stays_or_owed (change.Update v) name (Stack size values) i x s h = inl h
stays_or_owed (change.Push m v) name (Con tag values) i x s h = inl h
stays_or_owed (change.Push m v) name (Var old) i x s h = inl h
stays_or_owed (change.Push m v) name (Arr values) i x s h = inl h
stays_or_owed (change.Push m v) name (Thunk free result) i x s h = inl h
stays_or_owed (change.Push m v) name (Weak parts) i x s h = inl h
stays_or_owed (change.Push m v) name (Stack size values) i x s h = pushed (eqb name.maker m)
  where
    pushed : (own : Bool) → (strong_at (stack_pushed own (Stack size values) v).0 i ≡ Some x) ⊎ Contains [] x
    pushed true = written_or_kept i x [] (ltb (length values) size) (Stack size (values ++ v ∷
        [])) (Stack size values) Fine StackFull (inl (slice_get-append values (v ∷ []) i x h)) h
    pushed false = inl h
stays_or_owed (change.Pop m) name (Con tag values) i x s h = inl h
stays_or_owed (change.Pop m) name (Var old) i x s h = inl h
stays_or_owed (change.Pop m) name (Arr values) i x s h = inl h
stays_or_owed (change.Pop m) name (Thunk free result) i x s h = inl h
stays_or_owed (change.Pop m) name (Weak parts) i x s h = inl h
stays_or_owed (change.Pop m) name (Stack size values) i x s h = popped (eqb name.maker m)
  where
    popped : (own : Bool) → (strong_at (stack_popped own (Stack size values)).0 i ≡ Some x) ⊎ Contains (top_held own (Stack size values)) x
    popped true = elim (kept_or_last values i x h) [
      | inl e ↦ inl e
      | inr e ↦ inr (contains_option (last_of values) x e)
    ]
    popped false = inl h
stays_or_owed change.Finalise name node i x s h = absurd s

pub same_later : (node : Node) → IsLater node node
same_later node = record { free = refl; result = λ h. h }

pub changed_later : (c : Change) (maker : ℕ) (node : Node) → IsStrongChange c → IsLater node (changed c maker node).0
changed_later (change.Set index v) maker (Con tag values) s = same_later _
changed_later (change.Set index v) maker (Var old) s = two_nodes (IsLater (Var old)) (eqb index 0) (Var v) (Var old) Fine NoField (record {
  free =
      refl;
  result = λ h. h;
}) (same_later _)
changed_later (change.Set index v) maker (Arr values) s =
    two_nodes (IsLater (Arr values)) (ltb index (length values)) (Arr (set values index v)) (Arr values) Fine NoField (record {
      free = refl;
      result = λ h. h;
    }) (same_later _)
changed_later (change.Set index v) maker (Thunk free result) s = same_later _
changed_later (change.Set index v) maker (Weak parts) s = same_later _
changed_later (change.Set index v) maker (Stack size values) s = same_later _
changed_later (change.Exchange index expected v) maker (Con tag values) s = same_later _
changed_later (change.Exchange index expected v) maker (Var old) s =
    exchanged_node (IsLater (Var old)) (slice_get (old ∷ []) index) expected (Var old) (Var v) (record { free = refl; result = λ h. h }) (same_later _)
changed_later (change.Exchange index expected v) maker (Arr values) s =
    exchanged_node (IsLater (Arr values)) (slice_get values index) expected (Arr values) (Arr (set values index v)) (record {
      free = refl;
      result = λ h. h;
    }) (same_later _)
changed_later (change.Exchange index expected v) maker (Thunk free result) s = same_later _
changed_later (change.Exchange index expected v) maker (Weak parts) s = same_later _
changed_later (change.Exchange index expected v) maker (Stack size values) s = same_later _
changed_later (change.Update v) maker (Con tag values) s = same_later _
changed_later (change.Update v) maker (Var old) s = same_later _
changed_later (change.Update v) maker (Arr values) s = same_later _
changed_later (change.Update v) maker (Thunk free None) s = record { free = refl; result = λ h. absurd cc }
changed_later (change.Update v) maker (Thunk free (Some result)) s = same_later _
changed_later (change.Update v) maker (Weak parts) s = same_later _
changed_later (change.Update v) maker (Stack size values) s = same_later _
changed_later (change.Push m v) maker (Con tag values) s = same_later _
changed_later (change.Push m v) maker (Var old) s = same_later _
changed_later (change.Push m v) maker (Arr values) s = same_later _
changed_later (change.Push m v) maker (Thunk free result) s = same_later _
changed_later (change.Push m v) maker (Weak parts) s = same_later _
changed_later (change.Push m v) maker (Stack size values) s = pushed (eqb maker m)
  where
    pushed : (own : Bool) → IsLater (Stack size values) (stack_pushed own (Stack size values) v).0
    pushed true = two_nodes (IsLater (Stack size values)) (ltb (length values) size) (Stack size (values ++ v ∷
        [])) (Stack size values) Fine StackFull (record { free = refl; result = λ h. h }) (same_later _)
    pushed false = same_later _
changed_later (change.Pop m) maker (Con tag values) s = same_later _
changed_later (change.Pop m) maker (Var old) s = same_later _
changed_later (change.Pop m) maker (Arr values) s = same_later _
changed_later (change.Pop m) maker (Thunk free result) s = same_later _
changed_later (change.Pop m) maker (Weak parts) s = same_later _
changed_later (change.Pop m) maker (Stack size values) s = popped (eqb maker m)
  where
    popped : (own : Bool) → IsLater (Stack size values) (stack_popped own (Stack size values)).0
    popped true = record { free = refl; result = λ h. h }
    popped false = same_later _
changed_later change.Finalise maker node s = absurd s
