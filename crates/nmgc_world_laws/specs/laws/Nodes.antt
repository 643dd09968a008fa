-- Known values stay known after reads and changes of a node.
use Rattle.std.specs.Prelude.{◌≡◌, ◌<◌, ◌≤◌, ◌-◌, ◌∷◌, ◌++◌}
use Rattle.nmgc_world_laws.specs.laws.Vocabulary.{ℕ, List, [], length, set, refl, arith, length-append, length-take, length-set, Option, Some, None, Bool, true, false, cond, eqb, ltb, IfSome, slice_get, All-cons, All-head, All-tail, All-nil, All-set, All-push, All-take, ltb-true, Value, Node, Con, Var, Arr, Thunk, Weak, Stack, Reply, Fine, Yes, No, NoField, StackEmpty, StackFull, Change, World, held_by, IsShared, AreKnown, IsKnown, IsKnownReply, IsKnownChange, IsNodeOf, strong_fields, is_same, given_or, field_read, result_read, value_read, field_set, exchanged_at, field_exchanged, thunk_updated, stack_pushed, stack_popped, last_of, weak_finalised, changed, item_has, one_has}
use Rattle.nmgc_world_spec.specs.declared.change.Change.TheVariants as change

module _ (w : World) where
  given_known : (refusal : Reply) (o : Option Value) → IsKnownReply w refusal → IfSome o (IsKnown w) → IsKnownReply w (given_or refusal o)
  given_known refusal None r h = r
  given_known refusal (Some v) r h = h

  -- `get` gives a value that the node holds
  pub field_read_known : (node : Node) (index : ℕ) → AreKnown w (held_by node) → IsKnownReply w (field_read node index)
  field_read_known (Con tag values) index h = given_known NoField (slice_get values index) tt (item_has (IsKnown w) values index h)
  field_read_known (Var v) index h = given_known NoField (slice_get (v ∷ []) index) tt (item_has (IsKnown w) (v ∷ []) index h)
  field_read_known (Arr values) index h = given_known NoField (slice_get values index) tt (item_has (IsKnown w) values index h)
  field_read_known (Thunk free result) index h = tt
  field_read_known (Weak parts) index h = tt
  field_read_known (Stack size values) index h = tt

  -- `force` gives a value that the node holds
  pub result_read_known : (node : Node) → AreKnown w (held_by node) → IsKnownReply w (result_read node)
  result_read_known (Con tag values) h = tt
  result_read_known (Var v) h = tt
  result_read_known (Arr values) h = tt
  result_read_known (Thunk free None) h = tt
  result_read_known (Thunk free (Some v)) h = All-head (IsKnown w) v free h
  result_read_known (Weak parts) h = tt
  result_read_known (Stack size values) h = tt

  -- `deref` gives a value that the node holds
  pub value_read_known : (node : Node) → AreKnown w (held_by node) → IsKnownReply w (value_read node)
  value_read_known (Con tag values) h = tt
  value_read_known (Var v) h = tt
  value_read_known (Arr values) h = tt
  value_read_known (Thunk free result) h = tt
  value_read_known (Weak None) h = tt
  value_read_known (Weak (Some p)) h = All-head (IsKnown w) p.value (p.finaliser ∷ []) (All-tail (IsKnown w) p.key (p.value ∷ p.finaliser ∷ []) h)
  value_read_known (Stack size values) h = tt

  -- either of two nodes that a world may have, with an answer that gives nothing
  either : (b : Bool) (made kept : Node) (r s : Reply) → IsNodeOf w made → IsNodeOf w kept → IsNodeOf w (cond {A = Node × Reply} b (made, r) (kept, s)).0
  either true made kept r s h k = h
  either false made kept r s h k = k

  field_set_known : (node : Node) (index : ℕ) (v : Value) → IsKnown w v → IsNodeOf w node → IsNodeOf w (field_set node index v).0
  field_set_known (Con tag values) index v k h = h
  field_set_known (Var old) index v k h = either (eqb index 0) (Var v) (Var old) Fine NoField (record { known = one_has (IsKnown w) v k; sized = tt }) h
  field_set_known (Arr values) index v k h =
      either (ltb index (length values)) (Arr (set values index v)) (Arr values) Fine NoField (record {
        known =
            All-set (IsKnown w) values index v k h.known;
        sized = tt;
      }) h
  field_set_known (Thunk free result) index v k h = h
  field_set_known (Weak parts) index v k h = h
  field_set_known (Stack size values) index v k h = h

  exchanged_known : (old : Option Value) (expected : Value) (kept made : Node) → IsNodeOf w made → IsNodeOf w kept →
      IsNodeOf w (exchanged_at old expected kept made).0
  exchanged_known None expected kept made h k = k
  exchanged_known (Some old) expected kept made h k = either (is_same old expected) made kept Yes No h k

  field_exchanged_known : (node : Node) (index : ℕ) (expected v : Value) → IsKnown w v → IsNodeOf w node → IsNodeOf w (field_exchanged node index expected v).0
  field_exchanged_known (Con tag values) index expected v k h = h
  field_exchanged_known (Var old) index expected v k h = exchanged_known (slice_get (old ∷ []) index) expected (Var old) (Var v) (record {
    known =
        one_has (IsKnown w) v k;
    sized = tt;
  }) h
  field_exchanged_known (Arr values) index expected v k h =
      exchanged_known (slice_get values index) expected (Arr values) (Arr (set values index v)) (record {
        known =
            All-set (IsKnown w) values index v k h.known;
        sized = tt;
      }) h
  field_exchanged_known (Thunk free result) index expected v k h = h
  field_exchanged_known (Weak parts) index expected v k h = h
  field_exchanged_known (Stack size values) index expected v k h = h

  thunk_updated_known : (node : Node) (v : Value) → IsKnown w v → IsNodeOf w node → IsNodeOf w (thunk_updated node v).0
  thunk_updated_known (Con tag values) v k h = h
  thunk_updated_known (Var old) v k h = h
  thunk_updated_known (Arr values) v k h = h
  thunk_updated_known (Thunk free None) v k h = record { known = All-cons (IsKnown w) v free k h.known; sized = tt }
  thunk_updated_known (Thunk free (Some old)) v k h = h
  thunk_updated_known (Weak parts) v k h = h
  thunk_updated_known (Stack size values) v k h = h

  pushed_known : (b : Bool) (size : ℕ) (values : List Value) (v : Value) → ltb (length values) size ≡ b → IsKnown w v →
      IsNodeOf w (Stack size values) → IsNodeOf w (cond {A = Node × Reply} b (Stack size (values ++ v ∷ []), Fine) (Stack size values, StackFull)).0
  pushed_known true size values v e k h = record {
    known = All-push (IsKnown w) values v h.known k;
    sized = let lt : length values < size = ltb-true (length values) size e in omega (arith, length-append values (v ∷ []));
  }
  pushed_known false size values v e k h = h

  stack_pushed_known : (own : Bool) (node : Node) (v : Value) → IsKnown w v → IsNodeOf w node → IsNodeOf w (stack_pushed own node v).0
  stack_pushed_known own (Con tag values) v k h = h
  stack_pushed_known own (Var old) v k h = h
  stack_pushed_known own (Arr values) v k h = h
  stack_pushed_known own (Thunk free result) v k h = h
  stack_pushed_known own (Weak parts) v k h = h
  stack_pushed_known true (Stack size values) v k h = pushed_known (ltb (length values) size) size values v refl k h
  stack_pushed_known false (Stack size values) v k h = h

  stack_popped_known : (own : Bool) (node : Node) → IsNodeOf w node → IsNodeOf w (stack_popped own node).0
  stack_popped_known own (Con tag values) h = h
  stack_popped_known own (Var old) h = h
  stack_popped_known own (Arr values) h = h
  stack_popped_known own (Thunk free result) h = h
  stack_popped_known own (Weak parts) h = h
  stack_popped_known true (Stack size values) h = record {
    known = All-take (IsKnown w) (length values - 1) values h.known;
    sized = let within : length values ≤ size = h.sized in omega (arith, length-take (length values - 1) values);
  }
  stack_popped_known false (Stack size values) h = h

  weak_finalised_known : (node : Node) → IsNodeOf w node → IsNodeOf w (weak_finalised node).0
  weak_finalised_known (Con tag values) h = h
  weak_finalised_known (Var old) h = h
  weak_finalised_known (Arr values) h = h
  weak_finalised_known (Thunk free result) h = h
  weak_finalised_known (Weak None) h = h
  weak_finalised_known (Weak (Some p)) h = record { known = All-nil (IsKnown w); sized = tt }
  weak_finalised_known (Stack size values) h = h

  -- a change leaves a node that the world may have
  pub changed_known : (c : Change) (maker : ℕ) (node : Node) → IsKnownChange w c → IsNodeOf w node → IsNodeOf w (changed c maker node).0
  changed_known (change.Set index v) maker node k h = field_set_known node index v k h
  changed_known (change.Exchange index expected v) maker node k h = field_exchanged_known node index expected v k h
  changed_known (change.Update v) maker node k h = thunk_updated_known node v k h
  changed_known (change.Push m v) maker node k h = stack_pushed_known (eqb maker m) node v k h
  changed_known (change.Pop m) maker node k h = stack_popped_known (eqb maker m) node h
  changed_known change.Finalise maker node k h = weak_finalised_known node h

  two_replies : (b : Bool) (made kept : Node) (r s : Reply) → IsKnownReply w r → IsKnownReply w s →
      IsKnownReply w (cond {A = Node × Reply} b (made, r) (kept, s)).1
  two_replies true made kept r s h k = h
  two_replies false made kept r s h k = k

  exchanged_reply : (old : Option Value) (expected : Value) (kept made : Node) → IsKnownReply w (exchanged_at old expected kept made).1
  exchanged_reply None expected kept made = tt
  exchanged_reply (Some old) expected kept made = two_replies (is_same old expected) made kept Yes No tt tt

  field_set_reply : (node : Node) (index : ℕ) (v : Value) → IsKnownReply w (field_set node index v).1
  field_set_reply (Con tag values) index v = tt
  field_set_reply (Var old) index v = two_replies (eqb index 0) (Var v) (Var old) Fine NoField tt tt
  field_set_reply (Arr values) index v = two_replies (ltb index (length values)) (Arr (set values index v)) (Arr values) Fine NoField tt tt
  field_set_reply (Thunk free result) index v = tt
  field_set_reply (Weak parts) index v = tt
  field_set_reply (Stack size values) index v = tt

  field_exchanged_reply : (node : Node) (index : ℕ) (expected v : Value) → IsKnownReply w (field_exchanged node index expected v).1
  field_exchanged_reply (Con tag values) index expected v = tt
  field_exchanged_reply (Var old) index expected v = exchanged_reply (slice_get (old ∷ []) index) expected (Var old) (Var v)
  field_exchanged_reply (Arr values) index expected v = exchanged_reply (slice_get values index) expected (Arr values) (Arr (set values index v))
  field_exchanged_reply (Thunk free result) index expected v = tt
  field_exchanged_reply (Weak parts) index expected v = tt
  field_exchanged_reply (Stack size values) index expected v = tt

  thunk_updated_reply : (node : Node) (v : Value) → IsKnownReply w (thunk_updated node v).1
  thunk_updated_reply (Con tag values) v = tt
  thunk_updated_reply (Var old) v = tt
  thunk_updated_reply (Arr values) v = tt
  thunk_updated_reply (Thunk free None) v = tt
  thunk_updated_reply (Thunk free (Some old)) v = tt
  thunk_updated_reply (Weak parts) v = tt
  thunk_updated_reply (Stack size values) v = tt

  stack_pushed_reply : (own : Bool) (node : Node) (v : Value) → IsKnownReply w (stack_pushed own node v).1
  stack_pushed_reply own (Con tag values) v = tt
  stack_pushed_reply own (Var old) v = tt
  stack_pushed_reply own (Arr values) v = tt
  stack_pushed_reply own (Thunk free result) v = tt
  stack_pushed_reply own (Weak parts) v = tt
  stack_pushed_reply true (Stack size values) v = two_replies (ltb (length values) size) (Stack size (values ++ v ∷
      [])) (Stack size values) Fine StackFull tt tt
  stack_pushed_reply false (Stack size values) v = tt

  stack_popped_reply : (own : Bool) (node : Node) → AreKnown w (held_by node) → IsKnownReply w (stack_popped own node).1
  stack_popped_reply own (Con tag values) h = tt
  stack_popped_reply own (Var old) h = tt
  stack_popped_reply own (Arr values) h = tt
  stack_popped_reply own (Thunk free result) h = tt
  stack_popped_reply own (Weak parts) h = tt
  stack_popped_reply true (Stack size values) h = given_known StackEmpty (last_of values) tt (item_has (IsKnown w) values (length values - 1) h)
  stack_popped_reply false (Stack size values) h = tt

  weak_finalised_reply : (node : Node) → AreKnown w (held_by node) → IsKnownReply w (weak_finalised node).1
  weak_finalised_reply (Con tag values) h = tt
  weak_finalised_reply (Var old) h = tt
  weak_finalised_reply (Arr values) h = tt
  weak_finalised_reply (Thunk free result) h = tt
  weak_finalised_reply (Weak None) h = tt
  weak_finalised_reply (Weak (Some p)) h = All-head (IsKnown w) p.finaliser [] (All-tail (IsKnown w) p.value (p.finaliser ∷
      []) (All-tail (IsKnown w) p.key (p.value ∷ p.finaliser ∷ []) h))
  weak_finalised_reply (Stack size values) h = tt

  -- a change gives only values that the node held
  pub changed_reply : (c : Change) (maker : ℕ) (node : Node) → AreKnown w (held_by node) → IsKnownReply w (changed c maker node).1
  changed_reply (change.Set index v) maker node h = field_set_reply node index v
  changed_reply (change.Exchange index expected v) maker node h = field_exchanged_reply node index expected v
  changed_reply (change.Update v) maker node h = thunk_updated_reply node v
  changed_reply (change.Push m v) maker node h = stack_pushed_reply (eqb maker m) node v
  changed_reply (change.Pop m) maker node h = stack_popped_reply (eqb maker m) node h
  changed_reply change.Finalise maker node h = weak_finalised_reply node h

array_shared : (b : Bool) (made kept : Node) (r s : Reply) → IsShared made → IsShared kept → IsShared (cond {A = Node × Reply} b (made, r) (kept, s)).0
array_shared true made kept r s h k = h
array_shared false made kept r s h k = k

exchanged_shared : (old : Option Value) (expected : Value) (kept made : Node) → IsShared made → IsShared kept → IsShared (exchanged_at old expected kept made).0
exchanged_shared None expected kept made h k = k
exchanged_shared (Some old) expected kept made h k = array_shared (is_same old expected) made kept Yes No h k

-- g stays an array with all its slots
pub changed_shared : (c : Change) (maker : ℕ) (node : Node) → IsShared node → IsShared (changed c maker node).0
changed_shared c maker (Con tag values) h = absurd h
changed_shared c maker (Var old) h = absurd h
changed_shared c maker (Thunk free result) h = absurd h
changed_shared c maker (Weak parts) h = absurd h
changed_shared c maker (Stack size values) h = absurd h
changed_shared (change.Set index v) maker (Arr values) h =
    array_shared (ltb index (length values)) (Arr (set values index v)) (Arr values) Fine NoField (rw length-set h) h
changed_shared (change.Exchange index expected v) maker (Arr values) h =
    exchanged_shared (slice_get values index) expected (Arr values) (Arr (set values index v)) (rw length-set h) h
changed_shared (change.Update v) maker (Arr values) h = h
changed_shared (change.Push m v) maker (Arr values) h = h
changed_shared (change.Pop m) maker (Arr values) h = h
changed_shared change.Finalise maker (Arr values) h = h

-- a node's strong fields are among the values that it holds
pub fields_known : (w : World) (node : Node) → AreKnown w (held_by node) → AreKnown w (strong_fields node)
fields_known w (Con tag values) known = known
fields_known w (Var v) known = known
fields_known w (Arr values) known = known
fields_known w (Thunk free None) known = known
fields_known w (Thunk free (Some result)) known = All-cons (IsKnown w) result [] (known 0 result (omega arith)) (All-nil (IsKnown w))
fields_known w (Weak parts) known = All-nil (IsKnown w)
fields_known w (Stack size values) known = known
