-- A change in two halves: its reply says whether it is done, and a change that is done leaves the written node.
use Rattle.nmgc_graph.proofs.Vocabulary.{◌≡◌, ℕ, List, [], ◌∷◌, ◌++◌, length, set, cond, eqb, ltb, refl, sym, ap, ◌∙◌, Option, Some, None, Bool, true, false, slice_get, lt-ltb, Reply, Fine, Yes, No, NoField, StackFull, StackEmpty, Value, Node, Con, Var, Arr, Thunk, Weak, Stack, Change, is_same, given_or, exchanged_at, field_set, field_exchanged, thunk_updated, stack_pushed, stack_popped, weak_finalised, without_last, last_of, changed, is_done, field_written, result_written, value_pushed, top_dropped, killed, written, get_is_some, none_left}
use Rattle.nmgc_world_spec.specs.declared.change.Change.TheVariants as change

-- the node after a change: the written node if the reply says that it is done, and else the node before
abbrev Halves : Node × Reply → Node → Node → Type 0
Halves r made kept = r.0 ≡ cond (is_done r.1) made kept

by_test : (b : Bool) (made kept : Node) (r s : Reply) → is_done r ≡ true → is_done s ≡ false → Halves (cond {A = Node × Reply} b (made, r) (kept, s)) made kept
by_test true made kept r s p q = rw p refl
by_test false made kept r s p q = rw q refl

set_array : (b : Bool) (made kept : Node) → Halves (cond {A = Node × Reply} b (made, Fine) (kept, NoField)) (cond b made kept) kept
set_array true made kept = refl
set_array false made kept = refl

set_halves : (node : Node) (index : ℕ) (v : Value) → Halves (field_set node index v) (field_written node index v) node
set_halves (Var old) index v = by_test (eqb index 0) (Var v) (Var old) Fine NoField refl refl
set_halves (Arr values) index v = set_array (ltb index (length values)) (Arr (set values index v)) (Arr values)
set_halves (Con tag values) index v = refl
set_halves (Thunk free result) index v = refl
set_halves (Weak parts) index v = refl
set_halves (Stack size values) index v = refl

exchange_at : (o : Option Value) (expected : Value) (kept made : Node) → Halves (exchanged_at o expected kept made) made kept
exchange_at None expected kept made = refl
exchange_at (Some old) expected kept made = by_test (is_same old expected) made kept Yes No refl refl

exchange_array : (values : List Value) (index : ℕ) (expected v : Value) (o : Option Value) → slice_get values index ≡ o →
    Halves (exchanged_at o expected (Arr values) (Arr (set values index v)))
    (cond (ltb index (length values)) (Arr (set values index v)) (Arr values)) (Arr values)
exchange_array values index expected v None e = refl
exchange_array values index expected v (Some old) e =
    let there : ltb index (length values) ≡ true = lt-ltb index (length values) (get_is_some values index (rw e refl)) in
    rw there (by_test (is_same old expected) (Arr (set values index v)) (Arr values) Yes No refl refl)

exchange_halves : (node : Node) (index : ℕ) (expected v : Value) → Halves (field_exchanged node index expected v) (field_written node index v) node
exchange_halves (Var old) index expected v = exchange_at (slice_get (old ∷ []) index) expected (Var old) (Var v)
exchange_halves (Arr values) index expected v = exchange_array values index expected v (slice_get values index) refl
exchange_halves (Con tag values) index expected v = refl
exchange_halves (Thunk free result) index expected v = refl
exchange_halves (Weak parts) index expected v = refl
exchange_halves (Stack size values) index expected v = refl

update_halves : (node : Node) (v : Value) → Halves (thunk_updated node v) (result_written node v) node
update_halves (Thunk free None) v = refl
update_halves (Thunk free (Some old)) v = refl
update_halves (Con tag values) v = refl
update_halves (Var old) v = refl
update_halves (Arr values) v = refl
update_halves (Weak parts) v = refl
update_halves (Stack size values) v = refl

push_halves : (own : Bool) (node : Node) (v : Value) → Halves (stack_pushed own node v) (value_pushed node v) node
push_halves true (Stack size values) v = by_test (ltb (length values) size) (Stack size (values ++ v ∷ [])) (Stack size values) Fine StackFull refl refl
push_halves false (Stack size values) v = refl
push_halves own (Con tag values) v = refl
push_halves own (Var old) v = refl
push_halves own (Arr values) v = refl
push_halves own (Thunk free result) v = refl
push_halves own (Weak parts) v = refl

pop_top : (size : ℕ) (values : List Value) (o : Option Value) → last_of values ≡ o →
    Stack size (without_last values) ≡ cond (is_done (given_or StackEmpty o)) (Stack size (without_last values)) (Stack size values)
pop_top size values (Some top) e = refl
pop_top size values None e = ap (λ (l : List Value). Stack size l) (none_left values e)

pop_halves : (own : Bool) (node : Node) → Halves (stack_popped own node) (top_dropped node) node
pop_halves true (Stack size values) = pop_top size values (last_of values) refl
pop_halves false (Stack size values) = refl
pop_halves own (Con tag values) = refl
pop_halves own (Var old) = refl
pop_halves own (Arr values) = refl
pop_halves own (Thunk free result) = refl
pop_halves own (Weak parts) = refl

finalise_halves : (node : Node) → Halves (weak_finalised node) (killed node) node
finalise_halves (Weak None) = refl
finalise_halves (Weak (Some parts)) = refl
finalise_halves (Con tag values) = refl
finalise_halves (Var old) = refl
finalise_halves (Arr values) = refl
finalise_halves (Thunk free result) = refl
finalise_halves (Stack size values) = refl

halves : (c : Change) (maker : ℕ) (node : Node) → Halves (changed c maker node) (written c node) node
halves (change.Set index v) maker node = set_halves node index v
halves (change.Exchange index expected v) maker node = exchange_halves node index expected v
halves (change.Update v) maker node = update_halves node v
halves (change.Push m v) maker node = push_halves (eqb maker m) node v
halves (change.Pop m) maker node = pop_halves (eqb maker m) node
halves change.Finalise maker node = finalise_halves node

both : (r : Node × Reply) (node : Node) (reply : Reply) → r.0 ≡ node → reply ≡ r.1 → ◌≡◌ {A = Node × Reply} r (node, reply)
both r node reply left right =
    let first : Node → Node × Reply = λ n. (n, r.1) in
    let second : Reply → Node × Reply = λ q. (node, q) in
    ap first left ∙ ap second (sym right)

-- a change whose reply says that it is done, and which wrote the node
pub done_is : (c : Change) (maker : ℕ) (node made : Node) (reply : Reply) (done : Bool) → done ≡ is_done reply → done ≡ true →
    reply ≡ (changed c maker node).1 → made ≡ written c node → ◌≡◌ {A = Node × Reply} (changed c maker node) (made, reply)
done_is c maker node made reply done agrees is answer wrote =
    both (changed c maker node) made reply (halves c maker node ∙
    ap (λ (b : Bool). cond b (written c node) node) (ap is_done (sym answer) ∙ sym agrees ∙ is) ∙ sym wrote) answer

-- a change whose reply says that it isn't done, and which wrote nothing
pub refused_is : (c : Change) (maker : ℕ) (node : Node) (reply : Reply) (done : Bool) → done ≡ is_done reply → done ≡ false →
    reply ≡ (changed c maker node).1 → ◌≡◌ {A = Node × Reply} (changed c maker node) (node, reply)
refused_is c maker node reply done agrees is answer =
    both (changed c maker node) node reply (halves c maker node ∙
    ap (λ (b : Bool). cond b (written c node) node) (ap is_done (sym answer) ∙ sym agrees ∙ is)) answer
