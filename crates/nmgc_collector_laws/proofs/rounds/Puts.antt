-- A value in a field of an object that was there as the round began was in it then, or a command put it there.
use Rattle.nmgc_collector_laws.proofs.Vocabulary.{◌≡◌, ◌⊎◌, ◌/◌, ℕ, Bool, true, false, cond, eqb, ltb, List, [], ◌∷◌, ◌++◌, length, set, refl, sym, ap, ◌∙◌, Option, Some, None, inl, inr, IsSome, slice_get, none-some, same_Some, some_pair_parts, Name, Value, Node, Con, Var, Arr, Thunk, Weak, Stack, Change, Operand, Command, Reply, Fine, Yes, No, Updated, NoField, World, IsWorld, state_of, node_of, given, is_same, exchanged_at, field_set, field_exchanged, thunk_updated, changed, value_for, next_name, change_node, change_object, step, Row, replayed, step_grows, not_shared, HasStrongField, value_written, place_written, Stores, CanReplay, next_is_new, node_cases, absent, step_stores, step_keeps_world, Layout, plain, Hand, word_of, slots_at, recorded_at, noted_by, depth_of}
use Rattle.nmgc_world_spec.specs.declared.value.Value.TheVariants as value
use Rattle.nmgc_world_spec.specs.declared.change.Change.TheVariants as change
use Rattle.nmgc_world_spec.specs.declared.command.Command.TheVariants as command
use Rattle.nmgc_collector_laws.proofs.rounds.Depths.{push_cases}

-- a test that chooses between a node that is written and one that is kept
fine_or_kept : (b : Bool) (written kept : Node) → ((cond {A = Node × Reply} b (written, Fine) (kept, NoField)).1 ≡ Fine) ⊎
    ((cond {A = Node × Reply} b (written, Fine) (kept, NoField)).0 ≡ kept)
fine_or_kept true written kept = inl refl
fine_or_kept false written kept = inr refl

field_cases : (found : Node) (index : ℕ) (v : Value) → ((field_set found index v).1 ≡ Fine) ⊎ ((field_set found index v).0 ≡ found)
field_cases (Con tag values) index v = inr refl
field_cases (Var old) index v = fine_or_kept (eqb index 0) (Var v) (Var old)
field_cases (Arr values) index v = fine_or_kept (ltb index (length values)) (Arr (set values index v)) (Arr values)
field_cases (Thunk free result) index v = inr refl
field_cases (Weak parts) index v = inr refl
field_cases (Stack size values) index v = inr refl

-- a test of a comparison
yes_or_kept : (b : Bool) (written kept : Node) → ((cond {A = Node × Reply} b (written, Yes) (kept, No)).1 ≡ Yes) ⊎
    ((cond {A = Node × Reply} b (written, Yes) (kept, No)).0 ≡ kept)
yes_or_kept true written kept = inl refl
yes_or_kept false written kept = inr refl

exchange_or_kept : (o : Option Value) (expected : Value) (kept written : Node) → ((exchanged_at o expected kept written).1 ≡ Yes) ⊎
    ((exchanged_at o expected kept written).0 ≡ kept)
exchange_or_kept None expected kept written = inr refl
exchange_or_kept (Some old) expected kept written = yes_or_kept (is_same old expected) written kept

exchange_cases : (found : Node) (index : ℕ) (expected v : Value) → ((field_exchanged found index expected v).1 ≡ Yes) ⊎
    ((field_exchanged found index expected v).0 ≡ found)
exchange_cases (Con tag values) index expected v = inr refl
exchange_cases (Var old) index expected v = exchange_or_kept (slice_get (old ∷ []) index) expected (Var old) (Var v)
exchange_cases (Arr values) index expected v = exchange_or_kept (slice_get values index) expected (Arr values) (Arr (set values index v))
exchange_cases (Thunk free result) index expected v = inr refl
exchange_cases (Weak parts) index expected v = inr refl
exchange_cases (Stack size values) index expected v = inr refl

-- a test of an update
update_cases : (found : Node) (v : Value) → ((thunk_updated found v).1 ≡ Updated) ⊎ ((thunk_updated found v).0 ≡ found)
update_cases (Con tag values) v = inr refl
update_cases (Var old) v = inr refl
update_cases (Arr values) v = inr refl
update_cases (Thunk free None) v = inl refl
update_cases (Thunk free (Some old)) v = inr refl
update_cases (Weak parts) v = inr refl
update_cases (Stack size values) v = inr refl

-- a change is done, with this reply, or it changes no node
abbrev IsDoneOrNot : World → Reply → World × Reply → Type 0
IsDoneOrNot w done r = (r.1 ≡ done) ⊎ ((n : Name) → node_of r.0 n ≡ node_of w n)

abbrev Splits : Change → Reply → Type 0
Splits c done = (maker : ℕ) (found : Node) → ((changed c maker found).1 ≡ done) ⊎ ((changed c maker found).0 ≡ found)

node_changed : (w : World) (name : Name) (c : Change) (done : Reply) → Splits c done → (o : Option Node) → node_of w name ≡ o →
    IsDoneOrNot w done (change_node w name o c)
node_changed w name c done splits None there = inr (λ n. refl)
node_changed w name c done splits (Some found) there = elim (splits name.maker found) [
  | inl fine ↦ inl fine
  | inr kept ↦ inr (λ n. rw kept (elim (node_cases w name found found there n) [
    | inl is ↦ is.1 ∙ sym there ∙ ap (λ (k : Name). node_of w k) (sym is.0)
    | inr other ↦ other.1
  ]))
]

change_cases : (w : World) (v : Value) (c : Change) (done : Reply) → Splits c done → IsDoneOrNot w done (change_object w v c)
change_cases w value.Nil c done splits = inr (λ n. refl)
change_cases w (value.Number k) c done splits = inr (λ n. refl)
change_cases w (value.Ref name) c done splits = node_changed w name c done splits (node_of w name) refl

-- the hand lists the depth of the name's object, to which an operand refers, if it is a stack that the mutator made
abbrev pub KnowsDepth : World → ℕ → Name → Hand → Operand → Type 0
KnowsDepth w m name h object = (size : ℕ) (values : List Value) → node_of w name ≡ Some (Stack size values) → name.maker ≡ m →
    depth_of (slots_at h.stacks (word_of h.registers object / 2)) ≡ length values

-- the command put the value into this field of the name's object, with a reply at which its mutator records that field
pub record Puts (w : World) (m : ℕ) (c : Command) (name : Name) (i : ℕ) (x : Value) : Type 0 where
  pub object : Operand
  pub v : Operand
  pub reply : Reply
  pub refers : value_for w m object ≡ value.Ref name
  pub value : value_for w m v ≡ x
  pub gives : (step w m c).1 ≡ reply
  pub plainly : given reply ≡ None
  pub notes : (layout : Layout) (h : Hand) → KnowsDepth w m name h object →
      noted_by layout h c (plain reply) ≡ recorded_at layout (word_of h.registers object) i (word_of h.registers v)

-- a row's notes on a field, by its number
same_field : (layout : Layout) (h : Hand) (object v : Operand) (i j : ℕ) → i ≡ j →
    recorded_at layout (word_of h.registers object) i (word_of h.registers v) ≡ recorded_at layout (word_of h.registers object) j (word_of h.registers v)
same_field layout h object v i j e = ap (λ k. recorded_at layout (word_of h.registers object) k (word_of h.registers v)) e

-- a command that stores a value puts it there, or leaves the field
stored_put : (w : World) (m : ℕ) (c : Command) (name : Name) (i : ℕ) (x : Value) → HasStrongField (step w m c).0 name i x → Stores w m c name i x →
    HasStrongField w name i x ⊎ Puts w m c name i x
stored_put w m (command.Set object index v) name i x s st =
    let c : Change = change.Set index (value_for w m v) in
    let t = some_pair_parts (value_for w m object) (value.Ref name) c st.changes st.asks in
    let place : Some index ≡ Some i = ap (λ (c : Change). place_written c st.node) t.1 ∙ st.place in
    let writes : Some (value_for w m v) ≡ Some x = ap (λ (c : Change). value_written c) t.1 ∙ st.writes in
    let at : index ≡ i = cc in
    elim (change_cases w (value_for w m object) c Fine (λ maker found. field_cases found index (value_for w m v))) [
      | inl fine ↦ inr (record {
        object = object;
        v = v;
        reply = Fine;
        refers = t.0;
        value = cc;
        gives = fine;
        plainly = refl;
        notes = λ layout h deep. same_field layout h object v index i at;
      })
      | inr same ↦ inl (record { node = s.node; node_is = sym (same name) ∙ s.node_is; field = s.field })
    ]
stored_put w m (command.Cas object index expected v) name i x s st =
    let c : Change = change.Exchange index (value_for w m expected) (value_for w m v) in
    let t = some_pair_parts (value_for w m object) (value.Ref name) c st.changes st.asks in
    let place : Some index ≡ Some i = ap (λ (c : Change). place_written c st.node) t.1 ∙ st.place in
    let writes : Some (value_for w m v) ≡ Some x = ap (λ (c : Change). value_written c) t.1 ∙ st.writes in
    let at : index ≡ i = cc in
    elim (change_cases w (value_for w m object) c Yes (λ maker found. exchange_cases found index (value_for w m expected) (value_for w m v))) [
      | inl hit ↦ inr (record {
        object = object;
        v = v;
        reply = Yes;
        refers = t.0;
        value = cc;
        gives = hit;
        plainly = refl;
        notes = λ layout h deep. same_field layout h object v index i at;
      })
      | inr same ↦ inl (record { node = s.node; node_is = sym (same name) ∙ s.node_is; field = s.field })
    ]
stored_put w m (command.Update object v) name i x s st =
    let c : Change = change.Update (value_for w m v) in
    let t = some_pair_parts (value_for w m object) (value.Ref name) c st.changes st.asks in
    let place : Some 0 ≡ Some i = ap (λ (c : Change). place_written c st.node) t.1 ∙ st.place in
    let writes : Some (value_for w m v) ≡ Some x = ap (λ (c : Change). value_written c) t.1 ∙ st.writes in
    let at : 0 ≡ i = cc in
    elim (change_cases w (value_for w m object) c Updated (λ maker found. update_cases found (value_for w m v))) [
      | inl done ↦ inr (record {
        object = object;
        v = v;
        reply = Updated;
        refers = t.0;
        value = cc;
        gives = done;
        plainly = refl;
        notes = λ layout h deep. same_field layout h object v 0 i at;
      })
      | inr same ↦ inl (record { node = s.node; node_is = sym (same name) ∙ s.node_is; field = s.field })
    ]
stored_put w m (command.Push object v) name i x s st =
    let t = some_pair_parts (value_for w m object) (value.Ref name) (change.Push m (value_for w m v)) st.changes st.asks in
    let writes : Some (value_for w m v) ≡ Some x = ap (λ (c : Change). value_written c) t.1 ∙ st.writes in
    elim (push_cases w m (value_for w m object) (value_for w m v)) [
      | inl f ↦
          let same : f.name ≡ name = let e = sym f.refers ∙ t.0 in cc in
          let node : st.node ≡ Stack f.size f.values = same_Some _ _ (sym st.there ∙ ap (λ n. node_of w n) (sym same) ∙ f.there) in
          let place : Some (length f.values) ≡ Some i = cc (node, t.1, st.place) in
          let at : length f.values ≡ i = cc in
          inr (record {
            object = object;
            v = v;
            reply = Fine;
            refers = t.0;
            value = cc;
            gives = f.gives;
            plainly = refl;
            notes = λ layout h deep.
                same_field layout h object v (depth_of (slots_at h.stacks (word_of h.registers object / 2))) i (cc (
                  deep f.size f.values (ap (λ n. node_of w n) (sym same) ∙ f.there) (ap (λ (n : Name). n.maker) (sym same) ∙ f.mine),
                  at,
                ));
          })
      | inr f ↦ inl (record { node = s.node; node_is = sym (f.1 name) ∙ s.node_is; field = s.field })
    ]
stored_put w m (command.Pop dest object) name i x s st =
    let t = some_pair_parts (value_for w m object) (value.Ref name) (change.Pop m) st.changes st.asks in
    let none : None ≡ Some x = ap (λ (c : Change). value_written c) t.1 ∙ st.writes in
    absurd (none-some x none)
stored_put w m (command.Finalise dest object) name i x s st =
    let t = some_pair_parts (value_for w m object) (value.Ref name) change.Finalise st.changes st.asks in
    let none : None ≡ Some x = ap (λ (c : Change). value_written c) t.1 ∙ st.writes in
    absurd (none-some x none)
stored_put w m _ name i x s st = absurd (none-some _ st.asks)

-- one of the rows put the value there
pub record IsPut (w : World) (rows : List Row) (name : Name) (i : ℕ) (x : Value) : Type 0 where
  pub before : List Row
  pub row : Row
  pub after : List Row
  pub rows_are : rows ≡ before ++ row ∷ after
  pub puts : Puts (replayed w before) row.mutator row.command name i x

-- a field of an object that was there holds its value from before, or a value that a row put there
pub rows_put : (w : World) (rows : List Row) → IsWorld w → CanReplay w rows → (name : Name) (i : ℕ) (x : Value) → IsSome (node_of w name) →
    HasStrongField (replayed w rows) name i x → HasStrongField w name i x ⊎ IsPut w rows name i x
rows_put w [] is can name i x there s = inl s
rows_put w (row ∷ rows) is can name i x there s =
    let m : ℕ = row.mutator in
    let v : World = (step w m row.command).0 in
    let next : Name = next_name (state_of w m) m in
    let new : name ≡ next → ⊥ = λ e. absent (node_of w next) (next_is_new w m (not_shared w m is can.0.mutator)) (rw e at there) in
    elim (rows_put v rows (step_keeps_world w m row.command is can.0) can.1 name i x ((step_grows w m row.command can.0.mutator).names name there) s) [
      | inl then ↦ elim (step_stores w m row.command is can.0 name i x then) [
        | inl was ↦ inl was
        | inr more ↦ elim more [
          | inl e ↦ absurd (new e)
          | inr stores ↦ elim (stored_put w m row.command name i x then stores) [
            | inl was ↦ inl was
            | inr puts ↦ inr (record { before = []; row = row; after = rows; rows_are = refl; puts = puts })
          ]
        ]
      ]
      | inr put ↦ inr (record {
        before = row ∷ put.before;
        row = put.row;
        after = put.after;
        rows_are = ap (λ (xs : List Row). row ∷ xs) put.rows_are;
        puts = put.puts;
      })
    ]
