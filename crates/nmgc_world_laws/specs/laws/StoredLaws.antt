-- The values that a command puts into an existing object.
use Rattle.std.specs.Prelude.{◌≡◌, ◌≢◌, ◌<◌, ◌-◌, ◌⊎◌, ◌∷◌, ◌++◌}
use Rattle.nmgc_world_laws.specs.laws.Vocabulary.{ℕ, zero, suc, List, [], length, set, take, refl, sym, ap, subst, ◌∙◌, arith, Option, Some, None, Bool, true, false, cond, eqb, ltb, inl, inr, slice_get, IsSome, get_or_past, set_past, Contains-append_left, Contains-get_or, ne_eqb, cases_lt, cases_eq, Operand, Register, Shared, Command, Reply, Change, SHARED_MAKER, Name, Value, Node, Con, Var, Arr, Thunk, Weak, Stack, World, IsWorld, state_of, node_of, exchanged_at, changed, stack_pushed, stack_popped, shared_name, value_for, next_name, asked, step, Row, replayed, opened, Parts, CanApply, IsReached, IsRoot, IsAlive, same_Some, slice_get-set_same, slice_get-set_other, HasStrongField, strong_at, CanReplay, value_written, place_written, Stores, IsStored, StepStores, OldRefersToYoung, OldWeaksStay, OldWeaksAreFinalised}
use Rattle.nmgc_world_spec.specs.declared.command.Command.TheVariants as command
use Rattle.nmgc_world_spec.specs.declared.command.Reply.TheVariants as reply
use Rattle.nmgc_world_spec.specs.declared.change.Change.TheVariants as change
use Rattle.nmgc_world_spec.specs.declared.value.Value.TheVariants as value
use Rattle.nmgc_world_laws.specs.laws.{Growth.step_grows, Worlds.not_shared, Barrier.field_at_place, Barrier.two_nodes, Barrier.exchanged_node, NodeLaws.get-append_cases, NodeLaws.node_born, NodeLaws.next_is_new, NodeLaws.node_cases, WorldSteps.step_keeps_world, HeldSteps.alive_has, HeldSteps.absent, HeldSteps.some_of, LiveRows.AsThen, LiveRows.LiveHeld, LiveRows.live_after, Reached.step_adds_one, Reached.world_holds, Steps.Object, Steps.Stepped, Keeps.Any, Keeps.stepped, Keeps.still_there, Keeps.hand_nodes}

-- a value in a field after a change was there before, or the change wrote it there
abbrev Put : Change → Node → ℕ → Value → Type 0
Put c node i x = (strong_at node i ≡ Some x) ⊎ ((place_written c node ≡ Some i) × (value_written c ≡ Some x))

-- an item after a write
put_item : {R : Type 0} (values : List Value) (index : ℕ) (v : Value) (i : ℕ) (x : Value) → (i ≡ index → Some v ≡ Some x → R) →
    (slice_get values i ≡ Some x → R) → slice_get (set values index v) i ≡ Some x → R
put_item values index v i x new old h = elim (cases_eq i index) [
  | inl e ↦ elim (cases_lt index (length values)) [
    | inl lt ↦ new e (sym (slice_get-set_same values index v lt) ∙ subst (λ (j : ℕ). slice_get (set values index v) j ≡ Some x) e h)
    | inr le ↦ old (subst (λ (xs : List Value). slice_get xs i ≡ Some x) (set_past values index v le) h)
  ]
  | inr ne ↦ old (sym (slice_get-set_other values index i v ne) ∙ h)
]

put_var : (old : Value) (index i : ℕ) (v x : Value) → strong_at (cond {A = Node × Reply} (eqb index 0) (Var v, reply.Fine) (
  Var old,
  reply.NoField,
)).0 i ≡ Some x → Put (change.Set index v) (Var old) i x
put_var old zero zero v x h = inr (refl, h)
put_var old zero (suc i) v x h = absurd cc
put_var old (suc index) i v x h = let e : eqb (suc index) 0 ≡ false = ne_eqb (suc index) 0 (λ z. absurd (omega arith)) in inl (rw e at h)

exchange_var : (old : Value) (index i : ℕ) (expected v x : Value) →
    strong_at (exchanged_at (slice_get (old ∷ []) index) expected (Var old) (Var v)).0 i ≡ Some x → Put (change.Exchange index expected v) (Var old) i x
exchange_var old zero i expected v x h = exchanged_node (λ n. strong_at n i ≡ Some x →
    Put (change.Exchange zero expected v) (Var old) i x) (Some old) expected (Var old) (Var v) (written i) (λ k. inl k) h
  where
    written : (i : ℕ) → strong_at (Var v) i ≡ Some x → Put (change.Exchange zero expected v) (Var old) i x
    written zero k = inr (refl, k)
    written (suc i) k = absurd cc
exchange_var old (suc index) i expected v x h = inl h

get-take_has : {A : Type 0} (n : ℕ) (xs : List A) (i : ℕ) (x : A) → slice_get (take n xs) i ≡ Some x → slice_get xs i ≡ Some x
get-take_has zero xs i x h = absurd cc
get-take_has (suc n) [] i x h = h
get-take_has (suc n) (y ∷ xs) zero x h = h
get-take_has (suc n) (y ∷ xs) (suc i) x h = get-take_has n xs i x h

changed_put : (c : Change) (maker : ℕ) (node : Node) (i : ℕ) (x : Value) → strong_at (changed c maker node).0 i ≡ Some x → Put c node i x
changed_put (change.Set index v) maker (Con tag values) i x h = inl h
changed_put (change.Set index v) maker (Var old) i x h = put_var old index i v x h
changed_put (change.Set index v) maker (Arr values) i x h = two_nodes (λ n. strong_at n i ≡ Some x →
    Put (change.Set index v) (Arr values) i x) (ltb index (length values)) (Arr (set values index v)) (Arr values) reply.Fine reply.NoField
    (put_item values index v i x (λ e k. inr (ap (λ j. Some j) (sym e), k)) (λ k. inl k)) (λ k. inl k) h
changed_put (change.Set index v) maker (Thunk free result) i x h = inl h
changed_put (change.Set index v) maker (Weak parts) i x h = inl h
changed_put (change.Set index v) maker (Stack size values) i x h = inl h
changed_put (change.Exchange index expected v) maker (Con tag values) i x h = inl h
changed_put (change.Exchange index expected v) maker (Var old) i x h = exchange_var old index i expected v x h
changed_put (change.Exchange index expected v) maker (Arr values) i x h = exchanged_node (λ n. strong_at n i ≡ Some x →
    Put (change.Exchange index expected v) (Arr values) i x) (slice_get values index) expected (Arr values) (Arr (set values index v))
    (put_item values index v i x (λ e k. inr (ap (λ j. Some j) (sym e), k)) (λ k. inl k)) (λ k. inl k) h
changed_put (change.Exchange index expected v) maker (Thunk free result) i x h = inl h
changed_put (change.Exchange index expected v) maker (Weak parts) i x h = inl h
changed_put (change.Exchange index expected v) maker (Stack size values) i x h = inl h
changed_put (change.Update v) maker (Con tag values) i x h = inl h
changed_put (change.Update v) maker (Var old) i x h = inl h
changed_put (change.Update v) maker (Arr values) i x h = inl h
changed_put (change.Update v) maker (Thunk free None) zero x h = inr (refl, h)
changed_put (change.Update v) maker (Thunk free None) (suc i) x h = absurd cc
changed_put (change.Update v) maker (Thunk free (Some result)) i x h = inl h
changed_put (change.Update v) maker (Weak parts) i x h = inl h
changed_put (change.Update v) maker (Stack size values) i x h = inl h
changed_put (change.Push m v) maker (Con tag values) i x h = inl h
changed_put (change.Push m v) maker (Var old) i x h = inl h
changed_put (change.Push m v) maker (Arr values) i x h = inl h
changed_put (change.Push m v) maker (Thunk free result) i x h = inl h
changed_put (change.Push m v) maker (Weak parts) i x h = inl h
changed_put (change.Push m v) maker (Stack size values) i x h = pushed (eqb maker m) h
  where
    pushed : (own : Bool) → strong_at (stack_pushed own (Stack size values) v).0 i ≡ Some x → Put (change.Push m v) (Stack size values) i x
    pushed true = two_nodes (λ n. strong_at n i ≡ Some x →
        Put (change.Push m v) (Stack size values) i x) (ltb (length values) size) (Stack size (values ++ v ∷
        [])) (Stack size values) reply.Fine reply.StackFull (λ k. elim (get-append_cases values v i) [
          | inl e ↦ inr (ap (λ j. Some j) (sym e.0), sym e.1 ∙ k)
          | inr e ↦ inl (sym e ∙ k)
        ]) (λ k. inl k)
    pushed false = λ k. inl k
changed_put (change.Pop m) maker (Con tag values) i x h = inl h
changed_put (change.Pop m) maker (Var old) i x h = inl h
changed_put (change.Pop m) maker (Arr values) i x h = inl h
changed_put (change.Pop m) maker (Thunk free result) i x h = inl h
changed_put (change.Pop m) maker (Weak parts) i x h = inl h
changed_put (change.Pop m) maker (Stack size values) i x h = popped (eqb maker m) h
  where
    popped : (own : Bool) → strong_at (stack_popped own (Stack size values)).0 i ≡ Some x → Put (change.Pop m) (Stack size values) i x
    popped true = λ k. inl (get-take_has (length values - 1) values i x k)
    popped false = λ k. inl k
changed_put change.Finalise maker (Con tag values) i x h = inl h
changed_put change.Finalise maker (Var old) i x h = inl h
changed_put change.Finalise maker (Arr values) i x h = inl h
changed_put change.Finalise maker (Thunk free result) i x h = inl h
changed_put change.Finalise maker (Weak None) i x h = inl h
changed_put change.Finalise maker (Weak (Some parts)) i x h = absurd cc
changed_put change.Finalise maker (Stack size values) i x h = inl h

-- a value in a field after a command, and its three possible sources
module _ (w : World) (m : ℕ) (c : Command) (name : Name) (i : ℕ) (x : Value) (lt : m < length w.mutators) (own : m ≢ SHARED_MAKER) where
  abbrev Source : Type 0
  Source = HasStrongField w name i x ⊎ ((name ≡ next_name (state_of w m) m) ⊎ Stores w m c name i x)

  object_stores : (v : World) → Object Any w m c v → HasStrongField v name i x → Source
  object_stores v (Object.same e) s = inl (subst (λ (u : World). HasStrongField u name i x) e s)
  object_stores v (Object.birth register made is e) s = elim (node_born w m register made lt own name) [
    | inl b ↦ inr (inl b.0)
    | inr b ↦ inl (record { node = s.node; node_is = sym b ∙ ap (λ (u : World). node_of u name) (sym e) ∙ s.node_is; field = s.field })
  ]
  object_stores v (Object.write at found ch there asks q e) s = elim (node_cases w at found (changed ch at.maker found).0 there name) [
    | inl is ↦
        let both : Some (changed ch at.maker found).0 ≡ Some s.node = sym is.1 ∙ ap (λ (u : World). node_of u name) (sym e) ∙ s.node_is in
        let node : (changed ch at.maker found).0 ≡ s.node = cc in
        let here : node_of w name ≡ Some found = ap (λ (n : Name). node_of w n) is.0 ∙ there in
        elim (changed_put ch at.maker found i x (subst (λ (n : Node). strong_at n i ≡ Some x) (sym node) s.field)) [
          | inl old ↦ inl (record { node = found; node_is = here; field = old })
          | inr new ↦ inr (inr (record {
            changes = ch;
            asks = asks ∙ ap (λ (n : Name). Some (value.Ref n, ch)) (sym is.0);
            node = found;
            there = here;
            place = new.0;
            writes = new.1;
          }))
        ]
    | inr other ↦ inl (record { node = s.node; node_is = sym other.1 ∙ ap (λ (u : World). node_of u name) (sym e) ∙ s.node_is; field = s.field })
  ]

pub step_stores : StepStores
step_stores w m c is can name i x stands =
    let s : Stepped Any w m c (step w m c).0 = stepped w m c in
    let same : node_of (step w m c).0 name ≡ node_of s.between name =
    hand_nodes Any s.between m (step w m c).0 (still_there Any w m c (step w m c).0 can.mutator s) s.hand name in
    object_stores w m c name i x can.mutator (not_shared w m is can.mutator) s.between s.object (record {
      node = stands.node;
      node_is = sym same ∙
          stands.node_is;
      field = stands.field;
    })

-- the object that a command asks to change is held by its mutator
operand_root : (w : World) (m : ℕ) (o : Operand) (name : Name) → value_for w m o ≡ value.Ref name → IsRoot w name
operand_root w m (Register r) name e = elim (cases_lt r (length (state_of w m).registers)) [
  | inl lt ↦ inr (
    m,
    Contains-append_left (state_of w m).registers (state_of w m).queue (value.Ref name) (rw e at (Contains-get_or (state_of w m).registers r value.Nil lt)),
  )
  | inr le ↦ absurd (let none : value.Nil ≡ value.Ref name = sym (get_or_past (state_of w m).registers r value.Nil le) ∙ e in cc)
]
operand_root w m Shared name e = inl (let both : value.Ref shared_name ≡ value.Ref name = e in cc)

-- the value that refers to the object
abbrev asked_value : Option (Value × Change) → Value
asked_value None = value.Nil
asked_value (Some p) = p.0

asked_root : (w : World) (m : ℕ) (c : Command) (name : Name) (ch : Change) → asked w m c ≡ Some (value.Ref name, ch) → IsRoot w name
asked_root w m (command.Set object index v) name ch e = operand_root w m object name (ap asked_value e)
asked_root w m (command.Cas object index expected v) name ch e = operand_root w m object name (ap asked_value e)
asked_root w m (command.Update object v) name ch e = operand_root w m object name (ap asked_value e)
asked_root w m (command.Push object v) name ch e = operand_root w m object name (ap asked_value e)
asked_root w m (command.Pop dest object) name ch e = operand_root w m object name (ap asked_value e)
asked_root w m (command.Finalise dest object) name ch e = operand_root w m object name (ap asked_value e)
asked_root w m _ name ch e = absurd cc

-- a value in a field was there at the beginning, or one of the rows stored it
rows_stored : (w : World) (rows : List Row) → IsWorld w → CanReplay w rows → (name : Name) (i : ℕ) (x : Value) → IsSome (node_of w name) →
    HasStrongField (replayed w rows) name i x → HasStrongField w name i x ⊎ IsStored w rows name i x
rows_stored w [] is can name i x there s = inl s
rows_stored w (row ∷ rows) is can name i x there s =
    let v : World = (step w row.mutator row.command).0 in
    let next : Name = next_name (state_of w row.mutator) row.mutator in
    let new : name ≡ next →
    ⊥ = λ e. absent (node_of w next) (next_is_new w row.mutator (not_shared w row.mutator is can.0.mutator)) (rw e at there) in
    elim (rows_stored v rows (step_keeps_world w row.mutator row.command is can.0) can.1 name i x
    ((step_grows w row.mutator row.command can.0.mutator).names name there) s) [
      | inl then ↦ elim (step_stores w row.mutator row.command is can.0 name i x then) [
        | inl was ↦ inl was
        | inr more ↦ elim more [
          | inl e ↦ absurd (new e)
          | inr stores ↦ inr (record {
            before = [];
            row = row;
            after = rows;
            rows_are = refl;
            stores = stores;
            wide = IsReached.start name (inl (asked_root w row.mutator row.command name stores.changes stores.asks));
          })
        ]
      ]
      | inr stored ↦ inr (record {
        before = row ∷ stored.before;
        row = stored.row;
        after = stored.after;
        rows_are = ap (λ (xs : List Row). row ∷ xs) stored.rows_are;
        stores = stored.stores;
        wide = elim (step_adds_one w row.mutator row.command is can.0 name stored.wide) [ inl wide ↦ wide | inr e ↦ absurd (new e) ];
      })
    ]

pub old_refers_to_young : OldRefersToYoung
old_refers_to_young w rows is can name target i there young s = elim (rows_stored w rows is can name i (value.Ref target) there s) [
  | inl was ↦ absurd (young (known was))
  | inr stored ↦ stored
]
  where
    known : HasStrongField w name i (value.Ref target) → IsSome (node_of w target)
    known was = (world_holds w is).fields name target (some_of (node_of w name) was.node was.node_is) (
      was.node,
      was.node_is,
      field_at_place was.node i (value.Ref target) was.field,
    )

pub old_weaks_stay : OldWeaksStay
old_weaks_stay w rows is can weak parts there alive =
    let h : LiveHeld w (opened w rows) (replayed w rows) = live_after w rows is can in
    (alive_has (AsThen w (opened w rows)) (replayed w rows) h.alive weak parts alive).0 there

-- only `finalise` changes a weak pointer that is alive
weak_changed : (c : Change) (maker : ℕ) (parts : Parts) → ((changed c maker (Weak (Some parts))).0 ≡ Weak (Some parts)) ⊎ (c ≡ change.Finalise)
weak_changed (change.Set index v) maker parts = inl refl
weak_changed (change.Exchange index expected v) maker parts = inl refl
weak_changed (change.Update v) maker parts = inl refl
weak_changed (change.Push m v) maker parts = inl refl
weak_changed (change.Pop m) maker parts = inl refl
weak_changed change.Finalise maker parts = inr refl

-- the change that a command asks for, or else `finalise`
abbrev asked_change : Option (Value × Change) → Change
asked_change None = change.Finalise
asked_change (Some p) = p.1

abbrev Finalises : World → ℕ → Command → Name → Type 0
Finalises w m c weak = (dest : ℕ) × (object : Operand) × (c ≡ command.Finalise dest object) × (value_for w m object ≡ value.Ref weak)

asked_finalise : (w : World) (m : ℕ) (c : Command) (weak : Name) → asked w m c ≡ Some (value.Ref weak, change.Finalise) → Finalises w m c weak
asked_finalise w m (command.Set object index v) weak e = absurd (let d : change.Set index (value_for w m v) ≡ change.Finalise = ap asked_change e in cc)
asked_finalise w m (command.Cas object index expected v) weak e =
    absurd (let d : change.Exchange index (value_for w m expected) (value_for w m v) ≡ change.Finalise = ap asked_change e in cc)
asked_finalise w m (command.Update object v) weak e = absurd (let d : change.Update (value_for w m v) ≡ change.Finalise = ap asked_change e in cc)
asked_finalise w m (command.Push object v) weak e = absurd (let d : change.Push m (value_for w m v) ≡ change.Finalise = ap asked_change e in cc)
asked_finalise w m (command.Pop dest object) weak e = absurd (let d : change.Pop m ≡ change.Finalise = ap asked_change e in cc)
asked_finalise w m (command.Finalise dest object) weak e = (dest, object, refl, ap asked_value e)
asked_finalise w m _ weak e = absurd cc

-- after a command a weak pointer that was alive is still alive, or the command finalised it
module _ (w : World) (m : ℕ) (c : Command) (is : IsWorld w) (can : CanApply w m c) (weak : Name) (parts : Parts) (alive : IsAlive w weak parts) where
  alive_or : (v : World) → Object Any w m c v → (node_of v weak ≡ Some (Weak (Some parts))) ⊎ Finalises w m c weak
  alive_or v (Object.same e) = inl (ap (λ (u : World). node_of u weak) e ∙ alive)
  alive_or v (Object.birth register made makes e) =
      let own : m ≢ SHARED_MAKER = not_shared w m is can.mutator in
      elim (node_born w m register made can.mutator own weak) [
        | inl b ↦ absurd (absent (node_of w (next_name (state_of w m) m)) (next_is_new w m own) (rw b.0 at (some_of (node_of w weak) (Weak (Some parts)) alive)))
        | inr b ↦ inl (ap (λ (u : World). node_of u weak) e ∙ b ∙ alive)
      ]
  alive_or v (Object.write at found ch there asks q e) = elim (node_cases w at found (changed ch at.maker found).0 there weak) [
    | inl here ↦
        let old : found ≡ Weak (Some parts) = same_Some found (Weak (Some parts)) (sym there ∙ ap (λ (n : Name). node_of w n) (sym here.0) ∙ alive) in
        elim (weak_changed ch at.maker parts) [
          | inl stays ↦ inl (cc (e, here.1, old, stays))
          | inr fin ↦ inr (asked_finalise w m c weak (rw fin at (asks ∙ ap (λ (n : Name). Some (value.Ref n, ch)) (sym here.0))))
        ]
    | inr other ↦ inl (ap (λ (u : World). node_of u weak) e ∙ other.1 ∙ alive)
  ]

  weak_after : IsAlive (step w m c).0 weak parts ⊎ Finalises w m c weak
  weak_after =
      let s : Stepped Any w m c (step w m c).0 = stepped w m c in
      let same : node_of (step w m c).0 weak ≡ node_of s.between weak =
      hand_nodes Any s.between m (step w m c).0 (still_there Any w m c (step w m c).0 can.mutator s) s.hand weak in
      elim (alive_or s.between s.object) [ inl still ↦ inl (same ∙ still) | inr fin ↦ inr fin ]

pub old_weaks_are_finalised : OldWeaksAreFinalised
old_weaks_are_finalised w [] is can weak parts alive gone = absurd (gone alive)
old_weaks_are_finalised w (row ∷ rows) is can weak parts alive gone =
    let v : World = (step w row.mutator row.command).0 in
    elim (weak_after w row.mutator row.command is can.0 weak parts alive) [
      | inl still ↦
          let t = old_weaks_are_finalised v rows (step_keeps_world w row.mutator row.command is can.0) can.1 weak parts still gone in
          record {
            before = row ∷ t.before;
            row = t.row;
            after = t.after;
            rows_are = ap (λ (xs : List Row). row ∷ xs) t.rows_are;
            dest = t.dest;
            object = t.object;
            command = t.command;
            refers = t.refers;
            parts = t.parts;
            alive = t.alive;
          }
      | inr fin ↦ record {
        before = [];
        row = row;
        after = rows;
        rows_are = refl;
        dest = fin.0;
        object = fin.1;
        command = fin.2;
        refers = fin.3;
        parts = parts;
        alive = alive;
      }
    ]
