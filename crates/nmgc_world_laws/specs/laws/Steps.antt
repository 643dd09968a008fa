-- A step as its changes of a world: first of an object, then of the mutator's registers and queue. A property that each of
-- the two changes keeps is kept by every command.
--
-- Q is a property of values. The values of the world and the values that the command brings have Q.
use Rattle.std.specs.Prelude.{◌≡◌, ◌-◌, ◌∷◌, ◌++◌}
use Rattle.nmgc_world_laws.specs.laws.Vocabulary.{ℕ, List, [], length, map, set, drop, refl, sym, subst, Option, Some, None, Bool, true, false, eqb, ltb, inl, inr, slice_get, IfSome, All, get_or_past, All-cons, All-nil, All-head, All-set, All-push, All-take, All-drop, All-get_or, cases_lt, Operand, Register, Shared, Command, Reply, Change, Name, Value, Node, Con, Var, Arr, Thunk, Weak, Stack, MutatorState, World, state_of, node_of, given, held_by, changed, field_read, tag_read, result_read, value_read, stack_pushed, stack_popped, shared_name, value_of, value_for, with_state, with_register, with_node, with_finaliser, holding_given, keeping, born, object_of, read_object, change_node, change_object, change_into, asked, step, item_has, at_some, Fields, made_by}
use Rattle.nmgc_world_spec.specs.declared.command.Command.TheVariants as command
use Rattle.nmgc_world_spec.specs.declared.command.Reply.TheVariants as reply
use Rattle.nmgc_world_spec.specs.declared.change.Change.TheVariants as change
use Rattle.nmgc_world_spec.specs.declared.value.Value.TheVariants as value
use Rattle.nmgc_world_laws.specs.laws.{Barrier.two_nodes, Barrier.exchanged_node, Barrier.Writes, Barrier.field_read_has, Barrier.result_read_has, Barrier.answer_has, NodeLaws.states_kept}

-- the mutator's registers and its queue change, or stay the same
pub data Hand (Q : Value → Type 0) (w : World) (m : ℕ) (v : World) : Type 0 where
  same : v ≡ w → Hand Q w m v
  other : (registers queue : List Value) → v ≡ with_state w m (record { registers = registers; queue = queue; nodes = (state_of w m).nodes }) →
      All Q registers → All Q queue → Hand Q w m v

-- an object is made, as the command makes it, or changes, as the command asks, or all objects stay the same
pub data Object (Q : Value → Type 0) (w : World) (m : ℕ) (c : Command) (v : World) : Type 0 where
  same : v ≡ w → Object Q w m c v
  birth : (register : ℕ) (made : Node) → made_by w m c ≡ Some made → v ≡ (born w m register made).0 → Object Q w m c v
  write : (name : Name) (found : Node) (change : Change) → node_of w name ≡ Some found → asked w m c ≡ Some (value.Ref name, change) →
      Writes Q change → v ≡ with_node w name (changed change name.maker found).0 → Object Q w m c v

pub record Stepped (Q : Value → Type 0) (w : World) (m : ℕ) (c : Command) (v : World) : Type 0 where
  pub between : World
  pub object : Object Q w m c between
  pub hand : Hand Q between m v

-- every value that a world holds has Q, and so has each constructor's tag
pub record AllHeld (Q : Value → Type 0) (w : World) : Type 0 where
  pub registers : (k : ℕ) → All Q (state_of w k).registers
  pub queues : (k : ℕ) → All Q (state_of w k).queue
  pub nodes : (name : Name) → IfSome (node_of w name) (λ (node : Node). All Q (held_by node))
  pub tags : (name : Name) → IfSome (node_of w name) (λ (node : Node). IfSome (given (tag_read node)) Q)

-- the number that a command brings has Q
abbrev pub OfNumber : (Value → Type 0) → Command → Type 0
OfNumber Q (command.Num dest n) = Q (value.Number n)
OfNumber Q _ = Unit {0}

-- all values that a command brings have Q: nil, g, and a number
pub record Brings (Q : Value → Type 0) (c : Command) : Type 0 where
  pub nil : Q value.Nil
  pub shared : Q (value.Ref shared_name)
  pub number : OfNumber Q c

module _ (Q : Value → Type 0) where
  abbrev Held : Node → Type 0
  Held node = All Q (held_by node)

  -- strong fields are among the values that a node holds
  pub strong_held : (node : Node) → All Q (held_by node) → Fields Q node
  strong_held (Con tag values) h = h
  strong_held (Var v) h = h
  strong_held (Arr values) h = h
  strong_held (Thunk free None) h = h
  strong_held (Thunk free (Some result)) h = All-cons Q result [] (All-head Q result free h) (All-nil Q)
  strong_held (Weak parts) h = All-nil Q
  strong_held (Stack size values) h = h

  one : (v : Value) → Q v → All Q (v ∷ [])
  one v h = All-cons Q v [] h (All-nil Q)

  -- a change puts only the value that it writes into a node
  pub changed_held : (c : Change) (maker : ℕ) (node : Node) → Writes Q c → All Q (held_by node) → All Q (held_by (changed c maker node).0)
  changed_held (change.Set index v) maker (Con tag values) q h = h
  changed_held (change.Set index v) maker (Var old) q h = two_nodes Held (eqb index 0) (Var v) (Var old) reply.Fine reply.NoField (one v q) h
  changed_held (change.Set index v) maker (Arr values) q h =
      two_nodes Held (ltb index (length values)) (Arr (set values index v)) (Arr values) reply.Fine reply.NoField (All-set Q values index v q h) h
  changed_held (change.Set index v) maker (Thunk free result) q h = h
  changed_held (change.Set index v) maker (Weak parts) q h = h
  changed_held (change.Set index v) maker (Stack size values) q h = h
  changed_held (change.Exchange index expected v) maker (Con tag values) q h = h
  changed_held (change.Exchange index expected v) maker (Var old) q h = exchanged_node Held (slice_get (old ∷ []) index) expected (Var old) (Var v) (one v q) h
  changed_held (change.Exchange index expected v) maker (Arr values) q h =
      exchanged_node Held (slice_get values index) expected (Arr values) (Arr (set values index v)) (All-set Q values index v q h) h
  changed_held (change.Exchange index expected v) maker (Thunk free result) q h = h
  changed_held (change.Exchange index expected v) maker (Weak parts) q h = h
  changed_held (change.Exchange index expected v) maker (Stack size values) q h = h
  changed_held (change.Update v) maker (Con tag values) q h = h
  changed_held (change.Update v) maker (Var old) q h = h
  changed_held (change.Update v) maker (Arr values) q h = h
  changed_held (change.Update v) maker (Thunk free None) q h = All-cons Q v free q h
  changed_held (change.Update v) maker (Thunk free (Some result)) q h = h
  changed_held (change.Update v) maker (Weak parts) q h = h
  changed_held (change.Update v) maker (Stack size values) q h = h
  changed_held (change.Push m v) maker (Con tag values) q h = h
  changed_held (change.Push m v) maker (Var old) q h = h
  changed_held (change.Push m v) maker (Arr values) q h = h
  changed_held (change.Push m v) maker (Thunk free result) q h = h
  changed_held (change.Push m v) maker (Weak parts) q h = h
  changed_held (change.Push m v) maker (Stack size values) q h = pushed (eqb maker m)
    where
      pushed : (own : Bool) → Held (stack_pushed own (Stack size values) v).0
      pushed true = two_nodes Held (ltb (length values) size) (Stack size (values ++ v ∷
          [])) (Stack size values) reply.Fine reply.StackFull (All-push Q values v h q) h
      pushed false = h
  changed_held (change.Pop m) maker (Con tag values) q h = h
  changed_held (change.Pop m) maker (Var old) q h = h
  changed_held (change.Pop m) maker (Arr values) q h = h
  changed_held (change.Pop m) maker (Thunk free result) q h = h
  changed_held (change.Pop m) maker (Weak parts) q h = h
  changed_held (change.Pop m) maker (Stack size values) q h = popped (eqb maker m)
    where
      popped : (own : Bool) → Held (stack_popped own (Stack size values)).0
      popped true = All-take Q (length values - 1) values h
      popped false = h
  changed_held change.Finalise maker (Con tag values) q h = h
  changed_held change.Finalise maker (Var old) q h = h
  changed_held change.Finalise maker (Arr values) q h = h
  changed_held change.Finalise maker (Thunk free result) q h = h
  changed_held change.Finalise maker (Weak None) q h = h
  changed_held change.Finalise maker (Weak (Some parts)) q h = All-nil Q
  changed_held change.Finalise maker (Stack size values) q h = h

  -- the node held the value that a change answers
  answer_held : (c : Change) (maker : ℕ) (node : Node) → Held node → IfSome (given (changed c maker node).1) Q
  answer_held (change.Set index v) maker node h = answer_has Q (change.Set index v) maker node tt (strong_held node h)
  answer_held (change.Exchange index expected v) maker node h = answer_has Q (change.Exchange index expected v) maker node tt (strong_held node h)
  answer_held (change.Update v) maker node h = answer_has Q (change.Update v) maker node tt (strong_held node h)
  answer_held (change.Push m v) maker node h = answer_has Q (change.Push m v) maker node tt (strong_held node h)
  answer_held (change.Pop m) maker node h = answer_has Q (change.Pop m) maker node tt (strong_held node h)
  answer_held change.Finalise maker (Con tag values) h = tt
  answer_held change.Finalise maker (Var old) h = tt
  answer_held change.Finalise maker (Arr values) h = tt
  answer_held change.Finalise maker (Thunk free result) h = tt
  answer_held change.Finalise maker (Weak None) h = tt
  answer_held change.Finalise maker (Weak (Some parts)) h = item_has Q (parts.key ∷ parts.value ∷ parts.finaliser ∷ []) 2 h
  answer_held change.Finalise maker (Stack size values) h = tt

  -- the weak pointer held the value that a read of it answers
  value_read_held : (node : Node) → Held node → IfSome (given (value_read node)) Q
  value_read_held (Con tag values) h = tt
  value_read_held (Var old) h = tt
  value_read_held (Arr values) h = tt
  value_read_held (Thunk free result) h = tt
  value_read_held (Weak None) h = tt
  value_read_held (Weak (Some parts)) h = item_has Q (parts.key ∷ parts.value ∷ parts.finaliser ∷ []) 1 h
  value_read_held (Stack size values) h = tt

  tag_held : (w : World) (v : Value) → AllHeld Q w → IfSome (given (read_object (object_of w v) tag_read)) Q
  tag_held w value.Nil h = tt
  tag_held w (value.Number n) h = tt
  tag_held w (value.Ref name) h = by_node (node_of w name) (h.tags name)
    where
      by_node : (o : Option Node) → IfSome o (λ (node : Node). IfSome (given (tag_read node)) Q) → IfSome (given (read_object o tag_read)) Q
      by_node None k = tt
      by_node (Some node) k = k

  reading_held : (w : World) (v : Value) (read : Node → Reply) → ((node : Node) → Held node → IfSome (given (read node)) Q) → AllHeld Q w →
      IfSome (given (read_object (object_of w v) read)) Q
  reading_held w value.Nil read f h = tt
  reading_held w (value.Number n) read f h = tt
  reading_held w (value.Ref name) read f h = by_node (node_of w name) (h.nodes name)
    where
      by_node : (o : Option Node) → IfSome o Held → IfSome (given (read_object o read)) Q
      by_node None k = tt
      by_node (Some node) k = f node k

  -- a register takes the value that an answer gave
  keeping_hand : (w : World) (m register : ℕ) (r : Reply) → All Q (state_of w m).registers → All Q (state_of w m).queue → IfSome (given r) Q →
      Hand Q w m (keeping w m register r)
  keeping_hand w m register (reply.Given v) hr hq q =
      Hand.other (set (state_of w m).registers register v) (state_of w m).queue refl (All-set Q (state_of w m).registers register v q hr) hq
  keeping_hand w m register reply.Fine hr hq q = Hand.same refl
  keeping_hand w m register reply.Yes hr hq q = Hand.same refl
  keeping_hand w m register reply.No hr hq q = Hand.same refl
  keeping_hand w m register reply.Updated hr hq q = Hand.same refl
  keeping_hand w m register reply.Already hr hq q = Hand.same refl
  keeping_hand w m register reply.NoPointer hr hq q = Hand.same refl
  keeping_hand w m register reply.NoField hr hq q = Hand.same refl
  keeping_hand w m register reply.WrongKind hr hq q = Hand.same refl
  keeping_hand w m register reply.NotOwner hr hq q = Hand.same refl
  keeping_hand w m register reply.Fixed hr hq q = Hand.same refl
  keeping_hand w m register reply.Dead hr hq q = Hand.same refl
  keeping_hand w m register reply.Nothing hr hq q = Hand.same refl
  keeping_hand w m register reply.StackFull hr hq q = Hand.same refl
  keeping_hand w m register reply.StackEmpty hr hq q = Hand.same refl

  pub operand_held : (registers : List Value) (o : Operand) → Q value.Nil → Q (value.Ref shared_name) → All Q registers → Q (value_of registers o)
  operand_held registers (Register r) nil g h = elim (cases_lt r (length registers)) [
    | inl lt ↦ All-get_or Q registers r value.Nil lt h
    | inr le ↦ subst Q (sym (get_or_past registers r value.Nil le)) nil
  ]
  operand_held registers Shared nil g h = g

  pub operands_held : (registers : List Value) (os : List Operand) → Q value.Nil → Q (value.Ref shared_name) → All Q registers →
      All Q (map (value_of registers) os)
  operands_held registers [] nil g h = All-nil Q
  operands_held registers (o ∷ os) nil g h =
      All-cons Q (value_of registers o) (map (value_of registers) os) (operand_held registers o nil g h) (operands_held registers os nil g h)

  -- a command of a mutator, in a world
  module _ (w : World) (m : ℕ) (c : Command) (h : AllHeld Q w) where
    still : Stepped Q w m c w
    still = record { between = w; object = Object.same refl; hand = Hand.same refl }

    of_hand : (v : World) → Hand Q w m v → Stepped Q w m c v
    of_hand v hand = record { between = w; object = Object.same refl; hand = hand }

    born_steps : (register : ℕ) (made : Node) → made_by w m c ≡ Some made → Stepped Q w m c (born w m register made).0
    born_steps register made is = record { between = (born w m register made).0; object = Object.birth register made is refl; hand = Hand.same refl }

    register_steps : (register : ℕ) (v : Value) → Q v → Stepped Q w m c (with_register w m register v)
    register_steps register v q =
        of_hand _ (Hand.other (set (state_of w m).registers register v) (state_of w m).queue refl
        (All-set Q (state_of w m).registers register v q (h.registers m)) (h.queues m))

    reading_steps : (register : ℕ) (r : Reply) → IfSome (given r) Q → Stepped Q w m c (keeping w m register r)
    reading_steps register r q = of_hand _ (keeping_hand w m register r (h.registers m) (h.queues m) q)

    finaliser_steps : (register : ℕ) → Stepped Q w m c (with_state w m (with_finaliser (state_of w m) register))
    finaliser_steps register = by_first (slice_get (state_of w m).queue 0) (item_has Q (state_of w m).queue 0 (h.queues m))
      where
        rest : All Q (drop 1 (state_of w m).queue)
        rest = All-drop Q 1 (state_of w m).queue (h.queues m)

        by_first : (first : Option Value) → IfSome first Q → Stepped Q w m c (with_state w m (holding_given (record (state_of w m) {
          queue =
              drop 1 (state_of w m).queue;
        }) register first))
        by_first None q = of_hand _ (Hand.other (state_of w m).registers (drop 1 (state_of w m).queue) refl (h.registers m) rest)
        by_first (Some v) q =
            of_hand _ (Hand.other (set (state_of w m).registers register v) (drop 1 (state_of w m).queue) refl
            (All-set Q (state_of w m).registers register v q (h.registers m)) rest)

    -- a change of an object, with the mutator's values after it and its answer
    record Changes (r : World × Reply) : Type 0 where
      object : Object Q w m c r.0
      registers : All Q (state_of r.0 m).registers
      queue : All Q (state_of r.0 m).queue
      gives : IfSome (given r.1) Q

    unchanged : Changes (w, reply.NoPointer)
    unchanged = record { object = Object.same refl; registers = h.registers m; queue = h.queues m; gives = tt }

    change_steps : (v : Value) (change : Change) → asked w m c ≡ Some (v, change) → Writes Q change → Changes (change_object w v change)
    change_steps value.Nil change asks q = unchanged
    change_steps (value.Number n) change asks q = unchanged
    change_steps (value.Ref name) change asks q = by_node (node_of w name) refl
      where
        by_node : (o : Option Node) → node_of w name ≡ o → Changes (change_node w name o change)
        by_node None e = unchanged
        by_node (Some found) e =
            let made : Node = (changed change name.maker found).0 in
            record {
              object = Object.write name found change e asks q refl;
              registers = states_kept w name found made e (λ (s : MutatorState). All Q s.registers) (λ s nodes r. r) h.registers m;
              queue = states_kept w name found made e (λ (s : MutatorState). All Q s.queue) (λ s nodes r. r) h.queues m;
              gives = answer_held change name.maker found (at_some (node_of w name) found Held e (h.nodes name));
            }

    change_only : (v : Value) (change : Change) → asked w m c ≡ Some (v, change) → Writes Q change → Stepped Q w m c (change_object w v change).0
    change_only v change asks q = record { between = (change_object w v change).0; object = (change_steps v change asks q).object; hand = Hand.same refl }

    change_then : (dest : ℕ) (v : Value) (change : Change) → asked w m c ≡ Some (v, change) → Writes Q change →
        Stepped Q w m c (change_into m dest (change_object w v change)).0
    change_then dest v change asks q =
        let s : Changes (change_object w v change) = change_steps v change asks q in
        record {
          between = (change_object w v change).0;
          object = s.object;
          hand = keeping_hand (change_object w v change).0 m dest (change_object w v change).1 s.registers s.queue s.gives;
        }

  operand_has : (w : World) (m : ℕ) (c : Command) (o : Operand) → AllHeld Q w → Brings Q c → Q (value_for w m o)
  operand_has w m c o h b = operand_held (state_of w m).registers o b.nil b.shared (h.registers m)

  -- every command
  pub step_is : (w : World) (m : ℕ) (c : Command) → AllHeld Q w → Brings Q c → Stepped Q w m c (step w m c).0
  step_is w m (command.Num dest number) h b = register_steps w m _ h dest (value.Number number) b.number
  step_is w m (command.Nil dest) h b = register_steps w m _ h dest value.Nil b.nil
  step_is w m (command.Mov dest v) h b = register_steps w m _ h dest (value_for w m v) (operand_has w m _ v h b)
  step_is w m (command.Con dest tag fields) h b = born_steps w m _ h dest _ refl
  step_is w m (command.Var dest v) h b = born_steps w m _ h dest _ refl
  step_is w m (command.Arr dest count v) h b = born_steps w m _ h dest _ refl
  step_is w m (command.Rec dest fields) h b = born_steps w m _ h dest _ refl
  step_is w m (command.Thunk dest free) h b = born_steps w m _ h dest _ refl
  step_is w m (command.Weak dest key v finaliser) h b = born_steps w m _ h dest _ refl
  step_is w m (command.Stack dest size) h b = born_steps w m _ h dest _ refl
  step_is w m (command.Get dest object index) h b = reading_steps w m _ h dest _ (reading_held w (value_for w m object) (λ node.
      field_read node index) (λ node f. field_read_has Q node index (strong_held node f)) h)
  step_is w m (command.Tag dest object) h b = reading_steps w m _ h dest _ (tag_held w (value_for w m object) h)
  step_is w m (command.Set object index v) h b = change_only w m _ h (value_for w m object) (change.Set index (value_for w m v)) refl (operand_has w m _ v h b)
  step_is w m (command.Cas object index expected v) h b =
      change_only w m _ h (value_for w m object) (change.Exchange index (value_for w m expected) (value_for w m v)) refl (operand_has w m _ v h b)
  step_is w m (command.Update object v) h b = change_only w m _ h (value_for w m object) (change.Update (value_for w m v)) refl (operand_has w m _ v h b)
  step_is w m (command.Force dest object) h b = reading_steps w m _ h dest _ (reading_held w (value_for w m object) result_read (λ node f.
      result_read_has Q node (strong_held node f)) h)
  step_is w m (command.Push object v) h b = change_only w m _ h (value_for w m object) (change.Push m (value_for w m v)) refl (operand_has w m _ v h b)
  step_is w m (command.Pop dest object) h b = change_then w m _ h dest (value_for w m object) (change.Pop m) refl tt
  step_is w m (command.Deref dest object) h b = reading_steps w m _ h dest _ (reading_held w (value_for w m object) value_read value_read_held h)
  step_is w m (command.Finalise dest object) h b = change_then w m _ h dest (value_for w m object) change.Finalise refl tt
  step_is w m (command.NextFin dest) h b = finaliser_steps w m _ h dest
  step_is w m (command.Show v) h b = still w m _ h
  step_is w m (command.Same left right) h b = still w m _ h
  step_is w m command.Yield h b = still w m _ h
  step_is w m command.Collect h b = still w m _ h
  step_is w m command.Full h b = still w m _ h
