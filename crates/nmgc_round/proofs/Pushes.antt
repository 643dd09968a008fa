-- A load and a swap of a slot of an own stack keep the rule.
use Rattle.nmgc_round.proofs.Vocabulary.{◌≡◌, ◌≢◌, inl, inr, ℕ, ◌+◌, ◌-◌, ◌/◌, ◌<◌, ◌≤◌, true, eqb, eq-eqb, List, [], ◌∷◌, ◌++◌, length, take, get_or, set, refl, sym, ap, subst, ◌∙◌, arith, slice_index, Some, lt-ltb, le-ltb, length-append, slice_get, cases_lt, slice_get-get_or, some, get_elem?, Name, Value, Node, Con, Var, Arr, Thunk, Weak, Stack, Change, MutatorState, Operand, Command, Push, Pop, Reply, World, state_of, node_of, IsSized, given_or, stack_pushed, stack_popped, without_last, last_of, value_for, with_node, with_register, world_holding, keeping, step, top_held, names_among, owed_by, name_cases, name_word, Header, HEADER_WORDS, State, names_of, as_many, nodes_kept, header_of, slots_of, Place, Means, AllMean, HasSlots, ListMeans, AreUnset, fields_of_slots, slots_of_fields, same_header, plain, word, Hand, Opening, Part, Seen, with_slots, holding, hand_now, leaves, doing, finding, answered, owed_word, done_by, slots_at, OwnSlots, Object, place_of, IsObject, IsIn, now, IsHand, Fits, Rests, Keeps, Stays, AddsCommand, IsMutator, Names, operand_word, IsSafe, IsOwn, CanPeek, FindsSlot, CanPush, CanPop, CanSlot, slot_swapped, IsRefusedSlot, slot_refusal_reply, slots_same, slots_other}
use Rattle.nmgc_world_spec.specs.declared.value.Value.TheVariants as value
use Rattle.nmgc_world_spec.specs.declared.node.Kind.TheVariants as kind
use Rattle.nmgc_world_spec.specs.declared.change.Change.TheVariants as change
use Rattle.nmgc_world_spec.specs.declared.command.Reply.TheVariants as reply
use Rattle.nmgc_round.proofs.{Standing.placed, Lists.list_append, Frames.IsSameState, Frames.node_frame, Scans.means_some, Fixes.safe_word, Refusals.one_word, Refusals.one_maker, Keeping.same_law, Moves.meant, Moves.operand_is, Moves.inside, Moves.same_opening, Moves.owes_nothing, Moves.finds_same, Moves.owes_old, Moves.hand_kept as moves_kept, Writes.Changes, Writes.field_law, Writes.node_now, Writes.node_again, Writes.still_law, Owings.above, Owings.named_header, Weakens.register_in, Slotting.past, Slotting.last_apart, Slotting.as_long, Slotting.list_at, Slotting.front_means, Slotting.all_pushed, Slotting.all_popped, Slotting.unset_pushed, Slotting.unset_popped}

-- a node of a stack's kind is a stack
stack_kind : (n : Node) → (header_of n).kind ≡ kind.Stack → (size : ℕ) × (values : List Value) × (n ≡ Stack size values)
stack_kind (Con tag values) e = absurd cc
stack_kind (Var x) e = absurd cc
stack_kind (Arr values) e = absurd cc
stack_kind (Thunk free result) e = absurd cc
stack_kind (Weak parts) e = absurd cc
stack_kind (Stack size values) e = (size, values, refl)

-- a list without length has no values
no_values : (vs : List Value) → length vs ≡ 0 → vs ≡ []
no_values [] e = refl
no_values (v ∷ vs) e = absurd (omega (arith, e))

-- `push` onto a stack
step_push : (w : World) (m : ℕ) (object v : Operand) (name : Name) (found made : Node) (r : Reply) → value_for w m object ≡ value.Ref name →
    node_of w name ≡ Some found → stack_pushed (eqb name.maker m) found (value_for w m v) ≡ (made, r) → step w m (Push object v) ≡ (with_node w name made, r)
step_push w m object v name found made r is there does =
    let c : Change = change.Push m (value_for w m v) in
    rw (is, there, does)

owes_push : (w : World) (m : ℕ) (object v : Operand) (name : Name) (found : Node) → value_for w m object ≡ value.Ref name →
    node_of w name ≡ Some found → owed_by w m (Push object v) ≡ []
owes_push w m object v name found is there =
    let c : Change = change.Push m (value_for w m v) in
    cc (is, there)

-- `pop` off a stack
step_pop : (w : World) (m dest : ℕ) (object : Operand) (name : Name) (found made : Node) (r : Reply) → value_for w m object ≡ value.Ref name →
    node_of w name ≡ Some found → stack_popped (eqb name.maker m) found ≡ (made, r) → step w m (Pop dest object) ≡ (keeping (with_node w name made) m dest r, r)
step_pop w m dest object name found made r is there does =
    let c : Change = change.Pop m in
    rw (is, there, does)

owes_pop : (w : World) (m dest : ℕ) (object : Operand) (name : Name) (found : Node) → value_for w m object ≡ value.Ref name →
    node_of w name ≡ Some found → owed_by w m (Pop dest object) ≡ names_among (top_held (eqb name.maker m) found)
owes_pop w m dest object name found is there =
    let c : Change = change.Pop m in
    cc (is, there)

module _ (o : Opening) (words : List ℕ) (views : List Seen) (h : Keeps o words views) (id : ℕ) (v : Seen) (here : get_elem? views id ≡
    some v) (p : Part) (is : IsMutator v p) where
  abbrev S : State
  S = now o h.events

  abbrev W : World
  W = S.world

  abbrev P : Place → Type 0
  P = IsIn o h.born

  fits : Fits o h.born S (done_by p.number h.events) p
  fits = ((h.agrees id v here).parts 0 p (ap (λ l. get_elem? l 0) is.alone)).1

  rests : Rests o h.born words p
  rests = ((h.agrees id v here).parts 0 p (ap (λ l. get_elem? l 0) is.alone)).2

  -- the own stack at an address
  record Found (at : ℕ) (stack : IsOwn o p at) : Type 0 where
    thing : Object
    there : IsObject o h.born thing
    is_at : thing.at ≡ at
    refers : value_for W p.number stack.object ≡ value.Ref thing.name
    mine : thing.name.maker ≡ p.number
    size : ℕ
    values : List Value
    node_is : (h.stands.objects thing there).node ≡ Stack size values
    node_there : node_of W thing.name ≡ Some (Stack size values)
    sized : length values ≤ size
    head : header_of thing.node ≡ header_of (Stack size values)
    size_is : stack.header.fields ≡ size
    means : AllMean P words (at + HEADER_WORDS) values
    unset : AreUnset words (at + HEADER_WORDS) (length values) size
    slots : List ℕ
    listed : slots_at (hand_now o p).stacks at ≡ Some slots
    list : ListMeans P slots values

  found : (at : ℕ) (stack : IsOwn o p at) → Found at stack
  found at stack =
      let m = meant o words views h id v here p is at stack.header stack.object stack.object_word stack.names in
      let x = m.object in
      let st = h.stands.objects x m.there in
      let head : header_of st.node ≡ stack.header = st.later.header ∙ m.head in
      let t = stack_kind st.node (cc (head, stack.is_stack)) in
      let node_there : node_of W x.name ≡ Some (Stack t.0 t.1) = cc (st.there, t.2) in
      let named = h.stands.named (place_of x) (placed o h.born x m.there) in
      let known = rests.fixed (record { at = at; offset = 1; word = name_word stack.name }) stack.named in
      let same : name_word x.name ≡ name_word stack.name = cc (named.name, m.is_at, known.1) in
      let mine : x.name.maker ≡ p.number = one_maker x.name stack.name named.valid stack.valid same ∙ stack.own in
      let fields = fields_of_slots P words (at + HEADER_WORDS) (Stack t.0 t.1) (subst (λ (n : Node).
      HasSlots P words (at + HEADER_WORDS) (slots_of n)) t.2 (rw m.is_at at st.fields)) in
      let own = fits.own x t.0 t.1 m.there mine node_there in
      record {
        thing = x;
        there = m.there;
        is_at = m.is_at;
        refers = m.refers;
        mine = mine;
        size = t.0;
        values = t.1;
        node_is = t.2;
        node_there = node_there;
        sized = subst IsSized t.2 st.sized;
        head = m.head ∙ sym head ∙ ap header_of t.2;
        size_is = ap (λ (k : Header). k.fields) (sym head ∙ ap header_of t.2);
        means = fields.0;
        unset = fields.1;
        slots = own.0;
        listed = cc (m.is_at, own.1);
        list = own.2;
      }

  -- one header is named at an address
  one_header : (at : ℕ) (k l : Header) → Names p at k → Names p at l → k.fields ≡ l.fields
  one_header at k l a b = ap (λ (t : Header). t.fields) (same_header k l a.valid b.valid (sym (named_header o words views h id v here p is at k a) ∙
      named_header o words views h id v here p is at l b))

  -- the word that a load of a slot finds
  peek_finds : (at slot : ℕ) (can : CanPeek o p at slot) → FindsSlot o p at slot (slice_index words (at + HEADER_WORDS + slot))
  peek_finds at slot can =
      let f = found at can.stack in
      let w : ℕ = slice_index words (at + HEADER_WORDS + slot) in
      let long = as_long P f.slots f.values f.list in
      let size = f.size_is in
      let within = can.within in
      let most : (header : Header) → Names p at header → length f.slots ≤ header.fields = λ header names.
      let same = one_header at header can.stack.header names can.stack.names in let sized = f.sized in omega arith in
      elim (cases_lt slot (length f.values)) [
        | inl lt ↦
            let x : Value = get_or f.values slot value.Nil in
            let e : slice_get f.values slot ≡ Some x = slice_get-get_or f.values slot value.Nil lt in
            let m : Means P w x = f.means slot x e in
            record {
              words = f.slots;
              listed = f.listed;
              is_word =
                  one_word o words views h id v here p is w (slice_index f.slots slot) x m (list_at P f.slots f.values slot x f.list e);
              set = λ _. means_some P (above o words views h id v here p is) w x m;
              most = most;
            }
        | inr le ↦ record {
          words = f.slots;
          listed = f.listed;
          is_word = f.unset slot le (omega arith) ∙ sym (past f.slots slot (omega arith));
          set = λ lt. absurd (omega arith);
          most = most;
        }
      ]

  -- a load of a slot changes nothing
  pub peek_keeps : (at slot : ℕ) → CanPeek o p at slot → Stays o words views h words (set views id v) ×
      FindsSlot o p at slot (slice_index words (at + HEADER_WORDS + slot))
  peek_keeps at slot can = (same_law o words views h id v here v (h.agrees id v here), peek_finds at slot can)

  -- a stack changes, and the mutator's hand with it
  stack_hand : (at : ℕ) (u : World) (g : List ℕ → List ℕ) → IsSameState (state_of u p.number) (state_of W p.number) →
      IsHand o h.born u p.number (record (hand_now o p) { stacks = with_slots (hand_now o p).stacks at g })
  stack_hand at u g same =
      let k = fits.hand in
      record { registers = rw same.registers k.registers; queue = rw same.queue k.queue; serial = k.serial ∙ sym same.serial }

  -- and its own stacks
  stack_own : (at : ℕ) (stack : IsOwn o p at) (f : Found at stack) (made : Node) (u : World) (g : List ℕ →
      List ℕ) (values : List Value) (k : Hand) → k.stacks ≡ with_slots (hand_now o p).stacks at g → made ≡ Stack f.size values →
      node_of u f.thing.name ≡ Some made → ((n : Name) → (n ≡ f.thing.name → ⊥) → node_of u n ≡ node_of W n)
      → ((ws : List ℕ) → ListMeans P ws f.values → ListMeans P (g ws) values) → OwnSlots o h.born u p.number k
  stack_own at stack f made u g values k stacks is_made mine others more y size vs hy own there =
      rw stacks (elim (name_cases y.name f.thing.name) [
        | inl e ↦
            let one : place_of y ≡ place_of f.thing =
            h.stands.one (place_of y) (place_of f.thing) (placed o h.born y hy) (placed o h.born f.thing f.there) (inl e) in
            let at_one : y.at ≡ at = ap (λ (q : Place). q.at) one ∙ f.is_at in
            let both : Some (Stack f.size values) ≡ Some (Stack size vs) = cc (is_made, mine, e, there) in
            let held : values ≡ vs = cc in (
              g f.slots,
              cc (at_one, slots_same (hand_now o p).stacks at g f.slots f.listed),
              rw held at (more f.slots f.list),
            )
        | inr ne ↦
            let apart : y.at ≢ at = λ e.
            ne (ap (λ (q : Place).
            q.name) (h.stands.one (place_of y) (place_of f.thing) (placed o h.born y hy) (placed o h.born f.thing f.there) (inr (e ∙ sym f.is_at)))) in
            let r = fits.own y size vs hy own (sym (others y.name ne) ∙ there) in
            (r.0, slots_other (hand_now o p).stacks at y.at g apart ∙ r.1, r.2)
      ])

  push_keeps : (at slot w : ℕ) (c : Command) → CanPush o p at slot w c →
      AddsCommand o words views h p.number c (set words (at + HEADER_WORDS + slot) w) (set views id (answered v c (plain reply.Fine)))
  push_keeps at slot w c can =
      let f = found at can.stack in
      let x = f.thing in
      let st = h.stands.objects x f.there in
      let object : Operand = can.stack.object in
      let val : Value = value_for W p.number can.value in
      let C : Command = Push object can.value in
      let means : Means P w val = rw can.value_word at (operand_is o words views h id v here p is can.value) in
      let top : slot ≡ length f.values = can.first f.slots f.listed ∙ as_long P f.slots f.values f.list in
      let made : Node = Stack f.size (f.values ++ val ∷ []) in
      let u : World = with_node W x.name made in
      let size = f.size_is in
      let within = can.within in
      let long : length (f.values ++ val ∷ []) ≡ length f.values + 1 = length-append f.values (val ∷ []) in
      let lt : length f.values < f.size = omega arith in
      let far = inside o words views h id v here p is x f.there in
      let is_at = f.is_at in
      let count : (header_of x.node).fields ≡ f.size = ap (λ (k : Header). k.fields) f.head in
      let room : at + HEADER_WORDS + length f.values < length words = omega arith in
      let pushes : stack_pushed (eqb x.name.maker p.number) st.node val ≡ (made, reply.Fine) =
      cc (eq-eqb x.name.maker p.number f.mine, f.node_is, lt-ltb (length f.values) f.size lt) in
      let does : step W p.number C ≡ (u, reply.Fine) = step_push W p.number object can.value x.name st.node made reply.Fine f.refers st.there pushes in
      let owes : owed_by W p.number C ≡ [] = owes_push W p.number object can.value x.name st.node f.refers st.there in
      let now_ = node_now o words views h id v here p is x f.there made in
      let all : AllMean P (set words (at + HEADER_WORDS + length f.values) w) (at + HEADER_WORDS) (f.values ++ val ∷ []) =
      all_pushed P words (at + HEADER_WORDS) w f.values val room f.means means in
      let rest : AreUnset (set words (at + HEADER_WORDS + length f.values) w) (at + HEADER_WORDS) (length (f.values ++ val ∷ [])) f.size =
      rw long (unset_pushed words (at + HEADER_WORDS) w (length f.values) f.size f.unset) in
      let fields : HasSlots P (set words (at + HEADER_WORDS + slot) w) (at + HEADER_WORDS) (slots_of made) =
      rw top (slots_of_fields P (set words (at + HEADER_WORDS + length f.values) w) (at + HEADER_WORDS) made (all, rest)) in
      let ch : Changes o words views h id v here p is x f.there slot w made u = record {
        within = omega arith;
        may = rw f.head tt;
        later = rw f.node_is (record { header = refl; free = refl; result = λ e. e; alive = λ parts e. absurd cc });
        sized = omega arith;
        mine = now_.0;
        others = now_.1;
        fields = rw f.is_at fields;
        stacks = λ size values e. f.mine;
      } in
      let g : List ℕ → List ℕ = λ ws. ws ++ w ∷ [] in
      let more : (ws : List ℕ) → ListMeans P ws f.values → ListMeans P (g ws) (f.values ++ val ∷ []) = λ ws l.
      list_append P ws (w ∷ []) f.values (val ∷ []) l (means, tt) in
      let half : operand_word o p object / 2 ≡ at = let e = can.stack.object_word in omega arith in
      let left : leaves (hand_now o p) C (plain reply.Fine) ≡ record (hand_now o p) { stacks = with_slots (hand_now o p).stacks at g } =
      ap (λ (y : ℕ × ℕ). record (hand_now o p) { stacks = with_slots (hand_now o p).stacks y.0 (λ ws. ws ++ y.1 ∷ []) }) (λ i. (
        half i,
        can.value_word i,
      )) in
      rw can.command (rw is.alone (rw f.is_at at (field_law o words views h id v here p is x f.there slot w made C reply.Fine (plain reply.Fine) u p.found [] ch
      (rw can.command at can.gives) does refl
      (rw left (stack_hand at u g (node_frame W x.name st.node made st.there p.number)))
      (rw owes (owes_nothing o words views h id v here p is o.marking p.owed (names_of S.owed p.number) fits.owed))
      (rw owes (finds_same o words views h id v here p is p.found (names_of S.owed p.number) fits.found))
      (stack_own at can.stack f made u g (f.values ++ val ∷ []) (leaves (hand_now o p) C (plain reply.Fine)) (ap (λ (k : Hand).
      k.stacks) left) refl now_.0 now_.1 more))))

  -- the top value that a pop finds
  record Top (at slot : ℕ) (stack : IsOwn o p at) (f : Found at stack) : Type 0 where
    front : List Value
    top : Value
    values_are : f.values ≡ front ++ top ∷ []
    front_is : without_last f.values ≡ front
    last_is : last_of f.values ≡ Some top
    depth : slot ≡ length front
    means : Means P (slice_index words (at + HEADER_WORDS + slot)) top

  top_of : (at slot : ℕ) (c : Command) (can : CanPop o p at slot c) (f : Found at can.stack) → Top at slot can.stack f
  top_of at slot c can f =
      let long : slot + 1 ≡ length f.values = can.last f.slots f.listed ∙ as_long P f.slots f.values f.list in
      elim (last_apart f.values) [
        | inl e ↦ let none : length f.values ≡ 0 = ap length e in absurd (omega arith)
        | inr r ↦
            let n : length f.values ≡ length r.0 + 1 = ap length r.2 ∙ length-append r.0 (r.1 ∷ []) in
            let depth : slot ≡ length r.0 = omega arith in
            let last : length f.values - 1 ≡ slot = omega arith in
            record {
              front = r.0;
              top = r.1;
              values_are = r.2;
              front_is = r.3;
              last_is = r.4;
              depth = depth;
              means = f.means slot r.1 (cc (last, r.4));
            }
      ]

  pop_keeps : (at slot : ℕ) (c : Command) → CanPop o p at slot c →
      AddsCommand o words views h p.number c (set words (at + HEADER_WORDS + slot) 0)
      (set views id (slot_swapped v c (slice_index words (at + HEADER_WORDS + slot))))
  pop_keeps at slot c can =
      let f = found at can.stack in
      let x = f.thing in
      let st = h.stands.objects x f.there in
      let object : Operand = can.stack.object in
      let t = top_of at slot c can f in
      let n : ℕ = slice_index words (at + HEADER_WORDS + slot) in
      let C : Command = Pop can.dest object in
      let made : Node = Stack f.size t.front in
      let u : World = with_node W x.name made in
      let v' : World = with_register u p.number can.dest t.top in
      let sized = f.sized in
      let long : length f.values ≡ length t.front + 1 = ap length t.values_are ∙ length-append t.front (t.top ∷ []) in
      let far = inside o words views h id v here p is x f.there in
      let is_at = f.is_at in
      let depth = t.depth in
      let count : (header_of x.node).fields ≡ f.size = ap (λ (k : Header). k.fields) f.head in
      let room : at + HEADER_WORDS + length t.front < length words = omega arith in
      let pops : stack_popped (eqb x.name.maker p.number) st.node ≡ (made, reply.Given t.top) =
      ap (λ b. stack_popped b st.node) (eq-eqb x.name.maker p.number f.mine) ∙ ap (λ n. stack_popped true n) f.node_is ∙
      (λ i. (Stack f.size (t.front_is i), given_or reply.StackEmpty (t.last_is i))) in
      let does : step W p.number C ≡ (v', reply.Given t.top) =
      step_pop W p.number can.dest object x.name st.node made (reply.Given t.top) f.refers st.there pops in
      let owes : owed_by W p.number C ≡ names_among (t.top ∷ []) = rw (owes_pop W p.number can.dest object x.name st.node f.refers st.there, eq-eqb x.name.maker p.number f.mine, f.node_is, t.last_is) in
      let now_ = node_now o words views h id v here p is x f.there made in
      let q : MutatorState = world_holding (state_of u p.number) can.dest t.top in
      let exists : p.number < length u.mutators = rw (as_many W x.name st.node made st.there) fits.exists in
      let kept = nodes_kept u p.number q exists refl in
      let all : AllMean P (set words (at + HEADER_WORDS + length t.front) 0) (at + HEADER_WORDS) t.front =
      all_popped P words (at + HEADER_WORDS) 0 t.front t.top (rw t.values_are at f.means) in
      let rest : AreUnset (set words (at + HEADER_WORDS + length t.front) 0) (at + HEADER_WORDS) (length t.front) f.size =
      unset_popped words (at + HEADER_WORDS) (length t.front) f.size room (rw long at f.unset) in
      let fields : HasSlots P (set words (at + HEADER_WORDS + slot) 0) (at + HEADER_WORDS) (slots_of made) =
      subst (λ n. HasSlots P (set words (at + HEADER_WORDS + n) 0) (at + HEADER_WORDS) (slots_of made)) (sym t.depth)
      (slots_of_fields P (set words (at + HEADER_WORDS + length t.front) 0) (at + HEADER_WORDS) made (all, rest)) in
      let ch : Changes o words views h id v here p is x f.there slot 0 made v' = record {
        within = omega arith;
        may = rw f.head tt;
        later = rw f.node_is (record { header = refl; free = refl; result = λ e. e; alive = λ parts e. absurd cc });
        sized = omega arith;
        mine = kept x.name ∙ now_.0;
        others = λ n ne. kept n ∙ now_.1 n ne;
        fields = subst (λ a. HasSlots P (set words (a + HEADER_WORDS + slot) 0) (a + HEADER_WORDS) (slots_of made)) (sym f.is_at) fields;
        stacks = λ size values e. f.mine;
      } in
      let g : List ℕ → List ℕ = λ ws. take (length ws - 1) ws in
      let more : (ws : List ℕ) → ListMeans P ws f.values → ListMeans P (g ws) t.front = λ ws l.
      front_means P ws t.front t.top (rw t.values_are at l) in
      let half : operand_word o p object / 2 ≡ at = let e = can.stack.object_word in omega arith in
      let popped : Hand = record (hand_now o p) { stacks = with_slots (hand_now o p).stacks at g } in
      let left : leaves (hand_now o p) C (word n) ≡ holding popped can.dest n =
      ap (λ a. holding (record (hand_now o p) { stacks = with_slots (hand_now o p).stacks a g }) can.dest n) half in
      rw can.command (rw is.alone (subst (λ (y : Opening). AddsCommand o words views h p.number C (set words (at + HEADER_WORDS + slot) 0) (set views id (record v {
        parts =
            doing (finding p n) C (word n) (owed_word y.marking n) ∷ [];
      }))) (sym (same_opening o words views h id v here p is))
      (subst (λ a. AddsCommand o words views h p.number C (set words (a + HEADER_WORDS + slot) 0) (set views id (record v {
        parts =
            doing (finding p n) C (word n) (owed_word o.marking n) ∷ [];
      }))) f.is_at
      (field_law o words views h id v here p is x f.there slot 0 made C (reply.Given t.top) (word n) v' (p.found ++ n ∷ []) (owed_word o.marking n) ch
      (rw can.command at can.gives) does (t.top, refl, t.means)
      (rw left (register_in o words views h id v here p is u popped can.dest n t.top exists
      (stack_hand at u g (node_frame W x.name st.node made st.there p.number)) t.means))
      (rw owes (owes_old o words views h id v here p is o.marking p.owed (names_of S.owed p.number) n t.top fits.owed t.means))
      (rw owes (owes_old o words views h id v here p is true p.found (names_of S.owed p.number) n t.top fits.found t.means))
      (stack_own at can.stack f made v' g t.front (leaves (hand_now o p) C (word n)) (ap (λ (k : Hand). k.stacks) left) refl ch.mine ch.others more)))))

  pub slot_keeps : (at slot w : ℕ) (c : Command) → CanSlot o p at slot w c →
      AddsCommand o words views h p.number c (set words (at + HEADER_WORDS + slot) w)
      (set views id (slot_swapped v c (slice_index words (at + HEADER_WORDS + slot))))
  slot_keeps at slot w c (inl can) =
      let n : ℕ = slice_index words (at + HEADER_WORDS + slot) in
      rw can.command (rw can.command at (push_keeps at slot w c can))
  slot_keeps at slot w c (inr (can, z)) =
      rw z (pop_keeps at slot c can)

  -- the word that a pop finds
  pub pop_safe : (at slot : ℕ) (c : Command) → CanPop o p at slot c → IsSafe o (slice_index words (at + HEADER_WORDS + slot))
  pop_safe at slot c can = let t = top_of at slot c can (found at can.stack) in
      safe_word o words views h id v here p is (slice_index words (at + HEADER_WORDS + slot)) t.top t.means

  -- and the word that a push finds: an unset slot
  pub slot_safe : (at slot w : ℕ) (c : Command) → CanSlot o p at slot w c → IsSafe o (slice_index words (at + HEADER_WORDS + slot))
  slot_safe at slot w c (inl can) =
      let f = found at can.stack in
      let top : slot ≡ length f.values = can.first f.slots f.listed ∙ as_long P f.slots f.values f.list in
      let size = f.size_is in
      let within = can.within in
      let none : slice_index words (at + HEADER_WORDS + slot) ≡ 0 = f.unset slot (omega arith) (omega arith) in
      λ a e. omega arith
  slot_safe at slot w c (inr (can, z)) = pop_safe at slot c can

  -- the answer of a push onto a full stack, and of a pop off an empty one
  pub barred_answers : (at : ℕ) (c : Command) → IsRefusedSlot o p at c →
      AddsCommand o words views h p.number c words (set views id (answered v c (plain (slot_refusal_reply c))))
  barred_answers at c (inl can) =
      let f = found at can.stack in
      let x = f.thing in
      let st = h.stands.objects x f.there in
      let object : Operand = can.stack.object in
      let val : Value = value_for W p.number can.value in
      let C : Command = Push object can.value in
      let u : World = with_node W x.name st.node in
      let long = as_long P f.slots f.values f.list in
      let full = can.full f.slots f.listed in
      let size = f.size_is in
      let pushes : stack_pushed (eqb x.name.maker p.number) st.node val ≡ (st.node, reply.StackFull) =
      cc (eq-eqb x.name.maker p.number f.mine, f.node_is, le-ltb (length f.values) f.size (omega arith)) in
      let does : step W p.number C ≡ (u, reply.StackFull) =
      step_push W p.number object can.value x.name st.node st.node reply.StackFull f.refers st.there pushes in
      let again = node_again o words views h id v here p is x f.there in
      rw can.command (still_law o words views h id v here p is C reply.StackFull (plain reply.StackFull) u (rw can.command at can.gives) does again (owes_push W p.number object can.value x.name st.node f.refers st.there) refl
      (moves_kept o words views h id v here p is u (hand_now o p) (node_frame W x.name st.node st.node st.there p.number) fits.hand) refl)
  barred_answers at c (inr can) =
      let f = found at can.stack in
      let x = f.thing in
      let st = h.stands.objects x f.there in
      let object : Operand = can.stack.object in
      let C : Command = Pop can.dest object in
      let u : World = with_node W x.name st.node in
      let none : f.values ≡ [] = no_values f.values (elim (cases_lt 0 can.stack.header.fields) [
        | inl some_ ↦
            sym (as_long P f.slots f.values f.list) ∙ can.empty f.slots f.listed some_
        | inr le ↦ let size = f.size_is in let sized = f.sized in
            omega arith
      ]) in
      let was : st.node ≡ Stack f.size [] = cc (f.node_is, none) in
      let mine = eq-eqb x.name.maker p.number f.mine in
      let pops : stack_popped (eqb x.name.maker p.number) st.node ≡ (st.node, reply.StackEmpty) = cc (mine, was) in
      let does : step W p.number C ≡ (u, reply.StackEmpty) =
      step_pop W p.number can.dest object x.name st.node st.node reply.StackEmpty f.refers st.there pops in
      let owes : owed_by W p.number C ≡ [] = cc (owes_pop W p.number can.dest object x.name st.node f.refers st.there, mine, was) in
      let again = node_again o words views h id v here p is x f.there in
      rw can.command (still_law o words views h id v here p is C reply.StackEmpty (plain reply.StackEmpty) u (rw can.command at can.gives) does again owes refl
      (moves_kept o words views h id v here p is u (hand_now o p) (node_frame W x.name st.node st.node st.there p.number) fits.hand) refl)
