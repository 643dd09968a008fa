-- A compare-exchange of a field keeps the rule, whether it answers yes or no.
use Rattle.nmgc_round.proofs.Vocabulary.{◌≡◌, ℕ, ◌+◌, ◌<◌, Bool, true, false, cond, eqb, eqb-true, List, [], ◌∷◌, ◌++◌, set, refl, sym, ap, subst, ◌∙◌, arith, slice_index, Some, some, get_elem?, Name, Value, Node, Con, Var, Arr, Thunk, Weak, Stack, Change, Operand, Command, Cas, Reply, World, node_of, is_same, exchanged_at, field_set, field_exchanged, value_for, with_node, step, field_held, names_among, owed_by, HEADER_WORDS, State, names_of, header_of, MayChange, Place, Means, plain, Opening, Part, Seen, hand_now, doing, finding, owed_word, done_by, Object, IsObject, IsIn, now, Fits, Keeps, AddsCommand, IsMutator, IsWritable, CanExchange, exchanged, words_exchanged}
use Rattle.nmgc_world_spec.specs.declared.value.Value.TheVariants as value
use Rattle.nmgc_world_spec.specs.declared.change.Change.TheVariants as change
use Rattle.nmgc_world_spec.specs.declared.command.Reply.TheVariants as reply
use Rattle.nmgc_round.proofs.{Frames.node_frame, Commands.Written, Commands.written, Moves.may_change, Moves.meant, Moves.operand_is, Moves.inside, Moves.same_opening, Moves.owes_old, Moves.hand_kept, Refusals.same_words, Writes.Changes, Writes.field_law, Writes.own_same, Writes.node_now, Writes.node_again, Writes.still_law}

-- `cas` of a field that exists compares its value, and then writes as `set` does
compares : (found : Node) (index : ℕ) (expected v old : Value) (made : Node) → field_held found index ≡ Some old →
    field_set found index v ≡ (made, reply.Fine) → field_exchanged found index expected v ≡ exchanged_at (Some old) expected found made
compares (Con tag values) index expected v old made held does = absurd cc
compares (Thunk free result) index expected v old made held does = absurd cc
compares (Weak parts) index expected v old made held does = absurd cc
compares (Stack size values) index expected v old made held does = absurd cc
compares (Var x) index expected v old made held does = cc (held, var_made (eqb index 0) does)
  where
    var_made : (b : Bool) → cond {A = Node × Reply} b (Var v, reply.Fine) (Var x, reply.NoField) ≡ (made, reply.Fine) → Var v ≡ made
    var_made true e = ap (λ (r : Node × Reply). r.0) e
    var_made false e = let no : reply.NoField ≡ reply.Fine = ap (λ (r : Node × Reply). r.1) e in absurd cc
compares (Arr values) index expected v old made held does = cc (held, arr_made _ does)
  where
    arr_made : (b : Bool) → cond {A = Node × Reply} b (Arr (set values index v), reply.Fine) (Arr values, reply.NoField) ≡ (made, reply.Fine) →
        Arr (set values index v) ≡ made
    arr_made true e = ap (λ (r : Node × Reply). r.0) e
    arr_made false e = let no : reply.NoField ≡ reply.Fine = ap (λ (r : Node × Reply). r.1) e in absurd cc

-- `cas` of a field that exists
step_cas : (w : World) (m : ℕ) (object e v : Operand) (index : ℕ) (name : Name) (found made : Node) (r : Reply) →
    value_for w m object ≡ value.Ref name → node_of w name ≡ Some found →
    field_exchanged found index (value_for w m e) (value_for w m v) ≡ (made, r) → step w m (Cas object index e v) ≡ (with_node w name made, r)
step_cas w m object e v index name found made r is there does =
    let c : Change = change.Exchange index (value_for w m e) (value_for w m v) in
    rw (is, there, does)

-- it owes the old value, if that is the expected value
owes_cas : (w : World) (m : ℕ) (object e v : Operand) (index : ℕ) (name : Name) (found : Node) (old : Value) (same : Bool) →
    value_for w m object ≡ value.Ref name → node_of w name ≡ Some found → field_held found index ≡ Some old → is_same old (value_for w m e) ≡ same →
    owed_by w m (Cas object index e v) ≡ names_among (cond same (old ∷ []) [])
owes_cas w m object e v index name found old same is there held hit =
    let c : Change = change.Exchange index (value_for w m e) (value_for w m v) in
    cc (is, there, held, hit)

module _ (o : Opening) (words : List ℕ) (views : List Seen) (h : Keeps o words views) (id : ℕ) (v : Seen) (here : get_elem? views id ≡
    some v) (p : Part) (is : IsMutator v p) where
  abbrev S : State
  S = now o h.events

  abbrev W : World
  W = S.world

  abbrev P : Place → Type 0
  P = IsIn o h.born

  fits : Fits o h.born S (done_by p.number h.events) p
  fits = ((h.agrees id v here).parts 0 p (ap (λ l. get_elem? l 0) is.alone)).1

  -- the findings of a compare-exchange: the old value, and the node that it would make
  record Finds (at index expected w : ℕ) (c : Command) (can : CanExchange o p at index expected w c) : Type 0 where
    object : Object
    there : IsObject o h.born object
    is_at : object.at ≡ at
    refers : value_for W p.number can.object ≡ value.Ref object.name
    within : index < (header_of object.node).fields
    may : MayChange (header_of object.node).kind index
    write : Written P words (at + HEADER_WORDS) index w (h.stands.objects object there).node (value_for W p.number can.value)
    compares : field_exchanged (h.stands.objects object there).node index (value_for W p.number can.before) (value_for W p.number can.value) ≡
        exchanged_at (Some write.old) (value_for W p.number can.before) (h.stands.objects object there).node write.made
    same : is_same write.old (value_for W p.number can.before) ≡ eqb (slice_index words (at + HEADER_WORDS + index)) expected

  finds : (at index expected w : ℕ) (c : Command) (can : CanExchange o p at index expected w c) → Finds at index expected w c can
  finds at index expected w c can =
      let m = meant o words views h id v here p is at can.header can.object can.object_word can.names in
      let x = m.object in
      let st = h.stands.objects x m.there in
      let val : Value = value_for W p.number can.value in
      let head : header_of st.node ≡ can.header = st.later.header ∙ m.head in
      let means : Means P w val = rw can.value_word at (operand_is o words views h id v here p is can.value) in
      let fields = rw m.is_at at st.fields in
      let may : IsWritable (header_of st.node).kind = rw head can.kind in
      let within : index < (header_of st.node).fields = rw head can.within in
      let within' : index < (header_of x.node).fields = rw m.head can.within in
      let far = inside o words views h id v here p is x m.there in
      let is_at = m.is_at in
      let t = written P words (at + HEADER_WORDS) index w st.node val may within (omega arith) fields means in
      record {
        object = x;
        there = m.there;
        is_at = m.is_at;
        refers = m.refers;
        within = within';
        may = rw m.head (may_change can.header.kind index can.kind);
        write = t;
        compares = compares st.node index (value_for W p.number can.before) val t.old t.made t.held t.does;
        same = same_words o words views h id v here p is (slice_index words (at + HEADER_WORDS + index)) expected t.old
            (value_for W p.number can.before) t.was (rw can.before_word at (operand_is o words views h id v here p is can.before));
      }

  -- it found the expected word: the field changes, and the old word is owed
  exchange_yes : (at index expected w : ℕ) (c : Command) → CanExchange o p at index expected w c →
      eqb (slice_index words (at + HEADER_WORDS + index)) expected ≡ true →
      AddsCommand o words views h p.number c (set words (at + HEADER_WORDS + index) w) (set views id (exchanged v c expected true))
  exchange_yes at index expected w c can hit =
      let f = finds at index expected w c can in
      let x = f.object in
      let t = f.write in
      let st = h.stands.objects x f.there in
      let C : Command = Cas can.object index can.before can.value in
      let u : World = with_node W x.name t.made in
      let same : is_same t.old (value_for W p.number can.before) ≡ true = f.same ∙ hit in
      let does : step W p.number C ≡ (u, reply.Yes) =
      step_cas W p.number can.object can.before can.value index x.name st.node t.made reply.Yes f.refers st.there (rw (f.compares, same)) in
      let owes : owed_by W p.number C ≡ names_among (t.old ∷ []) =
      owes_cas W p.number can.object can.before can.value index x.name st.node t.old true f.refers st.there t.held same in
      let now_ = node_now o words views h id v here p is x f.there t.made in
      let is_word : slice_index words (at + HEADER_WORDS + index) ≡ expected = eqb-true (slice_index words (at + HEADER_WORDS + index)) expected hit in
      let was : Means P expected t.old = rw is_word at t.was in
      let ch : Changes o words views h id v here p is x f.there index w t.made u = record {
        within = f.within;
        may = f.may;
        later = t.later;
        sized = t.sized;
        mine = now_.0;
        others = now_.1;
        fields = rw f.is_at t.fields;
        stacks = λ size values e. absurd (t.no_stack size values e);
      } in
      rw is.alone (subst (λ (y : Opening). AddsCommand o words views h p.number c (set words (at + HEADER_WORDS + index) w) (set views id (record v {
        parts =
            doing (finding p expected) c (plain reply.Yes) (owed_word y.marking expected) ∷ [];
      }))) (sym (same_opening o words views h id v here p is))
      (subst (λ (d : Command). AddsCommand o words views h p.number d (set words (at + HEADER_WORDS + index) w) (set views id (record v {
        parts =
            doing (finding p expected) d (plain reply.Yes) (owed_word o.marking expected) ∷ [];
      }))) (sym can.command)
      (subst (λ a. AddsCommand o words views h p.number C (set words (a + HEADER_WORDS + index) w) (set views id (record v {
        parts =
            doing (finding p expected) C (plain reply.Yes) (owed_word o.marking expected) ∷ [];
      }))) f.is_at
      (field_law o words views h id v here p is x f.there index w t.made C reply.Yes (plain reply.Yes) u (p.found ++ expected ∷
      []) (owed_word o.marking expected) ch
      (rw can.command at can.gives) does refl
      (hand_kept o words views h id v here p is u (hand_now o p) (node_frame W x.name st.node t.made st.there p.number) fits.hand)
      (rw owes (owes_old o words views h id v here p is o.marking p.owed (names_of S.owed p.number) expected t.old fits.owed was))
      (rw owes (owes_old o words views h id v here p is true p.found (names_of S.owed p.number) expected t.old fits.found was))
      (own_same o words views h id v here p is x f.there index w t.made u (hand_now o p) ch (λ size values e. t.no_stack size values e) refl)))))

  -- it found another word: nothing changes
  exchange_no : (at index expected w : ℕ) (c : Command) → CanExchange o p at index expected w c →
      eqb (slice_index words (at + HEADER_WORDS + index)) expected ≡ false →
      AddsCommand o words views h p.number c words (set views id (exchanged v c expected false))
  exchange_no at index expected w c can no_ =
      let f = finds at index expected w c can in
      let x = f.object in
      let t = f.write in
      let st = h.stands.objects x f.there in
      let C : Command = Cas can.object index can.before can.value in
      let u : World = with_node W x.name st.node in
      let same : is_same t.old (value_for W p.number can.before) ≡ false = f.same ∙ no_ in
      let does : step W p.number C ≡ (u, reply.No) =
      step_cas W p.number can.object can.before can.value index x.name st.node st.node reply.No f.refers st.there (rw (f.compares, same)) in
      let owes : owed_by W p.number C ≡ [] =
      owes_cas W p.number can.object can.before can.value index x.name st.node t.old false f.refers st.there t.held same in
      let again = node_again o words views h id v here p is x f.there in
      rw can.command (still_law o words views h id v here p is C reply.No (plain reply.No) u (rw can.command at can.gives) does again owes refl
      (hand_kept o words views h id v here p is u (hand_now o p) (node_frame W x.name st.node st.node st.there p.number) fits.hand) refl)

  exchange_as : (at index expected w : ℕ) (c : Command) → CanExchange o p at index expected w c → (hit : Bool) →
      eqb (slice_index words (at + HEADER_WORDS + index)) expected ≡ hit →
      AddsCommand o words views h p.number c (words_exchanged words (at + HEADER_WORDS + index) w hit) (set views id (exchanged v c expected hit))
  exchange_as at index expected w c can true e = exchange_yes at index expected w c can e
  exchange_as at index expected w c can false e = exchange_no at index expected w c can e

  pub exchange_keeps : (at index expected w : ℕ) (c : Command) → CanExchange o p at index expected w c →
      AddsCommand o words views h p.number c (words_exchanged words (at + HEADER_WORDS + index) w
      (eqb (slice_index words (at + HEADER_WORDS + index)) expected))
      (set views id (exchanged v c expected (eqb (slice_index words (at + HEADER_WORDS + index)) expected)))
  exchange_keeps at index expected w c can = exchange_as at index expected w c can (eqb (slice_index words (at + HEADER_WORDS + index)) expected) refl
