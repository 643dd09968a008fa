-- A load and a compare-exchange of a thunk's result keep the rule.
use Rattle.nmgc_round.proofs.Vocabulary.{◌≡◌, ◌≢◌, ℕ, ◌+◌, ◌-◌, ◌*◌, ◌/◌, Bool, true, false, cond, eqb, eq-eqb, ne_eqb, List, [], ◌∷◌, ◌++◌, length, set, refl, sym, ap, subst, ◌∙◌, arith, slice_index, Option, Some, None, get_or-set_same, some, get_elem?, Name, Value, Node, Con, Var, Arr, Thunk, Weak, Stack, Change, MutatorState, Operand, Command, Update, Force, Reply, World, state_of, node_of, given_or, thunk_updated, value_for, with_node, with_register, world_holding, keeping, step, free_held, names_among, owed_by, header_word, Header, HEADER_WORDS, State, names_of, nodes_kept, header_of, slots_of, Place, Means, HasSlots, ListMeans, fields_of_slots, slots_of_fields, plain, word, Opening, Part, Seen, hand_now, doing, done_by, Object, IsObject, IsIn, now, Fits, Keeps, AddsCommand, IsMutator, Names, operand_word, header_at, IsSafe, owed_words, finding_all, words_exchanged, CanForce, CanUpdate, result_answer, forced, updated, free_named}
use Rattle.nmgc_world_spec.specs.declared.value.Value.TheVariants as value
use Rattle.nmgc_world_spec.specs.declared.node.Kind.TheVariants as kind
use Rattle.nmgc_world_spec.specs.declared.change.Change.TheVariants as change
use Rattle.nmgc_world_spec.specs.declared.command.Reply.TheVariants as reply
use Rattle.nmgc_round.proofs.{Frames.node_frame, Scans.means_some, Fixes.safe_word, Moves.meant, Moves.operand_is, Moves.inside, Moves.same_opening, Moves.register_hand, Moves.hand_kept, Writes.Changes, Writes.field_law, Writes.own_same, Writes.node_now, Writes.node_again, Writes.still_law, Owings.named_list, Owings.above, Owings.named_word, Owings.named_header, Owings.owes_list}

-- a node of a thunk's kind is a thunk
thunk_of : (n : Node) → (header_of n).kind ≡ kind.Thunk → (free : List Value) × (result : Option Value) × (n ≡ Thunk free result)
thunk_of (Con tag values) e = absurd cc
thunk_of (Var x) e = absurd cc
thunk_of (Arr values) e = absurd cc
thunk_of (Thunk free result) e = (free, result, refl)
thunk_of (Weak parts) e = absurd cc
thunk_of (Stack size values) e = absurd cc

-- `force` of a thunk
step_force : (w : World) (m dest : ℕ) (object : Operand) (name : Name) (free : List Value) (result : Option Value) →
    value_for w m object ≡ value.Ref name → node_of w name ≡ Some (Thunk free result) →
    step w m (Force dest object) ≡ (keeping w m dest (given_or reply.Nothing result), given_or reply.Nothing result)
step_force w m dest object name free result is there =
    cc (is, there)

-- `update` of a thunk
step_update : (w : World) (m : ℕ) (object v : Operand) (name : Name) (found made : Node) (r : Reply) → value_for w m object ≡ value.Ref name →
    node_of w name ≡ Some found → thunk_updated found (value_for w m v) ≡ (made, r) → step w m (Update object v) ≡ (with_node w name made, r)
step_update w m object v name found made r is there does =
    let c : Change = change.Update (value_for w m v) in
    cc (is, there, does)

-- it owes the free variables, if there was no result
owes_update : (w : World) (m : ℕ) (object v : Operand) (name : Name) (found : Node) → value_for w m object ≡ value.Ref name →
    node_of w name ≡ Some found → owed_by w m (Update object v) ≡ names_among (free_held found)
owes_update w m object v name found is there =
    let c : Change = change.Update (value_for w m v) in
    cc (is, there)

module _ (o : Opening) (words : List ℕ) (views : List Seen) (h : Keeps o words views) (id : ℕ) (v : Seen) (here : get_elem? views id ≡
    some v) (p : Part) (is : IsMutator v p) where
  abbrev S : State
  S = now o h.events

  abbrev W : World
  W = S.world

  abbrev P : Place → Type 0
  P = IsIn o h.born

  fits : Fits o h.born S (done_by p.number h.events) p
  fits = ((h.agrees id v here).parts 0 p (ap (λ l. get_elem? l 0) is.alone)).1

  -- the thunk at an address, if its header is named
  record Found (at : ℕ) (object : Operand) (header : Header) : Type 0 where
    thing : Object
    there : IsObject o h.born thing
    is_at : thing.at ≡ at
    refers : value_for W p.number object ≡ value.Ref thing.name
    free : List Value
    result : Option Value
    node_is : (h.stands.objects thing there).node ≡ Thunk free result
    node_there : node_of W thing.name ≡ Some (Thunk free result)
    head : header ≡ header_of (Thunk free result)
    first : header_of thing.node ≡ header
    fields : HasSlots P words (at + HEADER_WORDS) (slots_of (Thunk free result))

  found : (at : ℕ) (object : Operand) (header : Header) → operand_word o p object ≡ 2 * at → Names p at header → header.kind ≡ kind.Thunk →
      Found at object header
  found at object header e names is_thunk =
      let m = meant o words views h id v here p is at header object e names in
      let st = h.stands.objects m.object m.there in
      let head : header_of st.node ≡ header = st.later.header ∙ m.head in
      let t = thunk_of st.node (cc (head, is_thunk)) in
      record {
        thing = m.object;
        there = m.there;
        is_at = m.is_at;
        refers = m.refers;
        free = t.0;
        result = t.1;
        node_is = t.2;
        node_there = cc (st.there, t.2);
        head = sym head ∙ ap header_of t.2;
        first = m.head;
        fields = rw (← t.2) (rw m.is_at at st.fields);
      }

  -- a load of a result, by whether there is one
  force_as : (at : ℕ) (c : Command) (can : CanForce o p at c) (free : List Value) (result : Option Value) (name : Name) →
      value_for W p.number can.object ≡ value.Ref name → node_of W name ≡ Some (Thunk free result) →
      HasSlots P words (at + HEADER_WORDS) (slots_of (Thunk free result)) →
      AddsCommand o words views h p.number (Force can.dest can.object) words
      (set views id (forced v (Force can.dest can.object) (slice_index words (at + HEADER_WORDS))))
  force_as at c can free None name refers there fields =
      let C : Command = Force can.dest can.object in
      let w : ℕ = slice_index words (at + HEADER_WORDS) in
      let zero_ : w ≡ 0 = (fields_of_slots P words (at + HEADER_WORDS) (Thunk free None) fields).0 in
      let a : result_answer w ≡ plain reply.Nothing = ap (λ (b : Bool). cond b (plain reply.Nothing) (word w)) (eq-eqb w 0 zero_) in
      rw a (still_law o words views h id v here p is C reply.Nothing (plain reply.Nothing) W (rw can.command at can.gives) (step_force W p.number can.dest can.object name free None refers there) (λ n. refl) refl refl fits.hand refl)
  force_as at c can free (Some x) name refers there fields =
      let C : Command = Force can.dest can.object in
      let w : ℕ = slice_index words (at + HEADER_WORDS) in
      let m : Means P w x = fields_of_slots P words (at + HEADER_WORDS) (Thunk free (Some x)) fields in
      let a : result_answer w ≡ word w =
      ap (λ (b : Bool). cond b (plain reply.Nothing) (word w)) (ne_eqb w 0 (means_some P (above o words views h id v here p is) w x m)) in
      let q : MutatorState = world_holding (state_of W p.number) can.dest x in
      rw a (still_law o words views h id v here p is C (reply.Given x) (word w) (with_register W p.number can.dest x) (rw can.command at can.gives) (step_force W p.number can.dest can.object name free (Some x) refers there)
      (nodes_kept W p.number q fits.exists refl) refl (x, refl, m) (register_hand o words views h id v here p is can.dest w x m) refl)

  pub force_keeps : (at : ℕ) (c : Command) → CanForce o p at c →
      AddsCommand o words views h p.number c words (set views id (forced v c (slice_index words (at + HEADER_WORDS))))
  force_keeps at c can =
      let f = found at can.object can.header can.object_word can.names can.kind in
      rw can.command (force_as at c can f.free f.result f.thing.name f.refers f.node_there f.fields)

  safe_as : (at : ℕ) (free : List Value) (result : Option Value) → HasSlots P words (at + HEADER_WORDS) (slots_of (Thunk free result)) →
      slice_index words (at + HEADER_WORDS) ≢ 0 → IsSafe o (slice_index words (at + HEADER_WORDS))
  safe_as at free None fields ne = absurd (ne (fields_of_slots P words (at + HEADER_WORDS) (Thunk free None) fields).0)
  safe_as at free (Some x) fields ne =
      safe_word o words views h id v here p is (slice_index words (at + HEADER_WORDS)) x
      (fields_of_slots P words (at + HEADER_WORDS) (Thunk free (Some x)) fields)

  -- a result that a load finds
  pub force_safe : (at : ℕ) (c : Command) → CanForce o p at c → slice_index words (at + HEADER_WORDS) ≢ 0 → IsSafe o (slice_index words (at + HEADER_WORDS))
  force_safe at c can ne = let f = found at can.object can.header can.object_word can.names can.kind in safe_as at f.free f.result f.fields ne

  -- the number of free variables, by the header
  free_count : (at : ℕ) (header : Header) (free : List Value) (result : Option Value) → Names p at header → header ≡ header_of (Thunk free result) →
      header_at p.fixed at / 2048 - 1 ≡ length free
  free_count at header free result names e =
      let t : header_at p.fixed at ≡ header_word (header_of (Thunk free result)) = cc (named_header o words views h id v here p is at header names, e) in
      omega arith

  -- an update of a thunk without a result
  update_yes : (at w : ℕ) (c : Command) (can : CanUpdate o p at w c) (f : Found at can.object can.header) → f.result ≡ None →
      AddsCommand o words views h p.number c (set words (at + HEADER_WORDS) w) (set views id (updated v at c true))
  update_yes at w c can f none =
      let x = f.thing in
      let st = h.stands.objects x f.there in
      let free = f.free in
      let val : Value = value_for W p.number can.value in
      let was : st.node ≡ Thunk free None = cc (f.node_is, none) in
      let made : Node = Thunk free (Some val) in
      let C : Command = Update can.object can.value in
      let u : World = with_node W x.name made in
      let does : step W p.number C ≡ (u, reply.Updated) =
      step_update W p.number can.object can.value x.name st.node made reply.Updated f.refers st.there (ap (λ n. thunk_updated n val) was) in
      let owes : owed_by W p.number C ≡ names_among free = cc (owes_update W p.number can.object can.value x.name st.node f.refers st.there, was) in
      let now_ = node_now o words views h id v here p is x f.there made in
      let means : Means P w val = rw can.value_word at (operand_is o words views h id v here p is can.value) in
      let far = inside o words views h id v here p is x f.there in
      let is_at = f.is_at in
      let head : header_of x.node ≡ header_of (Thunk free f.result) = f.first ∙ f.head in
      let count : (header_of x.node).fields ≡ length free + 1 = ap (λ (k : Header). k.fields) head in
      let z : x.at + HEADER_WORDS + 0 ≡ x.at + HEADER_WORDS = omega arith in
      let new : List ℕ = set words (x.at + HEADER_WORDS + 0) w in
      let stored : slice_index new (x.at + HEADER_WORDS) ≡ w = cc (z, get_or-set_same words (x.at + HEADER_WORDS) w 0 (omega arith)) in
      let ch : Changes o words views h id v here p is x f.there 0 w made u = record {
        within = omega arith;
        may = rw head refl;
        later = rw was (record { header = refl; free = refl; result = λ e. refl; alive = λ parts e. absurd cc });
        sized = tt;
        mine = now_.0;
        others = now_.1;
        fields = slots_of_fields P new (x.at + HEADER_WORDS) made (rw stored means);
        stacks = λ size values e. absurd (let both : Thunk free None ≡ Stack size values = sym was ∙ e in cc);
      } in
      let ws : List ℕ = free_named at p in
      let all = fields_of_slots P words (at + HEADER_WORDS) (Thunk free None) (rw none at f.fields) in
      let as_many = free_count at can.header free f.result can.names f.head in
      let fields_are : can.header.fields ≡ length free + 1 = ap (λ (k : Header). k.fields) f.head in
      let list : ListMeans P ws free = rw as_many (named_list P p.fixed words at (at + HEADER_WORDS + 1) (HEADER_WORDS + 1) free
      (λ i lt. let there = can.free i (omega arith) in let k : at + (HEADER_WORDS + 1 + i) ≡ at + HEADER_WORDS + 1 + i = omega arith in
      cc (named_word o words views h id v here p is at (HEADER_WORDS + 1 + i) there.0 there.1, k))
      all.1) in
      rw is.alone (subst (λ (y : Opening). AddsCommand o words views h p.number c (set words (at + HEADER_WORDS) w) (set views id (record v {
        parts =
            doing (finding_all p ws) c (plain reply.Updated) (owed_words y.marking ws) ∷ [];
      }))) (sym (same_opening o words views h id v here p is))
      (subst (λ (d : Command). AddsCommand o words views h p.number d (set words (at + HEADER_WORDS) w) (set views id (record v {
        parts =
            doing (finding_all p ws) d (plain reply.Updated) (owed_words o.marking ws) ∷ [];
      }))) (sym can.command)
      (subst (λ a. AddsCommand o words views h p.number C (set words (a + HEADER_WORDS) w) (set views id (record v {
        parts =
            doing (finding_all p ws) C (plain reply.Updated) (owed_words o.marking ws) ∷ [];
      }))) f.is_at
      (subst (λ j. AddsCommand o words views h p.number C (set words j w) (set views id (record v {
        parts =
            doing (finding_all p ws) C (plain reply.Updated) (owed_words o.marking ws) ∷ [];
      }))) z
      (field_law o words views h id v here p is x f.there 0 w made C reply.Updated (plain reply.Updated) u (p.found ++ ws) (owed_words o.marking ws) ch
      (rw can.command at can.gives) does refl
      (hand_kept o words views h id v here p is u (hand_now o p) (node_frame W x.name st.node made st.there p.number) fits.hand)
      (rw owes (owes_list P o.marking p.owed ws (names_of S.owed p.number) free fits.owed list))
      (rw owes (owes_list P true p.found ws (names_of S.owed p.number) free fits.found list))
      (own_same o words views h id v here p is x f.there 0 w made u (hand_now o p) ch (λ size values e.
      let both : Thunk free None ≡ Stack size values = sym was ∙ e in cc) refl))))))

  -- an update of a thunk with a result
  update_no : (at w : ℕ) (c : Command) (can : CanUpdate o p at w c) (f : Found at can.object can.header) (x : Value) → f.result ≡ Some x →
      AddsCommand o words views h p.number c words (set views id (updated v at c false))
  update_no at w c can f x some_ =
      let thing = f.thing in
      let st = h.stands.objects thing f.there in
      let C : Command = Update can.object can.value in
      let val : Value = value_for W p.number can.value in
      let was : st.node ≡ Thunk f.free (Some x) = cc (f.node_is, some_) in
      let u : World = with_node W thing.name st.node in
      let does : step W p.number C ≡ (u, reply.Already) =
      step_update W p.number can.object can.value thing.name st.node st.node reply.Already f.refers st.there (cc was) in
      let owes : owed_by W p.number C ≡ [] = cc (owes_update W p.number can.object can.value thing.name st.node f.refers st.there, was) in
      let again = node_again o words views h id v here p is thing f.there in
      rw can.command (still_law o words views h id v here p is C reply.Already (plain reply.Already) u (rw can.command at can.gives) does again owes refl
      (hand_kept o words views h id v here p is u (hand_now o p) (node_frame W thing.name st.node st.node st.there p.number) fits.hand) refl)

  -- by whether there is a result, which the word there shows
  update_as : (at w : ℕ) (c : Command) (can : CanUpdate o p at w c) (f : Found at can.object can.header) (result : Option Value) →
      f.result ≡ result → AddsCommand o words views h p.number c
      (words_exchanged words (at + HEADER_WORDS) w (eqb (slice_index words (at + HEADER_WORDS)) 0))
      (set views id (updated v at c (eqb (slice_index words (at + HEADER_WORDS)) 0)))
  update_as at w c can f None e =
      let n : ℕ = slice_index words (at + HEADER_WORDS) in
      let zero_ : n ≡ 0 = (fields_of_slots P words (at + HEADER_WORDS) (Thunk f.free None) (rw e at f.fields)).0 in
      rw (eq-eqb n 0 zero_) (update_yes at w c can f e)
  update_as at w c can f (Some x) e =
      let n : ℕ = slice_index words (at + HEADER_WORDS) in
      let m : Means P n x = fields_of_slots P words (at + HEADER_WORDS) (Thunk f.free (Some x)) (rw e at f.fields) in
      rw (ne_eqb n 0 (means_some P (above o words views h id v here p is) n x m)) (update_no at w c can f x e)

  pub update_keeps : (at w : ℕ) (c : Command) → CanUpdate o p at w c →
      AddsCommand o words views h p.number c (words_exchanged words (at + HEADER_WORDS) w (eqb (slice_index words (at + HEADER_WORDS)) 0))
      (set views id (updated v at c (eqb (slice_index words (at + HEADER_WORDS)) 0)))
  update_keeps at w c can = let f = found at can.object can.header can.object_word can.names can.kind in update_as at w c can f f.result refl
