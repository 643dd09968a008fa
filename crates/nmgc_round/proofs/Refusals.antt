-- Commands whose position in the order is a load of the header of g keep the rule.
use Rattle.nmgc_round.proofs.Vocabulary.{◌≡◌, ◌<◌, ◌⊎◌, drop, inl, inr, ℕ, ◌+◌, ◌*◌, ◌/◌, ◌%◌, ◌≤◌, Bool, true, false, cond, eqb, leb, List, [], ◌∷◌, length, set, refl, sym, ap, subst, ◌∙◌, arith, slice_index, None, Some, ne_eqb, eq-eqb, eqb-true, le-ltb, Contains, slice_get, slice_get_past, and_parts, some, get_elem?, Name, Value, Node, Change, Operand, Command, Num, Nil, Mov, Get, Tag, Set, Cas, Update, Force, Push, Pop, Deref, Finalise, NextFin, Show, Same, Yield, Collect, Full, Reply, Fine, Yes, No, Given, NoPointer, NoField, WrongKind, NotOwner, Fixed, Nothing, MutatorState, World, state_of, node_of, given_or, field_read, tag_read, field_set, is_same, exchanged_at, field_exchanged, thunk_updated, result_read, value_read, weak_finalised, stack_pushed, stack_popped, changed, change_into, holding_given, with_state, value_for, object_of, read_object, read_into, keeping, change_object, with_register, with_node, step, field_held, if_same, free_held, top_held, weak_held, value_held, owed_in, owed_of, names_among, owed_by, header_word, name_word, IsName, Header, header_of, Place, Means, ListMeans, Hand, holding, leaves, Answer, plain, word, Opening, Part, Seen, FixedWord, hand_now, answered, doing, done_by, Object, place_of, IsObject, IsIn, now, Answers, IsHand, Fits, Rests, Keeps, IsMutator, CanGive, Names, IsReadable, IsWritable, operand_word, header_at, get_refusal, set_refusal, owner_refusal, first_answer, refused, known_answer, IsRefused, IsForeign, CanAnswer, known, AddsCommand, nodes_kept, node_cases, state_same, tested_same, is_same_name-refl, contains_head, contains_tail, contains_cases, both, ◌&&◌}
use Rattle.nmgc_world_spec.specs.declared.command.Command.TheVariants.{Con, Var, Arr, Rec, Thunk, Weak, Stack}
use Rattle.nmgc_world_spec.specs.declared.value.Value.TheVariants as value
use Rattle.nmgc_world_spec.specs.declared.node.Node.TheVariants as node
use Rattle.nmgc_world_spec.specs.declared.change.Change.TheVariants as change
use Rattle.nmgc_world_spec.specs.declared.node.Kind.{Kind}
use Rattle.nmgc_world_spec.specs.declared.node.Kind.TheVariants as kind
use Rattle.nmgc_object.specs.Words.{HasTag, IsHeader, kind_number}
use Rattle.nmgc_round.specs.laws.Tags.{tag_none, tag_there, tag_wrong}
use Rattle.nmgc_round.proofs.{Lists.list_set, Moves.register_hand, Moves.hand_kept, Moves.meant, Moves.operand_is, Writes.still_law, Frames.node_frame, Standing.placed, Keeping.acts}

-- `tag` of an object
step_tag : (w : World) (m dest : ℕ) (object : Operand) (name : Name) (found : Node) → value_for w m object ≡ value.Ref name →
    node_of w name ≡ Some found → step w m (Tag dest object) ≡ change_into m dest (w, tag_read found)
step_tag w m dest object name found is there = rw (is, there) refl

-- a field that doesn't exist, or may not be read
get_refused : (n : Node) (index : ℕ) → (IsReadable (header_of n).kind → (header_of n).fields ≤ index) →
    field_read n index ≡ get_refusal (header_word (header_of n))
get_refused (node.Con tag values) index bad = let e : header_word (header_of (node.Con tag values)) % 8 ≡ 1 = omega arith in
    cc (slice_get_past values index (bad tt), e)
get_refused (node.Var v) index bad = let le : 1 ≤ index = bad tt in ap (λ o. given_or NoField o) (slice_get_past (v ∷ []) index le)
get_refused (node.Arr values) index bad = let e : header_word (header_of (node.Arr values)) % 8 ≡ 3 = omega arith in
    cc (slice_get_past values index (bad tt), e)
get_refused (node.Thunk free result) index bad = let e : header_word (header_of (node.Thunk free result)) % 8 ≡ 4 = omega arith in
    sym (ap (λ k. cond (leb k 3) NoField WrongKind) e)
get_refused (node.Weak parts) index bad = refl
get_refused (node.Stack size values) index bad = let e : header_word (header_of (node.Stack size values)) % 8 ≡ 6 = omega arith in
    sym (ap (λ k. cond (leb k 3) NoField WrongKind) e)

abbrev set_reply : ℕ → Reply
set_reply k = cond (eqb k 1) Fixed (cond (leb k 3) NoField WrongKind)

set_refused : (n : Node) (index : ℕ) (v : Value) → (IsWritable (header_of n).kind → (header_of n).fields ≤ index) →
    field_set n index v ≡ (n, set_refusal (header_word (header_of n)))
set_refused (node.Con tag values) index v bad = let e : header_word (header_of (node.Con tag values)) % 8 ≡ 1 = omega arith in
    ap (λ (r : Reply). (node.Con tag values, r)) (sym (ap set_reply e))
set_refused (node.Var old) index v bad = let le : 1 ≤ index = bad tt in
    ap (λ b. cond {A = Node × Reply} b (node.Var v, Fine) (node.Var old, NoField)) (ne_eqb index 0 (λ z. omega arith))
set_refused (node.Arr values) index v bad = let e : header_word (header_of (node.Arr values)) % 8 ≡ 3 = omega arith in
    cc (le-ltb index (length values) (bad tt), e)
set_refused (node.Thunk free result) index v bad = let e : header_word (header_of (node.Thunk free result)) % 8 ≡ 4 = omega arith in
    ap (λ (r : Reply). (node.Thunk free result, r)) (sym (ap set_reply e))
set_refused (node.Weak parts) index v bad = refl
set_refused (node.Stack size values) index v bad = let e : header_word (header_of (node.Stack size values)) % 8 ≡ 6 = omega arith in
    ap (λ (r : Reply). (node.Stack size values, r)) (sym (ap set_reply e))

-- it owes nothing then
none_owed : (n : Node) (index : ℕ) → (IsWritable (header_of n).kind → (header_of n).fields ≤ index) → field_held n index ≡ None
none_owed (node.Con tag values) index bad = refl
none_owed (node.Var v) index bad = slice_get_past (v ∷ []) index (bad tt)
none_owed (node.Arr values) index bad = slice_get_past values index (bad tt)
none_owed (node.Thunk free result) index bad = refl
none_owed (node.Weak parts) index bad = refl
none_owed (node.Stack size values) index bad = refl

-- the header that is named at an address is the word there
pub header_there : (fixed : List FixedWord) (at w : ℕ) → ((f : FixedWord) → Contains fixed f → f.at ≡ at → f.offset ≡ 0 → f.word ≡ w) →
    Contains fixed (record { at = at; offset = 0; word = w }) → header_at fixed at ≡ w
header_there [] at w stand c = absurd (let lt = c.1 in omega arith)
header_there (f ∷ fs) at w stand c = by_test (eqb f.at at && eqb f.offset 0) refl (λ d. header_there fs at w (λ g h. stand g (contains_tail f fs g h)) d)
  where
    by_test : (b : Bool) → (eqb f.at at && eqb f.offset 0) ≡ b → (Contains fs (record { at = at; offset = 0; word = w }) → header_at fs at ≡ w) →
        cond b f.word (header_at fs at) ≡ w
    by_test true e rec = let t = and_parts (eqb f.at at) (eqb f.offset 0) e in stand f (contains_head f fs) (eqb-true f.at at t.0) (eqb-true f.offset 0 t.1)
    by_test false e rec = elim (contains_cases f fs (record { at = at; offset = 0; word = w }) c) [
      | inl same ↦
          let yes : (eqb f.at at && eqb f.offset 0) ≡ true = cc (same, eq-eqb at at refl) in
          let bad : true ≡ false = sym yes ∙ e in
          absurd cc
      | inr d ↦ rec d
    ]

-- `cas` of a field that doesn't exist, or may not be written
cas_refused : (n : Node) (index : ℕ) (e v : Value) → (IsWritable (header_of n).kind → (header_of n).fields ≤ index) →
    field_exchanged n index e v ≡ (n, set_refusal (header_word (header_of n)))
cas_refused (node.Con tag values) index e v bad = let k : header_word (header_of (node.Con tag values)) % 8 ≡ 1 = omega arith in
    ap (λ (r : Reply). (node.Con tag values, r)) (sym (ap set_reply k))
cas_refused (node.Var old) index e v bad = let le : 1 ≤ index = bad tt in
    ap (λ o. exchanged_at o e (node.Var old) (node.Var v)) (slice_get_past (old ∷ []) index le)
cas_refused (node.Arr values) index e v bad = let k : header_word (header_of (node.Arr values)) % 8 ≡ 3 = omega arith in
    cc (slice_get_past values index (bad tt), k)
cas_refused (node.Thunk free result) index e v bad = let k : header_word (header_of (node.Thunk free result)) % 8 ≡ 4 = omega arith in
    ap (λ (r : Reply). (node.Thunk free result, r)) (sym (ap set_reply k))
cas_refused (node.Weak parts) index e v bad = refl
cas_refused (node.Stack size values) index e v bad = let k : header_word (header_of (node.Stack size values)) % 8 ≡ 6 = omega arith in
    ap (λ (r : Reply). (node.Stack size values, r)) (sym (ap set_reply k))

-- a node that is no thunk
no_thunk : (n : Node) (v : Value) → ((header_of n).kind ≡ kind.Thunk → ⊥) → (thunk_updated n v ≡ (n, WrongKind)) × (free_held n ≡ [])
no_thunk (node.Con tag values) v bad = (refl, refl)
no_thunk (node.Var x) v bad = (refl, refl)
no_thunk (node.Arr values) v bad = (refl, refl)
no_thunk (node.Thunk free result) v bad = absurd (bad refl)
no_thunk (node.Weak parts) v bad = (refl, refl)
no_thunk (node.Stack size values) v bad = (refl, refl)

no_result : (n : Node) → ((header_of n).kind ≡ kind.Thunk → ⊥) → result_read n ≡ WrongKind
no_result (node.Con tag values) bad = refl
no_result (node.Var x) bad = refl
no_result (node.Arr values) bad = refl
no_result (node.Thunk free result) bad = absurd (bad refl)
no_result (node.Weak parts) bad = refl
no_result (node.Stack size values) bad = refl

-- a node that is no weak pointer
no_weak : (name : Name) (n : Node) → ((header_of n).kind ≡ kind.Weak → ⊥) → (value_read n ≡ WrongKind) × (value_held (Some n) ≡ []) ×
    (weak_finalised n ≡ (n, WrongKind)) × (weak_held name n ≡ [])
no_weak name (node.Con tag values) bad = (refl, refl, refl, refl)
no_weak name (node.Var x) bad = (refl, refl, refl, refl)
no_weak name (node.Arr values) bad = (refl, refl, refl, refl)
no_weak name (node.Thunk free result) bad = (refl, refl, refl, refl)
no_weak name (node.Weak parts) bad = absurd (bad refl)
no_weak name (node.Stack size values) bad = (refl, refl, refl, refl)

-- a node that is no stack
abbrev owner_reply : ℕ → Reply
owner_reply k = cond (eqb k 6) NotOwner WrongKind

top_none : (own : Bool) (n : Node) → ((header_of n).kind ≡ kind.Stack → ⊥) → top_held own n ≡ []
top_none own (node.Con tag values) bad = refl
top_none own (node.Var x) bad = refl
top_none own (node.Arr values) bad = refl
top_none own (node.Thunk free result) bad = refl
top_none own (node.Weak parts) bad = refl
top_none own (node.Stack size values) bad = absurd (bad refl)

top_off : (n : Node) → top_held false n ≡ []
top_off (node.Con tag values) = refl
top_off (node.Var x) = refl
top_off (node.Arr values) = refl
top_off (node.Thunk free result) = refl
top_off (node.Weak parts) = refl
top_off (node.Stack size values) = refl

no_stack : (own : Bool) (n : Node) (v : Value) → ((header_of n).kind ≡ kind.Stack → ⊥) →
    (stack_pushed own n v ≡ (n, owner_refusal (header_word (header_of n)))) ×
    (stack_popped own n ≡ (n, owner_refusal (header_word (header_of n)))) × (top_held own n ≡ [])
no_stack own (node.Con tag values) v bad = let k : header_word (header_of (node.Con tag values)) % 8 ≡ 1 = omega arith in
    let r = ap (λ (r : Reply). (node.Con tag values, r)) (sym (ap owner_reply k)) in (r, r, top_none own (node.Con tag values) bad)
no_stack own (node.Var x) v bad = (refl, refl, top_none own (node.Var x) bad)
no_stack own (node.Arr values) v bad = let k : header_word (header_of (node.Arr values)) % 8 ≡ 3 = omega arith in
    let r = ap (λ (r : Reply). (node.Arr values, r)) (sym (ap owner_reply k)) in (r, r, top_none own (node.Arr values) bad)
no_stack own (node.Thunk free result) v bad = let k : header_word (header_of (node.Thunk free result)) % 8 ≡ 4 = omega arith in
    let r = ap (λ (r : Reply). (node.Thunk free result, r)) (sym (ap owner_reply k)) in (r, r, top_none own (node.Thunk free result) bad)
no_stack own (node.Weak parts) v bad = (refl, refl, top_none own (node.Weak parts) bad)
no_stack own (node.Stack size values) v bad = absurd (bad refl)

-- a stack of another mutator
foreign_stack : (n : Node) (v : Value) → (header_of n).kind ≡ kind.Stack →
    (stack_pushed false n v ≡ (n, owner_refusal (header_word (header_of n)))) × (stack_popped false n ≡ (n, owner_refusal (header_word (header_of n))))
foreign_stack (node.Con tag values) v e = absurd cc
foreign_stack (node.Var x) v e = absurd cc
foreign_stack (node.Arr values) v e = absurd cc
foreign_stack (node.Thunk free result) v e = absurd cc
foreign_stack (node.Weak parts) v e = absurd cc
foreign_stack (node.Stack size values) v e = let k : header_word (header_of (node.Stack size values)) % 8 ≡ 6 = omega arith in
    let r = ap (λ (r : Reply). (node.Stack size values, r)) (sym (ap owner_reply k)) in (r, r)

-- a name's word determines its maker
pub one_maker : (a b : Name) → IsName a → IsName b → name_word a ≡ name_word b → a.maker ≡ b.maker
one_maker a b x y e = let l = x.0 in let k = y.0 in omega arith

left_push : (h : Hand) (object x : Operand) (b : Bool) → leaves h (Push object x) (plain (cond b NotOwner WrongKind)) ≡ h
left_push h object x true = refl
left_push h object x false = refl

keeping_owner : (w : World) (m dest : ℕ) (b : Bool) → keeping w m dest (cond b NotOwner WrongKind) ≡ w
keeping_owner w m dest true = refl
keeping_owner w m dest false = refl

keeping_refused : (w : World) (m dest : ℕ) (b : Bool) → keeping w m dest (cond b NoField WrongKind) ≡ w
keeping_refused w m dest true = refl
keeping_refused w m dest false = refl

-- values that are the same nil, number or reference
known_same : (x y : Value) → is_same x y ≡ true → x ≡ y
known_same value.Nil value.Nil e = refl
known_same value.Nil (value.Number n) e = absurd cc
known_same value.Nil (value.Ref name) e = absurd cc
known_same (value.Number m) value.Nil e = absurd cc
known_same (value.Number m) (value.Number n) e = ap (λ k. value.Number k) (eqb-true m n e)
known_same (value.Number m) (value.Ref name) e = absurd cc
known_same (value.Ref name) value.Nil e = absurd cc
known_same (value.Ref name) (value.Number n) e = absurd cc
known_same (value.Ref name) (value.Ref other) e = ap (λ k. value.Ref k) (tested_same name other e)

same_self : (x : Value) → is_same x x ≡ true
same_self value.Nil = refl
same_self (value.Number n) = eq-eqb n n refl
same_self (value.Ref name) = is_same_name-refl name

module _ (o : Opening) (words : List ℕ) (views : List Seen) (h : Keeps o words views) (id : ℕ) (v : Seen) (here : get_elem? views id ≡
    some v) (p : Part) (is : IsMutator v p) where
  abbrev W : World
  W = (now o h.events).world

  abbrev P : Place → Type 0
  P = IsIn o h.born

  rests : Rests o h.born words p
  rests = ((h.agrees id v here).parts 0 p (ap (λ l. get_elem? l 0) is.alone)).2

  fits : Fits o h.born (now o h.events) (done_by p.number h.events) p
  fits = ((h.agrees id v here).parts 0 p (ap (λ l. get_elem? l 0) is.alone)).1

  -- the answer is this one
  pub known_is : (c : Command) (a : Answer) → known_answer (hand_now o p) p.fixed c ≡ a → answered v c a ≡ known v c
  known_is c a e =
      let same : v.opening ≡ o = (h.agrees id v here).opening (acts v p is) in
      let V : List Part → Seen = λ l. record v { parts = l } in
      let f : Part → Part = λ q. doing q c a [] in
      let g : Part → Part = λ q. doing q c (known_answer (hand_now v.opening q) q.fixed c) [] in
      let here' : known_answer (hand_now v.opening p) p.fixed c ≡ a = cc (same, e) in
      cc (is.alone, here')

  pub place_in_order : (c : Command) (r : Reply) (a : Answer) (u : World) → known_answer (hand_now o p) p.fixed c ≡ a → CanGive o p c →
      step W p.number c ≡ (u, r) → ((n : Name) → node_of u n ≡ node_of W n) → owed_by W p.number c ≡ []
      → Answers P a r → IsHand o h.born u p.number (leaves (hand_now o p) c a) → (leaves (hand_now o p) c a).stacks ≡ (hand_now o p).stacks →
      AddsCommand o words views h p.number c words (set views id (known v c))
  place_in_order c r a u e gives does same owes says hand left = rw (known_is c a e) at (still_law o words views h id v here p is c r a u gives does same owes says hand left)

  -- a command whose position is there, and which leaves the world
  pub answer_same : (c : Command) (r : Reply) (a : Answer) → known_answer (hand_now o p) p.fixed c ≡ a → CanGive o p c → step W p.number c ≡ (W, r) →
      owed_by W p.number c ≡ [] → Answers P a r → leaves (hand_now o p) c a ≡ hand_now o p →
      AddsCommand o words views h p.number c words (set views id (known v c))
  answer_same c r a e gives does owes says left = place_in_order c r a W e gives does (λ n.
      refl) owes says (rw left fits.hand) (ap (λ (k : Hand). k.stacks) left)

  -- a command that puts a word into a register
  answer_register : (c : Command) (dest w : ℕ) (x : Value) → known_answer (hand_now o p) p.fixed c ≡ plain Fine → CanGive o p c →
      step W p.number c ≡ (with_register W p.number dest x, Fine) → owed_by W p.number c ≡ [] →
      leaves (hand_now o p) c (plain Fine) ≡ holding (hand_now o p) dest w → Means P w x →
      AddsCommand o words views h p.number c words (set views id (known v c))
  answer_register c dest w x e gives does owes left m =
      place_in_order c Fine (plain Fine) (with_register W p.number dest x) e gives does (nodes_kept W p.number _ fits.exists refl) owes refl
      (rw left (register_hand o words views h id v here p is dest w x m))
      (ap (λ (k : Hand). k.stacks) left)

  -- an odd word refers to no object
  pub no_object : (w : ℕ) (x : Value) → Means P w x → w % 2 ≡ 1 → (x ≡ value.Nil) ⊎ ((n : ℕ) × (x ≡ value.Number n))
  no_object w value.Nil m e = inl refl
  no_object w (value.Number n) m e = inr (n, refl)
  no_object w (value.Ref name) m e = absurd (let t = m.1 in omega arith)

  pub refused_none : (w : ℕ) (refusal : ℕ → Reply) → w % 2 ≡ 1 → refused p.fixed w refusal ≡ plain NoPointer
  refused_none w refusal e = let b : eqb (w % 2) 0 ≡ false = ne_eqb (w % 2) 0 (λ z. omega arith) in
      ap (λ (t : Bool). cond t (plain (refusal (header_at p.fixed (w / 2)))) (plain NoPointer)) b

  pub refused_there : (w at : ℕ) (header : Header) (refusal : ℕ → Reply) → w ≡ 2 * at → Names p at header →
      refused p.fixed w refusal ≡ plain (refusal (header_word header))
  refused_there w at header refusal e names =
      let b : eqb (w % 2) 0 ≡ true = eq-eqb (w % 2) 0 (omega arith) in
      let half : w / 2 ≡ at = omega arith in
      let there = rests.fixed (record { at = at; offset = 0; word = header_word header }) names.there in
      let found : header_at p.fixed at ≡ header_word header = header_there p.fixed at (header_word header) (λ f c a z. let t = rests.fixed f c in
      sym t.1 ∙ ap (λ j. slice_index words j) (λ i. a i + z i) ∙ there.1) names.there in
      cc (b, half, found)

  -- `get` of a word that refers to no object, or of a field that doesn't exist
  get_known : (dest : ℕ) (object : Operand) (index : ℕ) → CanGive o p (Get dest object index) →
      IsRefused o p object (λ header. IsReadable header.kind → header.fields ≤ index) →
      AddsCommand o words views h p.number (Get dest object index) words (set views id (known v (Get dest object index)))
  get_known dest object index gives (inl odd) =
      let c : Command = Get dest object index in
      let read : Node → Reply = λ n. field_read n index in
      let none : step W p.number c ≡ (W, NoPointer) =
      elim (no_object (operand_word o p object) (value_for W p.number object) (operand_is o words views h id v here p is object) odd) [
        | inl e ↦ ap (λ y. read_into W p.number dest (read_object (object_of W y) read)) e
        | inr e ↦ ap (λ y. read_into W p.number dest (read_object (object_of W y) read)) e.1
      ] in
      answer_same c NoPointer (plain NoPointer) (refused_none (operand_word o p object) get_refusal odd) gives none refl refl refl
  get_known dest object index gives (inr (at, header, e, names, bad)) =
      let c : Command = Get dest object index in
      let m = meant o words views h id v here p is at header object e names in
      let st = h.stands.objects m.object m.there in
      let head : header_of st.node ≡ header = st.later.header ∙ m.head in
      let r : Reply = get_refusal (header_word header) in
      let refuses : field_read st.node index ≡ r = cc (get_refused st.node index (rw head bad), head) in
      let read : Node → Reply = λ n. field_read n index in
      let does : step W p.number c ≡ (W, r) = cc (m.refers, st.there, refuses, keeping_refused W p.number dest (leb (header_word header % 8) 3)) in
      answer_same c r (plain r) (refused_there (operand_word o p object) at header get_refusal e names) gives does refl refl refl

  -- `tag` of an object: a constructor has its tag, and any other object refuses
  tag_other : (dest : ℕ) (object : Operand) (at : ℕ) (header : Header) (name : Name) (n : Node) → CanGive o p (Tag dest object) →
      operand_word o p object ≡ 2 * at → header_at p.fixed at ≡ header_word header → value_for W p.number object ≡ value.Ref name →
      node_of W name ≡ Some n → tag_read n ≡ WrongKind → (kind_number header.kind ≡ 1 → ⊥) → kind_number header.kind < 8 →
      AddsCommand o words views h p.number (Tag dest object) words (set views id (known v (Tag dest object)))
  tag_other dest object at header name n gives e found refers there wrong other few =
      let says : step W p.number (Tag dest object) ≡ (W, WrongKind) =
      step_tag W p.number dest object name n refers there ∙ ap (λ (r : Reply). change_into p.number dest (W, r)) wrong in
      answer_same (Tag dest object) WrongKind (plain WrongKind) (tag_wrong p.fixed (operand_word o p object) at header e found other few) gives says
      refl refl refl

  tag_by_node : (dest : ℕ) (object : Operand) (at : ℕ) (header : Header) (name : Name) (n : Node) → CanGive o p (Tag dest object) →
      operand_word o p object ≡ 2 * at → header_at p.fixed at ≡ header_word header → IsHeader header → value_for W p.number object ≡ value.Ref name →
      node_of W name ≡ Some n → header_of n ≡ header → AddsCommand o words views h p.number (Tag dest object) words (set views id (known v (Tag dest object)))
  tag_by_node dest object at header name (node.Con tag values) gives e found valid refers there head =
      let c : Command = Tag dest object in
      let con : header.kind ≡ kind.Con = sym (ap (λ (k : Header). k.kind) head) in
      let same : header.tag ≡ tag = sym (ap (λ (k : Header). k.tag) head) in
      let small : header.tag < 256 = subst (λ (k : Kind). HasTag k header.tag) con valid.0 in
      let shows : known_answer (hand_now o p) p.fixed c ≡ word (2 * tag + 3) =
      tag_there p.fixed (operand_word o p object) at header e found con small ∙ ap (λ t. word (2 * t + 3)) same in
      let does : step W p.number c ≡ (with_register W p.number dest (value.Number tag), Given (value.Number tag)) =
      step_tag W p.number dest object name (node.Con tag values) refers there in
      place_in_order c (Given (value.Number tag)) (word (2 * tag + 3)) (with_register W p.number dest (value.Number tag)) shows gives does
      (nodes_kept W p.number _ fits.exists refl) refl (value.Number tag, refl, refl)
      (register_hand o words views h id v here p is dest (2 * tag + 3) (value.Number tag) refl) refl
  tag_by_node dest object at header name (node.Var x) gives e found valid refers there head =
      let k : kind_number header.kind ≡ 2 = sym (ap (λ (k : Header). kind_number k.kind) head) in
      tag_other dest object at header name (node.Var x) gives e found refers there refl (λ z. omega (arith, k, z)) (omega (arith, k))
  tag_by_node dest object at header name (node.Arr values) gives e found valid refers there head =
      let k : kind_number header.kind ≡ 3 = sym (ap (λ (k : Header). kind_number k.kind) head) in
      tag_other dest object at header name (node.Arr values) gives e found refers there refl (λ z. omega (arith, k, z)) (omega (arith, k))
  tag_by_node dest object at header name (node.Thunk free result) gives e found valid refers there head =
      let k : kind_number header.kind ≡ 4 = sym (ap (λ (k : Header). kind_number k.kind) head) in
      tag_other dest object at header name (node.Thunk free result) gives e found refers there refl (λ z. omega (arith, k, z)) (omega (arith, k))
  tag_by_node dest object at header name (node.Weak parts) gives e found valid refers there head =
      let k : kind_number header.kind ≡ 5 = sym (ap (λ (k : Header). kind_number k.kind) head) in
      tag_other dest object at header name (node.Weak parts) gives e found refers there refl (λ z. omega (arith, k, z)) (omega (arith, k))
  tag_by_node dest object at header name (node.Stack size values) gives e found valid refers there head =
      let k : kind_number header.kind ≡ 6 = sym (ap (λ (k : Header). kind_number k.kind) head) in
      tag_other dest object at header name (node.Stack size values) gives e found refers there refl (λ z. omega (arith, k, z)) (omega (arith, k))

  tag_known : (dest : ℕ) (object : Operand) → CanGive o p (Tag dest object) → IsRefused o p object (λ header. Unit {0}) →
      AddsCommand o words views h p.number (Tag dest object) words (set views id (known v (Tag dest object)))
  tag_known dest object gives (inl odd) =
      let c : Command = Tag dest object in
      let none : step W p.number c ≡ (W, NoPointer) =
      elim (no_object (operand_word o p object) (value_for W p.number object) (operand_is o words views h id v here p is object) odd) [
        | inl e ↦ ap (λ y. read_into W p.number dest (read_object (object_of W y) tag_read)) e
        | inr e ↦ ap (λ y. read_into W p.number dest (read_object (object_of W y) tag_read)) e.1
      ] in
      answer_same c NoPointer (plain NoPointer) (tag_none p.fixed (operand_word o p object) odd) gives none refl refl refl
  tag_known dest object gives (inr (at, header, e, names, any)) =
      let m = meant o words views h id v here p is at header object e names in
      let st = h.stands.objects m.object m.there in
      let head : header_of st.node ≡ header = st.later.header ∙ m.head in
      let there = rests.fixed (record { at = at; offset = 0; word = header_word header }) names.there in
      let found : header_at p.fixed at ≡ header_word header = header_there p.fixed at (header_word header) (λ f c a z. let t = rests.fixed f c in
      sym t.1 ∙ ap (λ j. slice_index words j) (λ i. a i + z i) ∙ there.1) names.there in
      tag_by_node dest object at header m.object.name st.node gives e found names.valid m.refers st.there head

  -- `set` likewise
  set_known : (object : Operand) (index : ℕ) (x : Operand) → CanGive o p (Set object index x) →
      IsRefused o p object (λ header. IsWritable header.kind → header.fields ≤ index) →
      AddsCommand o words views h p.number (Set object index x) words (set views id (known v (Set object index x)))
  set_known object index x gives (inl odd) =
      let c : Command = Set object index x in
      let d : Change = change.Set index (value_for W p.number x) in
      let none : (step W p.number c ≡ (W, NoPointer)) × (owed_by W p.number c ≡ []) =
      elim (no_object (operand_word o p object) (value_for W p.number object) (operand_is o words views h id v here p is object) odd) [
        | inl e ↦ (ap (λ y. change_object W y d) e, ap (λ y. names_among (owed_of W y d)) e)
        | inr e ↦ (ap (λ y. change_object W y d) e.1, ap (λ y. names_among (owed_of W y d)) e.1)
      ] in
      answer_same c NoPointer (plain NoPointer) (refused_none (operand_word o p object) set_refusal odd) gives none.0 none.1 refl refl
  set_known object index x gives (inr (at, header, e, names, bad)) =
      let c : Command = Set object index x in
      let val : Value = value_for W p.number x in
      let d : Change = change.Set index val in
      let m = meant o words views h id v here p is at header object e names in
      let name : Name = m.object.name in
      let st = h.stands.objects m.object m.there in
      let head : header_of st.node ≡ header = st.later.header ∙ m.head in
      let r : Reply = set_refusal (header_word header) in
      let bad' = subst (λ (k : Header). IsWritable k.kind → k.fields ≤ index) (sym head) bad in
      let refuses : field_set st.node index val ≡ (st.node, r) = cc (set_refused st.node index val bad', head) in
      let changes : step W p.number c ≡ (with_node W name st.node, r) = cc (m.refers, st.there, refuses) in
      let cases = node_cases W name st.node st.node st.there in
      let same : (n : Name) → node_of (with_node W name st.node) n ≡ node_of W n = λ n. elim (cases n) [
        | inl k ↦ cc (k.1, st.there, k.0)
        | inr k ↦ k.1
      ] in
      let owes : owed_by W p.number c ≡ [] = cc (m.refers, st.there, none_owed st.node index bad') in
      place_in_order c r (plain r) (with_node W name st.node) (refused_there (operand_word o p object) at header set_refusal e names) gives changes same owes refl
      (hand_kept o words views h id v here p is (with_node W name st.node) (hand_now o p) (node_frame W name st.node st.node st.there p.number) fits.hand) refl

  pub one_place : (a b : Place) → P a → P b → (a.name ≡ b.name) ⊎ (a.at ≡ b.at) → a ≡ b
  one_place a b x y e = h.stands.one a b (placed o h.born (record {
    at = a.at;
    name = a.name;
    node = x.0;
  }) x.1) (placed o h.born (record { at = b.at; name = b.name; node = y.0 }) y.1) e

  -- a value has one word
  pub one_word : (a b : ℕ) (x : Value) → Means P a x → Means P b x → a ≡ b
  one_word a b value.Nil m n = m ∙ sym n
  one_word a b (value.Number k) m n = m ∙ sym n
  one_word a b (value.Ref name) m n =
      let e = ap (λ (q : Place). q.at) (one_place (record { at = m.0; name = name }) (record { at = n.0; name = name }) m.2 n.2 (inl refl)) in
      cc (m.1, e, n.1)

  -- and a word one value
  pub one_value : (a : ℕ) (x y : Value) → Means P a x → Means P a y → x ≡ y
  one_value a value.Nil value.Nil m n = refl
  one_value a value.Nil (value.Number k) m n = absurd (omega arith)
  one_value a value.Nil (value.Ref name) m n = absurd (let e = n.1 in omega arith)
  one_value a (value.Number j) value.Nil m n = absurd (omega arith)
  one_value a (value.Number j) (value.Number k) m n = let e : j ≡ k = omega arith in ap (λ i. value.Number i) e
  one_value a (value.Number j) (value.Ref name) m n = absurd (let e = n.1 in omega arith)
  one_value a (value.Ref name) value.Nil m n = absurd (let e = m.1 in omega arith)
  one_value a (value.Ref name) (value.Number k) m n = absurd (let e = m.1 in omega arith)
  one_value a (value.Ref name) (value.Ref other) m n =
      let e = m.1 in
      let f = n.1 in
      let at : m.0 ≡ n.0 = omega arith in
      ap (λ (q : Place). value.Ref q.name) (one_place (record { at = m.0; name = name }) (record { at = n.0; name = other }) m.2 n.2 (inr at))

  pub same_words : (a b : ℕ) (x y : Value) → Means P a x → Means P b y → is_same x y ≡ eqb a b
  same_words a b x y m n = both (is_same x y) (eqb a b)
      (λ e. eq-eqb a b (one_word a b y (rw (known_same x y e) at m) n))
      (λ e. let k = eqb-true a b e in rw (← (one_value a x y m (rw k n))) (same_self x))

  -- a change that is refused since there is no object
  change_none : (c : Command) (object : Operand) (d : Change) (refusal : ℕ → Reply) →
      ((u : World) → change_object W (value_for W p.number object) d ≡ (u, NoPointer) → step W p.number c ≡ (u, NoPointer)) →
      owed_by W p.number c ≡ names_among (owed_of W (value_for W p.number object) d) →
      known_answer (hand_now o p) p.fixed c ≡ refused p.fixed (operand_word o p object) refusal
      → leaves (hand_now o p) c (plain NoPointer) ≡ hand_now o p → CanGive o p c → operand_word o p object % 2 ≡ 1 →
      AddsCommand o words views h p.number c words (set views id (known v c))
  change_none c object d refusal does owes shows left gives odd =
      let none : (change_object W (value_for W p.number object) d ≡ (W, NoPointer)) ×
      (names_among (owed_of W (value_for W p.number object) d) ≡ []) =
      elim (no_object (operand_word o p object) (value_for W p.number object) (operand_is o words views h id v here p is object) odd) [
        | inl e ↦ (ap (λ y. change_object W y d) e, ap (λ y. names_among (owed_of W y d)) e)
        | inr e ↦ (ap (λ y. change_object W y d) e.1, ap (λ y. names_among (owed_of W y d)) e.1)
      ] in
      answer_same c NoPointer (plain NoPointer) (shows ∙ refused_none (operand_word o p object) refusal odd) gives (does W none.0) (owes ∙ none.1) refl left

  -- and at an object
  change_at : (c : Command) (object : Operand) (d : Change) (refusal : ℕ → Reply) (at : ℕ) (header : Header) →
      ((u : World) → change_object W (value_for W p.number object) d ≡ (u, refusal (header_word header)) →
      step W p.number c ≡ (u, refusal (header_word header))) → owed_by W p.number c ≡ names_among (owed_of W (value_for W p.number object) d) →
      known_answer (hand_now o p) p.fixed c ≡ refused p.fixed (operand_word o p object) refusal
      → leaves (hand_now o p) c (plain (refusal (header_word header))) ≡ hand_now o p → CanGive o p c → operand_word o p object ≡ 2 * at → Names p at header
      → ((x : Object) (hx : IsObject o h.born x) → x.at ≡ at → header_of (h.stands.objects x hx).node ≡ header →
      (changed d x.name.maker (h.stands.objects x hx).node ≡ ((h.stands.objects x hx).node, refusal (header_word header))) ×
      (owed_in d x.name (h.stands.objects x hx).node ≡ []))
      → AddsCommand o words views h p.number c words (set views id (known v c))
  change_at c object d refusal at header does owes shows left gives e names refuses =
      let m = meant o words views h id v here p is at header object e names in
      let name : Name = m.object.name in
      let st = h.stands.objects m.object m.there in
      let r : Reply = refusal (header_word header) in
      let t = refuses m.object m.there m.is_at (st.later.header ∙ m.head) in
      let u : World = with_node W name st.node in
      let changes : change_object W (value_for W p.number object) d ≡ (u, r) = rw (m.refers, st.there, t.0) in
      let cases = node_cases W name st.node st.node st.there in
      let same : (n : Name) → node_of u n ≡ node_of W n = λ n. elim (cases n) [
        | inl k ↦ cc (k.1, st.there, k.0)
        | inr k ↦ k.1
      ] in
      let none : names_among (owed_of W (value_for W p.number object) d) ≡ [] = cc (m.refers, st.there, t.1) in
      let kept = hand_kept o words views h id v here p is u (hand_now o p) (node_frame W name st.node st.node st.there p.number) fits.hand in
      place_in_order c r (plain r) u (shows ∙ refused_there (operand_word o p object) at header refusal e names) gives (does u changes) same (owes ∙
      none) refl (rw left kept) (ap (λ (k : Hand). k.stacks) left)

  -- a read that is refused
  read_none : (c : Command) (dest : ℕ) (object : Operand) (read : Node → Reply) →
      ((x : Value) → value_for W p.number object ≡ x → step W p.number c ≡ read_into W p.number dest (read_object (object_of W x) read)) →
      ((x : Value) → value_for W p.number object ≡ x → object_of W x ≡ None → owed_by W p.number c ≡ []) →
      known_answer (hand_now o p) p.fixed c ≡ refused p.fixed (operand_word o p object) (λ n. WrongKind)
      → leaves (hand_now o p) c (plain NoPointer) ≡ hand_now o p → CanGive o p c → operand_word o p object % 2 ≡ 1 →
      AddsCommand o words views h p.number c words (set views id (known v c))
  read_none c dest object read does owes shows left gives odd =
      let none : (step W p.number c ≡ (W, NoPointer)) × (owed_by W p.number c ≡ []) =
      elim (no_object (operand_word o p object) (value_for W p.number object) (operand_is o words views h id v here p is object) odd) [
        | inl e ↦ (does value.Nil e, owes value.Nil e refl)
        | inr e ↦ (does (value.Number e.0) e.1, owes (value.Number e.0) e.1 refl)
      ] in
      answer_same c NoPointer (plain NoPointer) (shows ∙ refused_none (operand_word o p object) (λ n. WrongKind) odd) gives none.0 none.1 refl left

  read_wrong : (c : Command) (dest : ℕ) (object : Operand) (read : Node → Reply) (at : ℕ) (header : Header) →
      ((x : Value) → value_for W p.number object ≡ x → step W p.number c ≡ read_into W p.number dest (read_object (object_of W x) read)) →
      known_answer (hand_now o p) p.fixed c ≡ refused p.fixed (operand_word o p object) (λ n. WrongKind)
      → leaves (hand_now o p) c (plain WrongKind) ≡ hand_now o p → CanGive o p c → operand_word o p object ≡ 2 * at → Names p at header
      → ((name : Name) (n : Node) → value_for W p.number object ≡ value.Ref name → node_of W name ≡ Some n → header_of n ≡ header →
      (read n ≡ WrongKind) × (owed_by W p.number c ≡ []))
      → AddsCommand o words views h p.number c words (set views id (known v c))
  read_wrong c dest object read at header does shows left gives e names refuses =
      let m = meant o words views h id v here p is at header object e names in
      let st = h.stands.objects m.object m.there in
      let t = refuses m.object.name st.node m.refers st.there (st.later.header ∙ m.head) in
      let says : step W p.number c ≡ (W, WrongKind) = cc (does (value.Ref m.object.name) m.refers, st.there, t.0) in
      answer_same c WrongKind (plain WrongKind) (shows ∙ refused_there (operand_word o p object) at header (λ n. WrongKind) e names) gives says t.1 refl left

  -- `cas` as `set`
  cas_known : (object : Operand) (index : ℕ) (expected x : Operand) → CanGive o p (Cas object index expected x) →
      IsRefused o p object (λ header. IsWritable header.kind → header.fields ≤ index) →
      AddsCommand o words views h p.number (Cas object index expected x) words (set views id (known v (Cas object index expected x)))
  cas_known object index expected x gives (inl odd) =
      change_none (Cas object index expected x) object (change.Exchange index (value_for W p.number expected) (value_for W p.number x)) set_refusal
      (λ u e. e) refl refl refl gives odd
  cas_known object index expected x gives (inr (at, header, e, names, bad)) =
      change_at (Cas object index expected x) object (change.Exchange index (value_for W p.number expected) (value_for W p.number x)) set_refusal at
      header (λ u e. e) refl refl refl gives e names
      (λ y hy is_at head. let n : Node = (h.stands.objects y hy).node in
      let bad' = subst (λ (k : Header). IsWritable k.kind → k.fields ≤ index) (sym head) bad in (
        cc (cas_refused n index (value_for W p.number expected) (value_for W p.number x) bad', head),
        ap (λ l. if_same (value_for W p.number expected) l) (none_owed n index bad'),
      ))

  -- `update` of an object that is no thunk
  update_known : (object x : Operand) → CanGive o p (Update object x) → IsRefused o p object (λ header. header.kind ≡ kind.Thunk → ⊥) →
      AddsCommand o words views h p.number (Update object x) words (set views id (known v (Update object x)))
  update_known object x gives (inl odd) = change_none (Update object x) object (change.Update (value_for W p.number x)) (λ n. WrongKind) (λ u e.
      e) refl refl refl gives odd
  update_known object x gives (inr (at, header, e, names, bad)) =
      change_at (Update object x) object (change.Update (value_for W p.number x)) (λ n. WrongKind) at header (λ u e. e) refl refl refl gives e names
      (λ y hy is_at head. no_thunk (h.stands.objects y hy).node (value_for W p.number x) (λ k. bad (cc (head, k))))

  -- `force` of an object that is no thunk, and `deref` of an object that is no weak pointer
  force_known : (dest : ℕ) (object : Operand) → CanGive o p (Force dest object) → IsRefused o p object (λ header. header.kind ≡ kind.Thunk → ⊥) →
      AddsCommand o words views h p.number (Force dest object) words (set views id (known v (Force dest object)))
  force_known dest object gives (inl odd) = read_none (Force dest object) dest object result_read (λ x e.
      ap (λ y. read_into W p.number dest (read_object (object_of W y) result_read)) e) (λ x e k. refl) refl refl gives odd
  force_known dest object gives (inr (at, header, e, names, bad)) =
      read_wrong (Force dest object) dest object result_read at header (λ x e.
      ap (λ y. read_into W p.number dest (read_object (object_of W y) result_read)) e) refl refl gives e names
      (λ name n refers there head. (no_result n (λ k. bad (cc (head, k))), refl))

  deref_known : (dest : ℕ) (object : Operand) → CanGive o p (Deref dest object) → IsRefused o p object (λ header. header.kind ≡ kind.Weak → ⊥) →
      AddsCommand o words views h p.number (Deref dest object) words (set views id (known v (Deref dest object)))
  deref_known dest object gives (inl odd) = read_none (Deref dest object) dest object value_read (λ x e.
      ap (λ y. read_into W p.number dest (read_object (object_of W y) value_read)) e) (λ x e k.
      ap (λ y. names_among (value_held (object_of W y))) e ∙ ap (λ y. names_among (value_held y)) k) refl refl gives odd
  deref_known dest object gives (inr (at, header, e, names, bad)) =
      read_wrong (Deref dest object) dest object value_read at header (λ x e.
      ap (λ y. read_into W p.number dest (read_object (object_of W y) value_read)) e) refl refl gives e names
      (λ name n refers there head. let t = no_weak name n (λ k. bad (cc (head, k))) in
      (t.0, cc (refers, there, t.1)))

  -- `finalise` likewise
  finalise_known : (dest : ℕ) (object : Operand) → CanGive o p (Finalise dest object) →
      IsRefused o p object (λ header. header.kind ≡ kind.Weak → ⊥) →
      AddsCommand o words views h p.number (Finalise dest object) words (set views id (known v (Finalise dest object)))
  finalise_known dest object gives (inl odd) = change_none (Finalise dest object) object change.Finalise (λ n. WrongKind) (λ u e.
      ap (λ r. change_into p.number dest r) e) refl refl refl gives odd
  finalise_known dest object gives (inr (at, header, e, names, bad)) =
      change_at (Finalise dest object) object change.Finalise (λ n. WrongKind) at header (λ u e.
      ap (λ r. change_into p.number dest r) e) refl refl refl gives e names
      (λ y hy is_at head. let t = no_weak y.name (h.stands.objects y hy).node (λ k. bad (cc (head, k))) in (t.2, t.3))

  -- the maker in the name of another's object
  foreign_maker : (at : ℕ) (x : Object) (hx : IsObject o h.born x) (name : Name) → x.at ≡ at → IsName name →
      Contains p.fixed (record { at = at; offset = 1; word = name_word name }) → x.name.maker ≡ name.maker
  foreign_maker at x hx name is_at valid named =
      let there = h.stands.named (place_of x) (placed o h.born x hx) in
      let known_ = rests.fixed (record { at = at; offset = 1; word = name_word name }) named in
      one_maker x.name name there.valid valid (cc (there.name, is_at, known_.1))

  push_known : (object x : Operand) → CanGive o p (Push object x) → IsRefused o p object (λ header. header.kind ≡ kind.Stack → ⊥) ⊎
      IsForeign o p object → AddsCommand o words views h p.number (Push object x) words (set views id (known v (Push object x)))
  push_known object x gives (inl (inl odd)) =
      change_none (Push object x) object (change.Push p.number (value_for W p.number x)) owner_refusal (λ u e. e) refl refl refl gives odd
  push_known object x gives (inl (inr (at, header, e, names, bad))) =
      change_at (Push object x) object (change.Push p.number (value_for W p.number x)) owner_refusal at header (λ u e.
      e) refl refl (left_push (hand_now o p) object x (eqb (header_word header % 8) 6)) gives e names
      (λ y hy is_at head. let n : Node = (h.stands.objects y hy).node in
      let t = no_stack (eqb y.name.maker p.number) n (value_for W p.number x) (λ k. bad (cc (head, k))) in
      (cc (t.0, head), refl))
  push_known object x gives (inr f) =
      change_at (Push object x) object (change.Push p.number (value_for W p.number x)) owner_refusal f.at f.header (λ u e.
      e) refl refl (left_push (hand_now o p) object x (eqb (header_word f.header % 8) 6)) gives f.object_word f.names
      (λ y hy is_at head. let n : Node = (h.stands.objects y hy).node in
      let t = foreign_stack n (value_for W p.number x) (cc (head, f.is_stack)) in
      let off : eqb y.name.maker p.number ≡ false = ne_eqb y.name.maker p.number (λ k.
      f.other (sym (foreign_maker f.at y hy f.name is_at f.valid f.named) ∙ k)) in
      (cc (off, t.0, head), refl))

  pop_known : (dest : ℕ) (object : Operand) → CanGive o p (Pop dest object) → IsRefused o p object (λ header. header.kind ≡ kind.Stack → ⊥) ⊎
      IsForeign o p object → AddsCommand o words views h p.number (Pop dest object) words (set views id (known v (Pop dest object)))
  pop_known dest object gives (inl (inl odd)) = change_none (Pop dest object) object (change.Pop p.number) owner_refusal (λ u e.
      ap (λ r. change_into p.number dest r) e) refl refl refl gives odd
  pop_known dest object gives (inl (inr (at, header, e, names, bad))) =
      change_at (Pop dest object) object (change.Pop p.number) owner_refusal at header (λ u e. ap (λ r. change_into p.number dest r) e ∙
      ap (λ w. (w, owner_refusal (header_word header))) (keeping_owner u p.number dest (eqb (header_word header % 8) 6))) refl refl refl gives e names
      (λ y hy is_at head. let n : Node = (h.stands.objects y hy).node in
      let t = no_stack (eqb y.name.maker p.number) n value.Nil (λ k. bad (cc (head, k))) in
      (cc (t.1, head), t.2))
  pop_known dest object gives (inr f) = change_at (Pop dest object) object (change.Pop p.number) owner_refusal f.at f.header (λ u e.
      ap (λ r. change_into p.number dest r) e ∙
      ap (λ w. (w, owner_refusal (header_word f.header))) (keeping_owner u p.number dest (eqb (header_word f.header % 8) 6))) refl refl refl gives
      f.object_word f.names
      (λ y hy is_at head. let n : Node = (h.stands.objects y hy).node in
      let t = foreign_stack n value.Nil (cc (head, f.is_stack)) in
      let off : eqb y.name.maker p.number ≡ false = ne_eqb y.name.maker p.number (λ k.
      f.other (sym (foreign_maker f.at y hy f.name is_at f.valid f.named) ∙ k)) in
      (cc (off, t.1, head), ap (λ b. top_held b n) off ∙ top_off n))

  -- `nextfin`: the first word of the queue moves into a register
  finaliser_known : (dest : ℕ) → CanGive o p (NextFin dest) → (ws : List ℕ) → (hand_now o p).queue ≡ ws → (vs : List Value) →
      (state_of W p.number).queue ≡ vs → ListMeans P ws vs → AddsCommand o words views h p.number (NextFin dest) words (set views id (known v (NextFin dest)))
  finaliser_known dest gives [] e [] f m =
      let s : MutatorState = state_of W p.number in
      let F : List Value → MutatorState = λ l. holding_given (record s { queue = drop 1 l }) dest (slice_get l 0) in
      let q : MutatorState = F s.queue in
      let u : World = with_state W p.number q in
      let st : state_of u p.number ≡ F [] = state_same W p.number q fits.exists ∙ ap F f in
      let nodes : (n : Name) → node_of u n ≡ node_of W n = nodes_kept W p.number q fits.exists (ap (λ l. (F l).nodes) f) in
      let k = fits.hand in
      place_in_order (NextFin dest) Nothing (plain Nothing) u (ap (λ l. first_answer l) e) gives (ap (λ l. (u, given_or Nothing (slice_get l 0))) f) nodes refl refl
      (record { registers = rw st k.registers; queue = rw e (rw st tt); serial = cc (k.serial, st) })
      refl
  finaliser_known dest gives [] e (x ∷ vs) f m = absurd m
  finaliser_known dest gives (w ∷ ws) e [] f m = absurd m
  finaliser_known dest gives (w ∷ ws) e (x ∷ vs) f m =
      let s : MutatorState = state_of W p.number in
      let F : List Value → MutatorState = λ l. holding_given (record s { queue = drop 1 l }) dest (slice_get l 0) in
      let q : MutatorState = F s.queue in
      let u : World = with_state W p.number q in
      let st : state_of u p.number ≡ F (x ∷ vs) = state_same W p.number q fits.exists ∙ ap F f in
      let nodes : (n : Name) → node_of u n ≡ node_of W n = nodes_kept W p.number q fits.exists (ap (λ l. (F l).nodes) f) in
      let k = fits.hand in
      place_in_order (NextFin dest) (Given x) (word w) u (ap (λ l. first_answer l) e) gives (ap (λ l. (u, given_or Nothing (slice_get l 0))) f) nodes refl (x, refl, m.0)
      (record {
        registers = rw st (list_set P (hand_now o p).registers s.registers dest w x k.registers m.0);
        queue = rw e (rw st m.1);
        serial = cc (k.serial, st);
      })
      refl

  -- every command whose position is there
  pub known_keeps : (c : Command) → CanAnswer o p c → AddsCommand o words views h p.number c words (set views id (known v c))
  known_keeps (Num dest n) can = answer_register (Num dest n) dest (2 * n + 3) (value.Number n) refl can.gives refl refl refl refl
  known_keeps (Nil dest) can = answer_register (Nil dest) dest 1 value.Nil refl can.gives refl refl refl refl
  known_keeps (Mov dest x) can =
      answer_register (Mov dest x) dest (operand_word o p x) (value_for W p.number x) refl can.gives refl refl refl (operand_is o words views h id v here p is x)
  known_keeps (Get dest object index) can = get_known dest object index can.gives can.known
  known_keeps (Tag dest object) can = tag_known dest object can.gives can.known
  known_keeps (Set object index x) can = set_known object index x can.gives can.known
  known_keeps (Show x) can =
      answer_same (Show x) (Given (value_for W p.number x)) (word (operand_word o p x)) refl can.gives refl refl (
        value_for W p.number x,
        refl,
        operand_is o words views h id v here p is x,
      ) refl
  known_keeps (Same left right) can =
      let e = same_words (operand_word o p left) (operand_word o p right) (value_for W p.number left) (value_for W p.number right)
      (operand_is o words views h id v here p is left) (operand_is o words views h id v here p is right) in
      let r : Reply = cond (eqb (operand_word o p left) (operand_word o p right)) Yes No in
      answer_same (Same left right) r (plain r) refl can.gives (ap (λ (b : Bool). (W, cond b Yes No)) e) refl refl refl
  known_keeps Yield can = answer_same Yield Fine (plain Fine) refl can.gives refl refl refl refl
  known_keeps Collect can = answer_same Collect Fine (plain Fine) refl can.gives refl refl refl refl
  known_keeps Full can = answer_same Full Fine (plain Fine) refl can.gives refl refl refl refl
  known_keeps (Con dest tag fields) can = absurd can.known
  known_keeps (Var dest x) can = absurd can.known
  known_keeps (Arr dest count x) can = absurd can.known
  known_keeps (Rec dest fields) can = absurd can.known
  known_keeps (Thunk dest free) can = absurd can.known
  known_keeps (Weak dest key x finaliser) can = absurd can.known
  known_keeps (Stack dest size) can = absurd can.known
  known_keeps (Cas object index expected x) can = cas_known object index expected x can.gives can.known
  known_keeps (Update object x) can = update_known object x can.gives can.known
  known_keeps (Force dest object) can = force_known dest object can.gives can.known
  known_keeps (Push object x) can = push_known object x can.gives can.known
  known_keeps (Pop dest object) can = pop_known dest object can.gives can.known
  known_keeps (Deref dest object) can = deref_known dest object can.gives can.known
  known_keeps (Finalise dest object) can = finalise_known dest object can.gives can.known
  known_keeps (NextFin dest) can = finaliser_known dest can.gives (hand_now o p).queue refl (state_of W p.number).queue refl fits.hand.queue
