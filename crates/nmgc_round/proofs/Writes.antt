-- Steps that change one field of one node, or no node, with any words owed.
use Rattle.nmgc_round.proofs.Vocabulary.{◌≡◌, inl, inr, ℕ, ◌+◌, ◌<◌, Bool, true, List, [], ◌∷◌, ◌++◌, set, refl, sym, ap, subst, ◌∙◌, Some, arith, slice_index, some, get_elem?, Name, Value, Node, Stack, Command, Reply, Get, Set, Fine, Given, MutatorState, World, node_of, state_of, IsSized, with_node, step, value_for, with_register, world_holding, owed_by, names_among, name_cases, HEADER_WORDS, State, names_of, node_cases, nodes_kept, header_of, slots_of, MayChange, Place, Means, HasSlots, Answer, Hand, Opening, Part, Seen, hand_now, leaves, doing, plain, word, finding, owed_word, answered, swapped, done_by, OwnSlots, Object, IsLater, IsObject, IsIn, RepresentsInRound, now, Answers, Owes, IsHand, Fits, Rests, Keeps, AddsCommand, IsMutator, CanGive, CanSwap, CanLoad, IsWritable, IsReadable}
use Rattle.nmgc_round.proofs.{Standing.same_node, Standing.stands_field, Standing.stands_nodes, Nurseries.rests_field, Keeping.command_law, Moves.may_change, Moves.meant, Moves.operand_is, Moves.inside, Moves.same_opening, Moves.owes_nothing, Moves.finds_same, Moves.owes_old, Moves.register_hand, Moves.hand_kept, Moves.possible, Commands.step_set, Commands.owes_set, Commands.step_get, Commands.written, Commands.read, Frames.node_frame, Owners.stack_of, Owners.own_kept}

module _ (o : Opening) (words : List ℕ) (views : List Seen) (h : Keeps o words views) (id : ℕ) (v : Seen) (here : get_elem? views id ≡
    some v) (p : Part) (is : IsMutator v p) where
  abbrev S : State
  S = now o h.events

  abbrev W : World
  W = S.world

  abbrev P : Place → Type 0
  P = IsIn o h.born

  fits : Fits o h.born S (done_by p.number h.events) p
  fits = ((h.agrees id v here).parts 0 p (ap (λ l. get_elem? l 0) is.alone)).1

  rests : Rests o h.born words p
  rests = ((h.agrees id v here).parts 0 p (ap (λ l. get_elem? l 0) is.alone)).2

  -- a node that is another in this world, and the effect of a step on it
  pub record Changes (x : Object) (hx : IsObject o h.born x) (i new : ℕ) (made : Node) (u : World) : Type 0 where
    pub within : i < (header_of x.node).fields
    pub may : MayChange (header_of x.node).kind i
    pub later : IsLater (h.stands.objects x hx).node made
    pub sized : IsSized made
    pub mine : node_of u x.name ≡ Some made
    pub others : (n : Name) → (n ≡ x.name → ⊥) → node_of u n ≡ node_of W n
    pub fields : HasSlots P (set words (x.at + HEADER_WORDS + i) new) (x.at + HEADER_WORDS) (slots_of made)
    pub stacks : (size : ℕ) (values : List Value) → (h.stands.objects x hx).node ≡ Stack size values → x.name.maker ≡ p.number

  -- a command that changes one field of one node
  pub field_law : (x : Object) (hx : IsObject o h.born x) (i new : ℕ) (made : Node) (c : Command) (r : Reply) (a : Answer) (u : World) (found owed : List ℕ)
      → Changes x hx i new made u → CanGive o p c → step W p.number c ≡ (u, r) → Answers P a r → IsHand o h.born u p.number (leaves (hand_now o p) c a)
      → Owes o.marking P (p.owed ++ owed) (names_of S.owed p.number ++ owed_by W p.number c)
      → Owes true P found (names_of S.owed p.number ++ owed_by W p.number c)
      → OwnSlots o h.born u p.number (leaves (hand_now o p) c a)
      → AddsCommand o words views h p.number c (set words (x.at + HEADER_WORDS + i) new) (set views id (record v {
        parts =
            doing (record p { found = found }) c a owed ∷ [];
      }))
  field_law x hx i new made c r a u found owed ch gives does says hand owes finds own =
      let st = h.stands.objects x hx in
      let us : List ℕ = set words (x.at + HEADER_WORDS + i) new in
      let stands : RepresentsInRound o h.born u us =
      stands_field o h.born W words h.stands u x hx i new made ch.within ch.may ch.later ch.sized ch.mine ch.others ch.fields in
      let rest : (q : Part) → Rests o h.born words q → Rests o h.born us q = λ q r.
      rests_field o h.is h.born W words h.stands h.new x hx i new ch.within ch.may q r in
      let mine_rests = rest p rests in
      command_law o words views h id v here us h.born p p.used p.unborn p.fixed found c r a owed is (λ y hy. hy) h.new
      (possible o words views h id v here p is c r gives (ap (λ (r : World × Reply). r.1) does))
      says
      (rw does hand)
      owes
      finds
      (λ n size values ne e. rw does (elim (name_cases n x.name) [
        | inl s ↦ absurd (let same : Some st.node ≡ Some (Stack size values) = cc (st.there, s, e) in
            let is : st.node ≡ Stack size values = cc in ne (cc (s, ch.stacks size values is)))
        | inr s ↦ ch.others n s ∙ e
      ]))
      (λ n node e. let e' : node_of u n ≡ Some node = rw does at e in elim (name_cases n x.name) [
        | inl s ↦ let is : Some made ≡ Some node = cc (ch.mine, s, e') in let same : made ≡ node = cc in
            inl (st.node, cc (s, st.there), rw same at ch.later)
        | inr s ↦ inl (node, sym (ch.others n s) ∙ e', same_node node)
      ])
      (rw does stands)
      (record { exists = mine_rests.exists; room = mine_rests.room; below = mine_rests.below; unborn = mine_rests.unborn; fixed = mine_rests.fixed })
      (λ q ne r. rest q r)
      (λ y c. inl c)
      (rw does own)

  -- a command that changes no node, and owes some words
  pub owing_law : (c : Command) (r : Reply) (a : Answer) (u : World) (found owed : List ℕ) → CanGive o p c → step W p.number c ≡ (u, r) →
      ((n : Name) → node_of u n ≡ node_of W n)
      → Answers P a r → IsHand o h.born u p.number (leaves (hand_now o p) c a)
      → Owes o.marking P (p.owed ++ owed) (names_of S.owed p.number ++ owed_by W p.number c)
      → Owes true P found (names_of S.owed p.number ++ owed_by W p.number c)
      → (leaves (hand_now o p) c a).stacks ≡ (hand_now o p).stacks
      → AddsCommand o words views h p.number c words (set views id (record v { parts = doing (record p { found = found }) c a owed ∷ [] }))
  owing_law c r a u found owed gives does same says hand owes finds left =
      command_law o words views h id v here words h.born p p.used p.unborn p.fixed found c r a owed is (λ y hy. hy) h.new
      (possible o words views h id v here p is c r gives (ap (λ (x : World × Reply). x.1) does))
      says
      (rw does hand)
      owes
      finds
      (λ n size values ne e. rw does (same n ∙ e))
      (λ n node e. inl (node, sym (same n) ∙ rw does at e, same_node node))
      (rw does (stands_nodes o h.born W u words same h.stands))
      (record { exists = rests.exists; room = rests.room; below = rests.below; unborn = rests.unborn; fixed = rests.fixed })
      (λ q ne r. r)
      (λ y c. inl c)
      (rw does (own_kept o h.born W u p.number (hand_now o p) (leaves (hand_now o p) c a) left (λ n size values e. sym (same n) ∙ e) fits.own))

  -- the world with another node of one name
  pub node_now : (x : Object) (hx : IsObject o h.born x) (made : Node) → (node_of (with_node W x.name made) x.name ≡ Some made) ×
      ((n : Name) → (n ≡ x.name → ⊥) → node_of (with_node W x.name made) n ≡ node_of W n)
  node_now x hx made =
      let st = h.stands.objects x hx in
      let cases = node_cases W x.name st.node made st.there in
      (elim (cases x.name) [ inl s ↦ s.1 | inr s ↦ absurd (s.0 refl) ], λ n ne. elim (cases n) [ inl s ↦ absurd (ne s.0) | inr s ↦ s.1 ])

  -- a node that is written again as it was
  pub node_again : (x : Object) (hx : IsObject o h.born x) → (n : Name) → node_of (with_node W x.name (h.stands.objects x hx).node) n ≡ node_of W n
  node_again x hx n =
      let st = h.stands.objects x hx in
      elim (node_cases W x.name st.node st.node st.there n) [ inl k ↦ cc (k.1, st.there, k.0) | inr k ↦ k.1 ]

  -- the own stacks, when one node changed that is no stack
  pub own_same : (x : Object) (hx : IsObject o h.born x) (i new : ℕ) (made : Node) (u : World) (k : Hand) → Changes x hx i new made u →
      ((size : ℕ) (values : List Value) → (h.stands.objects x hx).node ≡ Stack size values → ⊥) → k.stacks ≡ (hand_now o p).stacks →
      OwnSlots o h.born u p.number k
  own_same x hx i new made u k ch none left = own_kept o h.born W u p.number (hand_now o p) k left (λ n size values e. elim (name_cases n x.name) [
    | inl s ↦ absurd (let both : Some made ≡ Some (Stack size values) = cc (ch.mine, s, e) in
        let is : made ≡ Stack size values = cc in
        let was = stack_of (h.stands.objects x hx).node size values (sym ch.later.header ∙ ap header_of is) in none size was.0 was.1)
    | inr s ↦ sym (ch.others n s) ∙ e
  ]) fits.own

  -- a command that changes no node, and no word changes
  pub still_law : (c : Command) (r : Reply) (a : Answer) (u : World) → CanGive o p c → step W p.number c ≡ (u, r) →
      ((n : Name) → node_of u n ≡ node_of W n) → owed_by W p.number c ≡ []
      → Answers P a r → IsHand o h.born u p.number (leaves (hand_now o p) c a) → (leaves (hand_now o p) c a).stacks ≡ (hand_now o p).stacks →
      AddsCommand o words views h p.number c words (set views id (answered v c a))
  still_law c r a u gives does same owes says hand left = rw is.alone (owing_law c r a u p.found [] gives does same says hand
      (rw owes (owes_nothing o words views h id v here p is o.marking p.owed (names_of S.owed p.number) fits.owed))
      (rw owes (finds_same o words views h id v here p is p.found (names_of S.owed p.number) fits.found)) left)

  -- `get` of a field with its load
  pub load_keeps : (at index : ℕ) (c : Command) → CanLoad o p at index c →
      AddsCommand o words views h p.number c words (set views id (answered v c (word (slice_index words (at + HEADER_WORDS + index)))))
  load_keeps at index c can =
      let m = meant o words views h id v here p is at can.header can.object can.object_word can.names in
      let st = h.stands.objects m.object m.there in
      let head : header_of st.node ≡ can.header = st.later.header ∙ m.head in
      let fields = rw m.is_at at st.fields in
      let may : IsReadable (header_of st.node).kind = rw head can.kind in
      let within : index < (header_of st.node).fields = rw head can.within in
      let t = read P words (at + HEADER_WORDS) index st.node may within fields in
      let w : ℕ = slice_index words (at + HEADER_WORDS + index) in
      let d : Command = Get can.dest can.object index in
      let q : MutatorState = world_holding (state_of W p.number) can.dest t.value in
      rw can.command (still_law d (Given t.value) (word w) (with_register W p.number can.dest t.value) (rw can.command at can.gives)
      (step_get W p.number can.dest can.object index m.object.name st.node t.value m.refers st.there t.reads)
      (nodes_kept W p.number q fits.exists refl)
      refl
      (t.value, refl, t.means)
      (register_hand o words views h id v here p is can.dest w t.value t.means)
      refl)

  -- `set` with its swap
  pub swap_keeps : (at index w : ℕ) (c : Command) → CanSwap o p at index w c →
      AddsCommand o words views h p.number c (set words (at + HEADER_WORDS + index) w)
      (set views id (swapped v c (slice_index words (at + HEADER_WORDS + index))))
  swap_keeps at index w c can =
      let m = meant o words views h id v here p is at can.header can.object can.object_word can.names in
      let x = m.object in
      let st = h.stands.objects x m.there in
      let old : ℕ = slice_index words (x.at + HEADER_WORDS + index) in
      let C : Command = Set can.object index can.value in
      let head : header_of st.node ≡ can.header = st.later.header ∙ m.head in
      let may : IsWritable (header_of st.node).kind = rw head can.kind in
      let within : index < (header_of st.node).fields = rw head can.within in
      let within' : index < (header_of x.node).fields = rw m.head can.within in
      let far = inside o words views h id v here p is x m.there in
      let means : Means P w (value_for W p.number can.value) = rw can.value_word at (operand_is o words views h id v here p is can.value) in
      let t = written P words (x.at + HEADER_WORDS) index w st.node (value_for W p.number can.value) may within (omega arith) st.fields means in
      let u : World = with_node W x.name t.made in
      let does : step W p.number C ≡ (u, Fine) =
      step_set W p.number can.object can.value index x.name st.node t.made m.refers st.there t.does in
      let owes : owed_by W p.number C ≡ names_among (t.old ∷ []) =
      owes_set W p.number can.object can.value index x.name st.node t.old m.refers st.there t.held in
      let now_ = node_now x m.there t.made in
      let ch : Changes x m.there index w t.made u = record {
        within = within';
        may = rw m.head (may_change can.header.kind index can.kind);
        later = t.later;
        sized = t.sized;
        mine = now_.0;
        others = now_.1;
        fields = t.fields;
        stacks = λ size values e. absurd (t.no_stack size values e);
      } in
      let marking : v.opening.marking ≡ o.marking = ap (λ (y : Opening). y.marking) (same_opening o words views h id v here p is) in
      rw is.alone (subst (λ (b : Bool). AddsCommand o words views h p.number c (set words (at + HEADER_WORDS + index) w) (set views id (record v {
        parts = doing (finding p (slice_index words (at + HEADER_WORDS + index))) c (plain Fine) (owed_word b (slice_index words (at + HEADER_WORDS + index))) ∷ [];
      }))) (sym marking) (rw (can.command, ← m.is_at)
      (field_law x m.there index w t.made C Fine (plain Fine) u (p.found ++ old ∷ []) (owed_word o.marking old) ch (rw can.command at can.gives) does refl
      (hand_kept o words views h id v here p is u (hand_now o p) (node_frame W x.name st.node t.made st.there p.number) fits.hand)
      (rw owes (owes_old o words views h id v here p is o.marking p.owed (names_of S.owed p.number) old t.old fits.owed t.was))
      (rw owes (owes_old o words views h id v here p is true p.found (names_of S.owed p.number) old t.old fits.found t.was))
      (own_same x m.there index w t.made u (hand_now o p) ch t.no_stack refl))))
