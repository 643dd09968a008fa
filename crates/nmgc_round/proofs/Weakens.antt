-- A load and a swap of a weak pointer's value keep the rule.
use Rattle.nmgc_round.proofs.Vocabulary.{◌≡◌, ◌≢◌, ℕ, ◌+◌, ◌*◌, ◌<◌, Bool, true, cond, eq-eqb, ne_eqb, List, [], ◌∷◌, ◌++◌, length, set, refl, sym, ap, subst, ◌∙◌, arith, slice_index, Option, Some, None, get_or-set_same, some, get_elem?, Name, Value, Node, Parts, Con, Var, Arr, Thunk, Weak, Stack, MutatorState, Operand, Command, Deref, Finalise, Reply, World, state_of, node_of, value_read, weak_finalised, value_for, with_node, with_register, with_state, world_holding, keeping, step, weak_held, value_held, names_among, owed_by, Header, HEADER_WORDS, State, names_of, as_many, state_same, nodes_kept, header_of, slots_of, Place, Means, HasSlots, ListMeans, fields_of_slots, slots_of_fields, plain, word, Answer, Opening, Hand, Part, Seen, hand_now, holding, doing, finding, first_changed, answered, owed_word, done_by, Object, IsObject, IsIn, now, IsHand, Fits, Keeps, AddsCommand, IsMutator, Names, operand_word, IsSafe, owed_words, finding_all, CanDeref, CanFinalise, finaliser_named, derefed, finalised, weak_read, weak_taken, set_again}
use Rattle.nmgc_world_spec.specs.declared.value.Value.TheVariants as value
use Rattle.nmgc_world_spec.specs.declared.node.Kind.TheVariants as kind
use Rattle.nmgc_world_spec.specs.declared.change.Change.TheVariants as change
use Rattle.nmgc_world_spec.specs.declared.command.Reply.TheVariants as reply
use Rattle.nmgc_round.proofs.{Lists.list_set, Frames.node_frame, Scans.means_some, Fixes.safe_word, Moves.meant, Moves.inside, Moves.same_opening, Moves.owes_old, Moves.register_hand, Moves.hand_kept, Writes.Changes, Writes.field_law, Writes.owing_law, Writes.own_same, Writes.node_now, Writes.node_again, Writes.still_law, Owings.above, Owings.named_word, Owings.owes_list}

-- a node of a weak pointer's kind is a weak pointer
weak_of : (n : Node) → (header_of n).kind ≡ kind.Weak → (parts : Option Parts) × (n ≡ Weak parts)
weak_of (Con tag values) e = absurd cc
weak_of (Var x) e = absurd cc
weak_of (Arr values) e = absurd cc
weak_of (Thunk free result) e = absurd cc
weak_of (Weak parts) e = (parts, refl)
weak_of (Stack size values) e = absurd cc

-- `deref` of a weak pointer, and the words that it owes
step_deref : (w : World) (m dest : ℕ) (object : Operand) (name : Name) (parts : Option Parts) → value_for w m object ≡ value.Ref name →
    node_of w name ≡ Some (Weak parts) → step w m (Deref dest object) ≡ (keeping w m dest (value_read (Weak parts)), value_read (Weak parts))
step_deref w m dest object name parts is there =
    cc (is, there)

owes_deref : (w : World) (m dest : ℕ) (object : Operand) (name : Name) (parts : Option Parts) → value_for w m object ≡ value.Ref name →
    node_of w name ≡ Some (Weak parts) → owed_by w m (Deref dest object) ≡ names_among (value_held (Some (Weak parts)))
owes_deref w m dest object name parts is there = cc (is, there)

-- `finalise` of a weak pointer, and the words that it owes
step_finalise : (w : World) (m dest : ℕ) (object : Operand) (name : Name) (found made : Node) (r : Reply) → value_for w m object ≡ value.Ref name →
    node_of w name ≡ Some found → weak_finalised found ≡ (made, r) → step w m (Finalise dest object) ≡ (keeping (with_node w name made) m dest r, r)
step_finalise w m dest object name found made r is there does =
    rw (is, there, does)

owes_finalise : (w : World) (m dest : ℕ) (object : Operand) (name : Name) (found : Node) → value_for w m object ≡ value.Ref name →
    node_of w name ≡ Some found → owed_by w m (Finalise dest object) ≡ names_among (weak_held name found)
owes_finalise w m dest object name found is there = cc (is, there)

module _ (o : Opening) (words : List ℕ) (views : List Seen) (h : Keeps o words views) (id : ℕ) (v : Seen) (here : get_elem? views id ≡
    some v) (p : Part) (is : IsMutator v p) where
  abbrev S : State
  S = now o h.events

  abbrev W : World
  W = S.world

  abbrev P : Place → Type 0
  P = IsIn o h.born

  fits : Fits o h.born S (done_by p.number h.events) p
  fits = ((h.agrees id v here).parts 0 p (ap (λ l. get_elem? l 0) is.alone)).1

  -- a register takes a value in another world, and the hand its word
  pub register_in : (u : World) (hand : Hand) (dest w : ℕ) (val : Value) → p.number < length u.mutators → IsHand o h.born u p.number hand →
      Means P w val → IsHand o h.born (with_register u p.number dest val) p.number (holding hand dest w)
  register_in u hand dest w val exists k m =
      let q : MutatorState = world_holding (state_of u p.number) dest val in
      let same : state_of (with_state u p.number q) p.number ≡ q = state_same u p.number q exists in record {
        registers = rw same (list_set P hand.registers (state_of u p.number).registers dest w val k.registers m);
        queue = rw same k.queue;
        serial = k.serial ∙ sym (ap (λ (s : MutatorState). length s.nodes) same);
      }

  -- the weak pointer at an address, if its header is named
  record Found (at : ℕ) (object : Operand) (header : Header) : Type 0 where
    thing : Object
    there : IsObject o h.born thing
    is_at : thing.at ≡ at
    refers : value_for W p.number object ≡ value.Ref thing.name
    parts : Option Parts
    node_is : (h.stands.objects thing there).node ≡ Weak parts
    node_there : node_of W thing.name ≡ Some (Weak parts)
    head : header_of thing.node ≡ header_of (Weak parts)
    fields : HasSlots P words (at + HEADER_WORDS) (slots_of (Weak parts))

  found : (at : ℕ) (object : Operand) (header : Header) → operand_word o p object ≡ 2 * at → Names p at header → header.kind ≡ kind.Weak →
      Found at object header
  found at object header e names is_weak =
      let m = meant o words views h id v here p is at header object e names in
      let st = h.stands.objects m.object m.there in
      let head : header_of st.node ≡ header = st.later.header ∙ m.head in
      let t = weak_of st.node (cc (head, is_weak)) in
      record {
        thing = m.object;
        there = m.there;
        is_at = m.is_at;
        refers = m.refers;
        parts = t.0;
        node_is = t.1;
        node_there = cc (st.there, t.1);
        head = m.head ∙ sym head ∙ ap header_of t.1;
        fields = rw (← t.1) (rw m.is_at at st.fields);
      }

  -- the views with another part of this seat
  abbrev Views : Seen → (Part → Part) → List Seen
  Views w f = set views id (record w { parts = first_changed f w.parts })

  -- a step whose part is known
  one_part : (c d : Command) (new : List ℕ) (f : Opening → Command → Part → Part) (q : Part) → c ≡ d → f o d p ≡ q →
      AddsCommand o words views h p.number d new (set views id (record v { parts = q ∷ [] })) →
      AddsCommand o words views h p.number c new (Views v (f v.opening c))
  one_part c d new f q command is_part t =
      subst (λ l. AddsCommand o words views h p.number c new (set views id (record v { parts = first_changed (f v.opening c) l }))) (sym is.alone)
      (subst (λ (y : Opening). AddsCommand o words views h p.number c new (set views id (record v {
        parts = f y c p ∷
            [];
      }))) (sym (same_opening o words views h id v here p is))
      (rw command (rw is_part t)))

  -- a command that changes nothing, whose part is known
  still_part : (c : Command) (a : Answer) (new : List ℕ) → AddsCommand o words views h p.number c new (set views id (answered v c a)) →
      AddsCommand o words views h p.number c new (set views id (record v { parts = doing p c a [] ∷ [] }))
  still_part c a new t = rw is.alone at t

  deref_as : (at : ℕ) (c : Command) (can : CanDeref o p at c) (f : Found at can.object can.header) (parts : Option Parts) → f.parts ≡ parts →
      AddsCommand o words views h p.number c words (set views id (weak_read v c (slice_index words (at + HEADER_WORDS + 1))))
  deref_as at c can f None e =
      let C : Command = Deref can.dest can.object in
      let w : ℕ = slice_index words (at + HEADER_WORDS + 1) in
      let zero_ : w ≡ 0 = fields_of_slots P words (at + HEADER_WORDS) (Weak None) (rw e at f.fields) in
      let there : node_of W f.thing.name ≡ Some (Weak None) = cc (f.node_there, e) in
      one_part c C words (λ o c p. derefed o c w p) (doing p C (plain reply.Dead) []) can.command (ap (λ (b : Bool).
      cond b (doing p C (plain reply.Dead) []) (doing (finding p w) C (word w) (owed_word o.marking w))) (eq-eqb w 0 zero_))
      (still_part C (plain reply.Dead) words
      (still_law o words views h id v here p is C reply.Dead (plain reply.Dead) W (rw can.command at can.gives) (step_deref W p.number can.dest can.object f.thing.name None f.refers there) (λ n.
      refl) (owes_deref W p.number can.dest can.object f.thing.name None f.refers there) refl fits.hand refl))
  deref_as at c can f (Some parts) e =
      let C : Command = Deref can.dest can.object in
      let w : ℕ = slice_index words (at + HEADER_WORDS + 1) in
      let m : Means P w parts.value = (fields_of_slots P words (at + HEADER_WORDS) (Weak (Some parts)) (rw e at f.fields)).1 in
      let there : node_of W f.thing.name ≡ Some (Weak (Some parts)) = cc (f.node_there, e) in
      let q : MutatorState = world_holding (state_of W p.number) can.dest parts.value in
      let owes = owes_deref W p.number can.dest can.object f.thing.name (Some parts) f.refers there in
      one_part c C words (λ o c p. derefed o c w p) (doing (finding p w) C (word w) (owed_word o.marking w)) can.command (ap (λ (b : Bool).
      cond b (doing p C (plain reply.Dead) []) (doing (finding p w) C (word w) (owed_word o.marking w)))
      (ne_eqb w 0 (means_some P (above o words views h id v here p is) w parts.value m)))
      (owing_law o words views h id v here p is C (reply.Given parts.value) (word w) (with_register W p.number can.dest parts.value) (p.found ++ w ∷
      []) (owed_word o.marking w) (rw can.command at can.gives)
      (step_deref W p.number can.dest can.object f.thing.name (Some parts) f.refers there) (nodes_kept W p.number q fits.exists refl) (
        parts.value,
        refl,
        m,
      ) (register_hand o words views h id v here p is can.dest w parts.value m)
      (rw owes (owes_old o words views h id v here p is o.marking p.owed (names_of S.owed p.number) w parts.value fits.owed m))
      (rw owes (owes_old o words views h id v here p is true p.found (names_of S.owed p.number) w parts.value fits.found m))
      refl)

  pub deref_keeps : (at : ℕ) (c : Command) → CanDeref o p at c →
      AddsCommand o words views h p.number c words (set views id (weak_read v c (slice_index words (at + HEADER_WORDS + 1))))
  deref_keeps at c can = let f = found at can.object can.header can.object_word can.names can.kind in deref_as at c can f f.parts refl

  safe_as : (at : ℕ) (parts : Option Parts) → HasSlots P words (at + HEADER_WORDS) (slots_of (Weak parts)) →
      slice_index words (at + HEADER_WORDS + 1) ≢ 0 → IsSafe o (slice_index words (at + HEADER_WORDS + 1)) ×
      IsSafe o (slice_index words (at + HEADER_WORDS + 2))
  safe_as at None fields ne = absurd (ne (fields_of_slots P words (at + HEADER_WORDS) (Weak None) fields))
  safe_as at (Some parts) fields ne =
      let t = fields_of_slots P words (at + HEADER_WORDS) (Weak (Some parts)) fields in (
        safe_word o words views h id v here p is (slice_index words (at + HEADER_WORDS + 1)) parts.value t.1,
        safe_word o words views h id v here p is (slice_index words (at + HEADER_WORDS + 2)) parts.finaliser t.2,
      )

  -- a value that a load finds
  pub deref_safe : (at : ℕ) (c : Command) → CanDeref o p at c → slice_index words (at + HEADER_WORDS + 1) ≢ 0 →
      IsSafe o (slice_index words (at + HEADER_WORDS + 1))
  deref_safe at c can ne = let f = found at can.object can.header can.object_word can.names can.kind in (safe_as at f.parts f.fields ne).0

  -- the word of the finaliser is the word there
  finaliser_is : (at : ℕ) (c : Command) (can : CanFinalise o p at c) → finaliser_named at p ≡ slice_index words (at + HEADER_WORDS + 2)
  finaliser_is at c can = let k : at + (HEADER_WORDS + 2) ≡ at + HEADER_WORDS + 2 = omega arith in
      cc (named_word o words views h id v here p is at (HEADER_WORDS + 2) can.finaliser.0 can.finaliser.1, k)

  -- the finaliser of a weak pointer that a swap finds alive
  pub finalise_safe : (at : ℕ) (c : Command) → CanFinalise o p at c → slice_index words (at + HEADER_WORDS + 1) ≢ 0 → IsSafe o (finaliser_named at p)
  finalise_safe at c can ne = let f = found at can.object can.header can.object_word can.names can.kind in
      rw (finaliser_is at c can) (safe_as at f.parts f.fields ne).1

  finalise_as : (at : ℕ) (c : Command) (can : CanFinalise o p at c) (f : Found at can.object can.header) (parts : Option Parts) → f.parts ≡ parts →
      AddsCommand o words views h p.number c (set words (at + HEADER_WORDS + 1) 0)
      (set views id (weak_taken v at c (slice_index words (at + HEADER_WORDS + 1))))
  finalise_as at c can f None e =
      let C : Command = Finalise can.dest can.object in
      let x = f.thing in
      let st = h.stands.objects x f.there in
      let i : ℕ = at + HEADER_WORDS + 1 in
      let w : ℕ = slice_index words i in
      let zero_ : w ≡ 0 = fields_of_slots P words (at + HEADER_WORDS) (Weak None) (rw e at f.fields) in
      let same : words ≡ set words i 0 = cc (set_again words i, zero_) in
      let was : st.node ≡ Weak None = cc (f.node_is, e) in
      let u : World = with_node W x.name st.node in
      let does : step W p.number C ≡ (u, reply.Dead) =
      step_finalise W p.number can.dest can.object x.name st.node st.node reply.Dead f.refers st.there (cc was) in
      let owes : owed_by W p.number C ≡ [] = cc (owes_finalise W p.number can.dest can.object x.name st.node f.refers st.there, was) in
      let again = node_again o words views h id v here p is x f.there in
      one_part c C (set words i 0) (λ o c p. finalised o at c w p) (doing p C (plain reply.Dead) []) can.command (ap (λ (b : Bool).
      cond b (doing p C (plain reply.Dead) []) (doing (finding_all p (2 * at ∷ w ∷ finaliser_named at p ∷
      [])) C (word (finaliser_named at p)) (owed_words o.marking (2 * at ∷ w ∷ finaliser_named at p ∷ [])))) (eq-eqb w 0 zero_))
      (rw same at (still_part C (plain reply.Dead) words
      (still_law o words views h id v here p is C reply.Dead (plain reply.Dead) u (rw can.command at can.gives) does again owes refl
      (hand_kept o words views h id v here p is u (hand_now o p) (node_frame W x.name st.node st.node st.there p.number) fits.hand) refl)))
  finalise_as at c can f (Some parts) e =
      let C : Command = Finalise can.dest can.object in
      let x = f.thing in
      let st = h.stands.objects x f.there in
      let i : ℕ = at + HEADER_WORDS + 1 in
      let w : ℕ = slice_index words i in
      let t = fields_of_slots P words (at + HEADER_WORDS) (Weak (Some parts)) (rw e at f.fields) in
      let was : st.node ≡ Weak (Some parts) = cc (f.node_is, e) in
      let made : Node = Weak None in
      let u : World = with_node W x.name made in
      let fin : ℕ = finaliser_named at p in
      let ends : Means P fin parts.finaliser = rw (finaliser_is at c can) t.2 in
      let q : MutatorState = world_holding (state_of u p.number) can.dest parts.finaliser in
      let exists : p.number < length u.mutators = rw (as_many W x.name st.node made st.there) fits.exists in
      let v' : World = with_register u p.number can.dest parts.finaliser in
      let does : step W p.number C ≡ (v', reply.Given parts.finaliser) =
      step_finalise W p.number can.dest can.object x.name st.node made (reply.Given parts.finaliser) f.refers st.there (ap weak_finalised was) in
      let owes : owed_by W p.number C ≡ names_among (value.Ref x.name ∷ parts.value ∷ parts.finaliser ∷ []) =
      cc (owes_finalise W p.number can.dest can.object x.name st.node f.refers st.there, was) in
      let now_ = node_now o words views h id v here p is x f.there made in
      let kept = nodes_kept u p.number q exists refl in
      let far = inside o words views h id v here p is x f.there in
      let is_at = f.is_at in
      let count : (header_of x.node).fields ≡ 3 = ap (λ (k : Header). k.fields) f.head in
      let new : List ℕ = set words (x.at + HEADER_WORDS + 1) 0 in
      let ch : Changes o words views h id v here p is x f.there 1 0 made v' = record {
        within = omega arith;
        may = rw f.head refl;
        later = rw was (record { header = refl; free = refl; result = λ e. e; alive = λ parts e. absurd cc });
        sized = tt;
        mine = kept x.name ∙ now_.0;
        others = λ n ne. kept n ∙ now_.1 n ne;
        fields = slots_of_fields P new (x.at + HEADER_WORDS) made (get_or-set_same words (x.at + HEADER_WORDS + 1) 0 0 (omega arith));
        stacks = λ size values e. absurd (let both : Weak (Some parts) ≡ Stack size values = sym was ∙ e in cc);
      } in
      let ws : List ℕ = 2 * at ∷ w ∷ fin ∷ [] in
      let itself : Means P (2 * at) (value.Ref x.name) = (at, refl, rw (← is_at) (x.node, f.there)) in
      let list : ListMeans P ws (value.Ref x.name ∷ parts.value ∷ parts.finaliser ∷ []) = (itself, (t.1, (ends, tt))) in
      one_part c C (set words i 0) (λ o c p.
      finalised o at c w p) (doing (finding_all p ws) C (word fin) (owed_words o.marking ws)) can.command (ap (λ (b : Bool).
      cond b (doing p C (plain reply.Dead) []) (doing (finding_all p ws) C (word fin) (owed_words o.marking ws)))
      (ne_eqb w 0 (means_some P (above o words views h id v here p is) w parts.value t.1)))
      (rw is_at at (field_law o words views h id v here p is x f.there 1 0 made C (reply.Given parts.finaliser) (word fin) v' (p.found ++ ws) (owed_words o.marking ws) ch
      (rw can.command at can.gives) does (parts.finaliser, refl, ends)
      (register_in u (hand_now o p) can.dest fin parts.finaliser exists
      (hand_kept o words views h id v here p is u (hand_now o p) (node_frame W x.name st.node made st.there p.number) fits.hand) ends)
      (rw owes (owes_list P o.marking p.owed ws (names_of S.owed p.number) (value.Ref x.name ∷ parts.value ∷ parts.finaliser ∷ []) fits.owed list))
      (rw owes (owes_list P true p.found ws (names_of S.owed p.number) (value.Ref x.name ∷ parts.value ∷ parts.finaliser ∷ []) fits.found list))
      (own_same o words views h id v here p is x f.there 1 0 made v' (holding (hand_now o p) can.dest fin) ch (λ size values e.
      let both : Weak (Some parts) ≡ Stack size values = sym was ∙ e in cc) refl)))

  pub finalise_keeps : (at : ℕ) (c : Command) → CanFinalise o p at c →
      AddsCommand o words views h p.number c (set words (at + HEADER_WORDS + 1) 0)
      (set views id (weak_taken v at c (slice_index words (at + HEADER_WORDS + 1))))
  finalise_keeps at c can = let f = found at can.object can.header can.object_word can.names can.kind in finalise_as at c can f f.parts refl
