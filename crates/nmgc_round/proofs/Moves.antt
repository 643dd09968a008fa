-- Each step of a mutator keeps the rule.
use Rattle.nmgc_round.proofs.Vocabulary.{◌≡◌, ◌≢◌, inl, inr, ℕ, ◌+◌, ◌-◌, ◌^◌, ◌*◌, ◌<◌, ◌≤◌, suc, Bool, true, false, List, [], ◌∷◌, ◌++◌, length, set, refl, sym, ap, subst, ◌∙◌, arith, slice_index, Some, None, append-nil, length-append, mul-le-mul_right, Contains-push, Contains-push_cases, slice_get_past, some, get_elem?, SHARED_MAKER, Name, Value, Kind, Stack, Operand, Command, Reply, Given, MutatorState, words_made, World, state_of, node_of, serial_of, value_for, with_register, with_state, with_new, next_name, world_holding, step, names_among, header_word, name_word, IsName, Header, HEADER_WORDS, State, names_of, IsPossible, own_node, state_same, node_born, next_is_new, node_same, header_of, size_of, MayChange, Place, Means, LiesWell, done_by, loaded, holding, bearing_object, gave_birth, next_of, word, Hand, Opening, Part, Seen, hand_now, leaves, doing, owed_word, stored, Object, place_of, end_of, IsObject, IsIn, RepresentsInRound, IsFree, now, Owes, IsHand, IsFixed, Fits, Rests, IsNew, Keeps, limit_of, Stays, AddsCommand, IsMutator, CanGive, operand_word, Names, IsWritable, CanBear, CanStore, contains_cases, at_last, lies_within, same_header}
use Rattle.nmgc_world_spec.specs.declared.value.Value.TheVariants as value
use Rattle.nmgc_world_spec.specs.declared.node.Kind.TheVariants as kind
use Rattle.nmgc_snapshot_laws.specs.declared.event.Event.TheVariants as event
use Rattle.nmgc_round.proofs.{Fields.list_more, Lists.operand_means, Lists.pointer_means, Lists.list_set, Lists.owed_append, Standing.same_node, Owners.own_born, Births.stands_free, Births.stands_born, Births.more_objects, Nurseries.rest_free, Nurseries.rests_store, Nurseries.rests_stored, Nurseries.rests_born, Nurseries.rests_birth, Frames.IsSameState, Keeping.acts, Keeping.grown, Keeping.owes_more, Keeping.command_law, Keeping.store_law, Runs.still_open, Runs.serials_grow, Makers.made_header, Makers.maker}

-- fields that may be written may change
pub may_change : (k : Kind) (i : ℕ) → IsWritable k → MayChange k i
may_change kind.Con i w = absurd w
may_change kind.Var i w = tt
may_change kind.Arr i w = tt
may_change kind.Thunk i w = absurd w
may_change kind.Weak i w = absurd w
may_change kind.Stack i w = tt

module _ (o : Opening) (words : List ℕ) (views : List Seen) (h : Keeps o words views) (id : ℕ) (v : Seen) (here : get_elem? views id ≡
    some v) (p : Part) (is : IsMutator v p) where
  abbrev S : State
  S = now o h.events

  abbrev W : World
  W = S.world

  abbrev P : Place → Type 0
  P = IsIn o h.born

  pub same_opening : v.opening ≡ o
  same_opening = (h.agrees id v here).opening (acts v p is)

  fits : Fits o h.born S (done_by p.number h.events) p
  fits = ((h.agrees id v here).parts 0 p (ap (λ l. get_elem? l 0) is.alone)).1

  rests : Rests o h.born words p
  rests = ((h.agrees id v here).parts 0 p (ap (λ l. get_elem? l 0) is.alone)).2

  -- the value that an operand's word represents
  pub operand_is : (operand : Operand) → Means P (operand_word o p operand) (value_for W p.number operand)
  operand_is operand = operand_means P (hand_now o p).registers (state_of W p.number).registers operand h.shared fits.hand.registers

  -- the object to which an operand refers, if its header is named
  pub record Meant (at : ℕ) (header : Header) (operand : Operand) : Type 0 where
    pub object : Object
    pub there : IsObject o h.born object
    pub is_at : object.at ≡ at
    pub refers : value_for W p.number operand ≡ value.Ref object.name
    pub head : header_of object.node ≡ header

  pub meant : (at : ℕ) (header : Header) (operand : Operand) → operand_word o p operand ≡ 2 * at → Names p at header → Meant at header operand
  meant at header operand e names =
      let q = pointer_means P at (value_for W p.number operand) (rw e at (operand_is operand)) in
      let x : Object = record { at = at; name = q.0; node = q.2.0 } in
      let f = rests.fixed (record { at = at; offset = 0; word = header_word header }) names.there in
      let st = h.stands.objects x q.2.1 in
      let z : at + 0 ≡ at = omega arith in
      record {
        object = x;
        there = q.2.1;
        is_at = refl;
        refers = q.1;
        head = same_header (header_of q.2.0) header (h.stands.apart x q.2.1).valid names.valid (cc (st.header, z, f.1));
      }

  pub possible : (c : Command) (r : Reply) → CanGive o p c → (step W p.number c).1 ≡ r → IsPossible S (event.Command p.number c r)
  possible c r gives says = (
    still_open o.core h.events h.is.not_closed,
    record { mutator = fits.exists; registers = gives.fits.registers; serial = rw fits.hand.serial at gives.serial },
    says,
  )

  -- the words of an object are within the words
  pub inside : (x : Object) → IsObject o h.born x → end_of x ≤ length words
  inside x hx = let t = h.stands.total in let l = lies_within o.layout (place_of x) (size_of x.node) (omega arith) (h.stands.apart x hx).lies in omega arith

  pub owes_nothing : (b : Bool) (ws : List ℕ) (ns : List Name) → Owes b P ws ns → Owes b P (ws ++ []) (ns ++ [])
  owes_nothing b ws ns k = rw (append-nil ws, append-nil ns) k

  pub finds_same : (ws : List ℕ) (ns : List Name) → Owes true P ws ns → Owes true P ws (ns ++ [])
  finds_same ws ns k = rw (append-nil ns) k

  pub owes_old : (b : Bool) (ws : List ℕ) (ns : List Name) (w : ℕ) (x : Value) → Owes b P ws ns → Means P w x →
      Owes b P (ws ++ owed_word b w) (ns ++ names_among (x ∷ []))
  owes_old true ws ns w x k m = owed_append P ws (w ∷ []) ns (x ∷ []) k (m, tt)
  owes_old false ws ns w x k m = append-nil ws ∙ k

  -- the node of an object changes, and the mutator's hand stays
  pub hand_kept : (u : World) (hand : Hand) → IsSameState (state_of u p.number) (state_of W p.number) → IsHand o h.born W p.number hand →
      IsHand o h.born u p.number hand
  hand_kept u hand same k = record {
    registers = rw same.registers k.registers;
    queue = rw same.queue k.queue;
    serial = k.serial ∙ sym same.serial;
  }

  -- a register takes a value, and the hand its word
  pub register_hand : (dest w : ℕ) (val : Value) → Means P w val → IsHand o h.born (with_register W p.number dest val) p.number (holding (hand_now o p) dest w)
  register_hand dest w val m =
      let q : MutatorState = world_holding (state_of W p.number) dest val in
      let same : state_of (with_state W p.number q) p.number ≡ q = state_same W p.number q fits.exists in
      let k = fits.hand in record {
        registers = rw same (list_set P (hand_now o p).registers (state_of W p.number).registers dest w val k.registers m);
        queue = rw same k.queue;
        serial = k.serial ∙ sym (ap (λ (s : MutatorState). length s.nodes) same);
      }

  -- a load of a word that never changes
  pub fixed_keeps : (at offset : ℕ) → IsFixed o h.born at offset →
      Stays o words views h words (set views id (loaded v at offset (slice_index words (at + offset))))
  fixed_keeps at offset f =
      rw is.alone (store_law o words views h id v here words p p.used p.unborn (record { at = at; offset = offset; word = slice_index words (at + offset) } ∷
      p.fixed) is h.stands
      (record {
        exists = rests.exists;
        room = rests.room;
        below = rests.below;
        unborn = rests.unborn;
        fixed = λ k c. elim (contains_cases (record { at = at; offset = offset; word = slice_index words (at + offset) }) p.fixed k c) [
          | inl e ↦ rw (← e) (f, refl)
          | inr d ↦ rests.fixed k d
        ];
      })
      (λ q ne r. r))

  within_words : limit_of o p.number ≤ length words
  within_words =
      let t = h.stands.total in
      let k : suc p.number * o.layout.nursery ≤ o.layout.mutators * o.layout.nursery = mul-le-mul_right o.layout.nursery rests.exists in
      omega arith

  -- a store into a word in no object yet
  pub store_keeps : (at w : ℕ) → CanStore o p at → Stays o words views h (set words at w) (set views id (stored v at w))
  store_keeps at w can =
      let free : IsFree o h.born at = rest_free o h.is h.born W words p h.stands h.new rests at can.from can.to in
      let l = within_words in
      let to = can.to in
      rw is.alone (store_law o words views h id v here (set words at w) p p.used (record { at = at; word = w } ∷ p.unborn) p.fixed is
      (stands_free o h.born W words at w free h.stands)
      (rests_stored o h.is h.born W words h.stands h.new p rests at w can.from can.to (omega arith) can.fresh)
      (λ q ne r. rests_store o h.is h.born W words h.stands h.new p rests at w can.from can.to q ne r))

  -- an allocation: the header is written last
  pub birth_keeps : (at header : ℕ) (c : Command) → CanBear o p at header c →
      AddsCommand o words views h p.number c (set words at header) (set views id (gave_birth v at header c))
  birth_keeps at header c can =
      let m : ℕ = p.number in
      let own : m ≢ SHARED_MAKER = λ e. let a = rests.exists in let b = h.is.layout.mutators.1 in omega arith in
      let t = maker P (hand_now o p).registers W m h.shared fits.hand.registers c can.makes in
      let name : Name = next_name (state_of W m) m in
      let x : Object = record { at = at; name = name; node = t.made } in
      let next : next_of o p ≡ name = ap (λ n. let k : Name = record { maker = m; serial = n } in k) fits.hand.serial in
      let size = t.size in
      let from = can.from in
      let to = can.to in
      let end = within_words in
      let more : List Object = h.born ++ x ∷ [] in
      let grow : (y : Object) → IsObject o h.born y → IsObject o more y = more_objects o h.born x in
      let Q : Place → Type 0 = IsIn o more in
      let there : Q (place_of x) = (t.made, inr (Contains-push h.born x)) in
      let q : MutatorState = with_new (state_of W m) m t.dest t.made in
      let u : World = with_state W m q in
      let head : header ≡ header_word (header_of t.made) = cc (can.header_is, t.head) in
      let cases = node_born W m t.dest t.made fits.exists own in
      let unknown : node_of W name ≡ None = next_is_new W m own in
      let others : (n : Name) → (n ≡ name → ⊥) → node_of u n ≡ node_of W n = λ n ne. elim (cases n) [ inl e ↦ absurd (ne e.0) | inr e ↦ e ] in
      let same : state_of u m ≡ q = state_same W m q fits.exists in
      let mine : node_of u name ≡ Some t.made = elim (cases name) [
        | inl e ↦ e.1
        | inr e ↦ node_same W m q fits.exists own name refl ∙
            at_last (state_of W m).nodes t.made
      ] in
      let grows : serial_of o.core.world m ≤ serial_of W m = serials_grow o.core h.events h.legal m in
      let older : serial_of o.core.snapshot m ≤ serial_of o.core.world m = h.is.snapshot m in
      let no_snapshot : node_of o.core.snapshot name ≡ None = own_node o.core.snapshot m own name refl ∙
      slice_get_past (state_of o.core.snapshot m).nodes (length (state_of W m).nodes) (omega arith) in
      let no_world : node_of o.core.world name ≡ None = own_node o.core.world m own name refl ∙
      slice_get_past (state_of o.core.world m).nodes (length (state_of W m).nodes) grows in
      let name_there : slice_index words (at + 1) ≡ name_word (next_of o p) =
      (rests.unborn (record { at = at + 1; word = name_word (next_of o p) }) can.name).0 in
      let valid_name : IsName name = (
        let a = rests.exists in let b = h.is.layout.mutators.1 in omega arith,
        (let a : serial_of W m < 2 ^ 32 - 1 = rw fits.hand.serial at can.gives.serial in omega arith),
        λ e. absurd (own e),
      ) in
      let lies : LiesWell o.layout (place_of x) (size_of t.made) = inr (
        own,
        inr (let fit = can.gives.fits.size in omega arith, λ i l k. record { exists = rests.exists; from = omega arith; before = omega arith }),
      ) in
      let st : RepresentsInRound o more u (set words at (header_word (header_of t.made))) =
      stands_born o h.born W u words h.stands x (omega arith) (rw t.head (made_header o.layout.words c h.is.layout.words.most can.gives.fits can.makes)) lies
      (λ i lo hi. rest_free o h.is h.born W words p h.stands h.new rests i (omega arith) (omega arith))
      mine others unknown no_snapshot valid_name (cc (name_there, next)) t.sized
      (t.fields words (at + HEADER_WORDS) (λ i w e. (rests.unborn (record { at = at + HEADER_WORDS + i; word = w }) (can.fields i w e)).0)) in
      let stays : (n : Name) (size : ℕ) (values : List Value) → node_of W n ≡ Some (Stack size values) →
      node_of u n ≡ Some (Stack size values) = λ n size values e. elim (cases n) [
        | inl k ↦ let bad : Some (Stack size values) ≡ None = cc (e, k.0, unknown) in absurd cc
        | inr k ↦ k ∙ e
      ] in
      let b = t.hand (hand_now o p) at in
      let k = fits.hand in
      let hand : IsHand o more u m (leaves (hand_now o p) c (word (2 * at))) = record {
        registers = rw b.registers (rw same (list_set Q (hand_now o p).registers (state_of W m).registers t.dest (2 * at) (value.Ref name)
            (list_more P Q (grown o h.born more grow) (hand_now o p).registers (state_of W m).registers k.registers) (at, refl, there)));
        queue = rw b.queue (rw same (list_more P Q (grown o h.born more grow) (hand_now o p).queue (state_of W m).queue k.queue));
        serial = cc (b.serial, k.serial, same, length-append (state_of W m).nodes (t.made ∷ []));
      } in
      let fresh : IsNew o x = record { unknown = no_world; no_snapshot = no_snapshot; maker = rests.exists; from = omega arith; to = omega arith } in
      let born : Rests o more (set words at header) (bearing_object p at (size_of t.made) header (slice_index words (at + 1))) =
      rests_born o h.is h.born W words h.stands h.new p rests x refl from (omega arith) header (omega arith) in
      let r : Rests o more (set words at header) (bearing_object p at (words_made c) header (name_word (next_of o p))) =
      rw size (rw name_there at born) in
      rw is.alone (subst (λ (y : Opening). AddsCommand o words views h p.number c (set words at header) (set views id (record v {
        parts =
            doing (bearing_object p at (words_made c) header (name_word (next_of y p))) c (word (2 * at)) [] ∷ [];
      }))) (sym same_opening)
      (command_law o words views h id v here (set words at header) more p (p.used + words_made c) []
      (bearing_object p at (words_made c) header (name_word (next_of o p))).fixed p.found c (Given (value.Ref name)) (word (2 * at)) [] is grow
      (λ y hy. elim (Contains-push_cases h.born x y hy) [ inl d ↦ h.new y d | inr e ↦ subst (IsNew o) e fresh ])
      (possible c (Given (value.Ref name)) can.gives (ap (λ (z : World × Reply). z.1) t.does))
      (value.Ref name, refl, (at, refl, there))
      (rw t.does hand)
      (rw t.owes (owes_more o h.born more grow o.marking (p.owed ++
      []) (names_of S.owed m ++ []) (owes_nothing o.marking p.owed (names_of S.owed m) fits.owed)))
      (rw t.owes (owes_more o h.born more grow true p.found (names_of S.owed m ++
      []) (finds_same p.found (names_of S.owed m) fits.found)))
      (λ n size values ne e. rw t.does (stays n size values e))
      (λ n node e. let e' : node_of u n ≡ Some node = rw t.does at e in
      elim (cases n) [ inl k ↦ inr (x, Contains-push h.born x, sym k.0) | inr k ↦ inl (node, sym k ∙ e', same_node node) ])
      (rw t.does (rw head st))
      (record { exists = r.exists; room = r.room; below = r.below; unborn = r.unborn; fixed = r.fixed })
      (λ q ne s. rests_birth o h.is h.born W words h.stands h.new p rests x refl from (omega arith) header q ne s)
      (λ y hy. elim (Contains-push_cases h.born x y hy) [ inl d ↦ inl d | inr e ↦ inr (sym (ap (λ (z : Object). z.name.maker) e)) ])
      (rw t.does (own_born o h.born more W u (set words at (header_word (header_of t.made))) st m (hand_now o p) (leaves (hand_now o p) c (word (2 * at))) x
      (inr (Contains-push h.born x)) grow
      (λ y hy ne. elim hy [
        | inl d ↦ inl d
        | inr d ↦ elim (Contains-push_cases h.born x y d) [
          | inl i ↦ inr i
          | inr e ↦
              absurd (ne (sym (ap (λ (z : Object). z.at) e)))
        ]
      ])
      b.others
      (λ n values e. let both : Some t.made ≡ Some (Stack n values) = sym mine ∙ e in let is : t.made ≡ Stack n values = cc in b.first n values is)
      others fits.own))))
