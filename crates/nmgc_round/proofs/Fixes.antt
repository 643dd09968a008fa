-- A fixed load keeps the rule, also as the position of a command in the order.
use Rattle.nmgc_round.proofs.Vocabulary.{◌≡◌, inl, inr, ℕ, zero, suc, ◌+◌, ◌*◌, ◌<◌, List, [], ◌∷◌, set, set-set, refl, sym, ap, ◌∙◌, arith, slice_index, some, some-ne-none, get_elem?, Value, Kind, Command, state_of, shared_name, value_for, header_word, Header, SHARED_PLACE, HEADER_WORDS, header_of, size_of, MayChange, Means, Answer, word, Opening, Part, Seen, hand_now, doing, first_changed, loaded, answered, Object, place_of, IsObject, IsIn, now, IsFixed, Rests, Keeps, Stays, AddsCommand, Happening, IsMutator, IsReadable, IsWritable, CanLoad, CanSwap, Names, FindsHeader, FindsName, CanFix, CanTake, taken, known, known_answer, FindsFixed, FindsField, FindsQueue, IsSafe, same_header, lies_within}
use Rattle.nmgc_world_spec.specs.declared.node.Kind.TheVariants as kind
use Rattle.nmgc_round.proofs.{Standing.placed, Lists.pointer_means, Lists.word_means, Moves.operand_is, Moves.meant, Moves.fixed_keeps, Writes.load_keeps, Commands.read, Refusals.known_keeps}

-- fields that may be written may be read
may_read : (k : Kind) → IsWritable k → IsReadable k
may_read kind.Con w = absurd w
may_read kind.Var w = tt
may_read kind.Arr w = tt
may_read kind.Thunk w = absurd w
may_read kind.Weak w = absurd w
may_read kind.Stack w = absurd w

pub there_again : {A : Type 0} (l : List A) (i : ℕ) (a b : A) → get_elem? l i ≡ some a → get_elem? (set l i b) i ≡ some b
there_again [] i a b e = absurd (some-ne-none a (sym e))
there_again (x ∷ xs) zero a b e = refl
there_again (x ∷ xs) (suc i) a b e = there_again xs i a b e

module _ (o : Opening) (words : List ℕ) (views : List Seen) (h : Keeps o words views) (id : ℕ) (v : Seen) (here : get_elem? views id ≡
    some v) (p : Part) (is : IsMutator v p) where
  rests : Rests o h.born words p
  rests = ((h.agrees id v here).parts 0 p (ap (λ l. get_elem? l 0) is.alone)).2

  -- header and name of an object
  pub first_fixed : (x : Object) → IsObject o h.born x → (offset : ℕ) → offset < HEADER_WORDS → IsFixed o h.born x.at offset
  first_fixed x hx offset lt = record { object = x; here = hx; is_at = refl; within = omega arith; fixed = λ i e may. omega arith }

  -- a field of an object whose header is named
  named_fixed : (at : ℕ) (header : Header) (i : ℕ) → Names p at header → i < header.fields → (MayChange header.kind i → ⊥) →
      IsFixed o h.born at (HEADER_WORDS + i)
  named_fixed at header i names lt never =
      let f = rests.fixed (record { at = at; offset = 0; word = header_word header }) names.there in
      let x : Object = f.0.object in
      let st = h.stands.objects x f.0.here in
      let z : at + 0 ≡ x.at = let e = f.0.is_at in omega arith in
      let head : header_of x.node ≡ header = same_header (header_of x.node) header (h.stands.apart x f.0.here).valid names.valid (cc (st.header, z, f.1)) in
      let n : (header_of x.node).fields ≡ header.fields = ap (λ (k : Header). k.fields) head in
      record {
        object = x;
        here = f.0.here;
        is_at = f.0.is_at;
        within = omega arith;
        fixed = λ j e may. let same : j ≡ i = omega arith in never (rw (← same) (rw head at may));
      }

  is_fixed : (at offset : ℕ) → CanFix o p at offset → IsFixed o h.born at offset
  is_fixed at offset (inl (object, e, lt)) =
      let x : Value = value_for (now o h.events).world p.number object in
      let q = pointer_means (IsIn o h.born) at x (rw e at (operand_is o words views h id v here p is object)) in
      first_fixed (record { at = at; name = q.0; node = q.2.0 }) q.2.1 offset lt
  is_fixed at offset (inr (inl (header, i, names, e, lt, never))) = rw e (named_fixed at header i names lt never)
  is_fixed at offset (inr (inr (i, e, lt))) =
      let fits = ((h.agrees id v here).parts 0 p (ap (λ l. get_elem? l 0) is.alone)).1 in
      let m = word_means (IsIn o h.born) (hand_now o p).queue (state_of (now o h.events).world p.number).queue i (2 * at) fits.hand.queue e in
      let q = pointer_means (IsIn o h.born) at m.0 m.1 in
      first_fixed (record { at = at; name = q.0; node = q.2.0 }) q.2.1 offset lt

  -- a load without a position in the order
  pub fix_keeps : (at offset : ℕ) → CanFix o p at offset → Stays o words views h words (set views id (loaded v at offset (slice_index words (at + offset))))
  fix_keeps at offset can = fixed_keeps o words views h id v here p is at offset (is_fixed at offset can)

  pub fix_room : (at offset : ℕ) → CanFix o p at offset → FindsFixed o at offset (slice_index words (at + offset))
  fix_room at offset can = (λ first. header_known first, λ second. name_known second)
    where
      header_known : offset ≡ 0 → FindsHeader o at (slice_index words (at + offset))
      header_known first =
          let g = is_fixed at offset can in
          let x : Object = g.object in
          let st = h.stands.objects x g.here in
          let a = g.is_at in
          let z : at + offset ≡ x.at = omega arith in
          let l = lies_within o.layout (place_of x) (size_of x.node) (omega arith) (h.stands.apart x g.here).lies in
          record { header = header_of x.node; valid = (h.stands.apart x g.here).valid; word_is = cc (z, st.header); room = omega arith }

      name_known : offset ≡ 1 → FindsName (slice_index words (at + offset))
      name_known second =
          let g = is_fixed at offset can in
          let x : Object = g.object in
          let named = h.stands.named (place_of x) (placed o h.born x g.here) in
          let a = g.is_at in
          let z : at + offset ≡ x.at + 1 = omega arith in
          record { name = x.name; valid = named.valid; word_is = cc (z, named.name) }

  -- the object of a pointer that represents a value is within the words
  pub safe_word : (w : ℕ) (x : Value) → Means (IsIn o h.born) w x → IsSafe o w
  safe_word w x m at e =
      let q = pointer_means (IsIn o h.born) at x (rw e at m) in
      let y : Object = record { at = at; name = q.0; node = q.2.0 } in
      let l = lies_within o.layout (place_of y) (size_of y.node) (omega arith) (h.stands.apart y q.2.1).lies in
      omega arith

  -- and so are the finalisers that wait
  pub queue_safe : FindsQueue o p
  queue_safe i w e =
      let fits = ((h.agrees id v here).parts 0 p (ap (λ l. get_elem? l 0) is.alone)).1 in
      let m = word_means (IsIn o h.born) (hand_now o p).queue (state_of (now o h.events).world p.number).queue i w fits.hand.queue e in
      safe_word w m.0 m.1

  -- the word that a load of a field finds
  pub load_safe : (at index : ℕ) (c : Command) → CanLoad o p at index c → IsSafe o (slice_index words (at + HEADER_WORDS + index))
  load_safe at index c can =
      let m = meant o words views h id v here p is at can.header can.object can.object_word can.names in
      let st = h.stands.objects m.object m.there in
      let head : header_of st.node ≡ can.header = st.later.header ∙ m.head in
      let t = read (IsIn o h.born) words (at + HEADER_WORDS) index st.node (rw head can.kind) (rw head can.within) (rw m.is_at at st.fields) in
      safe_word (slice_index words (at + HEADER_WORDS + index)) t.value t.means

  -- the word that a swap finds
  pub swap_safe : (at index w : ℕ) (c : Command) → CanSwap o p at index w c → IsSafe o (slice_index words (at + HEADER_WORDS + index))
  swap_safe at index w c can =
      let m = meant o words views h id v here p is at can.header can.object can.object_word can.names in
      let st = h.stands.objects m.object m.there in
      let head : header_of st.node ≡ can.header = st.later.header ∙ m.head in
      let t = read (IsIn o h.born) words (at + HEADER_WORDS) index st.node (may_read (header_of st.node).kind (rw head can.kind)) (rw head can.within) (rw m.is_at at st.fields) in
      safe_word (slice_index words (at + HEADER_WORDS + index)) t.value t.means

  -- the part after a command
  pub is_doing : (c : Command) (a : Answer) → IsMutator (answered v c a) (doing p c a [])
  is_doing c a = record { alone = ap (λ (l : List Part). first_changed (λ q. doing q c a []) l) is.alone; no_collector = is.no_collector }

  is_answering : (c : Command) → IsMutator (known v c) (doing p c (known_answer (hand_now v.opening p) p.fixed c) [])
  is_answering c = record {
    alone = ap (λ (l : List Part). first_changed (λ q. doing q c (known_answer (hand_now v.opening q) q.fixed c) []) l) is.alone;
    no_collector = is.no_collector;
  }

-- a view that changed twice
pub twice : (o : Opening) (words : List ℕ) (views : List Seen) (id : ℕ) (a b : Seen) (es : List Happening) →
    (n : Keeps o words (set (set views id a) id b)) × (n.events ≡ es) → (n : Keeps o words (set views id b)) × (n.events ≡ es)
twice o words views id a b es h = rw (set-set views id a b) at h

module _ (o : Opening) (words : List ℕ) (views : List Seen) (h : Keeps o words views) (id : ℕ) (v : Seen) (here : get_elem? views id ≡
    some v) (p : Part) (is : IsMutator v p) where
  -- a load that is the position of a command
  pub take_keeps : (at offset : ℕ) (c : Command) → CanTake o p at offset c →
      AddsCommand o words views h p.number c words (set views id (taken v at offset c (slice_index words (at + offset))))
  take_keeps at zero c (inl (is_at, z, can)) =
      let w : ℕ = slice_index words (at + 0) in
      let next = known v c in
      let t = known_keeps o words views h id v here p is c can in
      let k : Keeps o words (set views id next) = t.1 in
      let at' : at ≡ SHARED_PLACE = is_at in
      let here' = there_again views id v next here in
      let f : IsFixed o k.born at 0 =
      rw at' (first_fixed o words (set views id next) k id next here' _
      (is_answering o words views h id v here p is c) (record { at = SHARED_PLACE; name = shared_name; node = k.shared.0 }) k.shared.1 0 (omega arith)) in
      let n = twice o words views id next (loaded next at 0 w) k.events
      (fixed_keeps o words (set views id next) k id next here' _ (is_answering o words views h id v here p is c) at 0 f) in
      (t.0, n.0, n.1 ∙ t.2)
  take_keeps at (suc offset) c (inl (is_at, z, can)) = absurd (omega arith)
  take_keeps at zero c (inr (i, e, can)) = absurd (omega arith)
  take_keeps at (suc offset) c (inr (i, e, can)) =
      let w : ℕ = slice_index words (at + suc offset) in
      let a : Answer = word w in
      let next = answered v c a in
      let place : at + HEADER_WORDS + i ≡ at + suc offset = omega arith in
      let t : AddsCommand o words views h p.number c words (set views id next) =
      rw place at (load_keeps o words views h id v here p is at i c can.0) in
      let k : Keeps o words (set views id next) = t.1 in
      let here' = there_again views id v next here in
      let is' = is_doing o words views h id v here p is c a in
      let names : Names (doing p c a []) at can.0.header = record { valid = can.0.names.valid; there = can.0.names.there } in
      let f : IsFixed o k.born at (suc offset) =
      rw e (named_fixed o words (set views id next) k id next here' (doing p c a []) is' at can.0.header
      i names can.0.within (λ may. rw can.1 at may)) in
      let n = twice o words views id next (loaded next at (suc offset) w) k.events
      (fixed_keeps o words (set views id next) k id next here' (doing p c a []) is' at (suc offset) f) in
      (t.0, n.0, n.1 ∙ t.2)

  -- the field that a command finds there
  pub take_safe : (at offset : ℕ) (c : Command) → CanTake o p at offset c → FindsField o offset (slice_index words (at + offset))
  take_safe at offset c (inl (is_at, z, can)) = record { safe = λ i e. absurd (omega (arith, z, e)) }
  take_safe at offset c (inr (j, z, can)) =
      let place : at + HEADER_WORDS + j ≡ at + offset = omega (arith, z) in
      record { safe = λ i e. rw place at (load_safe o words views h id v here p is at j c can.0) }
