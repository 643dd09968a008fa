-- Words that represent a world meet the rule: references in tracked objects refer to tracked objects.
use Rattle.nmgc_round.proofs.Vocabulary.{◌≡◌, ◌≢◌, inl, inr, ⊎_elim, set, ℕ, zero, suc, ◌+◌, ◌<◌, Bool, true, false, List, [], ◌∷◌, ◌++◌, length, refl, sym, ap, subst, arith, slice_index, Some, Contains, slice_get, contains_one, is_some_of, at_some, contains_head, contains_tail, contains_read, Name, Value, Node, World, node_of, state_of, IsNodeOf, IsSized, shared_name, start, field, IsWide, IsWideRoot, HEADER_WORDS, SHARED_PLACE, IsTracked, Place, Means, Fills, HasSlots, ListMeans, Slot, holds, unset, unspecified, slots_of, free_slots, IsObjectAt, slot_tracked, Contains-append_left, Contains-append_right, some, some-injective, some-ne-none, get_elem?, at_set, names_of, Owes, IsHand, Fits, Rests, IsIdle, Agrees, Keeps, Hand, Part, Seen, Opening, hand_of, blank, blanks, nobody, whole, KeepsOf, Object, place_of, IsOld, IsIn, IsPlace, IsLater, IsStanding, RepresentsInRound, earlier, CanOpen}
use Rattle.nmgc_heap_spec.specs.laws.Slots.{free_held}
use Rattle.nmgc_world_spec.specs.declared.value.Value.TheVariants as value
use Rattle.nmgc_round.proofs.{Parts.idle_agrees, Olds.own_old, Standing.same_node, Fields.fixed_of_slots}

-- references to these names, among these addresses
abbrev Refers : (Name → Type 0) → Value → Type 0
Refers T value.Nil = Unit {0}
Refers T (value.Number n) = Unit {0}
Refers T (value.Ref name) = T name

module _ (P Q : Place → Type 0) (T : Name → Type 0) (among : (p : Place) → P p → T p.name → Q p) where
  means_among : (w : ℕ) (v : Value) → Refers T v → Means P w v → Means Q w v
  means_among w value.Nil t m = m
  means_among w (value.Number n) t m = m
  means_among w (value.Ref name) t m = (m.0, m.1, among (record { at = m.0; name = name }) m.2 t)

  pub list_among : (ws : List ℕ) (vs : List Value) → ((v : Value) → Contains vs v → Refers T v) → ListMeans P ws vs → ListMeans Q ws vs
  list_among [] [] t h = tt
  list_among [] (v ∷ vs) t h = absurd h
  list_among (w ∷ ws) [] t h = absurd h
  list_among (w ∷ ws) (v ∷ vs) t h = (means_among w v (t v (contains_head v vs)) h.0, list_among ws vs (λ x c. t x (contains_tail v vs x c)) h.1)

  -- slots that refer to these names
  slots_among : (words : List ℕ) (from : ℕ) (slots : List Slot) → ((v : Value) → Contains slots (holds v) → Refers T v) →
      HasSlots P words from slots → HasSlots Q words from slots
  slots_among words from slots t h i s e = by_slot s e (h i s e)
    where
      by_slot : (s : Slot) → slice_get slots i ≡ Some s → Fills P (slice_index words (from + i)) s → Fills Q (slice_index words (from + i)) s
      by_slot (holds v) e m = means_among (slice_index words (from + i)) v (t v (contains_read slots i (holds v) e)) m
      by_slot unset e m = m
      by_slot unspecified e m = m

-- a reference that is to one of these names
refers_if : (T : Name → Type 0) (v : Value) → ((name : Name) → v ≡ value.Ref name → T name) → Refers T v
refers_if T value.Nil f = tt
refers_if T (value.Number n) f = tt
refers_if T (value.Ref name) f = f name refl

module _ (o : Opening) (words : List ℕ) (h : CanOpen o words) where
  abbrev W : World
  W = o.core.world

  abbrev T : Name → Type 0
  T name = IsTracked W (earlier o) name

  in_world : (name : Name) → IsWide W name → T name
  in_world name k = start name (W, contains_head W (earlier o), k)

  in_earlier : (e : World) (name : Name) → Contains (earlier o) e → IsWide e name → T name
  in_earlier e name c k = start name (e, contains_tail W (earlier o) e c, k)

  among : (p : Place) → Contains o.places p → T p.name → IsIn o [] p
  among p c t = let n = is_some_of (node_of W p.name) (h.represents.named p c).known in (n.0, inl (record { there = c; tracked = t; node = n.1 }))

  roots : (name : Name) → IsWideRoot W name → T name
  roots name r = in_world name (start name r)

  not_born : {A : Type 0} (x : Object) → Contains [] x → A
  not_born x c = absurd (let lt = c.1 in omega arith)

  old_place : (p : Place) → IsPlace o [] p → Contains o.places p
  old_place p (inl c) = c
  old_place p (inr c) = not_born c.0 c.1

  -- an object in the representation
  placed_at : (x : Object) → IsOld o x → IsObjectAt o.layout o.places words (place_of x) x.node ×
      HasSlots (Contains o.places) words (x.at + HEADER_WORDS) (slots_of x.node) ×
      ((e : World) (before : Node) → Contains (earlier o) e → node_of e x.name ≡ Some before →
      HasSlots (Contains o.places) words (x.at + HEADER_WORDS) (free_slots before))
  placed_at x old =
      let t = h.represents.tracked x.name x.node old.tracked old.node in
      let e = ap (λ (p : Place). p.at) (h.represents.one (record { at = t.at; name = x.name }) (place_of x) t.there old.there (inl refl)) in (
        rw e at t.object,
        rw e at t.fields,
        λ w before c k. rw e at (t.free w before c k),
      )

  snapshot_earlier : o.marking ≡ true → Contains (earlier o) o.core.snapshot
  snapshot_earlier m = rw m (contains_one o.core.snapshot)

  old_standing : (x : Object) → IsOld o x → IsStanding o [] W words x
  old_standing x old =
      let t = placed_at x old in
      let sized : IsSized x.node = (at_some (node_of W x.name) x.node (IsNodeOf W) old.node (h.world.nodes x.name)).sized in
      let mine = slots_among (Contains o.places) (IsIn o []) T among words (x.at + HEADER_WORDS) (slots_of x.node) (λ v c.
      refers_if T v (λ target e. slot_tracked W (earlier o) x.name x.node target old.tracked old.node (rw e at c))) t.1 in
      record {
        header = t.0.header;
        node = x.node;
        there = old.node;
        later = same_node x.node;
        sized = sized;
        fields = mine;
        kept = λ before k. elim k as (λ k. IsLater before x.node × KeepsOf o x before (IsIn o []) words (x.at + HEADER_WORDS) k) [
          | inl e ↦ rw e (
            same_node x.node,
            fixed_of_slots (IsIn o []) words (x.at + HEADER_WORDS) x.node mine,
          )
          | inr s ↦
              let S : World = o.core.snapshot in
              let c = snapshot_earlier s.marking in (
                h.older x before s old.node,
                slots_among (Contains o.places) (IsIn o []) T among words (x.at + HEADER_WORDS) (free_slots before)
                    (λ v d. refers_if T v (λ target e. in_earlier S target c (field x.name target s.wide (
                      before,
                      s.there,
                      rw e at (free_held before v d),
                    ))))
                    (t.2 S before c s.there),
              )
        ];
      }

  pub opens_stands : RepresentsInRound o [] W words
  opens_stands = record {
    total = h.represents.total;
    one = λ p q hp hq e. h.represents.one p q (old_place p hp) (old_place q hq) e;
    named = λ p hp. h.represents.named p (old_place p hp);
    apart = λ x hx. elim hx [
      | inl old ↦ let t = (placed_at x old).0 in record { valid = t.valid; lies = t.lies; alone = λ q hq. t.alone q (old_place q hq) }
      | inr c ↦ not_born x c
    ];
    objects = λ x hx. elim hx [ inl old ↦ old_standing x old | inr c ↦ not_born x c ];
    zeros = h.represents.zeros;
  }

  shared_in : IsIn o [] (record { at = SHARED_PLACE; name = shared_name })
  shared_in =
      let t : T shared_name = roots shared_name (inl (inl refl)) in
      let placed = h.represents.tracked shared_name W.shared t refl in
      let at : placed.at ≡ SHARED_PLACE = elim placed.object.lies [ inl g ↦ g.1 | inr g ↦ absurd (g.0 refl) ] in
      among (record { at = SHARED_PLACE; name = shared_name }) (rw at at placed.there) t

  -- the hand of a mutator, by its words
  hand_stands : (m : ℕ) → m < length o.hands → IsHand o [] W m (hand_of o.hands m)
  hand_stands m lt =
      let n = h.count in let k = h.hands m (omega arith) in
      let held : (v : Value) → Contains ((state_of W m).registers ++ (state_of W m).queue) v →
      Refers T v = λ v c. refers_if T v (λ name e. roots name (inl (inr (
        m,
        rw e at c,
      )))) in
      record {
        registers = list_among (Contains o.places) (IsIn o []) T among (hand_of o.hands m).registers (state_of W m).registers (λ v c.
            held v (Contains-append_left (state_of W m).registers (state_of W m).queue v c)) k.registers;
        queue = list_among (Contains o.places) (IsIn o []) T among (hand_of o.hands m).queue (state_of W m).queue (λ v c.
            held v (Contains-append_right (state_of W m).registers (state_of W m).queue v c)) k.queue;
        serial = k.serial;
      }

  owes_none : (b : Bool) (m : ℕ) → Owes b (IsIn o []) [] (names_of o.core.owed m)
  owes_none true m = ([], tt, sym (h.owed m))
  owes_none false m = refl

  blank_fits : (m : ℕ) → m < length o.hands → Fits o [] o.core [] (blank m)
  blank_fits m lt = let a = h.count in let b = h.is.mutators in let c = h.is.owed in
      record {
        exists = omega arith;
        owing = omega arith;
        rows = tt;
        hand = hand_stands m lt;
        found = owes_none true m;
        owed = owes_none o.marking m;
        own = own_old o words h m (omega arith);
      }

  blank_rests : (m : ℕ) → m < length o.hands → Rests o [] words (blank m)
  blank_rests m lt = record {
    exists = let n = h.count in omega arith;
    room = omega arith;
    below = λ x c. not_born x c;
    unborn = λ u c. absurd (let lt = c.1 in omega arith);
    fixed = λ f c. absurd (let lt = c.1 in omega arith);
  }

  -- the words of an opening meet the rule, with one seat that has every part
  module _ (views : List Seen) (id : ℕ) (others : (j : ℕ) (u : Seen) → j ≢ id → get_elem? views j ≡ some u → IsIdle u) where
    pub begins : (n : Keeps o words (set views id (whole o))) × (n.events ≡ [])
    begins = (
      record {
        is = h.is;
        placed = λ name node t e. let p = h.represents.tracked name node t e in (p.at, p.there);
        events = [];
        born = [];
        owner = λ m. id;
        scanner = id;
        legal = tt;
        stands = opens_stands;
        shared = shared_in;
        new = λ x c. not_born x c;
        known = λ name node e. inl (node, e, same_node node);
        queued = h.queued;
        agrees = λ j u at. ⊎_elim
            (λ (t : (j ≡ id) × (whole o ≡ u)). subst (λ (y : ℕ × Seen). Agrees o [] words [] (λ m. id) id y.0 y.1) (λ i. (sym t.0 i, t.1 i)) first)
            (λ (t : (j ≢ id) × (get_elem? views j ≡ some u)). idle_agrees o [] words [] (λ m. id) id j u (others j u t.0 t.1))
            (at_set views id j (whole o) u at);
      },
      refl,
    )
      where
        part_is : (m : ℕ) (hs : List Hand) (k : ℕ) (p : Part) → get_elem? (blanks m hs) k ≡ some p → (p ≡ blank (m + k)) × (k < length hs)
        part_is m [] k p e = absurd (some-ne-none p (sym e))
        part_is m (x ∷ hs) zero p e = (cc (some-injective (blank m) p e, let z : m ≡ m + 0 = omega arith in z), omega arith)
        part_is m (x ∷ hs) (suc k) p e = let r = part_is (suc m) hs k p e in
            (cc (r.0, let z : suc m + k ≡ m + suc k = omega arith in z), (let lt = r.1 in omega arith))

        first : Agrees o [] words [] (λ m. id) id id (whole o)
        first = record {
          shares = refl;
          opening = λ e. refl;
          parts = λ k p e.
              let r = part_is 0 o.hands k p e in
              let z : 0 + k ≡ k = omega arith in
              let is : blank k ≡ p = sym (cc (r.0, z)) in
              rw (← is) (refl, blank_fits k r.1, blank_rests k r.1);
          scans = λ e. (refl, tt, refl);
        }

  -- the same, if there is no other seat
  pub opens : (n : Keeps o words (whole o ∷ [])) × (n.events ≡ [])
  opens = begins (nobody ∷ []) 0 (λ j u n at. none j u n at)
    where
      none : (j : ℕ) (u : Seen) → j ≢ 0 → get_elem? (nobody ∷ []) j ≡ some u → IsIdle u
      none zero u n at = absurd (n refl)
      none (suc j) u n at = absurd (some-ne-none u (sym at))
