-- The objects found in the words are the tracked objects of the world.
use Rattle.nmgc_minor.proofs.Vocabulary.{◌≡◌, ◌≢◌, ◌<◌, ◌≤◌, ◌+◌, ◌*◌, ℕ, zero, suc, List, [], ◌∷◌, length, inl, inr, refl, sym, ap, subst, arith, Option, Some, None, Contains, slice_get, IsSome, mul-le-mul_right, cases_lt, eqb-false, eqb_tells, All-contains, Contains-append_left, Contains-append_right, Contains-append_cases, Name, Value, SHARED_MAKER, SHARED_SLOTS, Parts, Node, Con, Var, Arr, Thunk, Weak, Stack, World, node_of, state_of, held_by, IsKnown, IsNodeOf, IsShared, IsWorld, shared_name, strong_fields, RefersTo, IsRoot, IsAlive, IsReached, contains_head, contains_cases, contains_tail, at_some, is_some_of, contains_read, header_word, IsHeader, InNursery, nursery_place, Header, Layout, SHARED_PLACE, WEAK_FIELDS, HEADER_WORDS, Slot, holds, unset, unspecified, slots_of, IsWide, IsWideRoot, IsTracked, IsWideIn, Place, Means, Fills, Represents, NoNode, StillSpoken, strong_held, slot_tracked, tracked_more, held_where, stands, not_zero, field_in, field_out, strong_slot, Inputs, HasInputs, IsAliveAt, IsStart, IsFound, slice_index}
use Rattle.nmgc_world_spec.specs.declared.value.Value.TheVariants as value

-- an object that a world reaches is in it
reached_there : (e : World) → IsWorld e → (n : Name) → IsReached e (IsWideRoot e) n → IsSome (node_of e n)
reached_there e h n (IsReached.start _ (inl (inl g))) = subst (λ (x : Name). IsSome (node_of e x)) (sym g) refl
reached_there e h n (IsReached.start _ (inl (inr r))) = elim (Contains-append_cases (state_of e r.0).registers (state_of e r.0).queue (value.Ref n) r.1) [
  | inl c ↦ All-contains (IsKnown e) (state_of e r.0).registers (value.Ref n) (h.known_registers r.0) c
  | inr c ↦ All-contains (IsKnown e) (state_of e r.0).queue (value.Ref n) (h.known_queue r.0) c
]
reached_there e h n (IsReached.start _ (inr weak)) =
    let of = at_some (node_of e weak.0) (Weak (Some weak.1)) (IsNodeOf e) weak.2 (h.nodes weak.0) in
    let all = weak.1.key ∷ weak.1.value ∷ weak.1.finaliser ∷ [] in
    let part : Contains (weak.1.key ∷ weak.1.value ∷ weak.1.finaliser ∷ []) (value.Ref n) →
    IsSome (node_of e n) = λ c. All-contains (IsKnown e) (weak.1.key ∷ weak.1.value ∷ weak.1.finaliser ∷ []) (value.Ref n) of.known c in
    elim weak.3 [
      | inl s ↦ subst (λ (x : Name). IsSome (node_of e x)) (sym s) (let q : node_of e weak.0 ≡ Some (Weak (Some weak.1)) = weak.2 in rw q refl)
      | inr (inl k) ↦ part (0, omega arith, k)
      | inr (inr (inl v)) ↦ part (1, omega arith, v)
      | inr (inr (inr f)) ↦ part (2, omega arith, f)
    ]
reached_there e h n (IsReached.field m _ r refers) =
    let of = at_some (node_of e m) refers.0 (IsNodeOf e) refers.1 (h.nodes m) in
    All-contains (IsKnown e) (held_by refers.0) (value.Ref n) of.known (strong_held refers.0 (value.Ref n) refers.2)

-- a slot of g
pub shared_in : (node : Node) (i : ℕ) → IsShared node → i < SHARED_SLOTS → (v : Value) × (slice_get (slots_of node) i ≡ Some (holds v))
shared_in (Con tag values) i h lt = absurd h
shared_in (Var v) i h lt = absurd h
shared_in (Arr values) i h lt =
    let e = slot_read values i (omega (arith, h)) in e
  where
    slot_read : (values : List Value) (i : ℕ) → i < length values → (v : Value) × (slice_get (slots_of (Arr values)) i ≡ Some (holds v))
    slot_read [] i lt = absurd (omega arith)
    slot_read (x ∷ values) zero lt = (x, refl)
    slot_read (x ∷ values) (suc i) lt = slot_read values i (omega arith)
shared_in (Thunk free result) i h lt = absurd h
shared_in (Weak parts) i h lt = absurd h
shared_in (Stack size values) i h lt = absurd h

shared_out : (node : Node) (v : Value) → IsShared node → Contains (strong_fields node) v → (i : ℕ) × (i < SHARED_SLOTS) ×
    (slice_get (slots_of node) i ≡ Some (holds v))
shared_out (Con tag values) v h c = absurd h
shared_out (Var x) v h c = absurd h
shared_out (Arr values) v h c = let w = held_where values v c in (w.0, omega (arith, w.1, h), w.2)
shared_out (Thunk free result) v h c = absurd h
shared_out (Weak parts) v h c = absurd h
shared_out (Stack size values) v h c = absurd h

-- the shared array is the only object of its maker
pub is_shared_node : (w : World) (name : Name) (node : Node) → name.maker ≡ SHARED_MAKER → node_of w name ≡ Some node → node ≡ w.shared
is_shared_node w name node m e = elim (eqb_tells name.serial 0) [
  | inl z ↦ let f : node_of w name ≡ Some w.shared = rw (m, z.1) refl in cc
  | inr z ↦ let f : node_of w name ≡ None = rw (m, z.0) refl in cc
]

module _ (layout : Layout) (base : ℕ) (later earlier : List World) (places : List Place) (w : World) (words : List ℕ) (inputs : Inputs)
    (differ : (a b : Header) → IsHeader a → IsHeader b → header_word a ≡ header_word b → a ≡ b)
    (world : IsWorld w)
    (spoken : StillSpoken base later earlier places w)
    (emptied : base ≡ nursery_place layout 0)
    (r : Represents layout earlier NoNode places w words)
    (m : HasInputs base earlier places w inputs) where
  -- an object at or above the base lies in its maker's nursery
  pub in_nursery : (p : Place) → Contains places p → base ≤ p.at → InNursery layout p.name.maker p.at
  in_nursery p c l = elim (r.named p c).lies [
    | inl g ↦ absurd (omega (arith, g.1, emptied, l))
    | inr o ↦ elim o.1 [
      | inl s ↦
          let h = s.1 p.at (omega arith) (omega arith) in
          let up : (s.0 + 1) * layout.words ≤ layout.segments * layout.words = let e : s.0 + 1 ≤ layout.segments = omega (arith, h.exists) in
          mul-le-mul_right layout.words e in
          let flat : (s.0 + 1) * layout.words ≡ s.0 * layout.words + layout.words = omega arith in
          absurd (omega (arith, h.before, up, flat, emptied, l))
      | inr n ↦ n.1 p.at (omega arith) (omega arith)
    ]
  ]

  pub node_at : (name : Name) (at : ℕ) → Contains places (record { at = at; name = name }) → (node : Node) × (node_of w name ≡ Some node)
  node_at name at c = is_some_of (node_of w name) (r.named (record { at = at; name = name }) c).known

  -- the address of a found object
  Found : ℕ → Type 0
  Found at = IsFound base words (IsStart inputs words) at

  pointed : (word at : ℕ) → word ≡ 2 * at → base ≤ at → (v : Value) → Means (Contains places) word v →
      ((n : Name) → v ≡ value.Ref n → IsTracked w earlier n) → (n : Name) × Contains places (record { at = at; name = n }) × IsTracked w earlier n
  pointed word at e l value.Nil f t = absurd (omega (arith, e, f))
  pointed word at e l (value.Number n) f t = absurd (omega (arith, e, f))
  pointed word at e l (value.Ref n) f t = let s : f.0 ≡ at = omega (arith, f.1, e) in
      (n, subst (λ (k : ℕ). Contains places (record { at = k; name = n })) s f.2, t n refl)

  pub root_tracked : (n : Name) → IsRoot w n → IsTracked w earlier n
  root_tracked n h = IsReached.start n (w, contains_head w earlier, IsReached.start n (inl h))

  pub shared_tracked : IsTracked w earlier shared_name
  shared_tracked = root_tracked shared_name (inl refl)

  -- a slot of a tracked object that points into a nursery holds a tracked name
  slot_pointed : (name : Name) (node : Node) (word at : ℕ) (slot : Slot) → word ≡ 2 * at → base ≤ at → IsTracked w earlier name →
      node_of w name ≡ Some node → Contains (slots_of node) slot → slot ≢ unspecified → Fills (Contains places) word slot → (n : Name) ×
      Contains places (record { at = at; name = n }) × IsTracked w earlier n
  slot_pointed name node word at (holds v) e l t is c is_known f =
      pointed word at e l v f (λ n s. slot_tracked w earlier name node n t is (subst (λ (x : Value). Contains (slots_of node) (holds x)) s c))
  slot_pointed name node word at unset e l t is c is_known f = absurd (omega (arith, e, f, l, emptied))
  slot_pointed name node word at unspecified e l t is c is_known f = absurd (is_known refl)

  -- a new weak pointer that is alive
  pub weak_alive : (at : ℕ) → Contains inputs.weaks at → IsAliveAt words at → (name : Name) × (parts : Parts) ×
      Contains places (record { at = at; name = name }) × IsAlive w name parts
  weak_alive at c alive =
      let h = m.left.weak_places at c in
      go h.0 h.1 h.2 h.3 h.4
    where
      go : (name : Name) (parts : Option Parts) → Contains places (record { at = at; name = name }) → base ≤ at →
          node_of w name ≡ Some (Weak parts) → (name : Name) × (parts : Parts) × Contains places (record { at = at; name = name }) × IsAlive w name parts
      go name None there l is = absurd (alive ((r.born (record {
        at = at;
        name = name;
      }) (Weak None) there (in_nursery (record { at = at; name = name }) there l) is).1 refl))
      go name (Some parts) there l is = (name, parts, there, is)

  pub weak_tracked : (name : Name) (parts : Parts) → IsAlive w name parts → IsTracked w earlier name
  weak_tracked name parts alive = IsReached.start name (w, contains_head w earlier, IsReached.start name (inr (name, parts, alive, inl refl)))

  pub weak_slot : (parts : Parts) (i : ℕ) → i < WEAK_FIELDS → (v : Value) × (slice_get (slots_of (Weak (Some parts))) i ≡ Some (holds v))
  weak_slot parts zero l = (parts.key, refl)
  weak_slot parts (suc zero) l = (parts.value, refl)
  weak_slot parts (suc (suc zero)) l = (parts.finaliser, refl)
  weak_slot parts (suc (suc (suc i))) l = absurd (omega arith)

  known_holds : (v : Value) → holds v ≢ unspecified
  known_holds v e = cc

  pub started : (at : ℕ) → base ≤ at → IsStart inputs words (2 * at) → (n : Name) × Contains places (record { at = at; name = n }) × IsTracked w earlier n
  started at l (IsStart.register c) =
      let h = m.held (2 * at) c in
      pointed (2 * at) at refl l h.1 h.3 (λ n s. root_tracked n (inr (
        h.0,
        Contains-append_left (state_of w h.0).registers (state_of w h.0).queue (value.Ref n) (subst (λ (x : Value).
            Contains (state_of w h.0).registers x) s h.2),
      )))
  started at l (IsStart.queued queue c d) =
      let h = m.waiting queue (2 * at) c d in
      pointed (2 * at) at refl l h.1 h.3 (λ n s. root_tracked n (inr (
        h.0,
        Contains-append_right (state_of w h.0).registers (state_of w h.0).queue (value.Ref n) (subst (λ (x : Value).
            Contains (state_of w h.0).queue x) s h.2),
      )))
  started at l (IsStart.shared i lt e) =
      let p = r.tracked shared_name w.shared shared_tracked refl in
      let g : p.at ≡ SHARED_PLACE = elim p.object.lies [ inl g ↦ g.1 | inr o ↦ absurd (o.0 refl) ] in
      let s = shared_in w.shared i world.shared lt in
      let f = subst (λ (k : ℕ). Means (Contains places) (slice_index words (k + HEADER_WORDS + i)) s.0) g (p.fields i (holds s.0) s.1) in
      slot_pointed shared_name w.shared (slice_index words (SHARED_PLACE + HEADER_WORDS + i)) at (holds s.0) e l shared_tracked refl
      (contains_read (slots_of w.shared) i (holds s.0) s.1) (known_holds s.0) f
  started at l (IsStart.recorded from c e) =
      let h = m.left.fields from c in
      let p = h.0 in
      let o = stands layout earlier NoNode places w words differ world r p.name h.1 p.at h.5 h.6 h.4 in
      let f = o.fields h.2 h.3 h.7 in
      slot_pointed p.name h.1 (slice_index words from) at h.3 e l h.5 h.6 (contains_read (slots_of h.1) h.2 h.3 h.7) h.8 (subst (λ (k : ℕ).
      Fills (Contains places) (slice_index words k) h.3) (sym h.9) f)
  started at l (IsStart.weak from c alive e) =
      let h = weak_alive from c alive in
      let s : from ≡ at = omega (arith, e) in
      (h.0, subst (λ (k : ℕ). Contains places (record { at = k; name = h.0 })) s h.2, weak_tracked h.0 h.1 h.3)
  started at l (IsStart.part from i c alive lt e) =
      let h = weak_alive from c alive in
      let t = weak_tracked h.0 h.1 h.3 in
      let o = stands layout earlier NoNode places w words differ world r h.0 (Weak (Some h.1)) from t h.3 h.2 in
      let s = weak_slot h.1 i lt in
      slot_pointed h.0 (Weak (Some h.1)) (slice_index words (from + HEADER_WORDS + i)) at (holds s.0) e l t h.3
      (contains_read (slots_of (Weak (Some h.1))) i (holds s.0) s.1) (known_holds s.0) (o.fields i (holds s.0) s.1)

  -- a found object is a tracked object
  pub found_tracked : (at : ℕ) → IsFound base words (IsStart inputs words) at → (n : Name) × Contains places (record { at = at; name = n }) ×
      IsTracked w earlier n
  found_tracked at (IsFound.start _ l s) = started at l s
  found_tracked at (IsFound.field from _ found l h) =
      let f = found_tracked from found in
      let node = node_at f.0 from f.1 in
      let to = field_in layout earlier NoNode places w words differ world r f.0 node.0 from at f.2 node.1 f.1 (omega (arith, l, emptied)) h in
      (to.0, to.1, IsReached.field f.0 to.0 f.2 to.2)

  -- a reference represents the only address of its name
  at_place : (n : Name) (word at : ℕ) → Means (Contains places) word (value.Ref n) → Contains places (record { at = at; name = n }) → word ≡ 2 * at
  at_place n word at f c =
      let s : f.0 ≡ at = ap (λ (x : Place). x.at) (r.one (record { at = f.0; name = n }) (record { at = at; name = n }) f.2 c (inl refl)) in cc (f.1, s)

  -- if a tracked object is found when it lies in a nursery, so is an object to which it refers
  pub followed : (name n : Name) (at to : ℕ) → IsTracked w earlier name → Contains places (record { at = at; name = name }) →
      (base ≤ at → IsFound base words (IsStart inputs words) at) → RefersTo w name n → Contains places (record { at = to; name = n }) → base ≤ to →
      IsFound base words (IsStart inputs words) to
  followed name n at to te c found refers d l =
      let o = stands layout earlier NoNode places w words differ world r name refers.0 at te refers.1 c in
      elim (cases_lt at base) [
        | inr young ↦ IsFound.field at to (found young) l (field_out layout earlier NoNode places w words differ world r name refers.0 at n to te
            refers.1 c refers.2 d)
        | inl old ↦ elim o.object.lies [
          | inl g ↦
              let same = is_shared_node w name refers.0 g.0 refers.1 in
              let shared : IsShared refers.0 = subst (λ (x : Node). IsShared x) (sym same) world.shared in
              let s = shared_out refers.0 (value.Ref n) shared refers.2 in
              let word = at_place n (slice_index words (at + HEADER_WORDS + s.0)) to (o.fields s.0 (holds (value.Ref n)) s.2) d in
              IsFound.start to l (IsStart.shared s.0 s.1 (subst (λ (k : ℕ). slice_index words (k + HEADER_WORDS + s.0) ≡ 2 * to) g.1 word))
          | inr other ↦
              let s = strong_slot refers.0 (value.Ref n) refers.2 in
              let word = at_place n (slice_index words (at + HEADER_WORDS + s.0)) to (o.fields s.0 (holds (value.Ref n)) s.1) d in
              IsFound.start to l (IsStart.recorded (at + HEADER_WORDS + s.0) (m.left.all_fields (record { at = at; name = name }) (record {
                at = to;
                name = n;
              }) refers.0 s.0 c old other.0 te refers.1 s.1 d l) word)
        ]
      ]

  -- tracked nursery objects are found
  reached_found : (P : Name → Type 0) → ((n : Name) → P n → IsTracked w later n) →
      ((n : Name) (to : ℕ) → P n → Contains places (record { at = to; name = n }) → base ≤ to → IsFound base words (IsStart inputs words) to) →
      (n : Name) (to : ℕ) → IsReached w P n → Contains places (record { at = to; name = n }) → base ≤ to → IsTracked w later n ×
      IsFound base words (IsStart inputs words) to
  reached_found P tracked first n to (IsReached.start _ p) d l = (tracked n p, first n to p d l)
  reached_found P tracked first n to (IsReached.field name _ h refers) d l =
      let tn = reached_tracked name h in
      let p = r.tracked name refers.0 (tracked_more w later earlier (λ x d. contains_tail w earlier x (spoken.fewer x d)) name tn) refers.1 in (
        IsReached.field name n tn refers,
        followed name n p.at to (tracked_more w later earlier (λ x d.
            contains_tail w earlier x (spoken.fewer x d)) name tn) p.there (λ young. (reached_found P tracked first name p.at h p.there young).1) refers d l,
      )
    where
      reached_tracked : (x : Name) → IsReached w P x → IsTracked w later x
      reached_tracked x (IsReached.start _ p) = tracked x p
      reached_tracked x (IsReached.field y _ h f) = IsReached.field y x (reached_tracked y h) f

  wide_tracked : (n : Name) → IsWideRoot w n → IsTracked w later n
  wide_tracked n h = IsReached.start n (w, contains_head w later, IsReached.start n h)

  -- a part of a live weak pointer
  part_found : (weak : Name) (parts : Parts) (i : ℕ) (n : Name) (to : ℕ) → IsAlive w weak parts → i < WEAK_FIELDS →
      slice_get (slots_of (Weak (Some parts))) i ≡ Some (holds (value.Ref n)) → Contains places (record { at = to; name = n }) → base ≤ to →
      IsFound base words (IsStart inputs words) to
  part_found weak parts i n to alive lt s d l =
      let te = weak_tracked weak parts alive in
      let p = r.tracked weak (Weak (Some parts)) te alive in
      let word = at_place n (slice_index words (p.at + HEADER_WORDS + i)) to (p.fields i (holds (value.Ref n)) s) d in
      let set = not_zero layout earlier NoNode places w words differ world r parts.value (slice_index words (p.at + HEADER_WORDS + 1))
      (p.fields 1 (holds parts.value) refl) in
      elim (cases_lt p.at base) [
        | inr young ↦ IsFound.start to l (IsStart.part p.at i (m.left.all_weaks (record {
          at = p.at;
          name = weak;
        }) parts p.there young alive) (eqb-false (slice_index words (p.at + HEADER_WORDS + 1)) 0 set) lt word)
        | inl old ↦ elim p.object.lies [
          | inl g ↦ absurd (not_weak w.shared world.shared (is_shared_node w weak (Weak (Some parts)) g.0 alive))
          | inr other ↦ IsFound.start to l (IsStart.recorded (p.at + HEADER_WORDS + i) (m.left.all_fields (record {
            at = p.at;
            name = weak;
          }) (record { at = to; name = n }) (Weak (Some parts)) i p.there old other.0 te alive s d l) word)
        ]
      ]
    where
      not_weak : (node : Node) → IsShared node → Weak (Some parts) ≡ node → ⊥
      not_weak node h e = let k : IsShared (Weak (Some parts)) = subst (λ (x : Node). IsShared x) (sym e) h in k

  pub root_found : (n : Name) (to : ℕ) → IsWideRoot w n → Contains places (record { at = to; name = n }) → base ≤ to →
      IsFound base words (IsStart inputs words) to
  root_found n to (inl (inl g)) d l =
      let node = node_at n to d in
      let h = in_nursery (record { at = to; name = n }) d l in
      let e : n.maker ≡ SHARED_MAKER = ap (λ (x : Name). x.maker) g in
      elim (r.named (record { at = to; name = n }) d).lies [
        | inl s ↦ absurd (omega (arith, s.1, emptied, l))
        | inr o ↦ absurd (o.0 e)
      ]
  root_found n to (inl (inr h)) d l = elim (Contains-append_cases (state_of w h.0).registers (state_of w h.0).queue (value.Ref n) h.1) [
    | inl c ↦
        let a = m.holds_all h.0 n c in
        let s : a.0 ≡ to = ap (λ (x : Place). x.at) (r.one (record { at = a.0; name = n }) (record { at = to; name = n }) a.2 d (inl refl)) in
        IsFound.start to l (IsStart.register (subst (λ (k : ℕ). Contains inputs.registers (2 * k)) s a.1))
    | inr c ↦
        let a = m.waits_all h.0 n c in
        let s : a.0 ≡ to = ap (λ (x : Place). x.at) (r.one (record { at = a.0; name = n }) (record { at = to; name = n }) a.4 d (inl refl)) in
        IsFound.start to l (IsStart.queued a.1 a.2 (subst (λ (k : ℕ). Contains a.1 (2 * k)) s a.3))
  ]
  root_found n to (inr (weak, parts, alive, inl s)) d l =
      let is : IsAlive w n parts = subst (λ (x : Name). IsAlive w x parts) (sym s) alive in
      let te = weak_tracked n parts is in
      let o = stands layout earlier NoNode places w words differ world r n (Weak (Some parts)) to te is d in
      let set = not_zero layout earlier NoNode places w words differ world r parts.value (slice_index words (to + HEADER_WORDS + 1))
      (o.fields 1 (holds parts.value) refl) in
      IsFound.start to l (IsStart.weak to (m.left.all_weaks (record {
        at = to;
        name = n;
      }) parts d l is) (eqb-false (slice_index words (to + HEADER_WORDS + 1)) 0 set) refl)
  root_found n to (inr (weak, parts, alive, inr (inl k))) d l = part_found weak parts 0 n to alive (omega arith) (ap (λ (x : Value). Some (holds x)) k) d l
  root_found n to (inr (weak, parts, alive, inr (inr (inl v)))) d l =
      part_found weak parts 1 n to alive (omega arith) (ap (λ (x : Value). Some (holds x)) v) d l
  root_found n to (inr (weak, parts, alive, inr (inr (inr f)))) d l =
      part_found weak parts 2 n to alive (omega arith) (ap (λ (x : Value). Some (holds x)) f) d l

  wide_found : (n : Name) (to : ℕ) → IsWideIn (w ∷ later) n → Contains places (record { at = to; name = n }) → base ≤ to →
      IsFound base words (IsStart inputs words) to
  wide_found n to (e, c, h) d l = elim (contains_cases w later e c) [
    | inl s ↦ (reached_found (IsWideRoot w) wide_tracked root_found n to (subst (λ (x : World). IsWide x n) (sym s) h) d l).1
    | inr c' ↦
        let known = reached_there e (spoken.past e c').world n h in
        let old = spoken.outside e (record { at = to; name = n }) c' d known in
        absurd (omega (arith, old, l))
  ]

  -- nursery objects that are tracked afterwards are found
  pub tracked_found : (n : Name) (to : ℕ) → IsTracked w later n → Contains places (record { at = to; name = n }) → base ≤ to →
      IsFound base words (IsStart inputs words) to
  tracked_found n to t d l = (reached_found (IsWideIn (w ∷ later)) (λ x h. IsReached.start x h) wide_found n to t d l).1
