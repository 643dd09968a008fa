-- The words that a round leaves represent the world after it.
use Rattle.nmgc_round.proofs.Vocabulary.{Bool, true, false, cond, ◌≡◌, inl, inr, ℕ, ◌+◌, List, [], ◌∷◌, map, length, refl, sym, ap, subst, ◌∙◌, arith, slice_index, Some, None, Contains, cases_lt, get_or_past, Contains-append_left, Contains-append_right, Contains-append_cases, item_of, one_is, contains_head, contains_tail, contains_cases, Name, Value, Parts, Node, Con, Var, Arr, Thunk, Weak, Stack, World, node_of, state_of, no_mutator, shared_name, IsAlive, strong_fields, IsReached, start, field, IsWideRoot, IsOfWeak, Header, SHARED_PLACE, HEADER_WORDS, size_of, unset, fixed_slots, free_slots, IsWideIn, IsTracked, Place, Means, HasSlots, AllMean, ListMeans, IsObjectAt, Represents, HasFields, fields_of_slots, Opening, Seen, hand_now, Object, place_of, earlier, IsObject, IsIn, IsPlace, now, IsFinished, HasEach, Leaves, places_then, IsKeptThen, same_count}
use Rattle.nmgc_world_spec.specs.declared.value.Value.TheVariants as value
use Rattle.nmgc_round.proofs.{Standing.placed, Fields.fields_same, Fields.fixed_same, Fields.free_same, Fields.free_of_fixed}

-- an object's address is in the list
contains_map : (xs : List Object) (x : Object) → Contains xs x → Contains (map place_of xs) (place_of x)
contains_map [] x c = absurd (let lt = c.1 in omega arith)
contains_map (y ∷ ys) x c = elim (contains_cases y ys x c) [
  | inl e ↦ rw (← (ap place_of e)) (contains_head (place_of y) (map place_of ys))
  | inr d ↦ contains_tail (place_of y) (map place_of ys) (place_of x) (contains_map ys x d)
]

map_contains : (xs : List Object) (p : Place) → Contains (map place_of xs) p → (x : Object) × Contains xs x × (place_of x ≡ p)
map_contains [] p c = absurd (let lt = c.1 in omega arith)
map_contains (y ∷ ys) p c = elim (contains_cases (place_of y) (map place_of ys) p c) [
  | inl e ↦ (y, contains_head y ys, e)
  | inr d ↦ let r = map_contains ys p d in (r.0, contains_tail y ys r.0 r.1, r.2)
]

-- a reference among values has an address
list_refers : (P : Place → Type 0) (ws : List ℕ) (vs : List Value) (name : Name) → ListMeans P ws vs → Contains vs (value.Ref name) → (at : ℕ) ×
    P (record { at = at; name = name })
list_refers P [] [] name h c = absurd (let lt = c.1 in omega arith)
list_refers P [] (v ∷ vs) name h c = absurd h
list_refers P (w ∷ ws) [] name h c = absurd h
list_refers P (w ∷ ws) (v ∷ vs) name h c = elim (contains_cases v vs (value.Ref name) c) [
  | inl e ↦ let m : Means P w (value.Ref name) = rw e at h.0 in (m.0, m.2)
  | inr d ↦ list_refers P ws vs name h.1 d
]

all_refers : (P : Place → Type 0) (words : List ℕ) (from : ℕ) (vs : List Value) (name : Name) → AllMean P words from vs →
    Contains vs (value.Ref name) → (at : ℕ) × P (record { at = at; name = name })
all_refers P words from vs name h c = let t = item_of vs (value.Ref name) c in let m = h t.0 (value.Ref name) t.1 in (m.0, m.2)

-- a strong field that is a reference has an address
strong_refers : (P : Place → Type 0) (words : List ℕ) (from : ℕ) (n : Node) (name : Name) → HasFields P words from n →
    Contains (strong_fields n) (value.Ref name) → (at : ℕ) × P (record { at = at; name = name })
strong_refers P words from (Con tag values) name h c = all_refers P words from values name h c
strong_refers P words from (Var v) name h c = list_refers P (slice_index words from ∷ []) (v ∷ []) name (h, tt) c
strong_refers P words from (Arr values) name h c = all_refers P words from values name h c
strong_refers P words from (Thunk free None) name h c = all_refers P words (from + 1) free name h.1 c
strong_refers P words from (Thunk free (Some r)) name h c = list_refers P (slice_index words from ∷ []) (r ∷ []) name (h, tt) c
strong_refers P words from (Weak parts) name h c = absurd (let lt = c.1 in omega arith)
strong_refers P words from (Stack size values) name h c = all_refers P words from values name h.0 c

module _ (o : Opening) (words : List ℕ) (v : Seen) (h : IsFinished o words v) (each : HasEach o v) where
  abbrev W : World
  W = (now o h.events).world

  abbrev P : Place → Type 0
  P = IsIn o h.born

  count : length W.mutators ≡ length o.core.world.mutators
  count = same_count o.core h.events h.legal

  abbrev places : List Place
  places = places_then o h.born

  listed : (p : Place) → IsPlace o h.born p → Contains places p
  listed p (inl c) = Contains-append_left o.places (map place_of h.born) p c
  listed p (inr t) = Contains-append_right o.places (map place_of h.born) p (rw t.2 at (contains_map h.born t.0 t.1))

  is_place : (p : Place) → Contains places p → IsPlace o h.born p
  is_place p c = elim (Contains-append_cases o.places (map place_of h.born) p c) [ inl d ↦ inl d | inr d ↦ inr (map_contains h.born p d) ]

  in_listed : (p : Place) → P p → Contains places p
  in_listed p (node, inl old) = listed p (inl old.there)
  in_listed p (node, inr c) = listed p (inr (record { at = p.at; name = p.name; node = node }, c, refl))

  -- a name that is in the world has its object
  abbrev IsHere : Name → Type 0
  IsHere name = (node : Node) → node_of W name ≡ Some node → (x : Object) × IsObject o h.born x × (x.name ≡ name)

  in_here : (at : ℕ) (name : Name) → P (record { at = at; name = name }) → IsHere name
  in_here at name p node e = (record { at = at; name = name; node = p.0 }, p.1, refl)

  -- a name that was tracked when the round began has its object
  old_here : (name : Name) → IsTracked o.core.world (earlier o) name → IsHere name
  old_here name t node e = elim (h.known name node e) [
    | inl k ↦ let place = h.placed name k.0 t k.1 in (
      record { at = place.0; name = name; node = k.0 },
      inl (record { there = place.1; tracked = t; node = k.1 }),
      refl,
    )
    | inr k ↦ (k.0, inr k.1, k.2)
  ]

  -- strong fields of names with objects reach names with objects
  reached_here : (R : Name → Type 0) → ((name : Name) → R name → IsHere name) → (name : Name) → IsReached W R name → IsHere name
  reached_here R from name (start n r) = from n r
  reached_here R from name (field n target r refers) =
      let t = reached_here R from n r refers.0 refers.1 in
      let st = h.stands.objects t.0 t.1 in
      let same : Some st.node ≡ Some refers.0 = cc (st.there, t.2, refers.1) in
      let is : st.node ≡ refers.0 = cc in
      let place = strong_refers P words (t.0.at + HEADER_WORDS) st.node target (fields_of_slots P words (t.0.at + HEADER_WORDS) st.node st.fields)
      (rw is refers.2) in
      in_here place.0 target place.1

  -- an alive weak pointer was tracked when the round began, or is new; so are its parts
  weak_here : (weak : Name) (parts : Parts) → IsAlive W weak parts → (x : Object) × IsObject o h.born x × (x.name ≡ weak)
  weak_here weak parts alive = elim (h.known weak (Weak (Some parts)) alive) [
    | inl k ↦
        let before : k.0 ≡ Weak (Some parts) = k.2.alive parts refl in
        let alive' : IsAlive o.core.world weak parts = cc (k.1, before) in
        old_here weak (start weak (
          o.core.world,
          contains_head o.core.world (earlier o),
          start weak (inr (weak, parts, alive', inl refl)),
        )) (Weak (Some parts)) alive
    | inr k ↦ (k.0, inr k.1, k.2)
  ]

  part_here : (weak : Name) (parts : Parts) (name : Name) → IsAlive W weak parts → IsOfWeak weak parts name → IsHere name
  part_here weak parts name alive of node e =
      let t = weak_here weak parts alive in
      let st = h.stands.objects t.0 t.1 in
      let same : Some st.node ≡ Some (Weak (Some parts)) = cc (st.there, t.2, alive) in
      let is : st.node ≡ Weak (Some parts) = cc in
      let f = fields_of_slots P words (t.0.at + HEADER_WORDS) (Weak (Some parts)) (rw is at st.fields) in
      let ws : List ℕ = slice_index words (t.0.at + HEADER_WORDS) ∷ slice_index words (t.0.at + HEADER_WORDS + 1) ∷
      slice_index words (t.0.at + HEADER_WORDS + 2) ∷ [] in
      let vs : List Value = parts.key ∷ parts.value ∷ parts.finaliser ∷ [] in
      let by_place : Contains vs (value.Ref name) → (x : Object) × IsObject o h.born x ×
      (x.name ≡ name) = λ c. let place = list_refers P ws vs name (f.0, (f.1, (f.2, tt))) c in in_here place.0 name place.1 node e in
      elim of [
        | inl k ↦ (t.0, t.1, t.2 ∙ sym k)
        | inr a ↦ elim a [
          | inl k ↦ by_place (rw (← k) (contains_head parts.key (parts.value ∷ parts.finaliser ∷ [])))
          | inr b ↦ elim b [
            | inl k ↦ by_place (rw (← k) (contains_tail parts.key (parts.value ∷ parts.finaliser ∷
                []) parts.value (contains_head parts.value (parts.finaliser ∷ []))))
            | inr k ↦ by_place (rw (← k) (contains_tail parts.key (parts.value ∷ parts.finaliser ∷
                []) parts.finaliser (contains_tail parts.value (parts.finaliser ∷ []) parts.finaliser (contains_head parts.finaliser []))))
          ]
        ]
      ]

  -- a root has its object
  root_here : (name : Name) → IsWideRoot W name → IsHere name
  root_here name (inl (inl e)) = subst IsHere (sym e) (in_here SHARED_PLACE shared_name h.shared)
  root_here name (inl (inr (m, c))) = elim (cases_lt m (length W.mutators)) [
    | inl lt ↦
        let t = each m (rw count at lt) in
        let k = (h.parts t.0 t.1 t.2).0.hand in
        elim (Contains-append_cases (state_of W m).registers (state_of W m).queue (value.Ref name) c) [
          | inl d ↦ let place = list_refers P (hand_now o t.1).registers (state_of W t.1.number).registers name k.registers (rw t.3 d) in
              in_here place.0 name place.1
          | inr d ↦ let place = list_refers P (hand_now o t.1).queue (state_of W t.1.number).queue name k.queue (rw t.3 d) in
              in_here place.0 name place.1
        ]
    | inr le ↦
        let none : state_of W m ≡ no_mutator = get_or_past W.mutators m no_mutator le in
        let bad : Contains [] (value.Ref name) = rw none at c in
        absurd (let lt = bad.1 in omega arith)
  ]
  root_here name (inr (weak, parts, alive, of)) = part_here weak parts name alive of

  wide_here : (name : Name) → IsWideIn (W ∷ o.core.world ∷ earlier o) name → IsHere name
  wide_here name (e, c, wide) = elim (contains_cases W (o.core.world ∷ earlier o) e c) [
    | inl same ↦ reached_here (IsWideRoot W) root_here name (rw same wide)
    | inr d ↦ old_here name (start name (e, d, wide))
  ]

  tracked_here : (name : Name) → IsTracked W (o.core.world ∷ earlier o) name → IsHere name
  tracked_here name t = reached_here (IsWideIn (W ∷ o.core.world ∷ earlier o)) wide_here name t

  -- an object in the representation's terms
  object_then : (x : Object) (hx : IsObject o h.born x) → IsObjectAt o.layout places words (place_of x) (h.stands.objects x hx).node
  object_then x hx =
      let st = h.stands.objects x hx in
      let a = h.stands.apart x hx in
      let n : size_of st.node ≡ size_of x.node = ap (λ (k : Header). HEADER_WORDS + k.fields) st.later.header in
      record {
        header = cc (st.header, st.later.header);
        valid = rw st.later.header a.valid;
        lies = rw n a.lies;
        alone = λ q c. elim (a.alone q (is_place q c)) [ inl l ↦ inl l | inr l ↦ inr (omega arith) ];
      }

  -- the words represent the world after the round
  pub represents : Represents o.layout (o.core.world ∷ earlier o) (IsKeptThen o h.born) places W words
  represents = record {
    total = h.stands.total;
    one = λ p q c d e. h.stands.one p q (is_place p c) (is_place q d) e;
    named = λ p c. h.stands.named p (is_place p c);
    tracked = λ name node t e.
        let x = tracked_here name t node e in
        let st = h.stands.objects x.0 x.1 in
        let same : Some st.node ≡ Some node = cc (st.there, x.2, e) in
        let is : st.node ≡ node = cc in
        let named = ap (λ (n : Name). let p : Place = record { at = x.0.at; name = n } in p) x.2 in
        record {
          at = x.0.at;
          there = rw named at (in_listed (place_of x.0) (x.0.node, x.1));
          object = rw (← named) (rw is at (object_then x.0 x.1));
          fields = rw is at (fields_same P (Contains places) in_listed words words (x.0.at + HEADER_WORDS) st.node st.sized (λ j lo hi. refl) st.fields);
          free = λ w before c k. free_then x.0 x.1 x.2 w before c k;
          kept = λ before k. kept_then x.0 x.1 x.2 before k;
        };
    born = λ p node c in_ e. elim (is_place p c) [
      | inl d ↦ elim (h.is.in_segments p d p.name.maker in_.exists) [
        | inl l ↦ absurd (let a = in_.from in omega arith)
        | inr l ↦
            absurd (let a = in_.before in omega arith)
      ]
      | inr t ↦
          let hx : IsObject o h.born t.0 = inr t.1 in
          let st = h.stands.objects t.0 hx in
          let same : Some st.node ≡ Some node = sym st.there ∙ ap (λ (q : Place). node_of W q.name) t.2 ∙ e in
          let is : st.node ≡ node = cc in (
            rw (← t.2) (rw is at (object_then t.0 hx)),
            λ dead. let f = rw (is ∙ dead) at st.fields in
                rw (← t.2) (f 1 unset refl),
          )
    ];
    zeros = h.stands.zeros;
  }
    where
      kept_then : (x : Object) → IsObject o h.born x → {name : Name} → x.name ≡ name → (before : Node) → IsKeptThen o h.born name before →
          HasSlots (Contains places) words (x.at + HEADER_WORDS) (fixed_slots before)
      kept_then x hx e before (y, hy, named, k) =
          let at : y.at ≡ x.at =
          ap (λ (p : Place). p.at) (h.stands.one (place_of y) (place_of x) (placed o h.born y hy) (placed o h.born x hx) (inl (named ∙ sym e))) in
          rw at at (fixed_same P (Contains places) in_listed words words (y.at + HEADER_WORDS) before (λ j lo hi never.
          refl) ((h.stands.objects y hy).kept before (inl k)).1)

      free_in_opening : (x : Object) → IsObject o h.born x → (before : Node) → node_of o.core.world x.name ≡ Some before →
          HasSlots (Contains places) words (x.at + HEADER_WORDS) (free_slots before)
      free_in_opening x (inl old) before e =
          let first : before ≡ x.node = let t : Some before ≡ Some x.node = sym e ∙ old.node in cc in
          free_same P (Contains places) in_listed words words (x.at + HEADER_WORDS) before (λ j lo hi never.
          refl) (free_of_fixed P words (x.at + HEADER_WORDS) before ((h.stands.objects x (inl old)).kept before (inl first)).1)
      free_in_opening x (inr c) before e = let bad : None ≡ Some before = sym (h.new x c).unknown ∙ e in absurd cc

      free_in_snapshot : (x : Object) → IsObject o h.born x → o.marking ≡ true → (before : Node) → node_of o.core.snapshot x.name ≡ Some before →
          HasSlots (Contains places) words (x.at + HEADER_WORDS) (free_slots before)
      free_in_snapshot x (inl old) m before e =
          free_same P (Contains places) in_listed words words (x.at + HEADER_WORDS) before (λ j lo hi never. refl)
          ((h.stands.objects x (inl old)).kept before (inr (record {
            marking = m;
            wide = h.is.wide m x old (rw e refl);
            there = e;
          }))).1
      free_in_snapshot x (inr c) m before e = let bad : None ≡ Some before = sym (h.new x c).no_snapshot ∙ e in absurd cc

      in_earlier : (b : Bool) → o.marking ≡ b → (e : World) → Contains (cond b (o.core.snapshot ∷ []) []) e → (o.marking ≡ true) × (o.core.snapshot ≡ e)
      in_earlier true m e c = (m, one_is o.core.snapshot e c)
      in_earlier false m e c = absurd (let lt = c.1 in omega arith)

      free_then : (x : Object) → IsObject o h.born x → {name : Name} → x.name ≡ name → (e : World) (before : Node) →
          Contains (o.core.world ∷ earlier o) e → node_of e name ≡ Some before → HasSlots (Contains places) words (x.at + HEADER_WORDS) (free_slots before)
      free_then x hx named e before c there = elim (contains_cases o.core.world (earlier o) e c) [
        | inl same ↦ free_in_opening x hx before (cc (same, named, there))
        | inr d ↦ let s = in_earlier o.marking refl e d in free_in_snapshot x hx s.0 before (cc (s.1, named, there))
      ]

pub leaves : (o : Opening) (words : List ℕ) (v : Seen) → IsFinished o words v → HasEach o v → Leaves o words v
leaves o words v h each = (h, represents o words v h each)
