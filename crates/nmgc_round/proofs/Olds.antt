-- The stacks that an opening lists for a mutator are its own: each tracked stack that it made has its words there.
use Rattle.nmgc_round.proofs.Vocabulary.{◌≡◌, ◌≢◌, inl, inr, ℕ, suc, ◌+◌, ◌<◌, Bool, true, false, cond, eqb, List, [], ◌∷◌, ◌++◌, map, refl, sym, ap, ◌∙◌, arith, slice_index, Option, Some, None, eq-eqb, ne_eqb, true≢false, Contains, slice_get, cases_eq, Name, Value, Node, Con, Var, Arr, Thunk, Weak, Stack, World, node_of, is_same_name, contains_head, contains_tail, contains_cases, item_left, item_map, contains_read, is_some_of, HEADER_WORDS, holds, slots_of, IsTracked, Place, Means, ListMeans, fields_of_slots, slot_tracked, Slots, Opening, hand_of, place_of, IsIn, earlier, slots_at, OwnSlots, place_named, word_in, slots_of_node, stacks_at, old_stacks, CanOpen, name_itself}
use Rattle.nmgc_snapshot_laws.specs.laws.Listed.{tested_same as same_name}
use Rattle.nmgc_world_spec.specs.declared.value.Value.TheVariants as value

-- a name with an address has the one that is found
place_there : (ps : List Place) (name : Name) (at : ℕ) → Contains ps (record { at = at; name = name }) →
    Contains ps (record { at = place_named ps name; name = name })
place_there [] name at c = absurd (let lt = c.1 in omega arith)
place_there (p ∷ ps) name at c = by_test (λ d. place_there ps name at d) (is_same_name p.name name) refl
  where
    by_test : (Contains ps (record { at = at; name = name }) → Contains ps (record { at = place_named ps name; name = name })) → (b : Bool) →
        is_same_name p.name name ≡ b → Contains (p ∷ ps) (record { at = place_named (p ∷ ps) name; name = name })
    by_test rest true e =
        let here : p.at ≡ place_named (p ∷ ps) name = ap (λ t. cond t p.at (place_named ps name)) (sym e) in
        let named : p.name ≡ name = same_name p.name name e in
        let is : p ≡ record { at = place_named (p ∷ ps) name; name = name } = λ i. record { at = here i; name = named i } in
        rw (← is) (contains_head p ps)
    by_test rest false e = elim (contains_cases p ps (record { at = at; name = name }) c) [
      | inl same ↦ absurd (true≢false (cc (name_itself p.name name (ap (λ (q : Place). q.name) same), e)))
      | inr d ↦
          let there : place_named ps name ≡ place_named (p ∷ ps) name = ap (λ t. cond t p.at (place_named ps name)) (sym e) in
          rw there at (contains_tail p ps (record { at = place_named ps name; name = name }) (rest d))
    ]

-- stacks elsewhere don't matter
skip_node : (places : List Place) (at y : ℕ) (o : Option Node) (rest : List Slots) → at ≢ y → slots_at (slots_of_node places at o ++ rest) y ≡ slots_at rest y
skip_node places at y None rest ne = refl
skip_node places at y (Some (Con tag values)) rest ne = refl
skip_node places at y (Some (Var v)) rest ne = refl
skip_node places at y (Some (Arr values)) rest ne = refl
skip_node places at y (Some (Thunk free result)) rest ne = refl
skip_node places at y (Some (Weak parts)) rest ne = refl
skip_node places at y (Some (Stack size values)) rest ne = ap (λ t. cond t (Some (map (word_in places) values)) (slots_at rest y)) (ne_eqb at y ne)

skip : (places : List Place) (at y : ℕ) (o : Option Node) (b : Bool) (rest : List Slots) → at ≢ y →
    slots_at (cond b (slots_of_node places at o) [] ++ rest) y ≡ slots_at rest y
skip places at y o true rest ne = skip_node places at y o rest ne
skip places at y o false rest ne = refl

module _ (places : List Place) (w : World) (m : ℕ) (x : Place) (size : ℕ) (values : List Value) (mine : x.name.maker ≡ m) (node : node_of w x.name ≡
    Some (Stack size values)) where
  found : (ps : List Place) → ((p : Place) → Contains ps p → p.at ≡ x.at → p ≡ x) → Contains ps x →
      slots_at (stacks_at places w m ps) x.at ≡ Some (map (word_in places) values)
  found [] one c = absurd (let lt = c.1 in omega arith)
  found (p ∷ ps) one c = elim (cases_eq p.at x.at) [
    | inl e ↦
        let is : p ≡ x = one p (contains_head p ps) e in
        let maker : eqb p.name.maker m ≡ true = eq-eqb p.name.maker m (cc (is, mine)) in
        let there : node_of w p.name ≡ Some (Stack size values) = cc (is, node) in
        cc (maker, there, eq-eqb p.at x.at e)
    | inr ne ↦
        let rest : Contains ps x = elim (contains_cases p ps x c) [ inl same ↦ absurd (ne (ap (λ (q : Place). q.at) same)) | inr d ↦ d ] in
        skip places p.at x.at (node_of w p.name) (eqb p.name.maker m) (stacks_at places w m ps) ne ∙ found ps (λ q d e. one q (contains_tail p ps q d) e) rest
  ]

-- words that represent values one by one
list_by : (P : Place → Type 0) (f : Value → ℕ) (values : List Value) → ((i : ℕ) (v : Value) → slice_get values i ≡ Some v → Means P (f v) v) →
    ListMeans P (map f values) values
list_by P f [] h = tt
list_by P f (v ∷ values) h = (h 0 v refl, list_by P f values (λ i x e. h (suc i) x e))

module _ (o : Opening) (words : List ℕ) (h : CanOpen o words) where
  abbrev W : World
  W = o.core.world

  among : (p : Place) → Contains o.places p → IsTracked W (earlier o) p.name → IsIn o [] p
  among p c t = let n = is_some_of (node_of W p.name) (h.represents.named p c).known in (n.0, inl (record { there = c; tracked = t; node = n.1 }))

  -- the value's own word, if some word represents it
  word_means : (n : ℕ) (v : Value) → ((name : Name) → v ≡ value.Ref name → IsTracked W (earlier o) name) → Means (Contains o.places) n v →
      Means (IsIn o []) (word_in o.places v) v
  word_means n value.Nil t m = refl
  word_means n (value.Number k) t m = refl
  word_means n (value.Ref name) t m = let at : ℕ = place_named o.places name in
      (at, refl, among (record { at = at; name = name }) (place_there o.places name m.0 m.2) (t name refl))

  pub own_old : (m : ℕ) → m < o.layout.mutators → OwnSlots o [] W m (hand_of o.hands m)
  own_old m lt x size values (inr born) mine there = absurd (let none = born.1 in omega arith)
  own_old m lt x size values (inl old) mine there =
      let node : Node = Stack size values in
      let t = h.represents.tracked x.name node old.tracked there in
      let fields = fields_of_slots (Contains o.places) words (t.at + HEADER_WORDS) node t.fields in
      let listed : slots_at (old_stacks o.places W m) x.at ≡ Some (map (word_in o.places) values) =
      found o.places W m (place_of x) size values mine there o.places (λ p c e. h.represents.one p (place_of x) c old.there (inr e)) old.there in (
        map (word_in o.places) values,
        cc ((h.hands m lt).stacks, listed),
        list_by (IsIn o []) (word_in o.places) values (λ i v e.
            word_means (slice_index words (t.at + HEADER_WORDS + i)) v (λ name is.
            slot_tracked W (earlier o) x.name node name old.tracked there (rw is at (contains_read (slots_of node) i (holds v)
            (item_left (map holds values) _ i (holds v) (item_map holds values i v e))))) (fields.0 i v e)),
      )
