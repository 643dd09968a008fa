-- New objects lie in the used parts of the nurseries, in the order of names.
use Rattle.nmgc_collector_laws.proofs.Vocabulary.{◌≡◌, inl, inr, ℕ, ◌+◌, ◌*◌, ◌<◌, ◌≤◌, List, [], ◌∷◌, refl, sym, ap, subst, ◌∙◌, arith, Some, None, mul-le-mul_right, Contains, IsSome, slice_get, cases_lt, cases_eq, length-map, get_or_from_slice_get, Name, Ref, Node, Reply, Given, IsMaking, words_made, World, node_of, serial_of, state_of, same_name, is_some_get, get_is_some, item_map, not_shared, own_node, IsBefore, nursery_place, Nursery, Header, HEADER_WORDS, Layout, nursery_at, AreUsed, LieInOrder, size_of, Place, Means, Answer, word, DoneRow, Opening, Seen, Object, place_of, now, Answers, AllAnswer, done_by, CanOpen, IsFinished, places_then, Mutator, LieFrom, words_by, Done, HaveWorked, nurseries_of, opened_below, place_cases, is_place, Worker, worker_at}
use Rattle.nmgc_round.specs.Objects.{end_of, IsIn}
use Rattle.nmgc_collector_laws.proofs.rounds.Names.{made_count, all_made, makes_or_not, NamedFrom, gives}

-- objects that commands made lie one after another from an address on, with names from a serial on
abbrev pub MadeFrom : (Place → Type 0) → ℕ → ℕ → ℕ → List Done → Type 0
MadeFrom P m at serial [] = Unit {0}
MadeFrom P m at serial (d ∷ ds) = (IsMaking d.0 → P (record { at = at; name = record { maker = m; serial = serial } })) ×
    MadeFrom P m (at + words_made d.0) (serial + made_count d.0) ds

-- a pointer that a reply gives goes to the address of its name
given_at : (P : Place → Type 0) (at : ℕ) (name : Name) → Answers P (word (2 * at)) (Given (Ref name)) → P (record { at = at; name = name })
given_at P at name h =
    let is : h.0 ≡ Ref name = let e = h.1 in cc in
    let m : Means P (2 * at) (Ref name) = subst (λ v. Means P (2 * at) v) is h.2 in
    let same : m.0 ≡ at = omega (arith, m.1) in
    subst (λ a. P (record { at = a; name = name })) same m.2

-- rows have the addresses, and replies the names
made_from : (P : Place → Type 0) (m at serial : ℕ) (rows : List DoneRow) (ds : List Done) → AllAnswer P rows ds → LieFrom at rows →
    NamedFrom m serial ds → MadeFrom P m at serial ds
made_from P m at serial [] [] a l n = tt
made_from P m at serial [] (d ∷ ds) a l n = absurd a
made_from P m at serial (r ∷ rs) [] a l n = absurd a
made_from P m at serial (r ∷ rs) (d ∷ ds) a l n = (
  here,
  made_from P m (at + words_made d.0) (serial + made_count d.0) rs ds a.1 (rw a.0.0 at l.1) n.1,
)
  where
    here : IsMaking d.0 → P (record { at = at; name = record { maker = m; serial = serial } })
    here is =
        let name : Name = record { maker = m; serial = serial } in
        let e : r.answer ≡ word (2 * at) = l.0 (subst IsMaking (sym a.0.0) is) in
        given_at P at name (subst (λ (y : Reply). Answers P (word (2 * at)) y) (n.0 is) (subst (λ (x : Answer). Answers P x d.1) e a.0.1))

-- of one mutator's new objects, the later lies further up
module _ (P : Place → Type 0) (one : (p q : Place) → P p → P q → p.name ≡ q.name → p ≡ q) (m : ℕ) where
  abbrev IsAt : ℕ → ℕ → Type 0
  IsAt at serial = P (record { at = at; name = record { maker = m; serial = serial } })

  same_at : (a b j k : ℕ) → IsAt a j → IsAt b k → j ≡ k → a ≡ b
  same_at a b j k p q e = ap (λ (x : Place). x.at) (one _ _ p q (same_name _ _ refl e))

  not_below : (at serial : ℕ) (ds : List Done) → MadeFrom P m at serial ds → (a k : ℕ) → IsAt a k → serial ≤ k → k < serial + all_made ds → at ≤ a
  not_below at serial [] h a k p from to = absurd (omega arith)
  not_below at serial (d ∷ ds) h a k p from to = elim (makes_or_not d.0) [
    | inl is ↦ elim (cases_eq serial k) [
      | inl e ↦ let same : at ≡ a = same_at at a serial k (h.0 is.0) p e in omega arith
      | inr ne ↦ let one = is.1 in let rest = not_below (at + words_made d.0) (serial + made_count d.0) ds h.1 a k p (omega arith) (omega arith) in omega arith
    ]
    | inr none ↦ let zero = none.0 in
        let rest = not_below (at + words_made d.0) (serial + made_count d.0) ds h.1 a k p (omega arith) (omega arith) in omega arith
  ]

  later : (at serial : ℕ) (ds : List Done) → MadeFrom P m at serial ds → (a b j k : ℕ) → IsAt a j → IsAt b k → serial ≤ j →
      j < serial + all_made ds → serial ≤ k → k < serial + all_made ds → a < b → j < k
  later at serial [] h a b j k p q from to from' to' lt = absurd (omega arith)
  later at serial (d ∷ ds) h a b j k p q from to from' to' lt = elim (makes_or_not d.0) [
    | inl is ↦ elim (cases_eq serial j) [
      | inl e ↦ elim (cases_eq j k) [
        | inl f ↦ let same : a ≡ b = same_at a b j k p q f in absurd (omega arith)
        | inr ne ↦ omega arith
      ]
      | inr ne ↦
          let one = is.1 in
          elim (cases_eq serial k) [
            | inl f ↦
                let same : at ≡ b = same_at at b serial k (h.0 is.0) q f in
                let up = not_below (at + words_made d.0) (serial + made_count d.0) ds h.1 a j p (omega arith) (omega arith) in
                absurd (omega arith)
            | inr nf ↦ later (at + words_made d.0) (serial + made_count d.0) ds h.1 a b j k p q (omega arith) (omega arith) (omega arith) (omega arith) lt
          ]
    ]
    | inr none ↦ let zero = none.0 in
        later (at + words_made d.0) (serial + made_count d.0) ds h.1 a b j k p q (omega arith) (omega arith) (omega arith) (omega arith) lt
  ]

-- nurseries lie in the order of their makers
nurseries_lie : (layout : Layout) (a b : ℕ) → a < b → nursery_place layout a + layout.nursery ≤ nursery_place layout b
nurseries_lie layout a b lt = let le = mul-le-mul_right layout.nursery lt in omega arith

module _ (o : Opening) (before words : List ℕ) (v : Seen) (mutators : List Mutator) (done : List (List Done)) (can : CanOpen o before)
    (h : IsFinished o words v) (worked : HaveWorked o v.parts mutators done) where
  abbrev P : Place → Type 0
  P = IsIn o h.born

  abbrev W : World
  W = (now o h.events).world

  one : (p q : Place) → P p → P q → p.name ≡ q.name → p ≡ q
  one p q hp hq e = h.stands.one p q (is_place o h.born p hp) (is_place o h.born q hq) (inl e)

  -- a place in a nursery belongs to a new object
  pub born_there : (p : Place) → Contains (places_then o h.born) p → nursery_place o.layout 0 ≤ p.at → (x : Object) × Contains h.born x × (p ≡ place_of x)
  born_there p c up = elim (place_cases o h.born p c) [
    | inl d ↦ absurd (let lt = opened_below o before can p d in omega arith)
    | inr x ↦ x
  ]

  -- its maker gave its serial in the round
  record IsGiven (x : Object) : Type 0 where
    from : serial_of o.core.world x.name.maker ≤ x.name.serial
    to : x.name.serial < serial_of W x.name.maker

  given : (x : Object) → Contains h.born x → IsGiven x
  given x c =
      let own = not_shared o.core.world x.name.maker can.world (let lt = (h.new x c).maker in omega (arith, h.is.mutators)) in
      let known : IsSome (node_of W x.name) = (h.stands.named (place_of x) (inr (x, c, refl))).known in
      let there : IsSome (slice_get (state_of W x.name.maker).nodes x.name.serial) = subst (λ y. IsSome y) (own_node W x.name.maker own x.name refl) known in
      let unknown : slice_get (state_of o.core.world x.name.maker).nodes x.name.serial ≡ None =
      sym (own_node o.core.world x.name.maker own x.name refl) ∙ (h.new x c).unknown in
      record {
        from = elim (cases_lt x.name.serial (serial_of o.core.world x.name.maker)) [
          | inl lt ↦ let bad : IsSome {T = Node} None = subst (λ y. IsSome y) unknown (is_some_get (state_of o.core.world x.name.maker).nodes x.name.serial lt) in
              absurd cc
          | inr le ↦ le
        ];
        to = get_is_some (state_of W x.name.maker).nodes x.name.serial there;
      }

  worker_of : (m : ℕ) → m < o.layout.mutators → Worker o v.parts mutators done m
  worker_of m lt = worker_at o v.parts mutators done worked m lt

  base_is : (m : ℕ) (t : Worker o v.parts mutators done m) → t.mutator.nursery.base ≡ nursery_place o.layout m
  base_is m t = cc (t.worked.nursery.base, t.worked.layout, t.worked.number, t.number)

  -- a maker's objects lie one after another from its nursery's base on, in the order of their serials
  lie : (m : ℕ) → m < o.layout.mutators → MadeFrom P m (nursery_place o.layout m) (serial_of o.core.world m) (done_by m h.events)
  lie m lt =
      let t = worker_of m lt in
      let fits = (h.parts m t.part t.part_there).0 in
      made_from P m (nursery_place o.layout m) (serial_of o.core.world m) t.part.rows (done_by m h.events)
      (subst (λ j. AllAnswer P t.part.rows (done_by j h.events)) t.number fits.rows)
      (subst (λ a. LieFrom a t.part.rows) (base_is m t) t.worked.nursery.lie)
      (gives o.core h.events m h.legal).named

  -- of two objects, the higher has the later name
  in_order : (x y : Object) → Contains h.born x → Contains h.born y → x.at < y.at → IsBefore x.name y.name
  in_order x y cx cy lt = elim (cases_lt x.name.maker y.name.maker) [
    | inl before ↦ inl before
    | inr le ↦ elim (cases_eq y.name.maker x.name.maker) [
      | inl e ↦
          let m = x.name.maker in
          let from : serial_of o.core.world m ≤ y.name.serial = subst (λ k. serial_of o.core.world k ≤ y.name.serial) e (given y cy).from in
          let to : y.name.serial < serial_of W m = subst (λ k. y.name.serial < serial_of W k) e (given y cy).to in
          let count = (gives o.core h.events m h.legal).serial in
          let a = given x cx in
          let py : P (record { at = y.at; name = record { maker = m; serial = y.name.serial } }) =
          subst (λ k. P (record { at = y.at; name = record { maker = k; serial = y.name.serial } })) e (y.node, inr cy) in
          inr (
            sym e,
            later P one m (nursery_place o.layout m) (serial_of o.core.world m) (done_by m h.events) (lie m (h.new x cx).maker) x.at y.at
                x.name.serial y.name.serial (x.node, inr cx) py a.from (let b = a.to in omega arith) from (omega arith) lt,
          )
      | inr ne ↦
          let apart = nurseries_lie o.layout y.name.maker x.name.maker (omega arith) in
          let a = (h.new x cx).from in
          let b = (h.new y cy).to in
          absurd (omega arith)
    ]
  ]

  pub order : LieInOrder (nursery_place o.layout 0) (places_then o h.born)
  order a b ca cb up lt =
      let x = born_there a ca up in
      let y = born_there b cb (omega arith) in
      let at : x.0.at < y.0.at = subst (λ (q : Place). x.0.at < q.at) y.2 (subst (λ (p : Place). p.at < b.at) x.2 lt) in
      subst (λ (q : Place). IsBefore a.name q.name) (sym y.2) (subst (λ (p : Place). IsBefore p.name y.0.name) (sym x.2) (in_order x.0 y.0 x.1 y.1 at))

  nursery_is : (m : ℕ) (t : Worker o v.parts mutators done m) → nursery_at (nurseries_of mutators) m ≡ t.mutator.nursery
  nursery_is m t = get_or_from_slice_get (nurseries_of mutators) m t.mutator.nursery (record {
    base = 0;
    top = 0;
    end = 0;
  }) (item_map (λ (n : Mutator). n.nursery) mutators m t.mutator t.mutator_there)

  -- a new object ends below the top of its maker's nursery
  below_top : (x : Object) (node : Node) → Contains h.born x → node_of W x.name ≡ Some node →
      x.at + size_of node ≤ (nursery_at (nurseries_of mutators) x.name.maker).top
  below_top x node c there =
      let st = h.stands.objects x (inr c) in
      let both : Some st.node ≡ Some node = sym st.there ∙ there in
      let is : st.node ≡ node = cc in
      let size : size_of node ≡ size_of x.node = ap size_of (sym is) ∙ ap (λ (k : Header). HEADER_WORDS + k.fields) st.later.header in
      let t = worker_of x.name.maker (h.new x c).maker in
      let number : t.part.number ≡ x.name.maker = t.number in
      let rests = (h.parts x.name.maker t.part t.part_there).1 in
      let end : end_of x ≤ nursery_place o.layout t.part.number + t.part.used = rests.below x c (sym number) in
      let base : nursery_place o.layout t.part.number ≡ t.mutator.nursery.base = ap (λ n. nursery_place o.layout n) number ∙ sym (base_is x.name.maker t) in
      let used : t.part.used ≡ words_by t.part.rows = t.worked.used in
      let top : t.mutator.nursery.top ≡ t.mutator.nursery.base + words_by t.part.rows = t.worked.nursery.top in
      subst (λ (n : Nursery). x.at + size_of node ≤ n.top) (sym (nursery_is x.name.maker t)) (omega arith)

  pub used : AreUsed o.layout (nursery_place o.layout 0) (places_then o h.born) W (nurseries_of mutators)
  used = record {
    count = length-map mutators (λ (n : Mutator). n.nursery) ∙ worked.mutators_are;
    places_are = λ m lt. let t = worker_of m lt in ap (λ (n : Nursery). n.base) (nursery_is m t) ∙ base_is m t;
    tops = λ m lt. let t = worker_of m lt in subst (λ (n : Nursery). (n.base ≤ n.top) × (n.top ≤ n.base + o.layout.nursery)) (sym (nursery_is m t)) (within t);
    used = λ p node c up there. let x = born_there p c up in rw x.2 (below_top x.0 node x.1 (rw x.2 at there));
  }
    where
      within : {m : ℕ} (t : Worker o v.parts mutators done m) → (t.mutator.nursery.base ≤ t.mutator.nursery.top) ×
          (t.mutator.nursery.top ≤ t.mutator.nursery.base + o.layout.nursery)
      within t =
          let n = t.worked.nursery in
          let top = n.top in
          let end : t.mutator.nursery.end ≡ t.mutator.nursery.base + o.layout.nursery = cc (n.end, t.worked.layout) in
          let fits = n.within in
          (omega arith, omega arith)
