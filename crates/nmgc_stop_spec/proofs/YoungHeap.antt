-- The heap of one new object: each of its words is as specified, and nothing else is in it.
use Rattle.nmgc_stop_spec.proofs.Vocabulary.{◌-◌, ◌≡◌, ◌≢◌, ◌⊎◌, inl, inr, ℕ, zero, suc, ◌+◌, ◌*◌, ◌<◌, ◌≤◌, List, [], ◌∷◌, replicate, get_or, refl, sym, ap, subst, ◌∙◌, arith, zero-add, slice_index, Option, Some, None, true, false, lit≤, lit<, slice_get, Contains, IsSome, ◌==◌, ◌↔◌, eqb-true, get_or-replicate, Name, REGISTERS, SHARED_MAKER, Value, Nil, Number, Ref, Node, Con, Arr, Weak, Parts, Operand, Register, MutatorState, World, node_of, state_of, serial_of, IsWorld, new_world, new_mutator, IsOperand, CanApply, shared_name, step, strong_fields, RefersTo, contains_head, contains_tail, contains_cases, place_of, nothing_in, one_is, new_is_world, step_keeps_world, nursery_place, Segment, free_segment, Segments, IsSegments, all_free, Slot, holds, size_of, slots_of, free_slots, Place, Means, Fills, HasSlots, LiesWell, AllMean, ListMeans, shared_place, NoNode, IsNamed, IsObject, IsPlaced, Represents, IsEarlier, RepresentsRoots, small_layout, own, world_is_earlier, step_keeps_earlier, all_item, nursery_at, IsOccupied, IsStopped, IsRoundOf, young_world, young_place, young_stop, young_registers, young_nurseries, HoldsYoung, OneYoung, shared_or, not_shared}
use Rattle.nmgc_world_spec.specs.declared.command.Command.TheVariants as command

-- g, and the constructor

abbrev sixteen : Node
sixteen = Arr (replicate 16 Nil)

abbrev made : Node
made = Con 7 (Number 5 ∷ [])

abbrev began : World
began = new_world 1

abbrev earlier : List World
earlier = began ∷ []

abbrev places : List Place
places = young_stop.places

known : (shared : Node) (state : MutatorState) (maker serial : ℕ) (node : Node) →
    node_of (record { shared = shared; mutators = state ∷ [] }) (record { maker = maker; serial = serial }) ≡ Some node →
    ((shared_name ≡ record { maker = maker; serial = serial }) × (shared ≡ node)) ⊎ ((maker ≡ 0) × (slice_get state.nodes serial ≡ Some node))
known shared state zero serial node e = inr (refl, e)
known shared state (suc maker) serial node e = shared_or (suc maker == SHARED_MAKER) (serial == 0) shared node serial _
    (λ b d s. inl (
      ap (λ (m : ℕ). record { maker = m; serial = 0 }) (sym (eqb-true (suc maker) SHARED_MAKER b)) ∙
          ap (λ (n : ℕ). record { maker = suc maker; serial = n }) (sym (eqb-true serial 0 d)),
      cc,
    ))
    e

began_knows : (name : Name) (node : Node) → node_of began name ≡ Some node → (shared_name ≡ name) × (sixteen ≡ node)
began_knows name node e = elim (known sixteen new_mutator name.maker name.serial node e) [
  | inl g ↦ g
  | inr own ↦ absurd (let none = own.1 in cc)
]

first_of : (serial : ℕ) (node : Node) → slice_get (made ∷ []) serial ≡ Some node → (serial ≡ 0) × (made ≡ node)
first_of zero node e = (refl, cc)
first_of (suc serial) node e = absurd cc

knows : (name : Name) (node : Node) → node_of young_world name ≡ Some node → ((shared_name ≡ name) × (sixteen ≡ node)) ⊎ ((own 0 ≡ name) × (made ≡ node))
knows name node e = elim (known sixteen (state_of young_world 0) name.maker name.serial node e) [
  | inl g ↦ inl g
  | inr there ↦
      let first = first_of name.serial node there.1 in
      inr (ap (λ (m : ℕ). record { maker = m; serial = 0 }) (sym there.0) ∙ ap (λ (n : ℕ). record { maker = name.maker; serial = n }) (sym first.0), first.1)
]

-- the worlds of the round

first_world : IsWorld began
first_world = new_is_world 1 (lit≤ tt) (lit≤ tt)

abbrev numbered : World
numbered = (step began 0 (command.Num 1 5)).0

second_world : IsWorld numbered
second_world = step_keeps_world began 0 (command.Num 1 5) first_world (record { mutator = lit< tt; registers = lit< tt; serial = lit< tt })

takes : CanApply numbered 0 (command.Con 0 7 (Register 1 ∷ []))
takes = record { mutator = lit< tt; registers = (lit< tt, operand); serial = lit< tt }
  where
    operand : (k : ℕ) (d : Operand) → k < 1 → IsOperand (get_or (Register 1 ∷ []) k d)
    operand zero d lt = lit< tt
    operand (suc k) d lt = absurd (omega (arith, lt))

third_world : IsWorld young_world
third_world = step_keeps_world numbered 0 (command.Con 0 7 (Register 1 ∷ [])) second_world takes

is_earlier : IsEarlier began young_world
is_earlier = step_keeps_earlier began numbered 0 (command.Con 0 7 (Register 1 ∷ [])) second_world takes
    (step_keeps_earlier began began 0 (command.Num 1 5) first_world (record {
      mutator = lit< tt;
      registers = lit< tt;
      serial = lit< tt;
    }) (world_is_earlier began first_world))

-- the places

there_shared : Contains places shared_place
there_shared = contains_head shared_place (young_place ∷ [])

there_young : Contains places young_place
there_young = contains_tail shared_place (young_place ∷ []) young_place (contains_head young_place [])

at_place : (P : Place → Type 0) → P shared_place → P young_place → (q : Place) → Contains places q → P q
at_place P g y q c = elim (contains_cases shared_place (young_place ∷ []) q c) [
  | inl e ↦ subst P e g
  | inr d ↦ subst P (one_is young_place q d) y
]

-- only the constructor lies in the nursery
is_young : (q : Place) → Contains places q → 2080 ≤ q.at → young_place ≡ q
is_young = at_place (λ (q : Place). 2080 ≤ q.at → young_place ≡ q) (λ l. absurd (omega (arith, l))) (λ l. refl)

-- no weak pointer is there
no_weak : (name : Name) (parts : Option Parts) → node_of young_world name ≡ Some (Weak parts) → ⊥
no_weak name parts e = elim (knows name (Weak parts) e) [ inl g ↦ let is = g.1 in cc | inr own ↦ let is = own.1 in cc ]

-- g refers to nothing
shared_holds_nil : (name : Name) → Contains (replicate 16 Nil) (Ref name) → ⊥
shared_holds_nil name c = let there = place_of (replicate 16 Nil) (Ref name) c in let is = (all_item 16 there.0 Nil (Ref name) there.1).0 in cc

-- an object that was there as the round began refers to nothing
old_refers_to_nothing : (holder name : Name) → IsSome (node_of began holder) → RefersTo young_world holder name → ⊥
old_refers_to_nothing holder name some (node, is, c) = elim (knows holder node is) [
  | inl g ↦ shared_holds_nil name (subst (λ (x : Node). Contains (strong_fields x) (Ref name)) (sym g.1) c)
  | inr y ↦ let none : false ≡ true = subst (λ (n : Name). IsSome (node_of began n)) (sym y.0) some in cc
]

module _ (words : List ℕ) (h : HoldsYoung words) where
  shared_slots : HasSlots (Contains places) words 3 (slots_of sixteen)
  shared_slots i slot e =
      let is = all_item 16 i (holds Nil) slot e in
      subst (λ (x : Slot). Fills (Contains places) (slice_index words (3 + i)) x) (sym is.0) (h.slots i is.1)

  made_slots : HasSlots (Contains places) words 2082 (slots_of made)
  made_slots zero slot e = let is : holds (Number 5) ≡ slot = cc in subst (λ (x : Slot). Fills (Contains places) (slice_index words 2082) x) is h.field
  made_slots (suc i) slot e = absurd cc

  none_free : (e : World) (name : Name) (before : Node) (from : ℕ) → Contains earlier e → node_of e name ≡ Some before →
      HasSlots (Contains places) words from (free_slots before)
  none_free e name before from c was =
      let was' : node_of began name ≡ Some before = ap (λ (x : World). node_of x name) (one_is began e c) ∙ was in
      subst (λ (x : Node). HasSlots (Contains places) words from (free_slots x)) (began_knows name before was').1 (λ i slot f. absurd cc)

  shared_object : IsObject small_layout places words shared_place sixteen
  shared_object = record {
    header = h.shared_header;
    valid = (refl, lit≤ tt);
    lies = inl (refl, refl, lit≤ tt);
    alone = at_place (λ (q : Place). (q.at ≤ 1) ⊎ (1 + 18 ≤ q.at)) (inl (lit≤ tt)) (inr (lit≤ tt));
  }

  young_lies : (size : ℕ) → size ≤ 3 → LiesWell small_layout young_place size
  young_lies size most = inr (
    λ e. omega (arith, e),
    inr (
      omega (arith, most),
      λ i from before. record { exists = lit< tt; from = omega (arith, from); before = omega (arith, before, most) },
    ),
  )

  young_object : IsObject small_layout places words young_place made
  young_object = record {
    header = h.header;
    valid = (lit< tt, lit≤ tt);
    lies = young_lies 3 (lit≤ tt);
    alone = at_place (λ (q : Place). (q.at ≤ 2080) ⊎ (2080 + 3 ≤ q.at)) (inl (lit≤ tt)) (inl (lit≤ tt));
  }

  shared_placed : IsPlaced small_layout earlier NoNode places words shared_name sixteen
  shared_placed = record {
    at = 1;
    there = there_shared;
    object = shared_object;
    fields = shared_slots;
    free = λ e before c was. none_free e shared_name before 3 c was;
    kept = λ before k. absurd k;
  }

  young_placed : IsPlaced small_layout earlier NoNode places words (own 0) made
  young_placed = record {
    at = 2080;
    there = there_young;
    object = young_object;
    fields = made_slots;
    free = λ e before c was. none_free e (own 0) before 2082 c was;
    kept = λ before k. absurd k;
  }

  abbrev Apart : Place → Place → Type 0
  Apart p q = (p.name ≡ q.name) ⊎ (p.at ≡ q.at) → p ≡ q

  never : (shared_name ≡ own 0) ⊎ ◌≡◌ {A = ℕ} 1 2080 → ⊥
  never (inl e) = not_shared e
  never (inr e) = omega (arith, e)

  turned : (own 0 ≡ shared_name) ⊎ ◌≡◌ {A = ℕ} 2080 1 → ⊥
  turned (inl e) = not_shared (sym e)
  turned (inr e) = omega (arith, e)

  represents : Represents small_layout earlier NoNode places young_world words
  represents = record {
    total = h.total;
    one = λ p q c d. at_place (λ (x : Place). Apart x q)
        (at_place (λ (y : Place). Apart shared_place y) (λ e. refl) (λ e. absurd (never e)) q d)
        (at_place (λ (y : Place). Apart young_place y) (λ e. absurd (turned e)) (λ e. refl) q d)
        p c;
    named = at_place (λ (p : Place). IsNamed small_layout young_world words p)
        (record { known = refl; valid = (lit≤ tt, lit< tt, λ e. refl); name = h.shared_name; lies = inl (refl, refl, lit≤ tt) })
        (record { known = refl; valid = (lit≤ tt, lit< tt, λ e. refl); name = h.name; lies = young_lies 2 (lit≤ tt) });
    tracked = λ name node t is. elim (knows name node is) [
      | inl g ↦ subst (λ (n : Name). IsPlaced small_layout earlier NoNode places words n node) g.0 (subst (λ (x : Node).
          IsPlaced small_layout earlier NoNode places words shared_name x) g.1 shared_placed)
      | inr y ↦ subst (λ (n : Name). IsPlaced small_layout earlier NoNode places words n node) y.0 (subst (λ (x : Node).
          IsPlaced small_layout earlier NoNode places words (own 0) x) y.1 young_placed)
    ];
    born = λ p node c young is.
        let first = young.from in
        let here = is_young p c (omega (arith, first)) in
        let was : node_of young_world (own 0) ≡ Some node = ap (λ (q : Place). node_of young_world q.name) here ∙ is in
        let same = (first_of 0 node was).1 in (
          subst (λ (q : Place). IsObject small_layout places words q node) here (subst (λ (x : Node).
              IsObject small_layout places words young_place x) same young_object),
          λ dead. absurd (let e = same ∙ dead in cc),
        );
    zeros = h.zeros;
  }

registers_mean : AllMean (Contains places) young_registers 0 (state_of young_world 0).registers
registers_mean zero v e = let is : Ref (own 0) ≡ v = cc in subst (λ (x : Value). Means (Contains places) 4160 x) is (2080, refl, there_young)
registers_mean (suc zero) v e = let is : Number 5 ≡ v = cc in subst (λ (x : Value). Means (Contains places) 13 x) is refl
registers_mean (suc (suc i)) v e =
    let is = all_item 62 i Nil v e in
    let word : get_or (4160 ∷ 13 ∷ replicate (REGISTERS - 2) 1) (0 + suc (suc i)) 0 ≡ 1 =
    ap (λ (k : ℕ). get_or (4160 ∷ 13 ∷ replicate (REGISTERS - 2) 1) k 0) (zero-add (suc (suc i))) ∙ get_or-replicate (REGISTERS - 2) i 1 0 is.1 in
    subst (λ (x : Value). Means (Contains places) (get_or (4160 ∷ 13 ∷ replicate (REGISTERS - 2) 1) (0 + suc (suc i)) 0) x) (sym is.0) word

roots : RepresentsRoots places young_world young_registers ([] ∷ []) (1 ∷ [])
roots = record {
  count = refl;
  mutators = (refl, refl);
  held = held;
  queued = queued;
  next = next;
}
  where
    held : (m : ℕ) → m < 1 → AllMean (Contains places) young_registers (REGISTERS * m) (state_of young_world m).registers
    held zero lt = registers_mean
    held (suc m) lt = absurd (omega (arith, lt))

    queued : (m : ℕ) (words : List ℕ) → slice_get ([] ∷ []) m ≡ Some words → ListMeans (Contains places) words (state_of young_world m).queue
    queued zero words e = let is : [] ≡ words = cc in subst (λ (l : List ℕ). ListMeans (Contains places) l []) is tt
    queued (suc m) words e = absurd cc

    next : (m n : ℕ) → slice_get (1 ∷ []) m ≡ Some n → n ≡ serial_of young_world m
    next zero n e = let is : 1 ≡ n = cc in sym is
    next (suc m) n e = absurd cc

-- the round's effect

round : IsRoundOf 2080 young_stop
round = record {
  past = λ e c. subst (λ (x : World). IsEarlier x young_world) (one_is began e c) is_earlier;
  outside = λ e p c d some. absurd (nothing_in e c);
  young = at_place (λ (p : Place). (2080 ≤ p.at) ↔ (node_of began p.name ≡ None)) ((λ l. absurd (omega (arith, l))), λ e. cc) ((λ l. refl), λ e. lit≤ tt);
  changed = λ holder name some none refers. absurd (old_refers_to_nothing holder name some refers);
  parts = λ weak parts some alive. absurd (no_weak weak (Some parts) alive);
}

-- no block is in use

none_used : (at size : ℕ) → IsOccupied (all_free small_layout) at size → ⊥
none_used at size o = o.begins.used (ap (λ (x : Segment). x.state) (get_or-replicate 32 o.number (free_segment 64) (free_segment 0) o.begins.exists))

abbrev Stands : List ℕ → Segments → Type 0
Stands words s = IsStopped young_stop s words young_nurseries young_registers ([] ∷ []) [] []

stands : (words : List ℕ) → IsSegments (all_free small_layout) → HoldsYoung words → Stands words (all_free small_layout)
stands words sound h = record {
  world = third_world;
  round = round;
  represents = represents words h;
  roots = roots;
  segments = sound;
  blocks = record {
    held = λ p node c low other is. at_place (λ (q : Place). q.at < 2080 → q.name.maker ≢ SHARED_MAKER → (size : ℕ) ×
        IsOccupied (all_free small_layout) q.at size × (size_of node ≤ size)) (λ l ne. absurd (ne refl)) (λ l. absurd (omega (arith, l))) p c low other;
    filled = λ at size o. absurd (none_used at size o);
  };
  used = record {
    count = refl;
    places_are = first_nursery;
    tops = tops;
    used = λ p node c l is.
        let here = is_young p c l in
        let was : node_of young_world (own 0) ≡ Some node = ap (λ (q : Place). node_of young_world q.name) here ∙ is in
        subst (λ (q : Place). q.at + size_of node ≤ (nursery_at young_nurseries q.name.maker).top) here (subst (λ (x : Node).
        2080 + size_of x ≤ 2083) (first_of 0 node was).1 (lit≤ tt));
  };
  order = λ a b c d l lt.
      let here = is_young a c l in
      let there = is_young b d (omega (arith, l, lt)) in
      let same : b.at ≡ a.at = ap (λ (q : Place). q.at) (sym there ∙ here) in
      absurd (omega (arith, same, lt));
  left = record {
    fields = λ at c. absurd (nothing_in at c);
    all_fields = λ p q node i c low other t is slot d young. absurd (at_place (λ (x : Place). x.at < 2080 → x.name.maker ≢ SHARED_MAKER →
        ⊥) (λ l ne. ne refl) (λ l. omega (arith, l)) p c low other);
    weak_places = λ at c. absurd (nothing_in at c);
    all_weaks = λ p parts c l alive. absurd (no_weak p.name (Some parts) alive);
  };
  reserve = inl (lit≤ tt);
}
  where
    first_nursery : (maker : ℕ) → maker < 1 → (nursery_at young_nurseries maker).base ≡ nursery_place small_layout maker
    first_nursery zero lt = refl
    first_nursery (suc maker) lt = absurd (omega (arith, lt))

    tops : (maker : ℕ) → maker < 1 → ((nursery_at young_nurseries maker).base ≤ (nursery_at young_nurseries maker).top) ×
        ((nursery_at young_nurseries maker).top ≤ (nursery_at young_nurseries maker).base + 64)
    tops zero lt = (lit≤ tt, lit≤ tt)
    tops (suc maker) lt = absurd (omega (arith, lt))

pub one_young : OneYoung
one_young s words sound free h = subst (Stands words) (sym free) (stands words (subst IsSegments free sound) h)
