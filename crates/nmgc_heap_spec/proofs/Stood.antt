-- Words that represent a world whose objects lie in blocks of four words at the beginning of the first segment.
use Rattle.nmgc_heap_spec.proofs.Vocabulary.{◌≡◌, ◌⊎◌, inl, inr, ℕ, zero, suc, ◌+◌, ◌*◌, ◌<◌, ◌≤◌, List, [], ◌∷◌, length, map, drop, replicate, get_or, refl, sym, ap, subst, ◌∙◌, arith, slice_index, Some, lit≤, lit<, slice_get, Contains, IsSome, ◌==◌, cases_lt, eqb-true, get_or-drop, slice_get-get_or, slice_get_within, Name, SHARED_MAKER, Nil, Node, Arr, MutatorState, World, node_of, shared_name, contains_head, contains_tail, contains_cases, is_some_get, is_some_of, contains_map, map_contains, SERIAL_UNIT, header_word, IsHeader, InNursery, word_total, Slot, header_of, holds, size_of, slots_of, free_slots, Place, Fills, HasSlots, LiesWell, LiesInSegment, HasZeros, shared_place, NoNode, IsNamed, IsPlaced, Represents, small_layout, own, block, places_of, shared_or}

-- P holds of each item with its index
abbrev pub Each : {A : Type 0} → (ℕ → A → Type 0) → ℕ → List A → Type 0
Each P k [] = Unit {0}
Each P k (x ∷ xs) = P k x × Each P (k + 1) xs

pub each_at : {A : Type 0} (P : ℕ → A → Type 0) (k : ℕ) (xs : List A) → Each P k xs → (i : ℕ) (x : A) → slice_get xs i ≡ Some x → P (k + i) x
each_at P k [] h i x e = absurd cc
each_at {A} P k (y ∷ xs) h zero x e =
    let same : y ≡ x = cc in
    let z : k ≡ k + 0 = omega arith in
    subst (λ (j : ℕ). P j x) z (subst (λ (u : A). P k u) same h.0)
each_at P k (y ∷ xs) h (suc i) x e = let z : k + 1 + i ≡ k + suc i = omega arith in subst (λ (j : ℕ). P j x) z (each_at P (k + 1) xs h.1 i x e)

-- words that are as the slots specify, one by one
abbrev pub EachFills : (Place → Type 0) → List ℕ → List Slot → Type 0
EachFills P words [] = Unit {0}
EachFills P [] (slot ∷ slots) = ⊥
EachFills P (w ∷ words) (slot ∷ slots) = Fills P w slot × EachFills P words slots

each_fills : (P : Place → Type 0) (words : List ℕ) (slots : List Slot) → EachFills P words slots → (i : ℕ) (slot : Slot) →
    slice_get slots i ≡ Some slot → Fills P (get_or words i 0) slot
each_fills P words [] h i slot e = absurd cc
each_fills P [] (s ∷ slots) h i slot e = absurd h
each_fills P (w ∷ words) (s ∷ slots) h zero slot e = let same : s ≡ slot = cc in subst (λ (u : Slot). Fills P w u) same h.0
each_fills P (w ∷ words) (s ∷ slots) h (suc i) slot e = each_fills P words slots h.1 i slot e

-- `count` nils
pub fills_nil : (P : Place → Type 0) (count : ℕ) → EachFills P (replicate count 1) (map holds (replicate count Nil))
fills_nil P zero = tt
fills_nil P (suc count) = (refl, fills_nil P count)

pub fills_from : (P : Place → Type 0) (words : List ℕ) (from : ℕ) (slots : List Slot) → EachFills P (drop from words) slots → HasSlots P words from slots
fills_from P words from slots h i slot e = subst (λ (k : ℕ). Fills P k slot) (get_or-drop from words i 0) (each_fills P (drop from words) slots h i slot e)

-- the names and nodes of a world of one mutator: g, and its objects
pub record IsKnown (nodes : List Node) (name : Name) (node : Node) : Type 0 where
  pub serial : ℕ
  pub is : name ≡ own serial
  pub there : slice_get nodes serial ≡ Some node

pub only_known : (shared : Node) (state : MutatorState) (maker serial : ℕ) (node : Node) →
    node_of (record { shared = shared; mutators = state ∷ [] }) (record { maker = maker; serial = serial }) ≡ Some node →
    ((shared_name ≡ record { maker = maker; serial = serial }) × (shared ≡ node)) ⊎ IsKnown state.nodes (record { maker = maker; serial = serial }) node
only_known shared state zero serial node e = inr (record { serial = serial; is = refl; there = e })
only_known shared state (suc maker) serial node e = shared_or (suc maker == SHARED_MAKER) (serial == 0) shared node serial _
    (λ b d s. inl (
      cc (eqb-true (suc maker) SHARED_MAKER b, eqb-true serial 0 d),
      cc,
    ))
    e

-- an object with its words, unless it is a thunk without a result
abbrev pub Stood : (Place → Type 0) → List ℕ → ℕ → Node → Type 0
Stood P words k node = (slice_index words (32 + 4 * k) ≡ header_word (header_of node)) × IsHeader (header_of node) × (size_of node ≤ 4) ×
    (slice_index words (32 + 4 * k + 1) ≡ SERIAL_UNIT * k) × EachFills P (drop (34 + 4 * k) words) (slots_of node) × (free_slots node ≡ [])

abbrev pub sixteen : Node
sixteen = Arr (replicate 16 Nil)

module _ (serials : List ℕ) (few : length serials ≤ 16) (each : Each (λ i x. x ≡ i) 0 serials) (state : MutatorState) (earlier : List World) (words : List ℕ)
    (count : length state.nodes ≡ length serials)
    (total : length words ≡ word_total small_layout)
    (g_header : slice_index words 1 ≡ 32771) (g_name : slice_index words 2 ≡
    SHARED_MAKER) (g_fields : EachFills (Contains (places_of serials)) (drop 3 words) (slots_of sixteen))
    (stood : Each (Stood (Contains (places_of serials)) words) 0 state.nodes)
    (zeros : HasZeros words)
    (free : (e : World) (name : Name) (before : Node) → Contains earlier e → node_of e name ≡ Some before → free_slots before ≡ []) where
  abbrev w : World
  w = record { shared = sixteen; mutators = state ∷ [] }

  abbrev places : List Place
  places = places_of serials

  block_there : (k : ℕ) → k < length serials → Contains places (block k)
  block_there k lt =
      let x = is_some_of (slice_get serials k) (is_some_get serials k lt) in
      let is : x.0 ≡ k = let z : x.0 ≡ 0 + k = each_at (λ i y. y ≡ i) 0 serials each k x.0 x.1 in omega arith in
      rw is at (contains_tail shared_place (map block serials) (block x.0)
      (contains_map block serials x.0 (k, lt, get_or_of serials k x.0 x.1)))
    where
      get_or_of : (xs : List ℕ) (i x : ℕ) → slice_get xs i ≡ Some x → get_or xs i x ≡ x
      get_or_of [] i x e = absurd cc
      get_or_of (y ∷ xs) zero x e = cc
      get_or_of (y ∷ xs) (suc i) x e = get_or_of xs i x e

  place_cases : (q : Place) → Contains places q → (shared_place ≡ q) ⊎ ((k : ℕ) × (k < length serials) × (block k ≡ q))
  place_cases q c = elim (contains_cases shared_place (map block serials) q c) [
    | inl e ↦ inl e
    | inr d ↦
        let x = map_contains block serials q d in
        let is : x.0 ≡ x.1.0 =
        let z : x.0 ≡ 0 + x.1.0 = each_at (λ i y. y ≡ i) 0 serials each x.1.0 x.0 (slice_get-get_or serials x.1.0 x.0 x.1.1 ∙
        ap Some x.1.2) in omega arith in
        inr (x.1.0, x.1.1, ap block (sym is) ∙ sym x.2)
  ]

  at_place : (P : Place → Type 0) → P shared_place → ((k : ℕ) → k < length serials → P (block k)) → (q : Place) → Contains places q → P q
  at_place P g b q c = elim (place_cases q c) [ inl e ↦ subst P e g | inr h ↦ subst P h.2 (b h.0 h.1) ]

  lies_in : (k size : ℕ) → k < length serials → size ≤ 4 → LiesInSegment small_layout (32 + 4 * k) size
  lies_in k size lt most = (0, λ i from before. record { exists = lit< tt; from = omega (arith, from); before = omega (arith, before, most, few) })

  lies : (k size : ℕ) → k < length serials → size ≤ 4 → LiesWell small_layout (block k) size
  lies k size lt most = inr (λ e. omega (arith, e), inl (lies_in k size lt most))

  node_at : (k : ℕ) → k < length serials → (node : Node) × (slice_get state.nodes k ≡ Some node)
  node_at k lt = is_some_of (slice_get state.nodes k) (is_some_get state.nodes k (omega (arith, count)))

  stood_at : (k : ℕ) (node : Node) → slice_get state.nodes k ≡ Some node → Stood (Contains places) words k node
  stood_at k node e = let z : 0 + k ≡ k = omega arith in rw z at (each_at (Stood (Contains places) words) 0 state.nodes stood k node e)

  alone : (k size : ℕ) → size ≤ 4 → (q : Place) → Contains places q → (q.at ≤ 32 + 4 * k) ⊎ (32 + 4 * k + size ≤ q.at)
  alone k size most = at_place (λ (q : Place). (q.at ≤ 32 + 4 * k) ⊎
      (32 + 4 * k + size ≤ q.at)) (inl (omega arith)) (λ j lt. elim (cases_lt k j) [ inl l ↦ inr (omega (arith, l, most)) | inr l ↦ inl (omega (arith, l)) ])

  abbrev Placed : Name → Node → Type 0
  Placed n node = IsPlaced small_layout earlier NoNode places words n node

  none_free : (e : World) (name : Name) (before : Node) (from : ℕ) → Contains earlier e → node_of e name ≡ Some before →
      HasSlots (Contains places) words from (free_slots before)
  none_free e name before from c was = rw (free e name before c was) (λ i slot f. absurd cc)

  shared_placed : Placed shared_name sixteen
  shared_placed = record {
    at = 1;
    there = contains_head shared_place (map block serials);
    object = record {
      header = g_header;
      valid = (refl, lit≤ tt);
      lies = inl (refl, refl, lit≤ tt);
      alone = at_place (λ (q : Place). (q.at ≤ 1) ⊎ (1 + 18 ≤ q.at)) (inl (lit≤ tt)) (λ k lt. inr (omega arith));
    };
    fields = fills_from (Contains places) words 3 (slots_of sixteen) g_fields;
    free = λ e before c was. none_free e shared_name before 3 c was;
    kept = λ before k. absurd k;
  }

  block_placed : (k : ℕ) (node : Node) → slice_get state.nodes k ≡ Some node → Placed (own k) node
  block_placed k node e =
      let h = stood_at k node e in
      let lt : k < length serials = let l = slice_get_within state.nodes k node e in omega (arith, count, l) in
      let from : 34 + 4 * k ≡ 32 + 4 * k + 2 = omega arith in
      record {
        at = 32 + 4 * k;
        there = block_there k lt;
        object = record { header = h.0; valid = h.1; lies = lies k (size_of node) lt h.2; alone = alone k (size_of node) h.2 };
        fields = rw from at (fills_from (Contains places) words (34 + 4 * k) (slots_of node) h.4);
        free = λ e before c was. none_free e (own k) before (32 + 4 * k + 2) c was;
        kept = λ before no. absurd no;
      }

  block_named : (k : ℕ) → k < length serials → IsNamed small_layout w words (block k)
  block_named k lt =
      let n = node_at k lt in
      let h = stood_at k n.0 n.1 in
      record {
        known = subst (λ y. IsSome y) (sym n.1) refl;
        valid = (lit≤ tt, omega (arith, few), λ e. absurd (omega (arith, e)));
        name = h.3 ∙ (let z : SERIAL_UNIT * k ≡ SERIAL_UNIT * k + 0 = omega arith in z);
        lies = lies k 2 lt (lit≤ tt);
      }

  abbrev Apart : Place → Place → Type 0
  Apart p q = (p.name ≡ q.name) ⊎ (p.at ≡ q.at) → p ≡ q

  same_block : (j k : ℕ) → Apart (block j) (block k)
  same_block j k (inl e) = ap block (ap (λ (n : Name). n.serial) e)
  same_block j k (inr e) = ap block (omega (arith, e))

  not_shared : (k : ℕ) → (shared_name ≡ own k) ⊎ (1 ≡ 32 + 4 * k) → ⊥
  not_shared k (inl e) = let m = ap (λ (n : Name). n.maker) e in omega arith
  not_shared k (inr e) = omega (arith, e)

  tracked : (maker serial : ℕ) (node : Node) → node_of w (record { maker = maker; serial = serial }) ≡ Some node →
      Placed (record { maker = maker; serial = serial }) node
  tracked maker serial node is = elim (only_known sixteen state maker serial node is) [
    | inl g ↦ subst (λ (n : Name). Placed n node) g.0 (subst (λ (x : Node). Placed shared_name x) g.1 shared_placed)
    | inr k ↦ subst (λ (n : Name). Placed n node) (sym k.is) (block_placed k.serial node k.there)
  ]

  pub stands : Represents small_layout earlier NoNode places w words
  stands = record {
    total = total;
    one = λ p q c d. at_place (λ (x : Place). Apart x q)
        (at_place (λ (y : Place). Apart shared_place y) (λ h. refl) (λ k lt h. absurd (not_shared k h)) q d)
        (λ j lt. at_place (λ (y : Place). Apart (block j) y) (λ h.
        absurd (not_shared j (elim h [ inl e ↦ inl (sym e) | inr e ↦ inr (sym e) ]))) (λ k lt' h. same_block j k h) q d)
        p c;
    named = at_place (λ (p : Place). IsNamed small_layout w words p) (record {
      known = refl;
      valid = (lit≤ tt, lit< tt, λ e. refl);
      name = g_name;
      lies = inl (refl, refl, lit≤ tt);
    }) block_named;
    tracked = λ n node t is. tracked n.maker n.serial node is;
    born = λ p node c young is. absurd (at_place (λ (q : Place). InNursery small_layout q.name.maker q.at →
        ⊥) (λ n. omega (arith, n.exists)) (λ k lt n. omega (arith, n.from, few)) p c young);
    zeros = zeros;
  }
