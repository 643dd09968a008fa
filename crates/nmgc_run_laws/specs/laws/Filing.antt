-- The blocks through the steps of a run: they stay an allocation state, no name gets two, and g none.
use Rattle.std.specs.Prelude.{◌≡◌, ◌≢◌, ◌/◌, ◌<◌, ◌≤◌, ◌∷◌}
use Rattle.nmgc_run_laws.specs.laws.Vocabulary.{ℕ, List, [], length, arith, refl, sym, ap, subst, Option, Some, None, inl, inr, eqb, false, Contains, slice_get, get_or-eq_default, length-replicate, div-eq_of_lt, cases_eq, cases_lt, ne_eqb, slice_get_within, Name, SHARED_MAKER, Node, MutatorState, World, IsWorld, node_of, state_of, no_mutator, shared_name, IsInOrder, IsBefore, contains_head, contains_tail, in_order_first, in_order_rest, not_before_itself, block_size, IsName, Layout, AllocState, IsAllocState, PlacesName, Opens, IsTarget, Sweeps, SweepsEach, HoldsKept, LiesNowhere, cells, cycle_begun, all_retired, all_empty, name_in, none_some, placed_where, placed_once, swept_back, swept_once, begun_names, begun_once, retired_names, retired_once, first_once, first_cells, first_sound, placed_sound, swept_sound, begun_sound, retired_sound, PlacesObject, PlacesEach, AreSoundBlocks}

-- words can have each name of a world
pub world_name : (w : World) → IsWorld w → (n : Name) (node : Node) → node_of w n ≡ Some node → IsName n
world_name w world n node e = elim (cases_eq n.maker SHARED_MAKER) [
  | inl is ↦ elim (cases_eq n.serial 0) [
    | inl z ↦ (omega (arith, is), omega (arith, z), λ m. z)
    | inr z ↦ let f : node_of w n ≡ None = rw (is, ne_eqb n.serial 0 z) refl in absurd (none_some (node_of w n) node f e)
  ]
  | inr ne ↦
      let b : eqb n.maker SHARED_MAKER ≡ false = ne_eqb n.maker SHARED_MAKER ne in
      let f : slice_get (state_of w n.maker).nodes n.serial ≡ Some node = rw b at e in
      let serial = slice_get_within (state_of w n.maker).nodes n.serial node f in
      let total = world.serials n.maker in
      let few = world.few in
      let maker : n.maker < length w.mutators = elim (cases_lt n.maker (length w.mutators)) [
        | inl lt ↦ lt
        | inr ge ↦
            let past = get_or-eq_default w.mutators no_mutator {n = n.maker} ge in
            let none : length (state_of w n.maker).nodes ≡ 0 = ap (λ (m : MutatorState). length m.nodes) past in
            absurd (omega (arith, none, serial))
      ] in
      (omega (arith, maker, few), omega (arith, serial, total), λ m. absurd (ne m))
]

-- a block of a class in which an object is placed fits the segment
pub placed_fits : (layout : Layout) (a b : AllocState) (m class : ℕ) (name : Name) → IsAllocState layout a → PlacesName layout a b m class name →
    block_size class ≤ layout.words
placed_fits layout a b m class name h p = by_opens p.opens
  where
    by_opens : Opens (layout.words / block_size class) (cells a p.number) p.names → block_size class ≤ layout.words
    by_opens (inl used) = rw (class_is p.target) at (h.class p.number used.0)
      where
        class_is : IsTarget a m class p.number → (cells a p.number).class ≡ class
        class_is (inl own) = own.1.1
        class_is (inr (none, inl next)) = next.is.1.1
        class_is (inr (none, inr (no_active, next))) = absurd (used.0 next.is.1)
    by_opens (inr free) =
        let some = p.first.exists in
        let count : length p.names ≡ layout.words / block_size class = cc (free.1, length-replicate {A = Option Name} (layout.words / block_size class) None) in
        elim (cases_lt layout.words (block_size class)) [
          | inr ge ↦ ge
          | inl lt ↦ let none : layout.words / block_size class ≡ 0 = div-eq_of_lt lt in absurd (omega (arith, some, count, none))
        ]

-- one sweep, and many

pub sweep_filed : (layout : Layout) (a b : AllocState) (number : ℕ) (K : ℕ → Type 0) → Sweeps a b number K → AreSoundBlocks layout a → AreSoundBlocks layout b
sweep_filed layout a b number K s h = record {
  state = swept_sound layout a b number K h.state s;
  once = swept_once a b number K s h.once;
  shared = λ k block lies. h.shared k block (swept_back a b number K s k block shared_name lies);
}

pub each_filed : (layout : Layout) (Kept : Name → Type 0) (a b : AllocState) (numbers : List ℕ) → SweepsEach Kept a numbers b →
    AreSoundBlocks layout a → AreSoundBlocks layout b
each_filed layout Kept a b [] e h = subst (AreSoundBlocks layout) (sym e) h
each_filed layout Kept a b (number ∷ numbers) s h = each_filed layout Kept s.0 b numbers s.2 (sweep_filed layout a s.0 number (HoldsKept Kept a number) s.1 h)

-- placing a name that lies nowhere

place_filed : (layout : Layout) (w : World) (a b : AllocState) (name : Name) → IsWorld w → PlacesObject layout w a b name → LiesNowhere a name →
    name ≢ shared_name → AreSoundBlocks layout a → AreSoundBlocks layout b
place_filed layout w a b name world p nowhere other h = record {
  state = placed_sound layout a b name.maker p.class name (world_name w world name p.node p.there)
      (placed_fits layout a b name.maker p.class name h.state p.places) h.state p.places;
  once = placed_once layout a b name.maker p.class name p.places nowhere h.once;
  shared = λ k block lies. elim (placed_where layout a b name.maker p.class name p.places k block shared_name lies) [
    | inl here ↦ other (sym here.0)
    | inr old ↦ h.shared k block old
  ];
}

pub places_filed : (layout : Layout) (w : World) (a b : AllocState) (names : List Name) → IsWorld w → PlacesEach layout w a names b →
    IsInOrder names → ((n : Name) → Contains names n → LiesNowhere a n × (n ≢ shared_name)) → AreSoundBlocks layout a → AreSoundBlocks layout b
places_filed layout w a b [] world e order fresh h = subst (AreSoundBlocks layout) (sym e) h
places_filed layout w a b (name ∷ names) world p order fresh h =
    let first = fresh name (contains_head name names) in
    places_filed layout w p.0 b names world p.2 (in_order_rest name names order)
    (λ n c. (
      λ number block lies. elim (placed_where layout a p.0 name.maker p.1.class name p.1.places number block n lies) [
        | inl here ↦ not_before_itself name (subst (λ (y : Name). IsBefore name y) here.0 (in_order_first name names order n c))
        | inr old ↦ (fresh n (contains_tail name names n c)).0 number block old
      ],
      (fresh n (contains_tail name names n c)).1,
    ))
    (place_filed layout w a p.0 name world p.1 first.0 first.1 h)

-- the beginning, a cycle's beginning, and retiring

pub first_filed : (layout : Layout) → AreSoundBlocks layout (all_empty layout.segments)
first_filed layout = record {
  state = first_sound layout;
  once = first_once layout.segments;
  shared = λ k block lies. none_some (name_in (cells (all_empty layout.segments) k) block) shared_name (ap (λ c.
      name_in c block) (first_cells layout.segments k)) lies;
}

pub begun_filed : (layout : Layout) (a : AllocState) → AreSoundBlocks layout a → AreSoundBlocks layout (cycle_begun a)
begun_filed layout a h = record {
  state = begun_sound layout a h.state;
  once = begun_once a h.once;
  shared = λ k block lies. h.shared k block ((begun_names a k block shared_name).0 lies);
}

pub retired_filed : (layout : Layout) (a : AllocState) → AreSoundBlocks layout a → AreSoundBlocks layout (all_retired a)
retired_filed layout a h = record {
  state = retired_sound layout a h.state;
  once = retired_once a h.once;
  shared = λ k block lies. h.shared k block ((retired_names a k block shared_name).0 lies);
}
