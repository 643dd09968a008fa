-- The heap of a stop after a round, in the terms of a run; and after a promotion.
use Rattle.nmgc_collector_laws.proofs.Vocabulary.{◌≡◌, ◌≢◌, ◌⊎◌, ◌+◌, ℕ, List, ◌∷◌, map, refl, sym, ap, subst, ◌∙◌, arith, inl, inr, Some, None, slice_index, IsSome, Contains, Contains-append_left, Contains-append_right, Name, World, node_of, contains_tail, is_some_of, contains_map, absent, some_of, word_total, Layout, HEADER_WORDS, Header, AllocState, Cells, LiesIn, cells, no_cells, name_in, StandsFor, Shows, nth, Segments, block_place, size_of, Place, Represents, NoNode, IsEarlier, ListsWeaks, remembered, world_is_earlier, MutatorEnd, Opening, View, Object, place_of, earlier, now, IsKeptThen, places_then, place_cases, still_earlier, FitBlocks, HeapStandsFor, HoldsAfterRound, IsBornPlace, snapshots, IsPlaceAtStop, IsRoundFrom, RoundHolds, MarkedHolds}
use Rattle.nmgc_run_spec.specs.Run.{State}
use Rattle.nmgc_segment.specs.declared.state.State.TheVariants as stands

-- a segment with a name isn't free
pub not_free : (own : Cells) (block : ℕ) (name : Name) → (own.state ≡ stands.Free → own ≡ no_cells) → name_in own block ≡ Some name → own.state ≢ stands.Free
not_free own block name free lies e = let none : name_in own block ≡ None = ap (λ (k : Cells). name_in k block) (free e) in
    let bad : Some name ≡ None = sym lies ∙ none in cc

module _ (layout : Layout) (s t : State) (o : Opening) (before after : List ℕ) (v : View) (old new : Segments) (ends later : List MutatorEnd)
    (weaks : List Place) (r : IsRoundFrom layout s t o before after v old new ends later weaks) where
  abbrev born : List Object
  born = r.left.0.born

  abbrev places : List Place
  places = places_then o born

  abbrev Old : Place → Type 0
  Old p = IsPlaceAtStop layout s.allocation p

  -- a place of the stop is a place of the round
  old_there : (p : Place) → Old p → Contains places p
  old_there p is = Contains-append_left o.places (map place_of born) p (subst (λ (l : List Place). Contains l p) (sym r.places_are) ((r.heap.all p).1 is))

  old_is : (p : Place) → Contains o.places p → Old p
  old_is p d = (r.heap.all p).0 (subst (λ (l : List Place). Contains l p) r.places_are d)

  born_there : (x : Object) → Contains born x → Contains places (place_of x)
  born_there x d = Contains-append_right o.places (map place_of born) (place_of x) (contains_map place_of born x d)

  -- the words represent the world after the round
  represents : Represents layout (s.world ∷ snapshots t.progress) NoNode places t.world after
  represents =
      let w : World = (now o r.left.0.events).world in
      let all : List World = o.core.world ∷ earlier o in
      let plain : Represents o.layout all NoNode places w after =
      remembered o.layout all all (IsKeptThen o born) NoNode places w after (record {
        worlds = λ e d. contains_tail w all e d;
        nodes = λ name node none. absurd none;
      }) r.left.1 in
      subst (λ (y : Layout × World × List World × World). Represents y.0 (y.1 ∷ y.2) NoNode places y.3 after) (λ i. (
        r.layout_is i,
        r.began i,
        sym r.earlier_is i,
        sym r.world_is i,
      )) plain

  -- no header changed
  still : IsEarlier s.world t.world
  still = subst (λ (y : World × World). IsEarlier y.0 y.1) (λ i. (
    r.began i,
    sym r.world_is i,
  )) (still_earlier o.core.world o.core r.left.0.events r.left.0.legal r.can.world (world_is_earlier o.core.world r.can.world))

  fit : FitBlocks t.world s.allocation
  fit number block name node lies there =
      let was = is_some_of (node_of s.world name) (r.known number block name lies) in
      let size : size_of was.0 ≡ size_of node = ap (λ (h : Header). HEADER_WORDS + h.fields) (still.headers name was.0 node was.1 there) in
      let fits = r.heap.holds.fit number block name was.0 lies was.1 in
      omega (arith, size, fits)

  -- each name of a block is in the words
  named : (number : ℕ) → Shows new before number (cells s.allocation number) → (block : ℕ) (name : Name) → LiesIn s.allocation number block name →
      slice_index after (block_place new.layout number (nth new.segments number).class block + 1) ≡
      slice_index after (block_place layout number (cells s.allocation number).class block + 1)
  named number shows block name lies =
      let own : Cells = cells s.allocation number in
      let class = shows.class (not_free own block name shows.free lies) in
      let place : block_place layout number own.class block ≡ block_place new.layout number (nth new.segments number).class block =
      ap (λ (l : Layout). block_place l number own.class block) (sym r.new_layout) ∙ ap (λ (k : ℕ). block_place new.layout number k block) class in
      ap (λ (at : ℕ). slice_index after (at + 1)) (sym place)

  stand : StandsFor new after s.allocation
  stand =
      let was = r.stands in
      record {
        total = represents.total ∙ ap (λ (l : Layout). word_total l) (sym r.new_layout);
        count = was.count;
        names = was.names;
        fresh = was.fresh;
        shows = λ number exists.
            let shows = was.shows number exists in
            record {
              state = shows.state;
              free = shows.free;
              class = shows.class;
              blocks = shows.blocks;
              used = shows.used;
              named = λ block name lies.
                  let p : Place = record { at = block_place layout number (cells s.allocation number).class block; name = name } in
                  let there = old_there p (inr (record { number = number; block = block; lies = lies; at = refl })) in
                  named number shows block name lies ∙ (represents.named p there).name;
            };
      }

  sound : (p : Place) → Contains places p → IsPlaceAtStop layout s.allocation p ⊎ IsBornPlace layout s.world t.world p
  sound p d = elim (place_cases o born p d) [
    | inl there ↦ inl (old_is p there)
    | inr (x, is_born, is) ↦
        let new_one = r.left.0.new x is_born in
        let maker = new_one.maker in
        let from = new_one.from in
        let to = new_one.to in
        inr (subst (IsBornPlace layout s.world t.world) (sym is) (record {
          young = (subst (λ (w : World). node_of w x.name ≡ None) r.began new_one.unknown, (represents.named (place_of x) (born_there x is_born)).known);
          nursery = rw (← r.layout_is) (record { exists = maker; from = from; before = omega (arith, from, to) });
        }))
  ]

  -- each new name has a place
  all_born : (name : Name) → node_of s.world name ≡ None → IsSome (node_of t.world name) → (at : ℕ) × Contains places (record { at = at; name = name })
  all_born name none there =
      let node = is_some_of (node_of t.world name) there in
      elim (r.left.0.known name node.0 (ap (λ (w : World). node_of w name) (sym r.world_is) ∙ node.1)) [
        | inl (was, is, more) ↦ let bad : Some was ≡ None = sym is ∙ ap (λ (w : World). node_of w name) r.began ∙ none in absurd cc
        | inr (x, d, is) ↦ (x.at, subst (λ (n : Name). Contains places (record { at = x.at; name = n })) is (born_there x d))
      ]

  -- weak pointers of the stop keep their places
  listed : ListsWeaks layout places s.world weaks
  listed =
      let was = r.heap.listed in
      record {
        ordered = was.ordered;
        sound = λ p d. let one = was.sound p d in (old_there p ((r.heap.all p).0 one.0), one.1, one.2);
        complete = λ p one. elim (place_cases o born p one.0) [
          | inl there ↦ was.complete p (subst (λ (l : List Place). Contains l p) r.places_are there, one.1, one.2)
          | inr (x, d, is) ↦
              let none : node_of s.world p.name ≡ None = cc (is, subst (λ (w : World). node_of w x.name ≡ None) r.began (r.left.0.new x d).unknown) in
              absurd (absent (node_of s.world p.name) none (some_of (node_of s.world p.name) _ one.1.1))
        ];
      }

  holds_by : (a : AllocState) → a ≡ s.allocation → HeapStandsFor layout (s.world ∷ snapshots t.progress) places t.world a after new later
  holds_by a e = rw e (record {
    fit = fit;
    represents = represents;
    registers = r.registers;
    roots = r.roots;
    layout_is = r.new_layout;
    stands = stand;
  })

  holds : HoldsAfterRound layout s t places after new later weaks
  holds = record {
    sound = λ p d. subst (λ (x : AllocState). IsPlaceAtStop layout x p ⊎ IsBornPlace layout s.world t.world p) (sym r.allocation_is) (sound p d);
    old = λ p is. old_there p (subst (λ (x : AllocState). IsPlaceAtStop layout x p) r.allocation_is is);
    born = λ name young. all_born name young.0 young.1;
    holds = holds_by t.allocation r.allocation_is;
    listed = listed;
  }

pub round_holds : RoundHolds
round_holds layout s t o before after v old new ends later weaks r = holds layout s t o before after v old new ends later weaks r

pub marked_holds : MarkedHolds
marked_holds layout s words old new ends weaks h same stands = (
  record {
    places = h.places;
    all = h.all;
    holds = record {
      fit = h.holds.fit;
      represents = h.holds.represents;
      registers = h.holds.registers;
      roots = h.holds.roots;
      layout_is = same;
      stands = stands;
    };
    listed = h.listed;
  },
  refl,
)
