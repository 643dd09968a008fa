-- At the end of a run the heap at the end and the heap at the last stop say the same.
--
-- Only names of the world lie in blocks, blocks lie apart, and each within its segment. So objects that fit their blocks lie apart too.
use Rattle.std.specs.Prelude.{◌≡◌, ◌≢◌, ◌⊎◌, ◌+◌, ◌*◌, ◌<◌, ◌≤◌, ◌∷◌, slice_index, map}
use Rattle.nmgc_run_laws.specs.laws.Vocabulary.{ℕ, List, [], length, arith, refl, sym, ap, subst, ◌∙◌, inl, inr, true, Some, Contains, contains_cases, contains_head, contains_tail, nothing_in, Name, World, IsWorld, Node, node_of, shared_name, IsWide, IsInOrder, begins, SHARED_MAKER, name_word, Layout, block_size, nursery_place, large, nth, block_place, HasNumber, StandsFor, AllocState, Cells, LiesIn, cells, name_in, none_some, Place, shared_place, Represents, NoNode, IsTracked, tracked_wide, IsBlockPlace, MutatorEnd, slice_get, Report, Script, Plan, State, Progress, idle, marking, sweeping, is_idle, plan_of, layout_of, snapshots, last_state, AreSoundBlocks, LieKnown}
use Rattle.std.proofs.{Common.lit≤, Common.lit<, Math.Nat.mul-le-mul_right, lemmas.Bool.cases_order}
use Rattle.nmgc_lists.specs.laws.{Items.contains_map, Items.map_contains, Options.some_is}
use Rattle.nmgc_world_spec.specs.{declared.node.Node.TheVariants.Con, declared.node.Node.TheVariants.Var, declared.node.Node.TheVariants.Arr, declared.node.Node.TheVariants.Thunk, declared.node.Node.TheVariants.Weak, declared.node.Node.TheVariants.Stack, declared.node.Parts.Parts, World.IsShared, Reach.IsAlive, Reach.IsAliveWeak}
use Rattle.nmgc_object.specs.{declared.size.TheConstants.HEADER_WORDS, Words.header_word, Words.IsHeader, Words.InSegment, Words.InNursery, Words.word_total}
use Rattle.nmgc_alloc.specs.laws.Placing.{fits, step}
use Rattle.nmgc_heap_spec.specs.{Objects.header_of, Objects.size_of, Objects.LiesInSegment, Represents.IsNamed, Represents.IsObject, Represents.IsPlaced, Roots.IsListedWeak, laws.Roots.wide_tracked, laws.Written.world_is_written}
use Rattle.nmgc_run_spec.specs.{AtStop.HasHeapOfStop, AtStop.IsLawfulAtStop, Lawful.IsLawful, Lawful.HasObject, Lawful.IsMutatorAtEnd, Lawful.HoldsAtEnd}
use Rattle.nmgc_run_laws.specs.{Ends.EndsAreStops, Limits.FitsRun}
use Rattle.nmgc_run_laws.specs.laws.{Mutators.each_at_end, Mutators.all_registers, Mutators.roots_at_end, Places.lies_exists, Places.lies_within, CycleCounts.end_is_idle, Crowding.runnable_of, Limits.scripts_have_good_plans, Limits.states_are_within, Runs.states_are_sound}
use Rattle.nmgc_segment.specs.declared.state.State.TheVariants as stands

-- g has sixteen slots
shared_size : (node : Node) → IsShared node → size_of node ≡ 18
shared_size (Arr values) h = omega (arith, h)
shared_size (Con tag values) h = absurd h
shared_size (Var v) h = absurd h
shared_size (Thunk free result) h = absurd h
shared_size (Weak parts) h = absurd h
shared_size (Stack size values) h = absurd h

-- places with these names
record PlacesOf (P : Place → Type 0) (names : List Name) : Type 0 where
  list : List Place
  names_are : names ≡ map (λ (p : Place). p.name) list
  there : (p : Place) → Contains list p → P p

places_of : (P : Place → Type 0) (names : List Name) → ((n : Name) → Contains names n → (at : ℕ) × P (record { at = at; name = n })) → PlacesOf P names
places_of P [] f = record { list = []; names_are = refl; there = λ p c. absurd (nothing_in p c) }
places_of P (n ∷ names) f =
    let first = f n (contains_head n names) in
    let rest = places_of P names (λ m c. f m (contains_tail n names m c)) in
    record {
      list = record { at = first.0; name = n } ∷ rest.list;
      names_are = ap (λ (l : List Name). n ∷ l) rest.names_are;
      there = λ p c. elim (contains_cases (record { at = first.0; name = n }) rest.list p c) [
        | inl e ↦ subst P e first.1
        | inr d ↦ rest.there p d
      ];
    }

none_kept : (p : Progress) → is_idle p ≡ true → snapshots p ≡ []
none_kept idle e = refl
none_kept (marking c) e = absurd cc
none_kept (sweeping c number) e = absurd cc

module _ (layout : Layout) (s : State) (report : Report)
    (world : IsWorld s.world) (sound : AreSoundBlocks layout s.allocation)
    (layout_is : report.segments.layout ≡ layout) (stand : StandsFor report.segments report.words s.allocation) where
  abbrev a : AllocState
  a = s.allocation

  -- the block of a place lies within its segment
  record Block (p : Place) : Type 0 where
    number : ℕ
    block : ℕ
    lies : LiesIn a number block p.name
    place : p.at ≡ block_place layout number (cells a number).class block
    used : (cells a number).state ≢ stands.Free
    exists : number < layout.segments
    inside : block * block_size (cells a number).class + block_size (cells a number).class ≤ layout.words
    four : 4 ≤ block_size (cells a number).class

  block_at : (p : Place) → IsBlockPlace layout a p → Block p
  block_at p b =
      let used : (cells a b.number).state ≢ stands.Free = λ e. none_some (name_in (cells a b.number) b.block) p.name (ap (λ (c : Cells).
      name_in c b.block) (sound.state.free b.number e)) b.lies in
      let lt = lies_exists a b.number b.block p.name b.lies in
      let count = sound.state.count in
      let low = lies_within a b.number b.block p.name b.lies in
      let many = sound.state.blocks b.number used in
      let four : 4 ≤ block_size (cells a b.number).class = large (cells a b.number).class in
      record {
        number = b.number;
        block = b.block;
        lies = b.lies;
        place = b.at;
        used = used;
        exists = omega (arith, lt, count);
        inside = fits layout.words (block_size (cells a b.number).class) b.block (omega (arith, four)) (omega (arith, low, many));
        four = four;
      }

  -- two blocks are the same, or lie apart
  apart : (p q : Place) (b : Block p) (c : Block q) → ((b.number ≡ c.number) × (b.block ≡ c.block)) ⊎
      ((p.at + block_size (cells a b.number).class ≤ q.at) ⊎ (q.at + block_size (cells a c.number).class ≤ p.at))
  apart p q b c =
      let here = b.inside in
      let there = c.inside in
      let at_is = b.place in
      let to_is = c.place in
      elim (cases_order b.number c.number) [
        | inl same ↦
            let size : block_size (cells a b.number).class ≡ block_size (cells a c.number).class = ap (λ (k : ℕ). block_size (cells a k).class) same in
            let one : b.block * block_size (cells a b.number).class ≡ b.block * block_size (cells a c.number).class = ap (λ (k : ℕ). b.block * k) size in
            let base : b.number * layout.words ≡ c.number * layout.words = ap (λ (k : ℕ). k * layout.words) same in
            elim (cases_order b.block c.block) [
              | inl e ↦ inl (same, e)
              | inr (inl lt) ↦ inr (inl (omega (arith, step b.block c.block (block_size (cells a c.number).class) lt)))
              | inr (inr gt) ↦ inr (inr (omega (arith, step c.block b.block (block_size (cells a c.number).class) gt)))
            ]
        | inr (inl lt) ↦ inr (inl (omega (arith, step b.number c.number layout.words lt)))
        | inr (inr gt) ↦ inr (inr (omega (arith, step c.number b.number layout.words gt)))
      ]

  -- places of one block are one place
  same : (p q : Place) (b : Block p) (c : Block q) → b.number ≡ c.number → b.block ≡ c.block → p ≡ q
  same p q b c number block =
      let at : p.at ≡ q.at = b.place ∙ ap (λ (k : ℕ). block_place layout k (cells a k).class b.block) number ∙
      ap (λ (k : ℕ). block_place layout c.number (cells a c.number).class k) block ∙ sym c.place in
      let lies : name_in (cells a b.number) b.block ≡ name_in (cells a c.number) c.block = ap (λ (k : ℕ). name_in (cells a k) b.block) number ∙
      ap (λ (k : ℕ). name_in (cells a c.number) k) block in
      let name : p.name ≡ q.name = some_is p.name q.name (sym b.lies ∙ lies ∙ c.lies) in
      ap (λ (k : ℕ). record { at = k; name = p.name }) at ∙ ap (λ (n : Name). record { at = q.at; name = n }) name

  -- the name in a block isn't g's
  own : (p : Place) → Block p → p.name.maker ≢ SHARED_MAKER
  own p b m =
      let serial : p.name.serial ≡ 0 = (stand.names b.number b.block p.name b.lies).2 m in
      let is : p.name ≡ shared_name = ap (λ (k : ℕ). record { maker = k; serial = p.name.serial }) m ∙ ap (λ (z : ℕ).
      record { maker = SHARED_MAKER; serial = z }) serial in
      sound.shared b.number b.block (subst (λ (n : Name). LiesIn a b.number b.block n) is b.lies)

  in_segment : (p : Place) (b : Block p) (size i : ℕ) → size ≤ block_size (cells a b.number).class → p.at ≤ i → i < p.at + size → InSegment layout b.number i
  in_segment p b size i fit low high =
      let at_is = b.place in
      let inside = b.inside in
      record { exists = b.exists; from = omega (arith, at_is, low); before = omega (arith, at_is, inside, fit, high) }

  below : (p : Place) (b : Block p) → p.at < nursery_place layout 0
  below p b =
      let at_is = b.place in
      let inside = b.inside in
      let four = b.four in
      let up : (b.number + 1) * layout.words ≤ layout.segments * layout.words = let e = b.exists in mul-le-mul_right layout.words (omega (arith, e)) in
      omega (arith, at_is, inside, four, up)

  -- a weak pointer isn't g
  not_shared : (n : Name) (parts : Parts) → IsAlive s.world n parts → n ≢ shared_name
  not_shared n parts alive e =
      let is : s.world.shared ≡ Weak (Some parts) = some_is s.world.shared (Weak (Some parts)) (ap (λ (m : Name). node_of s.world m) (sym e) ∙ alive) in
      subst IsShared is world.shared

  weak_wide : (n : Name) (parts : Parts) → IsAlive s.world n parts → IsWide s.world n
  weak_wide n parts alive = begins n (inr (n, parts, alive, inl refl))

  module _ (places : List Place) (all : (p : Place) → Contains places p → (p ≡ shared_place) ⊎ IsBlockPlace layout a p) where
    at_place : (p : Place) → Contains places p → (p ≡ shared_place) ⊎ Block p
    at_place p c = elim (all p c) [ inl g ↦ inl g | inr b ↦ inr (block_at p b) ]

    -- the place of a weak pointer lies in a segment
    weak_in : (p : Place) (parts : Parts) → Contains places p → IsAlive s.world p.name parts → (segment : ℕ) × InSegment layout segment p.at
    weak_in p parts c alive = elim (at_place p c) [
      | inl g ↦ absurd (not_shared p.name parts alive (ap (λ (q : Place). q.name) g))
      | inr b ↦ let four = b.four in (b.number, in_segment p b 1 p.at (omega (arith, four)) (omega arith) (omega arith))
    ]

-- from the last stop

pub stop_at_end : (layout : Layout) (s : State) (report : Report) → IsWorld s.world → AreSoundBlocks layout s.allocation →
    HasHeapOfStop layout s report → HoldsAtEnd layout s report
stop_at_end layout s report world sound (weaks, names, h) =
    record {
      places = h.places;
      all = h.all;
      layout_is = h.holds.layout_is;
      stands = h.holds.stands;
      fit = h.holds.fit;
      objects = λ n node wide e. object n node (wide_tracked s.world (snapshots s.progress) n wide) e;
      zeros = h.holds.represents.zeros;
      count = roots.0;
      mutators = roots.1;
      weaks = record {
        ordered = subst IsInOrder (sym names) h.listed.ordered;
        sound = λ n c.
            let m = map_contains (λ (p : Place). p.name) weaks n (subst (λ (l : List Name). Contains l n) names c) in
            subst (IsAliveWeak s.world) (sym m.2) (h.listed.sound m.0 m.1).1;
        complete = λ n alive.
            let o = object n (Weak (Some alive.0)) (wide_tracked s.world (snapshots s.progress) n (wide n alive.0 alive.1)) alive.1 in
            let p : Place = record { at = o.0; name = n } in
            let listed = h.listed.complete p (o.1.there, alive, segment p alive.0 o.1.there alive.1) in
            subst (λ (l : List Name). Contains l n) (sym names) (contains_map (λ (q : Place). q.name) weaks p listed);
      };
    }
  where
    roots : (length report.mutators ≡ length s.world.mutators) × ((m : ℕ) (own : MutatorEnd) → slice_get report.mutators m ≡ Some own →
        IsMutatorAtEnd h.places s.world m own)
    roots = each_at_end h.places s.world world report.mutators h.holds.registers h.holds.roots

    object : (n : Name) (node : Node) → IsTracked s.world (snapshots s.progress) n → node_of s.world n ≡ Some node → (at : ℕ) ×
        HasObject h.places report.words (record { at = at; name = n }) node
    object n node t e =
        let o = h.holds.represents.tracked n node t e in (
          o.at,
          record {
            there = o.there;
            header = o.object.header;
            name = (h.holds.represents.named (record { at = o.at; name = n }) o.there).name;
            fields = o.fields;
          },
        )

    wide : (n : Name) (parts : Parts) → IsAlive s.world n parts → IsWide s.world n
    wide = weak_wide layout s report world sound h.holds.layout_is h.holds.stands

    segment : (p : Place) (parts : Parts) → Contains h.places p → IsAlive s.world p.name parts → (segment : ℕ) × InSegment layout segment p.at
    segment = weak_in layout s report world sound h.holds.layout_is h.holds.stands h.places (λ p. (h.all p).0)

-- and back

module _ (layout : Layout) (s : State) (report : Report)
    (world : IsWorld s.world) (sound : AreSoundBlocks layout s.allocation) (known : LieKnown s.world s.allocation)
    (written : (n : Name) (node : Node) → node_of s.world n ≡ Some node → IsHeader (header_of node))
    (idled : snapshots s.progress ≡ []) (h : HoldsAtEnd layout s report) where
  abbrev Blocked : Place → Type 0
  Blocked p = Block layout s report world sound h.layout_is h.stands p

  at_h : (p : Place) → Contains h.places p → (p ≡ shared_place) ⊎ Blocked p
  at_h = at_place layout s report world sound h.layout_is h.stands h.places (λ p. (h.all p).0)

  own_h : (p : Place) → Blocked p → p.name.maker ≢ SHARED_MAKER
  own_h = own layout s report world sound h.layout_is h.stands

  same_h : (p q : Place) (b : Blocked p) (c : Blocked q) → b.number ≡ c.number → b.block ≡ c.block → p ≡ q
  same_h = same layout s report world sound h.layout_is h.stands

  in_h : (p : Place) (b : Blocked p) (size : ℕ) → size ≤ block_size (cells s.allocation b.number).class → LiesInSegment layout p.at size
  in_h p b size fit = (b.number, λ i low high. in_segment layout s report world sound h.layout_is h.stands p b size i fit low high)

  -- g's place is no place of a block
  shared_apart : (p q : Place) → p ≡ shared_place → Blocked q → (p.name ≡ q.name) ⊎ (p.at ≡ q.at) → ⊥
  shared_apart p q g b (inl e) = own_h q b (ap (λ (n : Name). n.maker) (sym e ∙ ap (λ (x : Place). x.name) g))
  shared_apart p q g b (inr e) = let at_is = b.place in let at = ap (λ (x : Place). x.at) g in omega (arith, at_is, at, e)

  one : (p q : Place) → Contains h.places p → Contains h.places q → (p.name ≡ q.name) ⊎ (p.at ≡ q.at) → p ≡ q
  one p q c d e = by (at_h p c) (at_h q d) e
    where
      by : (p ≡ shared_place) ⊎ Blocked p → (q ≡ shared_place) ⊎ Blocked q → (p.name ≡ q.name) ⊎ (p.at ≡ q.at) → p ≡ q
      by (inl g) (inl k) e = g ∙ sym k
      by (inl g) (inr b) e = absurd (shared_apart p q g b e)
      by (inr b) (inl k) (inl e) = absurd (shared_apart q p k b (inl (sym e)))
      by (inr b) (inl k) (inr e) = absurd (shared_apart q p k b (inr (sym e)))
      by (inr b) (inr k) (inl e) =
          let is = sound.once b.number b.block k.number k.block p.name b.lies (subst (λ (n : Name). LiesIn s.allocation k.number k.block n) (sym e) k.lies) in
          same_h p q b k is.0 is.1
      by (inr b) (inr k) (inr e) = elim (apart layout s report world sound h.layout_is h.stands p q b k) [
        | inl is ↦ same_h p q b k is.0 is.1
        | inr (inl l) ↦ let four = b.four in absurd (omega (arith, l, four, e))
        | inr (inr l) ↦ let four = k.four in absurd (omega (arith, l, four, e))
      ]

  shared_named : IsNamed layout s.world report.words shared_place
  shared_named =
      let o = h.objects shared_name s.world.shared (begins shared_name (inl (inl refl))) refl in
      let at : o.0 ≡ 1 = elim (at_h (record { at = o.0; name = shared_name }) o.1.there) [
        | inl g ↦ ap (λ (q : Place). q.at) g
        | inr b ↦ absurd (own_h (record { at = o.0; name = shared_name }) b refl)
      ] in
      record {
        known = refl;
        valid = (lit≤ tt, lit< tt, λ m. refl);
        name = subst (λ (k : ℕ). slice_index report.words (k + 1) ≡ name_word shared_name) at o.1.name;
        lies = inl (refl, refl, lit≤ tt);
      }

  block_named : (p : Place) → Blocked p → IsNamed layout s.world report.words p
  block_named p b =
      let exists = b.exists in
      let count = sound.state.count in
      let many = h.stands.count in
      let has : HasNumber report.segments b.number = omega (arith, exists, count, many) in
      let shows = h.stands.shows b.number has in
      let class = shows.class b.used in
      let place : p.at ≡ block_place report.segments.layout b.number (nth report.segments.segments b.number).class b.block = b.place ∙
      ap (λ (l : Layout). block_place l b.number (cells s.allocation b.number).class b.block) (sym h.layout_is) ∙
      ap (λ (k : ℕ). block_place report.segments.layout b.number k b.block) class in
      let four = b.four in
      record {
        known = known b.number b.block p.name b.lies;
        valid = h.stands.names b.number b.block p.name b.lies;
        name = ap (λ (k : ℕ). slice_index report.words (k + 1)) place ∙ shows.named b.block p.name b.lies;
        lies = inr (own_h p b, inl (in_h p b HEADER_WORDS (omega (arith, four))));
      }

  named : (p : Place) → Contains h.places p → IsNamed layout s.world report.words p
  named p c = elim (at_h p c) [
    | inl g ↦ subst (λ (q : Place). IsNamed layout s.world report.words q) (sym g) shared_named
    | inr b ↦ block_named p b
  ]

  object : (p : Place) (node : Node) → node_of s.world p.name ≡ Some node → slice_index report.words p.at ≡ header_word (header_of node) →
      (p ≡ shared_place) ⊎ Blocked p → IsObject layout h.places report.words p node
  object p node e header (inl g) =
      let at = ap (λ (q : Place). q.at) g in
      let is : s.world.shared ≡ node = some_is s.world.shared node (ap (λ (q : Place). node_of s.world q.name) (sym g) ∙ e) in
      let size : size_of node ≡ 18 = shared_size node (subst IsShared is world.shared) in
      record {
        header = header;
        valid = written p.name node e;
        lies = inl (ap (λ (q : Place). q.name.maker) g, at, omega (arith, at, size));
        alone = λ q d. elim (at_h q d) [
          | inl k ↦ let to = ap (λ (x : Place). x.at) k in inl (omega (arith, at, to))
          | inr b ↦ let to = b.place in inr (omega (arith, at, to, size))
        ];
      }
  object p node e header (inr b) =
      let fit = h.fit b.number b.block p.name node b.lies e in
      let at = b.place in
      record {
        header = header;
        valid = written p.name node e;
        lies = inr (own_h p b, inl (in_h p b (size_of node) fit));
        alone = λ q d. elim (at_h q d) [
          | inl k ↦ let to = ap (λ (x : Place). x.at) k in inl (omega (arith, at, to))
          | inr c ↦ elim (apart layout s report world sound h.layout_is h.stands p q b c) [
            | inl is ↦ let to = ap (λ (x : Place). x.at) (same_h p q b c is.0 is.1) in inl (omega (arith, to))
            | inr (inl l) ↦ inr (omega (arith, l, fit))
            | inr (inr l) ↦ inl (omega (arith, l))
          ]
        ];
      }

  tracked : (n : Name) (node : Node) → IsTracked s.world [] n → node_of s.world n ≡ Some node → IsPlaced layout [] NoNode h.places report.words n node
  tracked n node t e =
      let o = h.objects n node (tracked_wide s.world n t) e in
      record {
        at = o.0;
        there = o.1.there;
        object = object (record { at = o.0; name = n }) node e o.1.header (at_h (record { at = o.0; name = n }) o.1.there);
        fields = o.1.fields;
        free = λ x before c. absurd (nothing_in x c);
        kept = λ before none. absurd none;
      }

  not_born : (p : Place) → Contains h.places p → InNursery layout p.name.maker p.at → ⊥
  not_born p c n =
      let from = n.from in
      elim (at_h p c) [
        | inl g ↦ let at = ap (λ (q : Place). q.at) g in absurd (omega (arith, at, from))
        | inr b ↦ let low = below layout s report world sound h.layout_is h.stands p b in absurd (omega (arith, low, from))
      ]

  represents : Represents layout [] NoNode h.places s.world report.words
  represents = record {
    total = h.stands.total ∙ ap (λ (l : Layout). word_total l) h.layout_is;
    one = one;
    named = named;
    tracked = tracked;
    born = λ p node c n e. absurd (not_born p c n);
    zeros = h.zeros;
  }

  weak_places : PlacesOf (Contains h.places) report.weaks
  weak_places = places_of (Contains h.places) report.weaks (λ n c.
      let alive = h.weaks.sound n c in
      let o = h.objects n (Weak (Some alive.0)) (weak_wide layout s report world sound h.layout_is h.stands n alive.0 alive.1) alive.1 in
      (o.0, o.1.there))

  weaks_listed : (p : Place) → IsListedWeak layout h.places s.world p → Contains weak_places.list p
  weaks_listed p l =
      let c = subst (λ (names : List Name). Contains names p.name) weak_places.names_are (h.weaks.complete p.name l.1) in
      let m = map_contains (λ (q : Place). q.name) weak_places.list p.name c in
      subst (λ (q : Place). Contains weak_places.list q) (one m.0 p (weak_places.there m.0 m.1) l.0 (inl (sym m.2))) m.1

  pub end_at_stop : HasHeapOfStop layout s report
  end_at_stop = (
    weak_places.list,
    weak_places.names_are,
    record {
      places = h.places;
      all = h.all;
      holds = record {
        fit = h.fit;
        represents = subst (λ (l : List World). Represents layout l NoNode h.places s.world report.words) (sym idled) represents;
        registers = all_registers h.places s.world world report.mutators h.count h.mutators;
        roots = roots_at_end h.places s.world world report.mutators h.count h.mutators;
        layout_is = h.layout_is;
        stands = h.stands;
      };
      listed = record {
        ordered = subst IsInOrder weak_places.names_are h.weaks.ordered;
        sound = λ p c.
            let there = weak_places.there p c in
            let name = contains_map (λ (q : Place). q.name) weak_places.list p c in
            let alive = h.weaks.sound p.name (subst (λ (names : List Name). Contains names p.name) (sym weak_places.names_are) name) in
            (there, alive, weak_in layout s report world sound h.layout_is h.stands h.places (λ q. (h.all q).0) p alive.0 there alive.1);
        complete = weaks_listed;
      };
    },
  )

pub ends_are_stops : EndsAreStops
ends_are_stops script report run fits i e =
    let plan : Plan = plan_of script in
    let s : State = last_state run in
    let good = scripts_have_good_plans script fits.fits in
    let runnable = runnable_of script fits in
    let state = states_are_sound plan run runnable i in
    let within = (states_are_within plan run runnable good.fit i).world in
    let idled = none_kept s.progress (end_is_idle plan run report.end i e) in (
      λ h. end_at_stop (layout_of plan) s report state.world state.sound_blocks state.known (λ n node there.
          (world_is_written plan.config.words s.world good.layout.words state.world within n node there).0) idled h,
      stop_at_end (layout_of plan) s report state.world state.sound_blocks,
    )

-- so a lawful report with the heap of a stop is lawful, and a lawful report has the heap of a stop

pub stop_is_lawful : (script : Script) (report : Report) → FitsRun script → IsLawfulAtStop (plan_of script) report →
    IsLawful script report
stop_is_lawful script report fits l = record {
  run = l.run;
  is_run = l.is_run;
  agrees = l.agrees;
  end_is = l.end_is;
  heap = (ends_are_stops script report l.run fits l.is_run l.end_is).1 l.heap;
}

pub heap_at_stop : (script : Script) (report : Report) → FitsRun script → (l : IsLawful script report) →
    HasHeapOfStop (layout_of (plan_of script)) (last_state l.run) report
heap_at_stop script report fits l = (ends_are_stops script report l.run fits l.is_run l.end_is).0 l.heap
