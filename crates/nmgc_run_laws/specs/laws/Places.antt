-- The places of a heap are its blocks in use.
use Rattle.std.specs.Prelude.{◌≡◌, ◌≢◌, ◌↔◌, ◌+◌, ◌<◌}
use Rattle.nmgc_run_laws.specs.laws.Vocabulary.{ℕ, List, length, arith, refl, sym, ap, subst, ◌∙◌, inl, inr, Option, Some, None, IsSome, Contains, slice_index, get_or-eq_default, cases_lt, Name, SHARED_MAKER, Node, World, node_of, shared_name, begins, contains_head, is_some_of, block_size, name_word, IsName, nursery_place, Layout, SHARED_PLACE, nth, Segments, HasNumber, block_place, IsSegments, AllocState, Cells, LiesIn, cells, no_cells, name_in, StandsFor, Shows, one_size, IsTracked, Place, shared_place, Represents, NoNode, IsOccupied, AreBlocks, IsBlockPlace, IsPlaceAtStop, FitBlocks, BlocksAtStop, BlocksAfterRound, none_some}
use Rattle.nmgc_segment.specs.declared.state.State.TheVariants as stands

-- a name lies in a segment that exists, and in one of its blocks
pub lies_exists : (a : AllocState) (number block : ℕ) (name : Name) → LiesIn a number block name → number < length a.segments
lies_exists a number block name lies = elim (cases_lt number (length a.segments)) [
  | inl lt ↦ lt
  | inr ge ↦
      let past : cells a number ≡ no_cells = get_or-eq_default a.segments no_cells {n = number} ge in
      absurd (none_some (name_in (cells a number) block) name (ap (λ (c : Cells). name_in c block) past) lies)
]

pub lies_within : (a : AllocState) (number block : ℕ) (name : Name) → LiesIn a number block name → block < length (cells a number).names
lies_within a number block name lies = elim (cases_lt block (length (cells a number).names)) [
  | inl lt ↦ lt
  | inr ge ↦ absurd (none_some (name_in (cells a number) block) name (get_or-eq_default (cells a number).names None {n = block} ge) lies)
]

module _ (layout : Layout) (a : AllocState) (words : List ℕ) (segments : Segments) (same : segments.layout ≡ layout) (shown : StandsFor segments words a) where
  shows_at : (number block : ℕ) (name : Name) → LiesIn a number block name → HasNumber segments number × Shows segments words number (cells a number)
  shows_at number block name lies =
      let e = lies_exists a number block name lies in
      let count = shown.count in
      let has : HasNumber segments number = omega (arith, e, count) in
      (has, shown.shows number has)

  not_free : (number block : ℕ) (name : Name) → LiesIn a number block name → (cells a number).state ≢ stands.Free
  not_free number block name lies e =
      let empty = (shows_at number block name lies).1.free e in
      none_some (name_in (cells a number) block) name (ap (λ (c : Cells). name_in c block) empty) lies

  -- a block with a name is in use
  pub block_used : (number block : ℕ) (name : Name) → LiesIn a number block name →
      IsOccupied segments (block_place layout number (cells a number).class block) (block_size (cells a number).class)
  block_used number block name lies =
      let at = shows_at number block name lies in
      let free = not_free number block name lies in
      let class = at.1.class free in
      let inside = lies_within a number block name lies in
      let count = at.1.blocks free in
      record {
        number = number;
        block = block;
        begins = record {
          exists = at.0;
          used = λ e. free (at.1.state ∙ e);
          within = omega (arith, inside, count);
          place = cc (same, class);
        };
        used = (at.1.used block).0 (subst (λ (o : Option Name). IsSome o) (sym lies) refl);
        words = ap block_size class;
      }

  -- a block in use has a name
  used_name : (at size : ℕ) (o : IsOccupied segments at size) → (name : Name) × LiesIn a o.number o.block name ×
      (at ≡ block_place layout o.number (cells a o.number).class o.block) × (slice_index words (at + 1) ≡ name_word name)
  used_name at size o =
      let shows = shown.shows o.number o.begins.exists in
      let some = is_some_of (name_in (cells a o.number) o.block) ((shows.used o.block).1 o.used) in
      let class = shows.class (λ e. o.begins.used (sym shows.state ∙ e)) in (
        some.0,
        some.1,
        cc (o.begins.place, same, class),
        ap (λ (k : ℕ). slice_index words (k + 1)) o.begins.place ∙ shows.named o.block some.0 some.1,
      )

  are_blocks : (base : ℕ) (places : List Place) (w : World) → FitBlocks w a → ((p : Place) → IsPlaceAtStop layout a p → Contains places p) →
      ((p : Place) → Contains places p → p.at < base → IsPlaceAtStop layout a p) → AreBlocks segments base places w
  are_blocks base places w fit is_known back = record {
    held = λ p node c low other e. elim (back p c low) [
      | inl g ↦ absurd (other (ap (λ (q : Place). q.name.maker) g))
      | inr b ↦
          let o = block_used b.number b.block p.name b.lies in (
            block_size (cells a b.number).class,
            subst (λ (k : ℕ). IsOccupied segments k (block_size (cells a b.number).class)) (sym b.at) o,
            fit b.number b.block p.name node b.lies e,
          )
    ];
    filled = λ at size o.
        let n = used_name at size o in
        (n.0, is_known (record { at = at; name = n.0 }) (inr (record { number = o.number; block = o.block; lies = n.1; at = n.2 })));
  }

pub blocks_at_stop : BlocksAtStop
blocks_at_stop layout s words segments mutators weaks h =
    are_blocks layout s.allocation words segments h.holds.layout_is h.holds.stands (nursery_place layout 0) h.places s.world h.holds.fit (λ p.
    (h.all p).1) (λ p c low. (h.all p).0 c)

pub blocks_after_round : BlocksAfterRound
blocks_after_round layout s t places words segments mutators weaks h =
    are_blocks layout t.allocation words segments h.holds.layout_is h.holds.stands (nursery_place layout 0) places t.world h.holds.fit h.old
    (λ p c low. elim (h.sound p c) [
      | inl at ↦ at
      | inr born ↦ let from = born.nursery.from in absurd (omega (arith, from, low))
    ])

module _ (layout : Layout) (earlier : List World) (places : List Place) (w : World) (a : AllocState) (words : List ℕ) (segments : Segments)
    (differ : (x y : Name) → IsName x → IsName y → name_word x ≡ name_word y → x ≡ y)
    (r : Represents layout earlier NoNode places w words)
    (sound : IsSegments segments)
    (same : segments.layout ≡ layout)
    (shown : StandsFor segments words a)
    (low : (p : Place) → Contains places p → p.at < nursery_place layout 0)
    (blocks : AreBlocks segments (nursery_place layout 0) places w) where
  node_at : (p : Place) → Contains places p → (node : Node) × (node_of w p.name ≡ Some node)
  node_at p c = is_some_of (node_of w p.name) (r.named p c).known

  valid : (p : Place) → Contains places p → IsName p.name
  valid p c = (r.named p c).valid

  -- the place of a block with a name
  block_known : (p : Place) → IsBlockPlace layout a p → Contains places p
  block_known p b =
      let o = subst (λ (k : ℕ).
      IsOccupied segments k (block_size (cells a b.number).class)) (sym b.at)
      (block_used layout a words segments same shown b.number b.block p.name b.lies) in
      let f = blocks.filled p.at (block_size (cells a b.number).class) o in
      let is = block_named p b in
      let e : f.0 ≡ p.name = differ f.0 p.name (valid (record {
        at = p.at;
        name = f.0;
      }) f.1) (shown.names b.number b.block p.name b.lies) (sym (r.named (record { at = p.at; name = f.0 }) f.1).name ∙ is) in
      subst (λ (n : Name). Contains places (record { at = p.at; name = n })) e f.1
    where
      block_named : (p : Place) (b : IsBlockPlace layout a p) → slice_index words (p.at + 1) ≡ name_word p.name
      block_named p b =
          let h = shows_at layout a words segments same shown b.number b.block p.name b.lies in
          let class = h.1.class (not_free layout a words segments same shown b.number b.block p.name b.lies) in
          let place : p.at ≡ block_place segments.layout b.number (nth segments.segments b.number).class b.block = b.at ∙
          ap (λ (l : Layout). block_place l b.number (cells a b.number).class b.block) (sym same) ∙
          ap (λ (k : ℕ). block_place segments.layout b.number k b.block) class in
          ap (λ (k : ℕ). slice_index words (k + 1)) place ∙ h.1.named b.block p.name b.lies

  -- g has its place
  shared_known : Contains places shared_place
  shared_known =
      let t : IsTracked w earlier shared_name = begins shared_name (w, contains_head w earlier, begins shared_name (inl (inl refl))) in
      let p = r.tracked shared_name w.shared t refl in
      let at : p.at ≡ SHARED_PLACE = elim (r.named (record { at = p.at; name = shared_name }) p.there).lies [
        | inl g ↦ g.1
        | inr o ↦ absurd (o.0 refl)
      ] in
      subst (λ (k : ℕ). Contains places (record { at = k; name = shared_name })) at p.there

  is_known : (p : Place) → IsPlaceAtStop layout a p → Contains places p
  is_known p (inl g) = subst (λ (q : Place). Contains places q) (sym g) shared_known
  is_known p (inr b) = block_known p b

  back : (p : Place) → Contains places p → IsPlaceAtStop layout a p
  back p c = elim (r.named p c).lies [
    | inl g ↦
        let serial : p.name.serial ≡ 0 = (valid p c).2 g.0 in
        inl (ap (λ (k : ℕ). record { at = k; name = p.name }) g.1 ∙
        ap (λ (n : Name). record { at = SHARED_PLACE; name = n }) (ap (λ (m : ℕ). record { maker = m; serial = p.name.serial }) g.0 ∙
        ap (λ (z : ℕ). record { maker = SHARED_MAKER; serial = z }) serial))
    | inr o ↦
        let node = node_at p c in
        let h = blocks.held p node.0 c (low p c) o.0 node.1 in
        let n = used_name layout a words segments same shown p.at h.0 h.1 in
        let e : n.0 ≡ p.name = differ n.0 p.name (shown.names h.1.number h.1.block n.0 n.1) (valid p c) (sym n.3 ∙ (r.named p c).name) in
        inr (record { number = h.1.number; block = h.1.block; lies = subst (λ (m : Name). LiesIn a h.1.number h.1.block m) e n.1; at = n.2 })
  ]

  fits : FitBlocks w a
  fits number block name node lies e =
      let place : Place = record { at = block_place layout number (cells a number).class block; name = name } in
      let c = block_known place (record { number = number; block = block; lies = lies; at = refl }) in
      let own : name.maker ≢ SHARED_MAKER = λ m. elim (r.named place c).lies [
        | inl g ↦ omega (arith, g.1)
        | inr o ↦ o.0 m
      ] in
      let h = blocks.held place node c (low place c) own e in
      let size = one_size segments place.at h.0 (block_size (cells a number).class) sound h.1
      (block_used layout a words segments same shown number block name lies) in
      let fit = h.2 in
      omega (arith, fit, size)

  pub blocks_are_places : FitBlocks w a × ((p : Place) → Contains places p ↔ IsPlaceAtStop layout a p)
  blocks_are_places = (fits, λ p. (back p, is_known p))
