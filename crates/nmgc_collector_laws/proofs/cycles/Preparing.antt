-- A heap at a stop, as a cycle begins there, and once its snapshot is forgotten.
use Rattle.nmgc_collector_laws.proofs.Vocabulary.{ℕ, ◌≡◌, ◌+◌, ◌↔◌, List, [], ◌∷◌, refl, sym, ap, subst, ◌∙◌, arith, inl, inr, Contains, length-map, World, IsWorld, contains_head, contains_cases, nothing_in, block_size, Layout, Segment, InUse, InSnapshot, nth, Segments, HasNumber, IsSegments, AllocState, Cells, cells, cycle_begun, IsSnapshotAt, IsUsedAt, prepared, prepared_snapshot, begun_cells, begun_names, nth-map, prepared_stands, Place, Represents, NoNode, RepresentsRoots, remembered, IsPlaceAtStop, registers_of, serials_of, snapshots, epoch_of, StopIsPrepared, StopBegins, all_prepared}
use Rattle.nmgc_collector_laws.proofs.cycles.Beginning.{unmarked_there}

-- a segment keeps its class as a cycle begins, and so each block its address
begun_class : (a : AllocState) (number : ℕ) → (cells (cycle_begun a) number).class ≡ (cells a number).class
begun_class a number = ap (λ (c : Cells). c.class) (begun_cells a number)

begun_place : (layout : Layout) (a : AllocState) (p : Place) → IsPlaceAtStop layout a p ↔ IsPlaceAtStop layout (cycle_begun a) p
begun_place layout a p = (
  λ h. elim h [
    | inl g ↦ inl g
    | inr b ↦ inr (record {
      number = b.number;
      block = b.block;
      lies = (begun_names a b.number b.block p.name).1 b.lies;
      at = cc (b.at, begun_class a b.number);
    })
  ],
  λ h. elim h [
    | inl g ↦ inl g
    | inr b ↦ inr (record {
      number = b.number;
      block = b.block;
      lies = (begun_names a b.number b.block p.name).0 b.lies;
      at = cc (b.at, begun_class a b.number);
    })
  ],
)

-- the world itself may be used as an earlier world
own_snapshot : (layout : Layout) (earlier : List World) (places : List Place) (w : World) (words : List ℕ) →
    Represents layout earlier NoNode places w words → Represents layout (w ∷ []) NoNode places w words
own_snapshot layout earlier places w words r = remembered layout earlier (w ∷ []) NoNode NoNode places w words (record {
  worlds = λ e d. elim (contains_cases w [] e d) [
    | inl is ↦ subst (λ (x : World). Contains (w ∷ earlier) x) is (contains_head w earlier)
    | inr more ↦ absurd (nothing_in e more)
  ];
  nodes = λ name node none. absurd none;
}) r

pub no_snapshot : (layout : Layout) (earlier later : List World) (places : List Place) (w : World) (words : List ℕ) → later ≡ [] →
    Represents layout earlier NoNode places w words → Represents layout later NoNode places w words
no_snapshot layout earlier later places w words none r = remembered layout earlier later NoNode NoNode places w words (record {
  worlds = λ e d. absurd (nothing_in e (subst (λ (l : List World). Contains l e) none d));
  nodes = λ name node k. absurd k;
}) r

pub stop_begins : StopBegins
stop_begins layout s words segments ends weaks h = (
  record {
    places = h.places;
    all = λ p. (λ d. (begun_place layout s.allocation p).0 ((h.all p).0 d), λ is. (h.all p).1 ((begun_place layout s.allocation p).1 is));
    holds = record {
      fit = λ number block name node lies there.
          let fits = h.holds.fit number block name node ((begun_names s.allocation number block name).0 lies) there in
          let same : block_size (cells (cycle_begun s.allocation) number).class ≡ block_size (cells s.allocation number).class =
          ap (λ (class : ℕ). block_size class) (begun_class s.allocation number) in
          omega (arith, fits, same);
      represents = own_snapshot layout (snapshots s.progress) h.places s.world words h.holds.represents;
      registers = h.holds.registers;
      roots = h.holds.roots;
      layout_is = h.holds.layout_is;
      stands = prepared_stands segments words s.allocation h.holds.stands;
    };
    listed = h.listed;
  },
  refl,
)

-- the blocks in use are the snapshot
module _ (segments : Segments) (sound : IsSegments segments) where
  abbrev after : Segments
  after = all_prepared segments

  there : (number : ℕ) → HasNumber after number → HasNumber segments number
  there number lt = let long = length-map segments.segments prepared in omega (arith, lt, long)

  segment_is : (number : ℕ) → HasNumber segments number → nth after.segments number ≡ prepared (nth segments.segments number)
  segment_is number lt = nth-map prepared segments.segments number lt

  used_is : (number block : ℕ) → HasNumber segments number → InSnapshot (nth after.segments number) block ↔ InUse (nth after.segments number) block
  used_is number block lt =
      let x : Segment = nth segments.segments number in
      subst (λ (y : Segment). InSnapshot y block ↔ InUse y block) (sym (segment_is number lt)) (prepared_snapshot.same x (sound.members number lt).sound block)

  in_use : (at : ℕ) → IsSnapshotAt after at ↔ IsUsedAt after at
  in_use at = (
    λ h. (h.0, h.1, h.2, (used_is h.0 h.1 (there h.0 h.2.exists)).0 h.3),
    λ h. (h.0, h.1, h.2, (used_is h.0 h.1 (there h.0 h.2.exists)).1 h.3),
  )

pub stop_is_prepared : StopIsPrepared
stop_is_prepared layout s words segments ends weaks queues o h world sound sound_after none settled same_queues same_layout same_places same_world =
    let epoch : ℕ = epoch_of (s.begun + 1) in record {
      world = subst IsWorld (sym same_world) world;
      earlier = snapshots s.progress;
      represents = subst (λ (y : Layout × List Place × World). Represents y.0 (snapshots s.progress) NoNode y.1 y.2 words) (λ i. (
        sym same_layout i,
        sym same_places i,
        sym same_world i,
      )) h.holds.represents;
      serials = serials_of ends;
      roots = subst (λ (y : List Place × World × List (List ℕ)). RepresentsRoots y.0 y.1 (registers_of ends) y.2 (serials_of ends)) (λ i.
          (sym same_places i, sym same_world i, same_queues i)) h.holds.roots;
      sound = sound_after;
      layout = h.holds.layout_is ∙ sym same_layout;
      allocation = cycle_begun s.allocation;
      stands = prepared_stands segments words s.allocation h.holds.stands;
      places = λ p. (
        λ d. rw same_layout ((begun_place layout s.allocation p).0 ((h.all p).0 (subst (λ (l : List Place). Contains l p) same_places d))),
        λ is. rw same_places ((h.all p).1 ((begun_place layout s.allocation p).1 (rw same_layout at is))),
      );
      in_use = in_use segments sound;
      unmarked = λ at m.
          let lt = there segments sound m.0 m.2.exists in
          unmarked_there s segments words h.holds.stands none settled m.0 m.1 lt (cc (segment_is segments sound m.0 lt, m.3));
    }
