use Rattle.nmgc_minor.proofs.{Vocabulary.◌≡◌, Vocabulary.◌+◌, Vocabulary.◌-◌, Vocabulary.◌*◌, Vocabulary.◌<◌, Vocabulary.◌≤◌, Vocabulary.◌++◌, Vocabulary.ℕ, Vocabulary.List, Vocabulary.[], Vocabulary.length, Vocabulary.refl, Vocabulary.sym, Vocabulary.ap, Vocabulary.subst, Vocabulary.◌∙◌, Vocabulary.arith, Vocabulary.inl, Vocabulary.inr, Vocabulary.append_assoc, Vocabulary.slice_index, Vocabulary.mul-le-mul_right, Vocabulary.append-nil, Vocabulary.length-map, Vocabulary.nursery_place, Vocabulary.Layout, Vocabulary.Nursery, Vocabulary.KeepsReserve, Vocabulary.Move, Vocabulary.nursery_at, Vocabulary.AreNurseries, Vocabulary.CanPlaceAll, Vocabulary.PlacesRange, Vocabulary.map, Listing.nursery_is, PlacingLaws.range_none, PlacingLaws.range_gap, PlacingLaws.range_then, PlacingLaws.still_can_place}
use Rattle.nmgc_minor.proofs.nurseries.place_nurseries.Goals as goal

-- the position of a nursery among all, and the end of its used part
record Lies (layout : Layout) (base length : ℕ) (n : Nursery) (maker : ℕ) : Type 0 where
  exists : maker < layout.mutators
  at : n.base ≡ base + maker * layout.nursery
  place : n.base ≡ nursery_place layout maker
  ordered : n.base ≤ n.top
  within : n.top ≤ n.base + layout.nursery
  inside : base + maker * layout.nursery + layout.nursery ≤ base + length
  next : nursery_place layout (maker + 1) ≡ nursery_place layout maker + layout.nursery

lies : (layout : Layout) (base : ℕ) (table : List ℕ) (nurseries : List Nursery) (maker : ℕ) → AreNurseries layout base table nurseries →
    maker < length nurseries → Lies layout base (length table) (nursery_at nurseries maker) maker
lies layout base table nurseries maker a lt =
    let count = a.count in
    let exists : maker < layout.mutators = omega arith in
    let place = a.places maker exists in
    let top = a.tops maker exists in
    let begins = a.begins in
    let size = a.size in
    let up : (maker + 1) * layout.nursery ≤ layout.mutators * layout.nursery =
    mul-le-mul_right layout.nursery (let e : maker + 1 ≤ layout.mutators = omega arith in e) in
    let flat : (maker + 1) * layout.nursery ≡ maker * layout.nursery + layout.nursery = omega arith in
    record {
      exists = exists;
      at = omega (arith, place, begins);
      place = place;
      ordered = top.0;
      within = top.1;
      inside = omega (arith, up, flat, size);
      next = omega (arith, flat);
    }

-- the same for a nursery equal to it
lies_by : (layout : Layout) (base : ℕ) (table : List ℕ) (nurseries : List Nursery) (maker : ℕ) (n : Nursery) → AreNurseries layout base table nurseries →
    maker < length nurseries → n ≡ nursery_at nurseries maker → Lies layout base (length table) n maker
lies_by layout base table nurseries maker n a lt is =
    subst (λ (y : Nursery). Lies layout base (length table) y maker) (sym is) (lies layout base table nurseries maker a lt)

pub loop-maker-init : goal.loop-maker-init
loop-maker-init g c =
    let l = c.args.segments.now.layout in
    let begins = c.requires.nurseries.begins in
    let place : c.args.base ≡ nursery_place c.args.segments.now.layout 0 = begins in
    record {
      sound = c.requires.sound;
      count = sym (length-map c.args.mutators.now g.M.MutatorRoots.nursery) ∙ c.requires.nurseries.count;
      layout = refl;
      placed = (
        [],
        sym (append-nil c.args.moves.now.items),
        subst (λ (k : ℕ).
            PlacesRange c.args.base (g.W.HeapWords.words c.args.words.now) c.args.segments.now c.args.segments.now c.args.table.now c.args.table.now
            [] c.args.base k) place (range_none c.args.base (g.W.HeapWords.words c.args.words.now) c.args.segments.now c.args.table.now c.args.base),
      );
      spare = let s = c.requires.spare in omega (arith, s, place);
      room = refl;
      reserve = elim c.requires.reserve [
        | inl k ↦ inl (subst (λ (k : ℕ).
            KeepsReserve c.args.segments.now.layout c.args.segments.now.segments k) (let z : 0 ≡ 0 * c.args.segments.now.layout.nursery = omega arith in z) k)
        | inr none ↦ inr none
      ];
      same = refl;
    }

pub place_nursery-requires-clause-inside : goal.place_nursery-requires-clause-inside
place_nursery-requires-clause-inside g c =
    let x = c.index-mutators-maker.result in
    let n = c.nursery-nursery.result in
    let is : n ≡ nursery_at (map g.M.MutatorRoots.nursery c.args.mutators.now) c.loop-maker.maker = c.nursery-nursery.ensures ∙
    nursery_is g.M.MutatorRoots.nursery c.args.mutators.now c.loop-maker.maker x c.loop-maker-test.true c.index-mutators-maker.is in
    let f = lies_by c.args.segments.now.layout c.args.base c.args.table.now (map g.M.MutatorRoots.nursery c.args.mutators.now) c.loop-maker.maker n
    c.requires.nurseries (rw (length-map c.args.mutators.now g.M.MutatorRoots.nursery) c.loop-maker-test.true) is in
    let size = c.loop-maker.invariant.placed.2.size in
    let at = f.at in let within = f.within in let inside = f.inside in
    omega (arith, at, within, inside, size)

pub place_nursery-requires-clause-objects : goal.place_nursery-requires-clause-objects
place_nursery-requires-clause-objects g c =
    let layout = c.args.segments.now.layout in
    let x = c.index-mutators-maker.result in
    let n = c.nursery-nursery.result in
    let is : n ≡ nursery_at (map g.M.MutatorRoots.nursery c.args.mutators.now) c.loop-maker.maker = c.nursery-nursery.ensures ∙
    nursery_is g.M.MutatorRoots.nursery c.args.mutators.now c.loop-maker.maker x c.loop-maker-test.true c.index-mutators-maker.is in
    let f = lies_by c.args.segments.now.layout c.args.base c.args.table.now (map g.M.MutatorRoots.nursery c.args.mutators.now) c.loop-maker.maker n
    c.requires.nurseries (rw (length-map c.args.mutators.now g.M.MutatorRoots.nursery) c.loop-maker-test.true) is in
    let at = f.at in
    let place = f.place in
    let r = c.loop-maker.invariant.placed.2 in
    let can = still_can_place c.args.segments.now.layout c.loop-maker.maker (g.W.HeapWords.words c.args.words.now) c.args.table.now
    c.loop-maker.table c.args.base n.base n.top (omega (arith, at)) (λ k l.
    r.outside k (omega (arith, at, l)) (inr (omega (arith, place, l)))) (subst (λ (y : Nursery).
    CanPlaceAll layout c.loop-maker.maker (g.W.HeapWords.words c.args.words.now) c.args.table.now c.args.base y.base y.top) (sym is)
    (c.requires.objects c.loop-maker.maker f.exists)) in
    rw (c.loop-maker.invariant.same) (subst (λ (x : Layout).
    CanPlaceAll x c.loop-maker.maker (g.W.HeapWords.words c.args.words.now) c.loop-maker.table c.args.base n.base n.top)
    (sym c.loop-maker.invariant.layout) can)

pub place_nursery-requires-clause-reserve : goal.place_nursery-requires-clause-reserve
place_nursery-requires-clause-reserve g c =
    let x = c.index-mutators-maker.result in
    let n = c.nursery-nursery.result in
    let is : n ≡ nursery_at (map g.M.MutatorRoots.nursery c.args.mutators.now) c.loop-maker.maker = c.nursery-nursery.ensures ∙
    nursery_is g.M.MutatorRoots.nursery c.args.mutators.now c.loop-maker.maker x c.loop-maker-test.true c.index-mutators-maker.is in
    elim c.loop-maker.invariant.reserve [
      | inl k ↦ inl (subst (λ (l : Layout).
          KeepsReserve c.loop-maker.segments.layout c.loop-maker.segments.segments (c.loop-maker.maker * l.nursery)) (sym c.loop-maker.invariant.layout) k)
      | inr none ↦ inr (sym (subst (λ (y : Nursery). y.top ≡ y.base) (sym is) (none c.loop-maker.maker)))
    ]

pub place_nursery-requires-clause-above : goal.place_nursery-requires-clause-above
place_nursery-requires-clause-above g c =
    let x = c.index-mutators-maker.result in
    let n = c.nursery-nursery.result in
    let is : n ≡ nursery_at (map g.M.MutatorRoots.nursery c.args.mutators.now) c.loop-maker.maker = c.nursery-nursery.ensures ∙
    nursery_is g.M.MutatorRoots.nursery c.args.mutators.now c.loop-maker.maker x c.loop-maker-test.true c.index-mutators-maker.is in
    let f = lies_by c.args.segments.now.layout c.args.base c.args.table.now (map g.M.MutatorRoots.nursery c.args.mutators.now) c.loop-maker.maker n
    c.requires.nurseries (rw (length-map c.args.mutators.now g.M.MutatorRoots.nursery) c.loop-maker-test.true) is in
    let at = f.at in
    omega (arith, at)

pub place_nursery-requires-clause-ordered : goal.place_nursery-requires-clause-ordered
place_nursery-requires-clause-ordered g c =
    let x = c.index-mutators-maker.result in
    let n = c.nursery-nursery.result in
    let is : n ≡ nursery_at (map g.M.MutatorRoots.nursery c.args.mutators.now) c.loop-maker.maker = c.nursery-nursery.ensures ∙
    nursery_is g.M.MutatorRoots.nursery c.args.mutators.now c.loop-maker.maker x c.loop-maker-test.true c.index-mutators-maker.is in
    let f = lies_by c.args.segments.now.layout c.args.base c.args.table.now (map g.M.MutatorRoots.nursery c.args.mutators.now) c.loop-maker.maker n
    c.requires.nurseries (rw (length-map c.args.mutators.now g.M.MutatorRoots.nursery) c.loop-maker-test.true) is in
    f.ordered

pub place_nursery-requires-clause-nursery : goal.place_nursery-requires-clause-nursery
place_nursery-requires-clause-nursery g c =
    let x = c.index-mutators-maker.result in
    let n = c.nursery-nursery.result in
    let is : n ≡ nursery_at (map g.M.MutatorRoots.nursery c.args.mutators.now) c.loop-maker.maker = c.nursery-nursery.ensures ∙
    nursery_is g.M.MutatorRoots.nursery c.args.mutators.now c.loop-maker.maker x c.loop-maker-test.true c.index-mutators-maker.is in
    let f = lies_by c.args.segments.now.layout c.args.base c.args.table.now (map g.M.MutatorRoots.nursery c.args.mutators.now) c.loop-maker.maker n
    c.requires.nurseries (rw (length-map c.args.mutators.now g.M.MutatorRoots.nursery) c.loop-maker-test.true) is in
    let within = f.within in
    let same = ap (λ (l : Layout). l.nursery) c.loop-maker.invariant.layout in
    omega (arith, within, same)

pub place_nursery-requires-clause-spare : goal.place_nursery-requires-clause-spare
place_nursery-requires-clause-spare g c =
    let x = c.index-mutators-maker.result in
    let n = c.nursery-nursery.result in
    let is : n ≡ nursery_at (map g.M.MutatorRoots.nursery c.args.mutators.now) c.loop-maker.maker = c.nursery-nursery.ensures ∙
    nursery_is g.M.MutatorRoots.nursery c.args.mutators.now c.loop-maker.maker x c.loop-maker-test.true c.index-mutators-maker.is in
    let f = lies_by c.args.segments.now.layout c.args.base c.args.table.now (map g.M.MutatorRoots.nursery c.args.mutators.now) c.loop-maker.maker n
    c.requires.nurseries (rw (length-map c.args.mutators.now g.M.MutatorRoots.nursery) c.loop-maker-test.true) is in
    let spare = c.loop-maker.invariant.spare in
    let at = f.at in let place = f.place in let within = f.within in let inside = f.inside in
    omega (arith, at, place, within, inside, spare)

pub loop-maker-preserved : goal.loop-maker-preserved
loop-maker-preserved g c =
    let base = c.args.base in
    let layout = c.args.segments.now.layout in
    let maker = c.loop-maker.maker in
    let i = c.loop-maker.invariant in
    let x = c.index-mutators-maker.result in
    let n = c.nursery-nursery.result in
    let is : n ≡ nursery_at (map g.M.MutatorRoots.nursery c.args.mutators.now) c.loop-maker.maker = c.nursery-nursery.ensures ∙
    nursery_is g.M.MutatorRoots.nursery c.args.mutators.now c.loop-maker.maker x c.loop-maker-test.true c.index-mutators-maker.is in
    let f = lies_by c.args.segments.now.layout c.args.base c.args.table.now (map g.M.MutatorRoots.nursery c.args.mutators.now) c.loop-maker.maker n
    c.requires.nurseries (rw (length-map c.args.mutators.now g.M.MutatorRoots.nursery) c.loop-maker-test.true) is in
    let at = f.at in let place = f.place in let ordered = f.ordered in let within = f.within in let next = f.next in let inside = f.inside in
    let p = c.place_nursery.ensures in
    let from = nursery_place c.args.segments.now.layout c.loop-maker.maker in
    let to = nursery_place c.args.segments.now.layout (c.loop-maker.maker + 1) in
    let places = subst (λ (ws : List ℕ).
    PlacesRange c.args.base ws c.loop-maker.segments c.place_nursery.new.segments c.loop-maker.table c.place_nursery.new.table p.places.0 n.base
    n.top) i.same p.places.2 in
    let gap : (k : ℕ) → n.top ≤ k → k < to → slice_index c.loop-maker.table (k - c.args.base) ≡ 0 = λ k l h.
    i.placed.2.outside k (omega (arith, at, ordered, l)) (inr (omega (arith, place, ordered, l))) ∙
    c.requires.nurseries.unused c.loop-maker.maker k f.exists (subst (λ (y : Nursery). y.top ≤ k) is l) (omega (arith, next, h)) in
    let part = range_gap c.args.base (g.W.HeapWords.words c.args.words.now) c.loop-maker.segments c.place_nursery.new.segments c.loop-maker.table
    c.place_nursery.new.table p.places.0 n.base n.top to (omega (arith, at)) ordered (omega (arith, within, place, next)) gap places in
    let part' = subst (λ (k : ℕ).
    PlacesRange c.args.base (g.W.HeapWords.words c.args.words.now) c.loop-maker.segments c.place_nursery.new.segments c.loop-maker.table
    c.place_nursery.new.table p.places.0 k to) place part in
    let low : c.args.base ≤ from = omega (arith, at, place) in
    record {
      sound = p.sound;
      count = i.count;
      layout = p.layout ∙ i.layout;
      placed = (
        i.placed.0 ++ p.places.0,
        p.places.1 ∙ ap (λ (xs : List Move). xs ++ p.places.0) i.placed.1 ∙ append_assoc c.args.moves.now.items i.placed.0 p.places.0,
        range_then c.args.base (g.W.HeapWords.words c.args.words.now) c.args.segments.now c.loop-maker.segments c.place_nursery.new.segments
            c.args.table.now c.loop-maker.table c.place_nursery.new.table i.placed.0 p.places.0 c.args.base from to (omega arith) low (omega (
              arith,
              next,
            )) i.placed.2 part',
      );
      spare = let s = i.spare in let t = p.spare in omega (arith, s, t, place, within, next);
      room = p.room ∙ i.room;
      reserve = elim i.reserve [
        | inr none ↦ inr none
        | inl k ↦ inl (subst (λ (l : Layout).
            KeepsReserve c.place_nursery.new.segments.layout c.place_nursery.new.segments.segments ((c.loop-maker.maker + 1) * l.nursery)) i.layout
            (p.reserve (subst (λ (l : Layout).
            KeepsReserve c.loop-maker.segments.layout c.loop-maker.segments.segments (c.loop-maker.maker * l.nursery)) (sym i.layout) k)))
      ];
      same = p.same ∙ i.same;
    }

pub returns-clause-places : goal.returns-clause-places
returns-clause-places g c =
    let layout = c.args.segments.now.layout in
    let i = c.loop-maker.invariant in
    let count = i.count in
    let begins = c.requires.nurseries.begins in
    let size = c.requires.nurseries.size in
    let all : c.loop-maker.maker ≡ layout.mutators = omega (arith, c.loop-maker-test.false, c.loop-maker.auto.maker-end, count) in
    let place : nursery_place layout c.loop-maker.maker ≡ nursery_place layout layout.mutators = ap (λ (k : ℕ). nursery_place layout k) all in
    let to : nursery_place layout c.loop-maker.maker ≡ c.args.base + length c.args.table.now = omega (arith, place, begins, size) in (
      i.placed.0,
      i.placed.1,
      subst (λ (k : ℕ). PlacesRange c.args.base (g.W.HeapWords.words c.args.words.now) c.args.segments.now c.loop-maker.segments c.args.table.now
          c.loop-maker.table i.placed.0 c.args.base k) to i.placed.2,
    )
