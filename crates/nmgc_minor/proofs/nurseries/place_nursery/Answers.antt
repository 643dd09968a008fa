use Rattle.nmgc_minor.proofs.{Vocabulary.◌≡◌, Vocabulary.◌+◌, Vocabulary.◌-◌, Vocabulary.◌≤◌, Vocabulary.◌*◌, Vocabulary.◌++◌, Vocabulary.zero, Vocabulary.suc, Vocabulary.set, Vocabulary.slice_index, Vocabulary.◌∷◌, Vocabulary.ℕ, Vocabulary.List, Vocabulary.[], Vocabulary.length, Vocabulary.refl, Vocabulary.sym, Vocabulary.ap, Vocabulary.subst, Vocabulary.◌∙◌, Vocabulary.arith, Vocabulary.append_assoc, Vocabulary.length-append, Vocabulary.inl, Vocabulary.inr, Vocabulary.◌<◌, Vocabulary.◌⊎◌, Vocabulary.append-nil, Vocabulary.Layout, Vocabulary.Move, Vocabulary.IsMarked, Vocabulary.HasHeaderWord, Vocabulary.CanPlace, Vocabulary.PlacesOne, Vocabulary.PlacesRange, PlacingLaws.range_none, PlacingLaws.range_skip, PlacingLaws.range_later, PlacingLaws.range_more, PlacingLaws.reaches_none, PlacingLaws.reaches_skip, PlacingLaws.reaches_later, PlacingLaws.reaches_more, PlacingLaws.reaches_room, PlacingLaws.reaches_all}
use Rattle.nmgc_minor.proofs.nurseries.place_nursery.Goals as goal

-- a part with a word isn't empty
left_of : {A : Type 0} {from to : ℕ} → A ⊎ (from ≡ to) → from < to → A
left_of (inl a) lt = a
left_of (inr none) lt = absurd (omega arith)

zero_unless : (n : ℕ) → ((n ≡ 0 → ⊥) → ⊥) → n ≡ 0
zero_unless zero h = refl
zero_unless (suc n) h = absurd (h (λ e. omega (arith, e)))

pub loop-at-init : goal.loop-at-init
loop-at-init g c = record {
  low = omega arith;
  high = c.requires.ordered;
  sound = c.requires.sound;
  layout = refl;
  placed = (
    [],
    sym (append-nil c.args.moves.now.items),
    range_none c.args.base (g.W.HeapWords.words c.args.words.now) c.args.segments.now c.args.table.now c.args.nursery.base,
  );
  spare = omega arith;
  room = refl;
  reaches = reaches_none c.args.segments.now.layout c.args.base (g.W.HeapWords.words c.args.words.now) c.args.table.now c.args.segments.now
      (c.args.maker * c.args.segments.now.layout.nursery) c.args.nursery.base c.args.nursery.top c.requires.ordered;
  same = refl;
}

pub place_object-moved-requires-clause-object : goal.place_object-moved-requires-clause-object
place_object-moved-requires-clause-object g c =
    let low = c.loop-at.invariant.low in
    let test = c.loop-at-test.true in
    let above = c.requires.above in
    let same = c.loop-at.invariant.placed.2.outside c.loop-at.at (omega (arith, low, above)) (inr (omega arith)) in
    let mark : IsMarked c.args.base c.args.table.now c.loop-at.at = λ e. c.if-table-index-ne0.true (same ∙ e) in
    rw (c.object_words-size.ensures.same ∙ c.loop-at.invariant.same) (subst (λ (l : Layout).
    CanPlace l c.args.maker (g.W.HeapWords.words c.args.words.now) c.loop-at.at) (sym c.loop-at.invariant.layout)
    (c.requires.objects.each c.loop-at.at low test mark))

pub object_words-size-requires : goal.object_words-size-requires
object_words-size-requires g c =
    let low = c.loop-at.invariant.low in
    let above = c.requires.above in
    let same = c.loop-at.invariant.placed.2.outside c.loop-at.at (omega (arith, low, above)) (inr (omega arith)) in
    let mark : IsMarked c.args.base c.args.table.now c.loop-at.at = λ e. c.if-table-index-ne0.true (same ∙ e) in
    rw (c.loop-at.invariant.same) (c.requires.objects.each c.loop-at.at low c.loop-at-test.true mark).object

pub place_object-moved-requires-clause-size : goal.place_object-moved-requires-clause-size
place_object-moved-requires-clause-size g c = rw c.object_words-size.ensures.same c.object_words-size.ensures.holds

pub place_object-moved-requires-clause-room : goal.place_object-moved-requires-clause-room
place_object-moved-requires-clause-room g c =
    reaches_room c.args.segments.now.layout c.args.base (g.W.HeapWords.words c.args.words.now) c.args.table.now c.loop-at.segments c.args.maker
    c.args.nursery.base c.loop-at.at c.args.nursery.top c.loop-at.invariant.sound c.loop-at.invariant.layout c.requires.maker c.requires.ordered
    c.requires.nursery (c.loop-at.invariant.reaches (left_of c.requires.reserve (let low = c.loop-at.invariant.low in let test = c.loop-at-test.true in omega (arith, low, test))))

pub loop-at-preserved-then-table-index-ne0 : goal.loop-at-preserved-then-table-index-ne0
loop-at-preserved-then-table-index-ne0 g c =
    let i = c.loop-at.invariant in
    let base = c.args.base in
    let low = i.low in
    let test = c.loop-at-test.true in
    let above = c.requires.above in
    let same = i.placed.2.outside c.loop-at.at (omega (arith, low, above)) (inr (omega arith)) in
    let mark : IsMarked base c.args.table.now c.loop-at.at = λ e. c.if-table-index-ne0.true (same ∙ e) in
    let size = i.placed.2.size in
    let inside = c.requires.inside in
    let moved = c.place_object-moved.result in
    let p = c.place_object-moved.ensures in
    let unchanged = c.object_words-size.ensures.same ∙ i.same in
    let places = subst (λ (ws : List ℕ). PlacesOne c.loop-at.segments c.place_object-moved.new.segments ws c.args.maker moved) unchanged p.places in
    let o = c.requires.objects.each c.loop-at.at low test mark in
    let header = o.object.header in
    let is : HasHeaderWord (g.W.HeapWords.words c.args.words.now) c.loop-at.at header = (o.object.valid, o.object.read) in
    let words_is : c.object_words-size.result ≡ 2 + header.fields =
    c.object_words-size.ensures.holds header (subst (λ (ws : List ℕ). HasHeaderWord ws c.loop-at.at header) (sym i.same) is) in
    let least = c.object_words-size.ensures.least in
    let later : ℕ = c.loop-at.at + c.object_words-size.result in
    let within = c.requires.objects.within c.loop-at.at header low test mark is in
    let end : later ≤ c.args.nursery.top = omega (arith, within, words_is) in
    let none : (k : ℕ) → c.loop-at.at + 1 ≤ k → k < later → IsMarked base c.args.table.now k → ⊥ = λ k l h u.
    let apart = c.requires.objects.apart c.loop-at.at k header low (omega (arith, l)) (omega (arith, h, end)) mark u is in
    omega (arith, apart, h, words_is) in
    let table : List ℕ = set c.loop-at.table (c.loop-at.at - base) moved.to.0 in
    let one = range_more base (g.W.HeapWords.words c.args.words.now) c.args.segments.now c.loop-at.segments
    c.place_object-moved.new.segments c.args.table.now c.loop-at.table i.placed.0 c.args.nursery.base c.loop-at.at c.args.maker moved
    above low (omega (arith, size, low, test, above, inside)) i.sound p.sound c.if-table-index-ne0.true p.from places i.placed.2 in
    let free : (k : ℕ) → c.loop-at.at + 1 ≤ k → k < later → slice_index table (k - base) ≡ 0 = λ k l h.
    zero_unless (slice_index table (k - base)) (λ u. none k l h (λ e. u (one.outside k (omega (arith, l, low, above)) (inr l) ∙ e))) in
    record {
      low = omega (arith, low);
      high = end;
      sound = p.sound;
      layout = p.layout ∙ i.layout;
      placed = (
        i.placed.0 ++ moved ∷ [],
        c.add.ensures.items ∙ ap (λ (xs : List Move). xs ++ moved ∷ []) i.placed.1 ∙ append_assoc c.args.moves.now.items i.placed.0 (moved ∷ []),
        range_later base (g.W.HeapWords.words c.args.words.now) c.args.segments.now c.place_object-moved.new.segments c.args.table.now
            table (i.placed.0 ++ moved ∷ []) c.args.nursery.base (c.loop-at.at + 1) later above (omega (arith, least)) free one,
      );
      spare = let e = c.add.ensures.spare in let f = i.spare in omega (arith, e, f, least);
      room = let e = c.add.ensures.spare in let f = i.room in let g = ap length c.add.ensures.items in
          let h = length-append c.loop-at.moves.items (moved ∷ []) in omega (arith, e, f, g, h);
      reaches = λ k. reaches_later c.args.segments.now.layout base (g.W.HeapWords.words c.args.words.now) c.args.table.now
          c.place_object-moved.new.segments (c.args.maker * c.args.segments.now.layout.nursery) c.args.nursery.base (c.loop-at.at + 1) later c.args.nursery.top
          (omega (arith, least)) (reaches_more c.args.segments.now.layout base (g.W.HeapWords.words c.args.words.now) c.args.table.now
          c.loop-at.segments c.place_object-moved.new.segments (c.args.maker * c.args.segments.now.layout.nursery) c.args.nursery.base c.loop-at.at
          c.args.nursery.top c.args.maker moved i.sound i.layout c.requires.maker low test c.requires.objects mark p.from places (i.reaches k));
      same = p.same ∙ unchanged;
    }

-- no object was found at this address
pub loop-at-preserved : goal.loop-at-preserved
loop-at-preserved g c =
    let i = c.loop-at.invariant in
    let low = i.low in
    let test = c.loop-at-test.true in
    let spare = i.spare in
    record {
      low = omega (arith, low);
      high = omega (arith, test);
      sound = i.sound;
      layout = i.layout;
      placed = (
        i.placed.0,
        i.placed.1,
        range_skip c.args.base (g.W.HeapWords.words c.args.words.now) c.args.segments.now c.loop-at.segments c.args.table.now c.loop-at.table
            i.placed.0 c.args.nursery.base c.loop-at.at c.requires.above low c.if-table-index-ne0.false i.placed.2,
      );
      spare = omega (arith, spare);
      room = i.room;
      reaches = λ k. reaches_skip c.args.segments.now.layout c.args.base (g.W.HeapWords.words c.args.words.now) c.args.table.now
          c.loop-at.segments (c.args.maker * c.args.segments.now.layout.nursery) c.args.nursery.base c.loop-at.at c.args.nursery.top (i.reaches k);
      same = i.same;
    }

pub returns-clause-places : goal.returns-clause-places
returns-clause-places g c =
    let up = c.loop-at.invariant.high in
    let end : c.loop-at.at ≡ c.args.nursery.top = omega (arith, up, c.loop-at-test.false) in
    let i = c.loop-at.invariant in (
      i.placed.0,
      i.placed.1,
      subst (λ (n : ℕ). PlacesRange c.args.base (g.W.HeapWords.words c.args.words.now) c.args.segments.now c.loop-at.segments c.args.table.now
          c.loop-at.table i.placed.0 c.args.nursery.base n) end i.placed.2,
    )

pub returns-clause-reserve : goal.returns-clause-reserve
returns-clause-reserve g c = λ k.
    reaches_all c.args.segments.now.layout c.args.base (g.W.HeapWords.words c.args.words.now) c.args.table.now c.loop-at.segments c.args.maker
    c.args.nursery.base c.loop-at.at c.args.nursery.top c.loop-at.invariant.layout c.requires.nursery (c.loop-at.invariant.reaches k)
