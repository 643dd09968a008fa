use Rattle.nmgc_sweep.proofs.{Vocabulary.ℕ, Vocabulary.◌≡◌, Vocabulary.◌+◌, Vocabulary.◌*◌, Vocabulary.◌<◌, Vocabulary.◌∙◌, Vocabulary.[], Vocabulary.◌∷◌, Vocabulary.◌++◌, Vocabulary.length, Vocabulary.slice_get, Vocabulary.Option, Vocabulary.Some, Vocabulary.true, Vocabulary.false, Vocabulary.ap, Vocabulary.subst, Vocabulary.sym, Vocabulary.arith, Vocabulary.Name, Vocabulary.NameRoom, Vocabulary.Segment, Vocabulary.InUse, Vocabulary.IsMarked, Vocabulary.block_count, Vocabulary.nth, Vocabulary.block_place, Vocabulary.ListsBlocks, Vocabulary.IsLost, Vocabulary.entry_of, Vocabulary.named_at, Listed.none_listed, Listed.one_passed_over, Listed.one_listed, Listed.placed_at, Listed.place_named, Listed.few_in_segment, listing.list_segment.Goals.then-in_use+then-not-is_marked, listing.list_segment.Goals.then-in_use+else-not-is_marked, listing.list_segment.Goals.else-in_use}
use Rattle.nmgc_sweep.proofs.listing.list_segment.Goals as goal

pub loop-block-init : goal.loop-block-init
loop-block-init c =
    let x : Segment = nth c.args.segments.now.segments c.args.number in
    record {
      had = none_listed (InUse x) (named_at c.args.segments.now.layout c.args.names.now c.args.number x.class) c.args.had.now.names;
      had_room = omega arith;
      freed = none_listed (IsLost x c.args.epoch) (named_at c.args.segments.now.layout c.args.names.now c.args.number x.class) c.args.freed.now.names;
      freed_room = omega arith;
    }

pub name_at-name-requires : goal.name_at-name-requires
name_at-name-requires c =
    let x : Segment = nth c.args.segments.now.segments c.args.number in
    let block = c.loop-block.block in
    let within : block < block_count x = subst (λ (n : ℕ). block < n) (c.blocks-blocks.ensures ∙
    ap (λ (s : Segment). block_count s) c.segment-segment.ensures) c.loop-block-test.true in
    let at : c.segment_base-base.result + block * c.block_words-size.result ≡ block_place c.args.segments.now.layout c.args.number x.class block =
    placed_at c.args.segments.now.layout c.layout.result c.args.number x.class c.class.result block c.segment_base-base.result
    c.block_words-size.result c.layout.ensures.layout (c.class.ensures ∙
    ap (λ (s : Segment). s.class) c.segment-segment.ensures) c.segment_base-base.ensures c.block_words-size.ensures.size in
    subst (λ (p : ℕ). entry_of p < length c.args.names.now) (sym at)
    (place_named c.args.segments.now c.args.names.now c.args.number block c.layout.ensures.sound c.requires.exists c.requires.waits within
    c.requires.entries)

-- there is room for the names of all blocks of the segment

pub add-requires : goal.add-requires
add-requires c =
    let x : Segment = nth c.args.segments.now.segments c.args.number in
    let within : c.loop-block.block < block_count x = subst (λ (n : ℕ). c.loop-block.block < n) (c.blocks-blocks.ensures ∙
    ap (λ (s : Segment). block_count s) c.segment-segment.ensures) c.loop-block-test.true in
    let few = few_in_segment c.args.segments.now c.args.number c.layout.ensures.sound c.requires.exists in
    let room = c.requires.had in
    let used = c.loop-block.invariant.had_room in
    omega (arith, within, few, room, used)

pub add-requires-then-not-is_marked : goal.add-requires-then-not-is_marked
add-requires-then-not-is_marked c =
    let x : Segment = nth c.args.segments.now.segments c.args.number in
    let within : c.loop-block.block < block_count x = subst (λ (n : ℕ). c.loop-block.block < n) (c.blocks-blocks.ensures ∙
    ap (λ (s : Segment). block_count s) c.segment-segment.ensures) c.loop-block-test.true in
    let few = few_in_segment c.args.segments.now c.args.number c.layout.ensures.sound c.requires.exists in
    let room = c.requires.freed in
    let used = c.loop-block.invariant.freed_room in
    omega (arith, within, few, room, used)

pub loop-block-preserved : goal.loop-block-preserved
loop-block-preserved c =
    let x : Segment = nth c.args.segments.now.segments c.args.number in
    let block = c.loop-block.block in
    let name : ℕ → Option Name = named_at c.args.segments.now.layout c.args.names.now c.args.number x.class in
    let is = c.segment-segment.ensures in
    let at : c.segment_base-base.result + block * c.block_words-size.result ≡ block_place c.args.segments.now.layout c.args.number x.class block =
    placed_at c.args.segments.now.layout c.layout.result c.args.number x.class c.class.result block c.segment_base-base.result
    c.block_words-size.result c.layout.ensures.layout (c.class.ensures ∙
    ap (λ (s : Segment). s.class) is) c.segment_base-base.ensures c.block_words-size.ensures.size in
    let had_room = c.loop-block.invariant.had_room in
    let freed_room = c.loop-block.invariant.freed_room in
    elim c.if-in_use.branch [
      | then-in_use+then-not-is_marked w ↦
          let used : InUse x block = subst (λ (s : Segment). InUse s block) is (c.in_use.ensures.0 w.if-in_use.true) in
          let named : name block ≡ Some w.name_at-name.result = subst (λ (p : ℕ). slice_get c.args.names.now (entry_of p) ≡
          Some w.name_at-name.result) at w.name_at-name.ensures in
          let lost : IsLost x c.args.epoch block = (
            used,
            λ marked.
                let t : w.is_marked.result ≡ true = w.is_marked.ensures.1 (subst (λ (s : Segment). IsMarked s c.args.epoch block) (sym is) marked) in
                let f : true ≡ false = sym t ∙ w.if-not-is_marked.true in cc,
          ) in
          let had : c.if-in_use.had.names ≡ c.loop-block.had.names ++ w.name_at-name.result ∷ [] = ap (λ (r : NameRoom). r.names) w.had-is ∙
          w.add.ensures.names in
          let had_spare : c.if-in_use.had.spare + 1 ≡ c.loop-block.had.spare = ap (λ (r : NameRoom). r.spare + 1) w.had-is ∙ w.add.ensures.spare in
          let freed : c.if-in_use.freed.names ≡ c.loop-block.freed.names ++ w.name_at-name.result ∷ [] =
          ap (λ (r : NameRoom). r.names) w.freed-is ∙ w.add-then-not-is_marked.ensures.names in
          let freed_spare : c.if-in_use.freed.spare + 1 ≡ c.loop-block.freed.spare = ap (λ (r : NameRoom). r.spare + 1) w.freed-is ∙
          w.add-then-not-is_marked.ensures.spare in
          record {
            had = one_listed (InUse x) name block w.name_at-name.result c.args.had.now.names c.loop-block.had.names c.if-in_use.had.names used named had
                c.loop-block.invariant.had;
            had_room = omega (arith, had_spare, had_room);
            freed = one_listed (IsLost x c.args.epoch) name block w.name_at-name.result c.args.freed.now.names c.loop-block.freed.names
                c.if-in_use.freed.names lost named freed c.loop-block.invariant.freed;
            freed_room = omega (arith, freed_spare, freed_room);
          }
      | then-in_use+else-not-is_marked w ↦
          let used : InUse x block = subst (λ (s : Segment). InUse s block) is (c.in_use.ensures.0 w.if-in_use.true) in
          let named : name block ≡ Some w.name_at-name.result = subst (λ (p : ℕ). slice_get c.args.names.now (entry_of p) ≡
          Some w.name_at-name.result) at w.name_at-name.ensures in
          let kept : IsMarked x c.args.epoch block = subst (λ (s : Segment).
          IsMarked s c.args.epoch block) is (w.is_marked.ensures.0 w.if-not-is_marked.false) in
          let had : c.if-in_use.had.names ≡ c.loop-block.had.names ++ w.name_at-name.result ∷ [] = ap (λ (r : NameRoom). r.names) w.had-is ∙
          w.add.ensures.names in
          let had_spare : c.if-in_use.had.spare + 1 ≡ c.loop-block.had.spare = ap (λ (r : NameRoom). r.spare + 1) w.had-is ∙ w.add.ensures.spare in
          let freed_spare : c.if-in_use.freed.spare ≡ c.loop-block.freed.spare = ap (λ (r : NameRoom). r.spare) w.freed-is in
          record {
            had = one_listed (InUse x) name block w.name_at-name.result c.args.had.now.names c.loop-block.had.names c.if-in_use.had.names used named had
                c.loop-block.invariant.had;
            had_room = omega (arith, had_spare, had_room);
            freed = one_passed_over (IsLost x c.args.epoch) name block c.args.freed.now.names c.if-in_use.freed.names (λ lost. lost.1 kept)
                (subst (λ (r : NameRoom).
                ListsBlocks (IsLost x c.args.epoch) name block c.args.freed.now.names r.names) (sym w.freed-is) c.loop-block.invariant.freed);
            freed_room = omega (arith, freed_spare, freed_room);
          }
      | else-in_use w ↦
          let unused : InUse x block → ⊥ = λ u.
          let t : c.in_use.result ≡ true = c.in_use.ensures.1 (subst (λ (s : Segment). InUse s block) (sym is) u) in
          let f : true ≡ false = sym t ∙ w.if-in_use.false in cc in
          let had_spare : c.if-in_use.had.spare ≡ c.loop-block.had.spare = ap (λ (r : NameRoom). r.spare) w.had-is in
          let freed_spare : c.if-in_use.freed.spare ≡ c.loop-block.freed.spare = ap (λ (r : NameRoom). r.spare) w.freed-is in
          record {
            had = one_passed_over (InUse x) name block c.args.had.now.names c.if-in_use.had.names unused
                (subst (λ (r : NameRoom). ListsBlocks (InUse x) name block c.args.had.now.names r.names) (sym w.had-is) c.loop-block.invariant.had);
            had_room = omega (arith, had_spare, had_room);
            freed = one_passed_over (IsLost x c.args.epoch) name block c.args.freed.now.names c.if-in_use.freed.names (λ lost. unused lost.0)
                (subst (λ (r : NameRoom).
                ListsBlocks (IsLost x c.args.epoch) name block c.args.freed.now.names r.names) (sym w.freed-is) c.loop-block.invariant.freed);
            freed_room = omega (arith, freed_spare, freed_room);
          }
    ]
