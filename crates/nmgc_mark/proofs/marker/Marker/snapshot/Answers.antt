use Rattle.nmgc_mark.proofs.{Vocabulary.◌≡◌, Vocabulary.◌∙◌, Vocabulary.arith, Vocabulary.map, Vocabulary.sym, Vocabulary.subst, Vocabulary.ap, Vocabulary.flat_map, Vocabulary.IsLayout, Vocabulary.newest_first, Vocabulary.unmarked, Vocabulary.Marks, Vocabulary.marks_of, Vocabulary.slots_of, Vocabulary.queue_words, Vocabulary.most_blocks, Vocabulary.blank, Vocabulary.HasRoomToMark, Vocabulary.MarkerSeen, Vocabulary.IsTied, Vocabulary.with_words, Vocabulary.with_queues, Fields.total_small, Rooms.blank_room, Roots.words_small, Roots.roots_mark, Roots.blank_tied}
use Rattle.nmgc_mark.proofs.marker.Marker.snapshot.Goals as goal

pub mark_registers-requires-clause-room : goal.mark_registers-requires-clause-room
mark_registers-requires-clause-room g c =
    let is : c.in_ok-marker.marker ≡ blank c.args.epoch (most_blocks c.args.segments.now.layout) = c.in_ok-marker.ensures ∙
    ap (λ n. blank c.args.epoch n) (c.most_blocks-blocks.ensures ∙ ap most_blocks c.layout.ensures.layout) in
    subst (λ (m : MarkerSeen). HasRoomToMark c.args.segments.now m) (sym is) (blank_room c.args.segments.now c.args.epoch c.layout.ensures.sound)

pub mark_registers-requires-clause-small : goal.mark_registers-requires-clause-small
mark_registers-requires-clause-small g c = λ w at k e.
    let b = c.requires.begins in
    let l = words_small b.0 (flat_map g.M.MutatorRoots.registers c.args.mutators.now) _ b.1.right.apart b.1.registers_are w at k e in
    let t = total_small b.0.layout (subst IsLayout b.1.right.layout c.layout.ensures.sound.layout) in
    omega (arith, l, t)

pub mark_queues-requires-clause-small : goal.mark_queues-requires-clause-small
mark_queues-requires-clause-small g c = λ w at k e.
    let b = c.requires.begins in
    let l = words_small b.0 (queue_words (map g.M.MutatorRoots.queue c.args.mutators.now)) _ b.1.right.apart b.1.queues_are w at k e in
    let t = total_small b.0.layout (subst IsLayout b.1.right.layout c.layout.ensures.sound.layout) in
    omega (arith, l, t)

pub mark_shared-requires-clause-small : goal.mark_shared-requires-clause-small
mark_shared-requires-clause-small g c = λ w at k e.
    let b = c.requires.begins in
    let l = words_small b.0 (slots_of (g.W.HeapWords.words c.args.words.now)) _ b.1.right.apart b.1.slots_are w at k e in
    let t = total_small b.0.layout (subst IsLayout b.1.right.layout c.layout.ensures.sound.layout) in
    omega (arith, l, t)

pub returns-clause-turns : goal.returns-clause-turns
returns-clause-turns g c = c.mark_shared.ensures.turns ∙ c.mark_queues.ensures.turns ∙ c.mark_registers.ensures.turns ∙
    ap (λ (m : MarkerSeen). m.turns) c.in_ok-marker.ensures

pub returns-clause-tied : goal.returns-clause-tied
returns-clause-tied g c = λ o b.
    let ws = g.W.HeapWords.words c.args.words.now in
    let registers = flat_map g.M.MutatorRoots.registers c.args.mutators.now in
    let queues = map g.M.MutatorRoots.queue c.args.mutators.now in
    let first : Marks = marks_of (unmarked newest_first o.core.snapshot) in
    let a = c.mark_registers.ensures.tied o first (subst (λ (m : MarkerSeen).
    IsTied o first c.args.segments.now m) (sym c.in_ok-marker.ensures)
    (blank_tied o c.args.segments.now c.args.epoch c.most_blocks-blocks.result ws registers queues c.layout.ensures.sound b)) in
    let d = c.mark_queues.ensures.tied o (with_words o first registers) a in
    let e = c.mark_shared.ensures.tied o (with_queues o (with_words o first registers) queues) d in
    subst (λ (m : Marks). IsTied o m c.mark_shared.new.segments c.mark_shared.new.self) (roots_mark o c.args.segments.now c.args.epoch ws registers queues b) e
