use Rattle.nmgc_heap_tests.proofs.{Vocabulary.◌≡◌, Vocabulary.List, Vocabulary.length, Vocabulary.map, Vocabulary.All, Vocabulary.arith, Vocabulary.refl, Vocabulary.sym, Vocabulary.ap, Vocabulary.subst, Vocabulary.◌∙◌, Vocabulary.refill, Vocabulary.Opening, Vocabulary.Seen, Vocabulary.RoundSeat, Vocabulary.IsAt, Vocabulary.seen, Vocabulary.all_together, Vocabulary.CanOpen, Vocabulary.HasAll, Vocabulary.are_ready, SharedSlots.has_all, SharedSlots.written}
use Rattle.nmgc_heap_tests.proofs.of_round.worked.Goals as goal

pub start-round-requires-clause-opens : goal.start-round-requires-clause-opens
start-round-requires-clause-opens g c = subst (λ (o : Opening).
    CanOpen o c.args.words) (sym c.first_of-opening.ensures) (c.empty_heap_opens.ensures c.args.layout c.args.words c.requires.layout c.requires.heap)

pub work_all-requires-clause-seats : goal.work_all-requires-clause-seats
work_all-requires-clause-seats g c = λ κs out.
    let s = c.start-round.ensures in
    are_ready c.args.layout c.start-round.result.round c.first_of-opening.result.value c.start-round.result.mutators c.items_mut.result.now
    c.first_of-opening.ensures s.mutators.0 s.mutators.1 c.items_mut.ensures.value

pub finish-requires-clause-seats : goal.finish-requires-clause-seats
finish-requires-clause-seats g c =
    let r = c.start-round.result.round in
    let given = c.start-round.result.mutators in
    let new = c.work_all.new.seats in
    let many = c.work_all.ensures.count in
    let is : refill (length given) given new ≡ new = written (length given) given new (many ∙ ap length c.items_mut.ensures.value) refl in (
      subst (λ (l : List RoundSeat). All (IsAt r) l) (sym is) (λ k d lt. (c.work_all.ensures.seats k d (omega (arith, lt, many))).0),
      c.start-round.ensures.collector.0,
    )

pub finish-requires-clause-all : goal.finish-requires-clause-all
finish-requires-clause-all g c =
    let layout = c.args.layout in
    let s = c.start-round.ensures in
    let first = c.first_of-opening.ensures in
    let r = c.start-round.result.round in
    let collector : RoundSeat = c.start-round.result.collector in
    let given = c.start-round.result.mutators in
    let new = c.work_all.new.seats in
    let many = c.work_all.ensures.count in
    let full = c.items_mut.ensures.value in
    let count = (are_ready layout r c.first_of-opening.result.value c.start-round.result.mutators c.items_mut.result.now first s.mutators.0
    s.mutators.1 full).0 in
    let is : refill (length given) given new ≡ new = written (length given) given new (many ∙ ap length c.items_mut.ensures.value) refl in
    subst (λ (l : List RoundSeat). HasAll (all_together (seen collector) (map seen l))) (sym is)
    (has_all layout (seen collector) new collector (ap (λ (v : Seen). v.collects) s.collector.1) (ap (λ (v : Seen). v.opening) s.collector.1 ∙
    first) (many ∙ count) (λ k lt. (c.work_all.ensures.seats k collector (omega (arith, lt, many))).1))
