use Rattle.nmgc_heap_tests.proofs.Vocabulary.{sym, subst, Opening, CanOpen, are_ready}
use Rattle.nmgc_heap_tests.proofs.of_mutator.tests.worked.Goals as goal

pub start-round-requires-clause-opens : goal.start-round-requires-clause-opens
start-round-requires-clause-opens g c = subst (λ (o : Opening).
    CanOpen o c.args.words) (sym c.first_of-opening.ensures) (c.empty_heap_opens.ensures c.args.layout c.args.words c.requires.layout.0 c.requires.heap)

pub work_all-requires-clause-opens : goal.work_all-requires-clause-opens
work_all-requires-clause-opens g c = λ κs out. (c.args.words, c.empty_heap_opens.ensures c.args.layout c.args.words c.requires.layout.0 c.requires.heap)

pub work_all-requires-clause-seats : goal.work_all-requires-clause-seats
work_all-requires-clause-seats g c = λ κs out.
    let s = c.start-round.ensures in
    are_ready c.args.layout c.start-round.result.round c.first_of-opening.result.value c.start-round.result.mutators c.items_mut.result.now
    c.first_of-opening.ensures s.mutators.0 s.mutators.1 c.items_mut.ensures.value
