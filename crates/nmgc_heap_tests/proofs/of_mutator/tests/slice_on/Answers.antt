use Rattle.nmgc_heap_tests.proofs.{Vocabulary.subst, Vocabulary.sym, Vocabulary.Opening, Vocabulary.CanOpen, Samples.one_ready}
use Rattle.nmgc_heap_tests.proofs.of_mutator.tests.slice_on.Goals as goal

pub start-round-requires-clause-opens : goal.start-round-requires-clause-opens
start-round-requires-clause-opens c = subst (λ (o : Opening).
    CanOpen o c.args.words) (sym c.first_of-opening.ensures) (c.empty_heap_opens.ensures c.args.layout c.args.words c.requires.layout.0 c.requires.heap)

pub run_slice-done-requires-clause-ready : goal.run_slice-done-requires-clause-ready
run_slice-done-requires-clause-ready c = λ κs.
    let s = c.start-round.ensures in
    one_ready c.args.layout c.args.words c.start-round.result.round c.first_of-opening.result.value c.start-round.result.mutators c.pop.new.self
    c.in-Some.first c.args.mutator c.requires.layout.0 c.requires.layout.1
    (c.empty_heap_opens.ensures c.args.layout c.args.words c.requires.layout.0 c.requires.heap) c.first_of-opening.ensures s.round.0
    s.mutators.0 s.mutators.1 c.in-Some.ensures.last c.requires.mutator
