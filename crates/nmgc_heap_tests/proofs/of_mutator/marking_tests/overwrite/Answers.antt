use Rattle.nmgc_heap_tests.proofs.Started.{ready}
use Rattle.nmgc_heap_tests.proofs.of_mutator.marking_tests.overwrite.Goals as goal

pub step-requires-clause-ready : goal.step-requires-clause-ready
step-requires-clause-ready c =
    ready c.a_round_finds_mutators_ready.ensures c.a_marking_round_opens.ensures c.args.round.now c.args.seat.now c.args.mutator.now
    c.requires.seat.0 c.requires.seat.1 c.requires.mutator
