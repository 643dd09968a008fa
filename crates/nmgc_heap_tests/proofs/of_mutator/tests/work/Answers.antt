use Rattle.nmgc_heap_tests.proofs.{Many.many_ready, Samples.has_room, Vocabulary.new_reserved, Vocabulary.arith}
use Rattle.nmgc_heap_tests.proofs.of_mutator.tests.work.Goals as goal

pub run_slice-requires-clause-ready : goal.run_slice-requires-clause-ready
run_slice-requires-clause-ready g c = λ κs out.
    many_ready c.args.layout c.requires.opens.0 c.args.round.now c.args.seat.now c.args.number _ c.requires.layout.0 c.requires.layout.1
    c.requires.opens.1 c.requires.seat.0 c.requires.seat.1 (new_reserved c.args.number c.args.layout _ c.reserve.new.self
    c.in_ok-mutator.ensures.new c.reserve.ensures.kept)

pub run_slice-requires-clause-room : goal.run_slice-requires-clause-room
run_slice-requires-clause-room g c = λ κs out.
    let r = c.in_ok-reserve.ensures.room in
    has_room c.args.number c.args.layout c.reserve.new.self 3 _
    (new_reserved c.args.number c.args.layout _ c.reserve.new.self c.in_ok-mutator.ensures.new c.reserve.ensures.kept) (omega arith) r.0 r.1 r.2 r.3 r.4
