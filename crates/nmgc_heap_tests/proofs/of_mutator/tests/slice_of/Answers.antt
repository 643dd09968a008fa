use Rattle.nmgc_mutator.specs.laws.Common.{reserved as new_reserved}
use Rattle.nmgc_heap_tests.proofs.Samples.{has_room}
use Rattle.nmgc_heap_tests.proofs.of_mutator.tests.slice_of.Goals as goal

pub slice_on-requires-clause-mutator : goal.slice_on-requires-clause-mutator
slice_on-requires-clause-mutator c = new_reserved 0 c.small-layout.result _ c.reserve.new.self c.in_ok-mutator.ensures.new c.reserve.ensures.kept

pub slice_on-requires-clause-lists : goal.slice_on-requires-clause-lists
slice_on-requires-clause-lists c =
    let r = c.in_ok-reserve.ensures.room in
    has_room 0 c.small-layout.result c.reserve.new.self c.args.slice _
    (new_reserved 0 c.small-layout.result _ c.reserve.new.self c.in_ok-mutator.ensures.new c.reserve.ensures.kept) c.requires.slice r.0 r.1 r.2 r.3 r.4
