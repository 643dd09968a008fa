use Rattle.nmgc_heap_tests.proofs.Sampled.{field_next}
use Rattle.nmgc_round.specs.Seat.{seen}
use Rattle.nmgc_heap_tests.proofs.of_mutator.marking_tests.scan_field.Goals as goal

pub scan_load-requires-clause-ready : goal.scan_load-requires-clause-ready
scan_load-requires-clause-ready c = field_next (seen c.args.collector.now) c.args.header c.requires.seat.1
