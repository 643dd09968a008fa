use Rattle.nmgc_heap_tests.proofs.Sampled.{header_first}
use Rattle.nmgc_round.specs.Seat.{seen}
use Rattle.nmgc_heap_tests.proofs.of_mutator.marking_tests.scan_header.Goals as goal

pub scan_load-requires-clause-ready : goal.scan_load-requires-clause-ready
scan_load-requires-clause-ready c = header_first (seen c.args.collector.now) c.requires.seat.1
