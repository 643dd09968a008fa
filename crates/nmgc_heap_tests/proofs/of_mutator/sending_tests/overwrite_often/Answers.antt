use Rattle.std.proofs.Common.{arith}
use Rattle.nmgc_heap_tests.proofs.Started.{ready, few}
use Rattle.nmgc_heap_tests.proofs.of_mutator.sending_tests.overwrite_often.Goals as goal

pub loop-number-init : goal.loop-number-init
loop-number-init c = record {
  ready = ready c.a_round_finds_mutators_ready.ensures c.a_marking_round_opens.ensures c.args.round.now c.args.seat.now c.args.mutator.now
      c.requires.seat.0 c.requires.seat.1 c.requires.mutator;
  layout = c.requires.mutator.layout;
  serial = few c.args.mutator.now c.requires.mutator;
  replies = (let h = c.requires.room.0 in omega (arith, h));
  recorded = (let h = c.requires.room.1 in omega (arith, h));
  updrem = (let h = c.requires.room.2 in omega (arith, h));
  finalised = (let h = c.requires.room.3 in omega (arith, h));
}
