use Rattle.std.proofs.Common.{refl, arith}
use Rattle.nmgc_heap_tests.proofs.of_round.small.Goals as goal

pub returns-clause-layout : goal.returns-clause-layout
unfolding lib.Count.ones
returns-clause-layout c =
    let r = c.requires in
    record {
      some = omega arith;
      segments = omega arith;
      words = record { power = refl; least = omega arith; most = omega arith };
      nursery = omega arith;
      mutators = (omega arith, omega arith);
      heap = omega arith;
    }
