use Rattle.std.proofs.Common.{ℕ, arith, refl, rules, IsTrue}
use Rattle.std.specs.Int.{is_power_of_two}
use Rattle.nmgc_decider.proofs.heap.heap_of.Goals as goal

-- the greatest size of a segment is a power of two
power : IsTrue (is_power_of_two 4096)
unfolding lib.Count.ones
power = search rules

pub returns-clause-is : goal.returns-clause-is
returns-clause-is c = record {
  some = omega (arith, c);
  few = omega (arith, c);
  fits = record {
    some_segments = omega (arith, c);
    segments = omega (arith, c);
    words = record { power = power; least = omega arith; most = omega arith };
    some_nursery = omega arith;
    nursery = omega arith;
    some_slice = omega arith;
    slice = omega arith;
    some_quota = omega arith;
    quota = omega arith;
    trigger = omega (arith, c);
  };
  words = refl;
  total = omega (arith, c);
}
