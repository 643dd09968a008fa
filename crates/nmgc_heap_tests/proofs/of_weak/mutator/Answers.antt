use Rattle.nmgc_heap_tests.proofs.Vocabulary.{refl, lit≤, ones}
use Rattle.nmgc_heap_tests.proofs.of_weak.mutator.Goals as goal

pub new-requires-clause-layout : goal.new-requires-clause-layout
unfolding ones
new-requires-clause-layout c = record {
  some = lit≤ tt;
  segments = lit≤ tt;
  words = record { power = refl; least = lit≤ tt; most = lit≤ tt };
  nursery = lit≤ tt;
  mutators = (lit≤ tt, lit≤ tt);
  heap = lit≤ tt;
}
