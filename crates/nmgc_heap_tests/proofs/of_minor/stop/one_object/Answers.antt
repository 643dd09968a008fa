use Rattle.nmgc_heap_tests.proofs.Vocabulary.{refl, lit≤, ones}
use Rattle.nmgc_heap_tests.proofs.of_minor.stop.one_object.Goals as goal

pub new-requires : goal.new-requires
unfolding ones
new-requires g c = record {
  some = lit≤ tt;
  segments = lit≤ tt;
  words = record { power = refl; least = lit≤ tt; most = lit≤ tt };
  nursery = lit≤ tt;
  mutators = (lit≤ tt, lit≤ tt);
  heap = lit≤ tt;
}
