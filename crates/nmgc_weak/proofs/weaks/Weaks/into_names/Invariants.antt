use Rattle.nmgc_weak.proofs.Vocabulary.{◌≡◌, vec_capacity, names_of}
use Rattle.nmgc_weak.proofs.weaks.Weaks.into_names.Given as goal

abbrev pub invariant-loop-weak : goal.invariant-loop-weak
invariant-loop-weak l = record {
  names_are : l.names.items ≡ names_of l.yielded;
  room : vec_capacity l.names ≡ vec_capacity l.initial.names;
}
