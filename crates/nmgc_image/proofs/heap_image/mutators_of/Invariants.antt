use Rattle.nmgc_image.proofs.Vocabulary.{ℕ, ◌≡◌, length, Some, slice_get, MutatorEnd, ImageMutator, ShowsOwn}
use Rattle.nmgc_image.proofs.heap_image.mutators_of.Given as goal

abbrev pub invariant-loop-own : goal.invariant-loop-own
invariant-loop-own l = record {
  count : length l.shown ≡ l.own-index;
  shows : (m : ℕ) (own : MutatorEnd) (image : ImageMutator) → slice_get l.mutators m ≡ Some own → slice_get l.shown m ≡ Some image → ShowsOwn l.words own image;
}
