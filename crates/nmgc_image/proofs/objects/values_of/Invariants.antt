use Rattle.nmgc_image.proofs.Vocabulary.{◌≡◌, map, take, value_in}
use Rattle.nmgc_image.proofs.objects.values_of.Given as goal

abbrev pub invariant-loop-word : goal.invariant-loop-word
invariant-loop-word l = l.values ≡ map (value_in l.words) (take l.word-index l.fields)
