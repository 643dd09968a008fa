use Rattle.nmgc_image.proofs.Vocabulary.{◌≡◌, ◌≤◌, ◌-◌, ◌++◌, length, take, drop, leading}
use Rattle.nmgc_image.proofs.objects.value_words_of_stack.Given as goal

abbrev pub invariant-loop-depth : goal.invariant-loop-depth
invariant-loop-depth l = record { within : l.depth ≤ length l.fields; so_far : leading l.fields ≡ take l.depth l.fields ++ leading (drop l.depth l.fields) }

abbrev pub decreases-loop-depth : goal.decreases-loop-depth
decreases-loop-depth l = length l.fields - l.depth
