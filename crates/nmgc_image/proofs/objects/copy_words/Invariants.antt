use Rattle.std.proofs.Common.{◌≡◌, take, drop}
use Rattle.nmgc_image.proofs.objects.copy_words.Given as goal

abbrev pub invariant-loop-place : goal.invariant-loop-place
invariant-loop-place l = l.buffer.items ≡ take l.place (drop l.from l.words)
