use Rattle.nmgc_image.proofs.Vocabulary.{take, ListsHeld}
use Rattle.nmgc_image.proofs.heap_image.held_of.Given as goal

abbrev pub invariant-loop-register : goal.invariant-loop-register
invariant-loop-register l = ListsHeld (take l.register l.registers) l.held
