use Rattle.nmgc_field_checker.proofs.{GoneLaws.AreLeft}
use Rattle.nmgc_field_checker.proofs.heap.FieldHeap.without.Given as goal

abbrev pub invariant-loop-object : goal.invariant-loop-object
invariant-loop-object l = AreLeft l.gone.items l.self-inside.objects l.objects l.object
