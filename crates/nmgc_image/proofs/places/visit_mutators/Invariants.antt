use Rattle.nmgc_image.proofs.Vocabulary.{take, Visits, IsMutatorRoot}
use Rattle.nmgc_image.proofs.places.visit_mutators.Given as goal

abbrev pub invariant-loop-own : goal.invariant-loop-own
invariant-loop-own l = Visits (IsMutatorRoot (take l.own-index l.mutators)) l.initial.search l.search
