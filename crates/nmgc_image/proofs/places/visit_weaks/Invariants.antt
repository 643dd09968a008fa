use Rattle.nmgc_image.proofs.Vocabulary.{ℕ, ◌<◌, Visits, IsWeakIn}
use Rattle.nmgc_image.proofs.places.visit_weaks.Given as goal

abbrev pub invariant-loop-number : goal.invariant-loop-number
invariant-loop-number l = Visits (λ at. (number : ℕ) × (number < l.number) × IsWeakIn l.report number at) l.initial.search l.search
