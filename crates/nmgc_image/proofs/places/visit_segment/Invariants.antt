use Rattle.nmgc_image.proofs.Vocabulary.{ℕ, ◌<◌, Visits, IsWeakBlock}
use Rattle.nmgc_image.proofs.places.visit_segment.Given as goal

abbrev pub invariant-loop-block : goal.invariant-loop-block
invariant-loop-block l = Visits (λ at. (block : ℕ) × (block < l.block) × IsWeakBlock l.report l.number block at) l.initial.search l.search
