use Rattle.nmgc_alloc.proofs.Vocabulary.{subst, Segments, IsSegments}
use Rattle.nmgc_alloc.proofs.CarryingLaws.{sound_seen}
use Rattle.nmgc_alloc.proofs.carrying.Segments.layout.Goals as goal

pub returns-clause-sound : goal.returns-clause-sound
returns-clause-sound c = subst (λ (s : Segments). IsSegments s) c.self.view_is
    (sound_seen c.self.inside.late c.self.inside.done c.self.invariant c.layout.ensures.sound)
