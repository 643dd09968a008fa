use Rattle.nmgc_alloc.proofs.Vocabulary.{◌↔◌, subst, sym, nth, IsTrue, InSnapshot, Segments, HasNumber}
use Rattle.nmgc_alloc.proofs.CarryingLaws.{snapshot_seen, exists_unseen}
use Rattle.nmgc_alloc.proofs.carrying.Segments.in_snapshot.Goals as goal

pub returns : goal.returns
returns c =
    let there : HasNumber c.self.inside.done c.args.number = exists_unseen c.self.inside.late c.self.inside.done c.args.number
    (subst (λ (s : Segments). HasNumber s c.args.number) (sym c.self.view_is) c.requires.exists) in
    subst (λ (s : Segments). IsTrue c.in_snapshot.result ↔ InSnapshot (nth s.segments c.args.number) c.args.block) c.self.view_is
    (snapshot_seen c.self.inside.late c.self.inside.done c.args.number c.args.block c.in_snapshot.result c.self.invariant c.layout.ensures.sound there
    c.in_snapshot.ensures)
