use Rattle.nmgc_alloc.proofs.Vocabulary.{◌∙◌, ap, subst, sym, Layout, Segments, IsMutator, IsClass, HasRoom}
use Rattle.nmgc_alloc.proofs.LateLaws.{layout_seen, room_seen}
use Rattle.nmgc_alloc.proofs.late.Segments.has_room.Goals as goal

pub has_room-requires-clause-mutator : goal.has_room-requires-clause-mutator
has_room-requires-clause-mutator c = subst (λ (l : Layout). IsMutator l c.args.mutator)
    (ap (λ (s : Segments). s.layout) (sym c.self.view_is) ∙ layout_seen c.self.inside.late c.self.inside.done) c.requires.mutator

pub has_room-requires-clause-class : goal.has_room-requires-clause-class
has_room-requires-clause-class c = subst (λ (l : Layout). IsClass l c.args.class)
    (ap (λ (s : Segments). s.layout) (sym c.self.view_is) ∙ layout_seen c.self.inside.late c.self.inside.done) c.requires.class

pub returns : goal.returns
returns c =
    let same = room_seen c.self.inside.late c.self.inside.done c.args.mutator c.args.class in (
      (λ t. subst (λ (s : Segments). HasRoom s c.args.mutator c.args.class) c.self.view_is (same.0 (c.has_room.ensures.0 t))),
      (λ h. c.has_room.ensures.1 (same.1 (subst (λ (s : Segments). HasRoom s c.args.mutator c.args.class) (sym c.self.view_is) h))),
    )
