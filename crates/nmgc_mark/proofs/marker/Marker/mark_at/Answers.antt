use Rattle.nmgc_mark.proofs.{Vocabulary.IsTrue, Vocabulary.sym, Vocabulary.subst, Vocabulary.inl, Vocabulary.inr, Vocabulary.IsEpoch, Vocabulary.Segments, Vocabulary.MarksAt, Vocabulary.never, Ties.room_done, Ties.done_then, Ties.done_else, Ties.nothing_there}
use Rattle.nmgc_mark.proofs.marker.Marker.mark_at.Goals as goal

pub try_mark_at-requires : goal.try_mark_at-requires
try_mark_at-requires c = subst IsEpoch (sym c.epoch-epoch.ensures.epoch) c.epoch-epoch.ensures.sound

pub queue-requires : goal.queue-requires
queue-requires c = elim c.try_mark_at.ensures.marks [
  | inl m ↦ room_done c.args.segments.now c.try_mark_at.new.self c.args.self.now c.args.at.0 c.epoch-epoch.result c.try_mark_at.result c.requires
      c.epoch-epoch.ensures.epoch c.epoch-epoch.ensures.sound c.layout.ensures.sound m c.if-try_mark_at.true
  | inr none ↦ never (subst (λ b. IsTrue b) none.1 c.if-try_mark_at.true)
]

pub returns-then-try_mark_at : goal.returns-then-try_mark_at
returns-then-try_mark_at c = elim c.try_mark_at.ensures.marks [
  | inl m ↦ done_then c.args.segments.now c.try_mark_at.new.self c.args.self.now c.queue.new.self c.args.at.0 c.epoch-epoch.result
      c.try_mark_at.result c.epoch-epoch.ensures.epoch c.epoch-epoch.ensures.sound c.layout.ensures.sound m c.if-try_mark_at.true c.queue.ensures
  | inr none ↦ never (subst (λ b. IsTrue b) none.1 c.if-try_mark_at.true)
]

pub returns-else-try_mark_at : goal.returns-else-try_mark_at
returns-else-try_mark_at c = elim c.try_mark_at.ensures.marks [
  | inl m ↦ done_else c.args.segments.now c.try_mark_at.new.self c.args.self.now c.args.at.0 c.epoch-epoch.result c.try_mark_at.result
      c.epoch-epoch.ensures.epoch c.epoch-epoch.ensures.sound c.layout.ensures.sound m
      (λ t. never (subst (λ b. IsTrue b) c.if-try_mark_at.false t))
  | inr none ↦ subst (λ (t : Segments).
      MarksAt c.args.segments.now t c.args.self.now c.args.self.now c.args.at.0) (sym none.2)
      (nothing_there c.args.segments.now c.args.self.now c.args.at.0 none.0)
]
