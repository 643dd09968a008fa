use Rattle.nmgc_alloc.proofs.{Vocabulary.ℕ, Vocabulary.inl, Vocabulary.inr, Vocabulary.ap, Vocabulary.refl, Vocabulary.subst, Vocabulary.sym, Vocabulary.Tally, Vocabulary.EntersMany, FilingLaws.none_entered, FilingLaws.entered_below, FilingLaws.entered_above, tally.Tally.enter_many.Goals.then-self, tally.Tally.enter_many.Goals.else-self}
use Rattle.nmgc_alloc.proofs.tally.Tally.enter_many.Goals as goal

pub returns-after-self : goal.returns-after-self
returns-after-self c =
    let mid : Tally = c.if-self.self in
    let new : Tally = record { count = mid.count; from = c.args.from; past = c.args.end; until = mid.until } in
    elim c.if-self.branch [
      | then-self w ↦
          entered_below c.args.gain c.args.from c.args.end c.args.self.now new c.requires.range.0 c.if-end-self.true (ap (λ (t : Tally). t.count) w.self-is)
          refl refl (inl (w.if-self.true, ap (λ (t : Tally). t.until) w.self-is))
      | else-self w ↦
          entered_below c.args.gain c.args.from c.args.end c.args.self.now new c.requires.range.0 c.if-end-self.true (ap (λ (t : Tally). t.count) w.self-is)
          refl refl (inr (w.if-self.false, ap (λ (t : Tally). t.until) w.self-is))
    ]

pub returns-else-end-self : goal.returns-else-end-self
returns-else-end-self c =
    entered_above c.args.gain c.args.from c.args.end c.args.self.now _ c.requires.range.0 refl c.min-self.ensures c.max-self.ensures
    c.max-self-else-end-self.ensures

pub returns-then-gain-eq0 : goal.returns-then-gain-eq0
returns-then-gain-eq0 c =
    subst (λ (gain : ℕ). EntersMany gain c.args.from c.args.end c.args.self.now c.args.self.now) (sym c.if-gain-eq0.true)
    (none_entered c.args.from c.args.end c.args.self.now)
