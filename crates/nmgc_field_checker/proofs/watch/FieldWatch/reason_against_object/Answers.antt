use Rattle.nmgc_field_checker.proofs.{Vocabulary.Has, Vocabulary.World, Vocabulary.inl, Vocabulary.inr, Vocabulary.never, Vocabulary.refl, WatchLaws.has_heap}
use Rattle.nmgc_field_checker.proofs.watch.FieldWatch.reason_against_object.Goals as goal

pub returns-in-Some : goal.returns-in-Some
returns-in-Some c = inl c.in-Some.ensures

pub returns-then-not-has : goal.returns-then-not-has
returns-then-not-has c = inr (c.in_default.ensures.0, c.in_default.ensures.1, (refl, λ h. never (c.if-not-has.ensures.1 (has_heap (λ (w : World). Has w c.args.object) c.args.self.now.phase c.in_default.ensures.0 c.in_default.ensures.1.heap h))))

pub returns : goal.returns
returns c = (c.in_default.ensures, c.if-not-has.ensures.0 refl)
