use Rattle.nmgc_field_checker.proofs.{Vocabulary.Has, Vocabulary.World, Vocabulary.inr, Vocabulary.never, Vocabulary.refl, WatchLaws.acts_here, WatchLaws.not_taken}
use Rattle.nmgc_field_checker.proofs.watch.FieldWatch.hand.Goals as goal

pub returns-in-Some-clause-step : goal.returns-in-Some-clause-step
returns-in-Some-clause-step c = (refl, not_taken c.args.self.now c.args.giver c.args.taker c.args.object c.in-Some.why c.in-Some.ensures)

pub returns-then-not-is_there-clause-step : goal.returns-then-not-is_there-clause-step
returns-then-not-is_there-clause-step c = (refl, inr (c.in_default.ensures.0.0, c.in_default.ensures.0.1, (refl, λ t. never (c.if-not-is_there.ensures.1 t))))

pub returns-clause-step : goal.returns-clause-step
returns-clause-step c =
    let r = acts_here c.args.self.now c.args.giver (λ (w : World). Has w c.args.object) c.in_default.ensures.0 c.in_default.ensures.1 in
    record { heap = r.0; acts = r.1; has = r.2; taker = c.if-not-is_there.ensures.0 refl; rest = refl; given = c.in_ok-hand.ensures.given }
