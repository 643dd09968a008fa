use Rattle.nmgc_field_checker.proofs.{Vocabulary.Has, Vocabulary.World, Vocabulary.refl, WatchLaws.acts_here}
use Rattle.nmgc_field_checker.proofs.watch.FieldWatch.owe.Goals as goal

pub returns-clause-step : goal.returns-clause-step
returns-clause-step c =
    let r = acts_here c.args.self.now c.args.actor (λ (w : World). Has w c.args.object) c.in_default.ensures.0 c.in_default.ensures.1 in
    record { heap = r.0; acts = r.1; has = r.2; rest = refl; opened = c.in_ok-open.ensures.opened }
