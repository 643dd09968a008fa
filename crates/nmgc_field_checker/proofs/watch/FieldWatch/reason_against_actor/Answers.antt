use Rattle.nmgc_field_checker.proofs.{Vocabulary.never, Vocabulary.refl, WatchLaws.acting}
use Rattle.nmgc_field_checker.proofs.watch.FieldWatch.reason_against_actor.Goals as goal

pub returns : goal.returns
returns c = acting c.args.self.now c.args.actor (λ e. never (c.if-is_stopped.ensures.1 e)) (c.if-not-is_there.ensures.0 refl)
