use Rattle.nmgc_cycle.proofs.Vocabulary.{◌≡◌, sym, subst, None, Collector}
use Rattle.nmgc_cycle.proofs.session.Session.round.Goals as goal

pub ask-requires-clause-goes_on : goal.ask-requires-clause-goes_on
ask-requires-clause-goes_on g c κs within = subst (λ (x : Collector). x.answered ≡ None) (sym c.begin_round.ensures.collector) c.requires.goes_on
