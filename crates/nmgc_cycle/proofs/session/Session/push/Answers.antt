use Rattle.nmgc_cycle.proofs.{Vocabulary.◌≡◌, Vocabulary.List, Vocabulary.on_ok_weaker, Vocabulary.subst, Vocabulary.CommandQueue, Vocabulary.with_items, sessions.Lines.pushed_back}
use Rattle.nmgc_cycle.specs.Sessions.{HasPushedAt}
use Rattle.nmgc_cycle.proofs.session.Session.push.Goals as goal

pub returns-clause-session : goal.returns-clause-session
returns-clause-session c = on_ok_weaker c.push_to.result (λ h. pushed_back c.args.self.now c.requires.session c.requires.is_open c.push_to.new.queues c.args.number c.args.command
    c.requires.number c.requires.room (subst (λ (l : List CommandQueue). HasPushedAt c.args.number c.args.command l c.push_to.new.queues) c.as_mut_slice.ensures.value h)) c.push_to.ensures
