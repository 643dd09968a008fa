use Rattle.nmgc_cycle.proofs.{Vocabulary.false, Vocabulary.with_items, sessions.Lines.accepted_paused, sessions.Lines.paused_back, sessions.Lines.session_paused}
use Rattle.nmgc_cycle.proofs.session.Session.close.Goals as goal

pub returns-clause-session : goal.returns-clause-session
returns-clause-session c = session_paused c.args.self.now c.requires.session c.requires.is_open false
    (record c.args.self.now { queues = with_items c.args.self.now.queues c.allow_pauses.new.queues })
    (paused_back c.args.self.now c.allow_pauses.new.queues c.as_mut_slice.result.now c.as_mut_slice.ensures.value c.allow_pauses.ensures)

pub returns-clause-accepted : goal.returns-clause-accepted
returns-clause-accepted c = accepted_paused c.args.self.now c.requires.session c.requires.is_open false
    (record c.args.self.now { queues = with_items c.args.self.now.queues c.allow_pauses.new.queues })
    (paused_back c.args.self.now c.allow_pauses.new.queues c.as_mut_slice.result.now c.as_mut_slice.ensures.value c.allow_pauses.ensures)
