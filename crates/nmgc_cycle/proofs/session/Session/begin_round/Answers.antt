use Rattle.nmgc_cycle.proofs.{Vocabulary.◌≡◌, Vocabulary.◌∙◌, Vocabulary.List, Vocabulary.ap, Vocabulary.map, Vocabulary.refl, Vocabulary.CommandQueue, Vocabulary.with_items, sessions.Lines.accepted_paused, sessions.Lines.pauses_there, sessions.Lines.paused_back, sessions.Lines.session_paused}
use Rattle.nmgc_cycle.proofs.session.Session.begin_round.Goals as goal

pub returns-then-self-clause-session : goal.returns-then-self-clause-session
returns-then-self-clause-session c = session_paused c.args.self.now c.requires.session c.if-self.true c.args.self.now.is_open
    (record c.args.self.now { queues = with_items c.args.self.now.queues c.allow_pauses.new.queues })
    (paused_back c.args.self.now c.allow_pauses.new.queues c.as_mut_slice.result.now c.as_mut_slice.ensures.value c.allow_pauses.ensures)

pub returns-then-self-clause-pauses : goal.returns-then-self-clause-pauses
returns-then-self-clause-pauses c = λ is. pauses_there c.args.self.now c.requires.session c.if-self.true c.args.self.now.is_open
    (record c.args.self.now { queues = with_items c.args.self.now.queues c.allow_pauses.new.queues })
    (paused_back c.args.self.now c.allow_pauses.new.queues c.as_mut_slice.result.now c.as_mut_slice.ensures.value c.allow_pauses.ensures)
    (c.requires.room c.if-self.true)

pub returns-then-self-clause-lines : goal.returns-then-self-clause-lines
returns-then-self-clause-lines c = record {
  config = refl;
  is_open = refl;
  accepted = accepted_paused c.args.self.now c.requires.session c.if-self.true c.args.self.now.is_open
      (record c.args.self.now { queues = with_items c.args.self.now.queues c.allow_pauses.new.queues })
      (paused_back c.args.self.now c.allow_pauses.new.queues c.as_mut_slice.result.now c.as_mut_slice.ensures.value c.allow_pauses.ensures);
}
