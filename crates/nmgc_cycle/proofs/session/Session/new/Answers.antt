use Rattle.nmgc_cycle.proofs.{Vocabulary.true, sessions.Begins.begins}
use Rattle.nmgc_cycle.proofs.session.Session.new.Goals as goal

pub returns : goal.returns
returns c = begins c.args.head.now c.in_ok-collector.collector
    (record { config = c.args.head.now.config; collector = c.in_ok-collector.collector; queues = c.in_ok-queues.queues; is_open = true })
    c.requires.fits c.requires.version c.in_ok-collector.ensures.fresh c.in_ok-queues.ensures
