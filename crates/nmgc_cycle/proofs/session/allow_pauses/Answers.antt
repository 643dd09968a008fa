use Rattle.nmgc_cycle.proofs.{Vocabulary.◌∙◌, Vocabulary.ap, Vocabulary.set, Vocabulary.CommandQueue, sessions.Pausing.paused_more}
use Rattle.nmgc_cycle.proofs.session.allow_pauses.Goals as goal

pub loop-queue-preserved : goal.loop-queue-preserved
loop-queue-preserved c =
    let l = c.loop-queue in
    ap (λ (q : CommandQueue). set l.queue-items l.queue-index q) c.allow_pause.ensures
    ∙ paused_more c.args.queues.now l.queue-items l.queue-index c.queue-item.result c.loop-queue-test.true l.auto.queue-items l.invariant
