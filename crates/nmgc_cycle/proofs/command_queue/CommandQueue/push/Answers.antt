use Rattle.nmgc_cycle.proofs.{Vocabulary.refl, sessions.Lines.pushed_queue}
use Rattle.nmgc_cycle.proofs.command_queue.CommandQueue.push.Goals as goal

pub returns-clause-queue : goal.returns-clause-queue
returns-clause-queue c = pushed_queue c.args.self.now _ c.args.command c.requires.queue c.requires.room c.requires.fits
    (record { rest = refl; waiting = c.in_ok-push_back.ensures.items; accepted = c.note.ensures })
