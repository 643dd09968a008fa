use Rattle.nmgc_cycle.proofs.{Vocabulary.refl, sessions.Lines.given_first, sessions.Lines.given_pause}
use Rattle.nmgc_cycle.proofs.command_queue.CommandQueueProgram.take_reply.Goals as goal

pub returns-in-Some-clause-valid : goal.returns-in-Some-clause-valid
returns-in-Some-clause-valid c = given_first c.args.self.now _ c.in-Some.command c.requires.valid refl c.in-Some.ensures.items c.note.ensures

pub returns-in-None-clause-valid : goal.returns-in-None-clause-valid
returns-in-None-clause-valid c = given_pause c.args.self.now _ c.requires.next.0 c.requires.valid refl c.in-None.ensures.items c.in-None.ensures.rest
    c.requires.next.1 c.note-in-None.ensures
