use Rattle.nmgc_cycle.proofs.{Vocabulary.refl, sessions.Lines.empty_queue}
use Rattle.nmgc_cycle.proofs.command_queue.CommandQueue.new.Goals as goal

pub returns-clause-queue : goal.returns-clause-queue
returns-clause-queue c = empty_queue _ refl c.new.ensures.items c.new-2.ensures c.new-3.ensures refl
