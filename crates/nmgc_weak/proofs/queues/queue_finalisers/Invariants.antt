use Rattle.nmgc_weak.proofs.Vocabulary.{take, HaveJoined}
use Rattle.nmgc_weak.proofs.queues.queue_finalisers.Given as goal

abbrev pub invariant-loop-death : goal.invariant-loop-death
invariant-loop-death g l = HaveJoined g.M.MutatorRoots.queue g.M.MutatorRoots.with_queue (take l.death-index l.deaths) l.fn.mutators l.mutators
