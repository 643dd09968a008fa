use Rattle.nmgc_barrier_checker.proofs.Vocabulary.{◌≡◌, take, put_back}
use Rattle.nmgc_barrier_checker.proofs.watch.Watch.put_back.Given as goal

abbrev pub invariant-loop-register : goal.invariant-loop-register
invariant-loop-register l = l.self ≡ put_back l.mutator l.held (take l.register-index l.borrowed) l.fn.self
