use Rattle.std.proofs.Common.{◌≡◌, [], replicate}
use Rattle.nmgc_barrier_checker.proofs.accounts.empty_queues.Given as goal

abbrev pub invariant-loop : goal.invariant-loop
invariant-loop l = l.queues ≡ replicate l.counter []
