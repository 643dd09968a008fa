use Rattle.nmgc_cycle.proofs.Vocabulary.{ℕ, ◌≡◌, ◌<◌, Some, slice_get, CommandQueue}
use Rattle.nmgc_cycle.specs.Sessions.{HasRoom}
use Rattle.nmgc_cycle.proofs.session.have_room.Given as goal

abbrev pub invariant-loop-number : goal.invariant-loop-number
invariant-loop-number l = (k : ℕ) (q : CommandQueue) → k < l.number → slice_get l.queues k ≡ Some q → HasRoom q
