use Rattle.nmgc_cycle.proofs.Vocabulary.{◌≡◌, ℕ, ◌*◌, ◌<◌, ◌≤◌, length, min, Some, slice_get, Receiver, HavePolled, in_blocks, most_at, MOST_PUSHED}
use Rattle.nmgc_cycle.proofs.round.reserve_inbox.Given as goal

abbrev pub invariant-loop-number : goal.invariant-loop-number
invariant-loop-number g l = record {
  polled : HavePolled l.initial.inbox l.inbox;
  count : length l.inbox ≡ length l.initial.inbox;
  room : (k : ℕ) (r : Receiver) → k < l.number → slice_get l.inbox k ≡ Some r →
      in_blocks (MOST_PUSHED * min l.slice (most_at g.P.Program.most l.programs k)) ≤ r.taken.spare;
}
