use Rattle.nmgc_alloc.proofs.Vocabulary.{◌≡◌, ◌+◌, ◌-◌, take, drop, Sweeping, sought_count}
use Rattle.nmgc_alloc.proofs.halves.end_of_waiting.Given as goal

-- `left` segments are still to come
abbrev pub invariant-loop-number : goal.invariant-loop-number
invariant-loop-number l = l.left + sought_count Sweeping (take (l.number - l.from) (drop l.from l.segments)) ≡ l.count
