use Rattle.nmgc_minor.proofs.Vocabulary.{◌≡◌, ◌++◌, map, take, drop, FinQueue, forward_word}
use Rattle.nmgc_minor.proofs.passes.forward_queue.Given as goal

-- the words so far are forwarded, and the rest is unchanged
abbrev pub invariant-loop-i : goal.invariant-loop-i
invariant-loop-i l = ◌≡◌ {A = FinQueue} l.queue (record l.initial.queue {
  words =
      map (forward_word l.table l.base) (take l.i l.initial.queue.words) ++ drop l.i l.initial.queue.words;
})
