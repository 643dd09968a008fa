use Rattle.nmgc_minor.proofs.Vocabulary.{◌≡◌, ◌+◌, ◌-◌, length, Following, unfound_count}
use Rattle.nmgc_minor.proofs.young.Young.follow.Given as goal

abbrev pub invariant-loop-next : goal.invariant-loop-next
invariant-loop-next g l = record {
  follows : Following l.initial.self l.self (g.W.HeapWords.words l.initial.words) l.next;
  same : g.W.HeapWords.words l.words ≡ g.W.HeapWords.words l.initial.words;
}

abbrev pub decreases-loop-next : goal.decreases-loop-next
decreases-loop-next g l = unfound_count l.self + length l.self.found.items - l.next
