use Rattle.nmgc_weak.proofs.{Vocabulary.ℕ, Vocabulary.List, Vocabulary.◌≡◌, Vocabulary.take, Vocabulary.vec_capacity, Vocabulary.Place, Vocabulary.Opening, Vocabulary.HasMarked, Vocabulary.CanRescue, Vocabulary.deaths_of, Saving.IsSaving}
use Rattle.nmgc_weak.proofs.resolve.save_finalisers.Given as goal

abbrev pub invariant-loop-weak : goal.invariant-loop-weak
invariant-loop-weak g l = record {
  words : g.W.HeapWords.words l.words ≡ g.W.HeapWords.words l.fn.words;
  deaths : l.deaths.items ≡ deaths_of (g.W.HeapWords.words l.fn.words) (take l.weak-index l.dying);
  capacity : vec_capacity l.deaths ≡ vec_capacity l.fn.deaths;
  marked : (count : ℕ) × HasMarked l.fn.segments l.segments l.fn.marker l.marker count;
  turns : l.marker.turns ≡ l.fn.marker.turns;
  each : (o : Opening) (weaks : List Place) (h : CanRescue o (g.W.HeapWords.words l.fn.words) l.fn.segments l.fn.marker weaks l.dying) →
      IsSaving o (g.W.HeapWords.words l.fn.words) l.fn.segments l.fn.marker weaks l.dying h l.segments l.marker l.weak-index;
}
