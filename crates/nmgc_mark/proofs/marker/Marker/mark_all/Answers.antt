use Rattle.nmgc_mark.proofs.{Vocabulary.◌∙◌, Vocabulary.take, Vocabulary.get_or, Vocabulary.refl, Vocabulary.sym, Vocabulary.subst, Vocabulary.Contains-get_or, Vocabulary.Marks, Vocabulary.IsTied, Vocabulary.with_words, Vocabulary.marked_none, Words.words_more, Fields.marked_more}
use Rattle.nmgc_mark.proofs.marker.Marker.mark_all.Goals as goal

pub loop-word-init : goal.loop-word-init
loop-word-init c = record { marked = marked_none c.args.segments.now c.args.self.now c.requires.room; turns = refl; tied = λ o m h. h }

pub mark_word-requires-clause-small : goal.mark_word-requires-clause-small
mark_word-requires-clause-small c = λ at e.
    c.requires.small (get_or c.args.words.now c.loop-word.word-index 0) at (Contains-get_or c.args.words.now c.loop-word.word-index 0 c.loop-word-test.true) e

pub mark_word-requires-clause-room : goal.mark_word-requires-clause-room
mark_word-requires-clause-room c = c.loop-word.invariant.marked.room

pub loop-word-preserved : goal.loop-word-preserved
loop-word-preserved c = record {
  marked = marked_more c.args.segments.now c.loop-word.segments c.mark_word.new.segments c.args.self.now c.loop-word.self c.mark_word.new.self
      c.loop-word.invariant.marked c.mark_word.ensures.marked;
  turns = c.mark_word.ensures.turns ∙ c.loop-word.invariant.turns;
  tied = λ o m h. subst (λ (k : Marks).
      IsTied o k c.mark_word.new.segments c.mark_word.new.self) (sym (words_more o m c.args.words.now c.loop-word.word-index c.loop-word-test.true))
      (c.mark_word.ensures.tied o (with_words o m (take c.loop-word.word-index c.args.words.now)) (c.loop-word.invariant.tied o m h));
}
