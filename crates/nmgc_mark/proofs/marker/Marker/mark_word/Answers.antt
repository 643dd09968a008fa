use Rattle.nmgc_mark.proofs.{Vocabulary.arith, Vocabulary.tied_unset, Ties.place_marked, Ties.place_turns, Ties.tied_word, Ties.tied_odd}
use Rattle.nmgc_mark.proofs.marker.Marker.mark_word.Goals as goal

pub overflow_cast-at : goal.overflow_cast-at
overflow_cast-at c =
    let lt = c.requires.small c.in-Some.at c.in-Some.ensures.some in
    omega (arith, lt)

pub returns-in_default-clause-tied : goal.returns-in_default-clause-tied
returns-in_default-clause-tied c = λ o m h. tied_odd o m c.args.segments.now c.args.self.now c.args.word c.in_default.ensures.none h

pub returns-then-at-eq0-clause-tied : goal.returns-then-at-eq0-clause-tied
returns-then-at-eq0-clause-tied c = λ o m h.
    tied_unset o m c.args.segments.now c.args.self.now c.args.word (omega (arith, c.in-Some.ensures.some, c.if-at-eq0.true)) h

pub returns-clause-marked : goal.returns-clause-marked
returns-clause-marked c = place_marked c.args.segments.now c.mark_at.new.segments c.args.self.now c.mark_at.new.self c.in-Some.at c.requires.room c.mark_at.ensures

pub returns-clause-tied : goal.returns-clause-tied
returns-clause-tied c = λ o m h.
    tied_word o m c.args.segments.now c.mark_at.new.segments c.args.self.now c.mark_at.new.self c.args.word c.in-Some.at c.in-Some.ensures.some
    c.if-at-eq0.false h c.mark_at.ensures

pub returns-clause-turns : goal.returns-clause-turns
returns-clause-turns c = place_turns c.args.segments.now c.mark_at.new.segments c.args.self.now c.mark_at.new.self c.in-Some.at c.mark_at.ensures
