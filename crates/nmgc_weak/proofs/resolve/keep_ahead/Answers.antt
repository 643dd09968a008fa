use Rattle.nmgc_weak.proofs.{Vocabulary.ℕ, Vocabulary.List, Vocabulary.sym, Vocabulary.subst, Vocabulary.◌∙◌, Vocabulary.CanResolve, Vocabulary.IsWithin, Vocabulary.places_of, Vocabulary.names_of, Counting.marked_sum, Passing.HasGone, Passing.gone_none, Passing.gone_more, Passing.gone_can, Passing.passed_on}
use Rattle.nmgc_weak.proofs.resolve.keep_ahead.Goals as goal

pub pass-requires-clause-within : goal.pass-requires-clause-within
pass-requires-clause-within g c = λ weak k. subst (λ (l : List ℕ). IsWithin l weak.at.0) (sym c.file_waiting.ensures.words) (c.requires.within weak k)

pub pass-requires-clause-can : goal.pass-requires-clause-can
pass-requires-clause-can g c =
    let r = c.requires.can in
    (r.0, subst (λ (l : List ℕ). CanResolve r.0 l c.args.segments.now c.args.marker.now (places_of c.args.list.now)) (sym c.file_waiting.ensures.words) r.1)

pub follow_marks-requires-clause-room : goal.follow_marks-requires-clause-room
follow_marks-requires-clause-room g c = c.pass.ensures.marked.1.room

pub follow_marks-requires-clause-within : goal.follow_marks-requires-clause-within
follow_marks-requires-clause-within g c = λ weak k. subst (λ (l : List ℕ). IsWithin l weak.at.0) (sym (c.pass.ensures.words ∙
    c.file_waiting.ensures.words)) (c.requires.within weak k)

pub follow_marks-requires-clause-can : goal.follow_marks-requires-clause-can
follow_marks-requires-clause-can g c =
    let ws = g.W.HeapWords.words c.args.words.now in
    let filed = g.W.HeapWords.words c.file_waiting.new.words in
    let passed = g.W.HeapWords.words c.pass.new.words in
    let weaks = places_of c.args.list.now in
    let s = c.args.segments.now in
    let k = c.args.marker.now in
    let first : HasGone ws filed s s k k weaks = gone_none ws filed s k weaks c.file_waiting.ensures.words c.requires.room in
    gone_can ws passed s c.pass.new.segments k c.pass.new.marker weaks
    (gone_more ws filed passed s s c.pass.new.segments k k c.pass.new.marker weaks first c.pass.ensures.words c.pass.ensures.marked c.pass.ensures.turns
    (passed_on filed s c.pass.new.segments k c.pass.new.marker weaks (names_of c.args.list.now) c.pass.ensures.passed)) c.requires.can

-- all three steps
pub returns-clause-goes : goal.returns-clause-goes
returns-clause-goes g c =
    let ws = g.W.HeapWords.words c.args.words.now in
    let filed = g.W.HeapWords.words c.file_waiting.new.words in
    let passed = g.W.HeapWords.words c.pass.new.words in
    let weaks = places_of c.args.list.now in
    let s = c.args.segments.now in
    let k = c.args.marker.now in
    let first : HasGone ws filed s s k k weaks = gone_none ws filed s k weaks c.file_waiting.ensures.words c.requires.room in
    let then = gone_more ws filed passed s s c.pass.new.segments k k c.pass.new.marker weaks first c.pass.ensures.words c.pass.ensures.marked
    c.pass.ensures.turns (passed_on filed s c.pass.new.segments k c.pass.new.marker weaks (names_of c.args.list.now) c.pass.ensures.passed) in
    (gone_more ws passed (g.W.HeapWords.words c.follow_marks.new.words) s c.pass.new.segments c.follow_marks.new.segments k c.pass.new.marker
    c.follow_marks.new.marker weaks then c.follow_marks.ensures.words c.follow_marks.ensures.marked c.follow_marks.ensures.turns c.follow_marks.ensures.goes).goes

pub returns-clause-marked : goal.returns-clause-marked
returns-clause-marked g c = marked_sum c.args.segments.now c.pass.new.segments c.follow_marks.new.segments c.args.marker.now c.pass.new.marker
    c.follow_marks.new.marker c.pass.ensures.marked c.follow_marks.ensures.marked
