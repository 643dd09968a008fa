use Rattle.nmgc_weak.proofs.{Vocabulary.ℕ, Vocabulary.List, Vocabulary.sym, Vocabulary.subst, Vocabulary.IsWithin, Vocabulary.places_of, Counting.marked_sum, Passing.HasGone, Passing.gone_can, Passing.gone_revived}
use Rattle.nmgc_weak.proofs.resolve.revive.Goals as goal

pub pass_until_none-requires-clause-room : goal.pass_until_none-requires-clause-room
pass_until_none-requires-clause-room g c = c.keep_ahead.ensures.marked.1.room

pub pass_until_none-requires-clause-within : goal.pass_until_none-requires-clause-within
pass_until_none-requires-clause-within g c = λ weak k. subst (λ (l : List ℕ). IsWithin l weak.at.0) (sym c.keep_ahead.ensures.words) (c.requires.within weak k)

pub pass_until_none-requires-clause-can : goal.pass_until_none-requires-clause-can
pass_until_none-requires-clause-can g c =
    let ws = g.W.HeapWords.words c.args.words.now in
    let now = g.W.HeapWords.words c.keep_ahead.new.words in
    let s = c.args.segments.now in
    let k = c.args.marker.now in
    let ahead : HasGone ws now s c.keep_ahead.new.segments k c.keep_ahead.new.marker (places_of c.args.list.now) = record {
      words = c.keep_ahead.ensures.words;
      marked = c.keep_ahead.ensures.marked;
      turns = c.keep_ahead.ensures.turns;
      goes = c.keep_ahead.ensures.goes;
    } in
    gone_can ws now s c.keep_ahead.new.segments k c.keep_ahead.new.marker (places_of c.args.list.now) ahead c.requires.can

pub returns-clause-marked : goal.returns-clause-marked
returns-clause-marked g c = marked_sum c.args.segments.now c.keep_ahead.new.segments c.pass_until_none.new.segments c.args.marker.now
    c.keep_ahead.new.marker c.pass_until_none.new.marker c.keep_ahead.ensures.marked c.pass_until_none.ensures.marked

pub returns-clause-revived : goal.returns-clause-revived
returns-clause-revived g c =
    let ws = g.W.HeapWords.words c.args.words.now in
    let now = g.W.HeapWords.words c.keep_ahead.new.words in
    let s = c.args.segments.now in
    let k = c.args.marker.now in
    let weaks = places_of c.args.list.now in
    let ahead : HasGone ws now s c.keep_ahead.new.segments k c.keep_ahead.new.marker weaks = record {
      words = c.keep_ahead.ensures.words;
      marked = c.keep_ahead.ensures.marked;
      turns = c.keep_ahead.ensures.turns;
      goes = c.keep_ahead.ensures.goes;
    } in
    gone_revived ws now s c.keep_ahead.new.segments c.pass_until_none.new.segments k c.keep_ahead.new.marker c.pass_until_none.new.marker weaks ahead
    c.pass_until_none.ensures.revived
