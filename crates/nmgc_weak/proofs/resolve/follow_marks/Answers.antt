use Rattle.nmgc_weak.proofs.{Vocabulary.ℕ, Vocabulary.List, Vocabulary.refl, Vocabulary.sym, Vocabulary.subst, Vocabulary.arith, Vocabulary.IsWithin, Vocabulary.places_of, Passing.gone_none, Passing.gone_more, Passing.gone_can}
use Rattle.nmgc_weak.proofs.resolve.follow_marks.Goals as goal

pub loop-at-init : goal.loop-at-init
loop-at-init g c =
    let ws = g.W.HeapWords.words c.args.words.now in
    gone_none ws ws c.args.segments.now c.args.marker.now (places_of c.args.list.now) refl c.requires.room

pub keep_waiting-requires-clause-room : goal.keep_waiting-requires-clause-room
keep_waiting-requires-clause-room g c = c.loop-at.invariant.marked.1.room

pub keep_waiting-requires-clause-within : goal.keep_waiting-requires-clause-within
keep_waiting-requires-clause-within g c = λ weak k. subst (λ (l : List ℕ). IsWithin l weak.at.0) (sym c.loop-at.invariant.words) (c.requires.within weak k)

pub keep_waiting-requires-clause-can : goal.keep_waiting-requires-clause-can
keep_waiting-requires-clause-can g c = gone_can (g.W.HeapWords.words c.args.words.now) (g.W.HeapWords.words c.loop-at.words) c.args.segments.now
    c.loop-at.segments c.args.marker.now c.loop-at.marker (places_of c.args.list.now) c.loop-at.invariant c.requires.can

pub loop-at-preserved : goal.loop-at-preserved
loop-at-preserved g c = gone_more (g.W.HeapWords.words c.args.words.now) (g.W.HeapWords.words c.loop-at.words) (g.W.HeapWords.words c.keep_waiting.new.words)
    c.args.segments.now c.loop-at.segments c.keep_waiting.new.segments c.args.marker.now c.loop-at.marker c.keep_waiting.new.marker (places_of c.args.list.now)
    c.loop-at.invariant c.keep_waiting.ensures.words c.keep_waiting.ensures.marked c.keep_waiting.ensures.turns c.keep_waiting.ensures.goes

pub returns-clause-marked : goal.returns-clause-marked
returns-clause-marked g c = c.loop-at.invariant.marked

pub returns-clause-goes : goal.returns-clause-goes
returns-clause-goes g c = c.loop-at.invariant.goes

pub loop-at-smaller : goal.loop-at-smaller
loop-at-smaller g c =
    let room = c.keep_waiting.ensures.marked.1.scanned.room in
    let lt = c.in-Some.ensures.some in
    omega (arith, room, lt)
