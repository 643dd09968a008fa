use Rattle.nmgc_weak.proofs.{Vocabulary.ℕ, Vocabulary.List, Vocabulary.refl, Vocabulary.sym, Vocabulary.subst, Vocabulary.IsWithin, Vocabulary.places_of, Passing.gone_none, Passing.gone_more, Passing.gone_can}
use Rattle.nmgc_weak.proofs.resolve.keep_waiting.Goals as goal

pub loop-next-init : goal.loop-next-init
loop-next-init g c =
    let ws = g.W.HeapWords.words c.args.words.now in
    gone_none ws ws c.args.segments.now c.args.marker.now (places_of c.args.list.now) refl c.requires.room

pub keep_at-requires-clause-room : goal.keep_at-requires-clause-room
keep_at-requires-clause-room g c = c.loop-next.invariant.marked.1.room

pub keep_at-requires-clause-within : goal.keep_at-requires-clause-within
keep_at-requires-clause-within g c = λ weak k. subst (λ (l : List ℕ). IsWithin l weak.at.0) (sym c.loop-next.invariant.words) (c.requires.within weak k)

pub keep_at-requires-clause-can : goal.keep_at-requires-clause-can
keep_at-requires-clause-can g c = gone_can (g.W.HeapWords.words c.args.words.now) (g.W.HeapWords.words c.loop-next.words) c.args.segments.now
    c.loop-next.segments c.args.marker.now c.loop-next.marker (places_of c.args.list.now) c.loop-next.invariant c.requires.can

pub loop-next-preserved : goal.loop-next-preserved
loop-next-preserved g c = gone_more (g.W.HeapWords.words c.args.words.now) (g.W.HeapWords.words c.loop-next.words) (g.W.HeapWords.words c.keep_at.new.words)
    c.args.segments.now c.loop-next.segments c.keep_at.new.segments c.args.marker.now c.loop-next.marker c.keep_at.new.marker (places_of c.args.list.now)
    c.loop-next.invariant c.keep_at.ensures.words c.keep_at.ensures.marked c.keep_at.ensures.turns c.keep_at.ensures.goes

pub returns-after-loop-next-clause-marked : goal.returns-after-loop-next-clause-marked
returns-after-loop-next-clause-marked g c = c.loop-next.invariant.marked

pub returns-after-loop-next-clause-goes : goal.returns-after-loop-next-clause-goes
returns-after-loop-next-clause-goes g c = c.loop-next.invariant.goes

pub returns-else-waiting-next-clause-marked : goal.returns-else-waiting-next-clause-marked
returns-else-waiting-next-clause-marked g c = c.loop-next.invariant.marked

pub returns-else-waiting-next-clause-goes : goal.returns-else-waiting-next-clause-goes
returns-else-waiting-next-clause-goes g c = c.loop-next.invariant.goes
