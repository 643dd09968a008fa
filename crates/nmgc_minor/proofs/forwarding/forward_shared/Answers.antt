use Rattle.nmgc_minor.proofs.{Vocabulary.arith, Vocabulary.forward_word, ForwardLaws.none_forwarded, ForwardLaws.range_forwarded}
use Rattle.nmgc_minor.proofs.forwarding.forward_shared.Goals as goal

pub loop-i-init : goal.loop-i-init
loop-i-init g c = none_forwarded (forward_word c.args.table.now c.args.base) (g.W.HeapWords.words c.args.words.now) _ (λ i h. omega (arith, h.0, h.1))

pub forward_at-requires : goal.forward_at-requires
forward_at-requires g c =
    let e = c.loop-i.invariant.total in
    let n = c.from.ensures in
    let r = c.requires in
    omega (arith, e, n, r)

pub loop-i-preserved : goal.loop-i-preserved
loop-i-preserved g c =
    let e = c.loop-i.invariant.total in
    let n = c.from.ensures in
    let r = c.requires in
    rw (c.forward_at.ensures) (range_forwarded (forward_word c.args.table.now c.args.base) (g.W.HeapWords.words c.args.words.now)
    (g.W.HeapWords.words c.loop-i.words) 3 c.loop-i.i (omega arith) (omega (arith, e, n, r)) c.loop-i.invariant)
