use Rattle.nmgc_minor.proofs.Vocabulary.{◌≡◌, ◌+◌, ◌++◌, map, take, drop, set, subst, sym, ap, ◌∙◌, map_over_more, forward_word, promoted}
use Rattle.nmgc_minor.proofs.passes.settle.Goals as goal

pub loop-mutator-preserved : goal.loop-mutator-preserved
loop-mutator-preserved g c =
    let m = g.M.MutatorRoots in
    let then = promoted m.registers m.with_registers m.queue m.with_queue m.after_stop (forward_word c.args.table.now c.args.base) in
    let was = c.args.mutators.now in
    let i = c.loop-mutator.mutator-index in
    subst (λ y. set c.loop-mutator.mutators i y ≡ map then (take (i + 1) was) ++ drop (i + 1) was)
    (sym (c.settle_one.ensures ∙ ap then (sym c.mutator-item.is)))
    (map_over_more then was c.loop-mutator.mutators i c.mutator-item.result c.loop-mutator-test.true c.loop-mutator.invariant c.mutator-item.is)
