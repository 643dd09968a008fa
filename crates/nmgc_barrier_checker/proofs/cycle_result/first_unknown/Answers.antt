use Rattle.nmgc_barrier_checker.proofs.{Vocabulary.◌∙◌, Vocabulary.ap, Vocabulary.not, Vocabulary.IsSome, Vocabulary.Name, Vocabulary.node_of, CycleLaws.none_there, CycleLaws.not_none_there, Filters.each_more, Filters.each_all, Firsts.stands_at}
use Rattle.nmgc_barrier_checker.proofs.cycle_result.first_unknown.Goals as goal

pub returns-then-is_none : goal.returns-then-is_none
returns-then-is_none c =
    stands_at (λ other. IsSome (node_of c.args.world.now other) → ⊥) c.args.names.now c.loop-name.name-index (record { maker = 0; serial = 0 }) c.loop-name-test.true
    (λ other k never. never (c.loop-name.invariant other k))
    (none_there c.node.result _ c.node.ensures (c.is_none.ensures ∙ ap not c.if-is_none.true))

pub loop-name-preserved : goal.loop-name-preserved
loop-name-preserved c =
    each_more (λ (m : Name). IsSome (node_of c.args.world.now m)) c.args.names.now c.loop-name.name-index (record { maker = 0; serial = 0 }) c.loop-name-test.true c.loop-name.invariant
    (not_none_there c.node.result _ c.node.ensures (ap not (c.is_none.ensures ∙ ap not c.if-is_none.false)))

pub returns : goal.returns
returns c = each_all (λ (m : Name). IsSome (node_of c.args.world.now m)) c.args.names.now c.loop-name.name-index c.loop-name-test.false c.loop-name.invariant
