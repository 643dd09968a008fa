use Rattle.nmgc_graph.proofs.{Vocabulary.take, Vocabulary.sym, Vocabulary.subst, Vocabulary.All, Vocabulary.flat_map, Vocabulary.All-get_or, Vocabulary.All-take, Vocabulary.MutatorState, Vocabulary.IsPlaced, Vocabulary.values_held, Searches.placed_after, Lives.All-flat_map}
use Rattle.nmgc_graph.proofs.reach.mark_states.Goals as goal

pub mark_state-requires : goal.mark_state-requires
mark_state-requires c =
    let before = c.args.search.now in
    let i = c.loop-state.state-index in
    let done = take i c.args.states.now in
    let P : MutatorState → Type 0 = λ state. All (IsPlaced before.marks) (values_held state) in
    rw c.loop-state.invariant (placed_after before (flat_map values_held done) (values_held c.state-item.result)
    (All-flat_map (IsPlaced before.marks) values_held done (All-take P i c.args.states.now c.requires))
    (subst P (sym c.state-item.is) (All-get_or P c.args.states.now i c.state-item.result c.loop-state-test.true c.requires)))
