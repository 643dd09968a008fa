use Rattle.nmgc_graph.proofs.Lent.{nth_state, nth_answer}
use Rattle.nmgc_graph.proofs.world.change_nth.Goals as goal

pub returns-clause-state : goal.returns-clause-state
returns-clause-state c old there = nth_state c.args.state.now c.args.name c.args.change old _ _ _ c.items_mut.ensures.value there _ c.change_in_place.ensures.ok

pub returns-clause-reply : goal.returns-clause-reply
returns-clause-reply c old there =
    nth_answer c.args.state.now c.args.name c.args.change old _ _ _ c.items_mut.ensures.value there _ c.change_in_place.ensures.ok
