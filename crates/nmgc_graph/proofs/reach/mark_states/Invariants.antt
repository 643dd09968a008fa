use Rattle.nmgc_graph.proofs.Vocabulary.{◌≡◌, take, flat_map, with_values, values_held}
use Rattle.nmgc_graph.proofs.reach.mark_states.Given as goal

abbrev pub invariant-loop-state : goal.invariant-loop-state
invariant-loop-state l = l.search ≡ with_values l.initial.search (flat_map values_held (take l.state-index l.states))
