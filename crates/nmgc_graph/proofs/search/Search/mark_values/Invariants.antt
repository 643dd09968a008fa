use Rattle.nmgc_graph.proofs.Vocabulary.{◌≡◌, take, with_values}
use Rattle.nmgc_graph.proofs.search.Search.mark_values.Given as goal

abbrev pub invariant-loop-value : goal.invariant-loop-value
invariant-loop-value l = l.self ≡ with_values l.initial.self (take l.value-index l.values)
