use Rattle.nmgc_graph.proofs.Vocabulary.{◌≡◌, take, names_among}
use Rattle.nmgc_graph.proofs.opened.names_among.Given as goal

abbrev pub invariant-loop-value : goal.invariant-loop-value
invariant-loop-value l = l.names.items ≡ names_among (take l.value-index l.values)
