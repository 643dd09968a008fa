use Rattle.nmgc_graph.proofs.Vocabulary.{◌≡◌, map, take, Ref, with_values}
use Rattle.nmgc_graph.proofs.search.Search.mark_names.Given as goal

abbrev pub invariant-loop-name : goal.invariant-loop-name
invariant-loop-name l = l.self ≡ with_values l.initial.self (map Ref (take l.name-index l.names))
