use Rattle.nmgc_trace_checker.proofs.Vocabulary.{after_space, drop, ◌++◌, ◌≡◌, flat_map}
use Rattle.nmgc_trace_checker.proofs.verdict.push_names.Given as goal

-- the names so far with the names left are all names
abbrev pub invariant-loop-name : goal.invariant-loop-name
invariant-loop-name l = l.out.items ++ flat_map after_space (drop l.name-index l.names) ≡ l.fn.out.items ++ flat_map after_space l.names
