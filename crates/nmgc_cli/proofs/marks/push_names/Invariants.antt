use Rattle.nmgc_cli.proofs.Vocabulary.{◌≡◌, ◌++◌, [], drop, flat_map, name_line}
use Rattle.nmgc_cli.proofs.marks.push_names.Given as goal

-- the lines so far with the lines of the names left are all lines
abbrev pub invariant-loop-name : goal.invariant-loop-name
invariant-loop-name l = l.out.items ++ flat_map (name_line []) (drop l.name-index l.names) ≡ l.fn.out.items ++ flat_map (name_line []) l.names
