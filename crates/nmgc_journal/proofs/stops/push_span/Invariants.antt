use Rattle.nmgc_journal.proofs.Vocabulary.{◌≡◌, ◌++◌, take, flat_map, names_of, name_line}
use Rattle.nmgc_journal.proofs.stops.push_span.Given as goal

-- the lines so far are the lines of the first names
abbrev pub invariant-loop-at : goal.invariant-loop-at
invariant-loop-at l = l.out.items ≡ l.fn.out.items ++ flat_map (name_line l.word) (take l.at (names_of l.span))
