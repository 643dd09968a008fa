use Rattle.nmgc_journal.proofs.Vocabulary.{◌≡◌, ◌++◌, drop, flat_map, cycle_text}
use Rattle.nmgc_journal.proofs.stops.push_cycles.Given as goal

-- the lines so far with the lines of the cycles left are all lines
abbrev pub invariant-loop-cycle : goal.invariant-loop-cycle
invariant-loop-cycle l = l.out.items ++ flat_map cycle_text (drop l.cycle-index l.cycles) ≡ l.fn.out.items ++ flat_map cycle_text l.cycles
