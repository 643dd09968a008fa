use Rattle.nmgc_journal.proofs.Vocabulary.{◌↔◌, drop, AreEndedFrom}
use Rattle.nmgc_journal.proofs.stops.are_in_order.Given as goal

-- the cycles are in order exactly if the cycles left are, from the last one on
abbrev pub invariant-loop-cycle : goal.invariant-loop-cycle
invariant-loop-cycle l = AreEndedFrom l.last (drop l.cycle-index l.cycles) ↔ AreEndedFrom 0 l.cycles
