use Rattle.nmgc_cycle.proofs.Vocabulary.{◌≡◌, ◌++◌, map, take, drop, report_row}
use Rattle.nmgc_cycle.proofs.name_notes.put_rows_in_order.Given as goal

abbrev pub invariant-loop-row : goal.invariant-loop-row
invariant-loop-row l = l.row-items ≡ map report_row (take l.row-index l.initial.row-items) ++ drop l.row-index l.initial.row-items
