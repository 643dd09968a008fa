use Rattle.nmgc_journal.proofs.Vocabulary.{◌≡◌, ◌++◌, ◌+◌, drop, stop_at, rounds_text}
use Rattle.nmgc_journal.proofs.text.push_rounds_in_any_order.Given as goal

-- the lines so far with the lines of the rounds left are all lines
abbrev pub invariant-loop-place : goal.invariant-loop-place
invariant-loop-place l = l.out.items ++ rounds_text l.report.stops l.report.cycles (l.place + 1) (drop l.place l.report.rounds) ≡ l.fn.out.items ++
    (stop_at l.report.stops l.report.cycles 0 ++ rounds_text l.report.stops l.report.cycles 1 l.report.rounds)
