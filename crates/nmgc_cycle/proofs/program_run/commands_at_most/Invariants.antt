use Rattle.nmgc_cycle.proofs.Vocabulary.{◌≤◌, ◌+◌, drop, most_commands, most_total, total_of}
use Rattle.nmgc_cycle.proofs.program_run.commands_at_most.Given as goal

-- without a sum above the bound, the count and the rest are the sum
abbrev pub invariant-loop-number : goal.invariant-loop-number
invariant-loop-number g l =
    (l.count ≤ most_commands → total_of l.positions + most_total g.P.Program.most l.programs ≤
    l.count + (total_of (drop l.number l.positions) + most_total g.P.Program.most (drop l.number l.programs))) ×
    (total_of l.positions + most_total g.P.Program.most l.programs ≤ most_commands →
    l.count + (total_of (drop l.number l.positions) + most_total g.P.Program.most (drop l.number l.programs)) ≤
    total_of l.positions + most_total g.P.Program.most l.programs)
