use Rattle.nmgc_journal.proofs.Vocabulary.{◌≡◌, take, command_count}
use Rattle.nmgc_journal.proofs.summary.command_count.Given as goal

-- the count of commands in the rounds so far
abbrev pub invariant-loop-rows : goal.invariant-loop-rows
invariant-loop-rows l = l.count ≡ command_count (take l.rows-index l.rounds)
