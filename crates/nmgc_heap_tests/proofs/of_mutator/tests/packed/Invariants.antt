use Rattle.std.proofs.Common.{◌≡◌, take}
use Rattle.nmgc_heap_tests.proofs.of_mutator.tests.packed.Given as goal

-- the commands so far are in the program
abbrev pub invariant-loop-command : goal.invariant-loop-command
invariant-loop-command l = l.program.items ≡ take l.command-index l.commands
