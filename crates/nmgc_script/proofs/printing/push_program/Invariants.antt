use Rattle.nmgc_script.proofs.Vocabulary.{◌≡◌, ◌++◌, drop, ended, program_lines}
use Rattle.nmgc_script.proofs.printing.push_program.Given as goal

-- the lines so far and the lines of the rest are all lines
abbrev pub invariant-loop-command : goal.invariant-loop-command
invariant-loop-command l = l.out.items ++ ended (program_lines (drop l.command-index l.program)) ≡ l.initial.out.items ++ ended (program_lines l.program)
