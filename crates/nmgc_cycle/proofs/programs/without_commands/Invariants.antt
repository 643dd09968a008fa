use Rattle.nmgc_cycle.proofs.Vocabulary.{◌≡◌, [], replicate}
use Rattle.nmgc_cycle.proofs.programs.without_commands.Given as goal

abbrev pub invariant-loop-number : goal.invariant-loop-number
invariant-loop-number l = l.threads ≡ replicate l._number []
