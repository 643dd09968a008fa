use Rattle.nmgc_script.proofs.Vocabulary.{◌≡◌, batch, repeated}
use Rattle.nmgc_script.proofs.bench.program.Given as goal

-- the batches so far have been appended
abbrev pub invariant-loop-batch : goal.invariant-loop-batch
invariant-loop-batch l = l.commands.items ≡ repeated l._batch (batch l.mutator)
