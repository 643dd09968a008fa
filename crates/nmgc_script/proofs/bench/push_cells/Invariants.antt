use Rattle.nmgc_script.proofs.Vocabulary.{◌≡◌, ◌++◌, cell, replicate}
use Rattle.nmgc_script.proofs.bench.push_cells.Given as goal

-- the cells so far have been appended
abbrev pub invariant-loop-cell : goal.invariant-loop-cell
invariant-loop-cell l = l.commands.items ≡ l.fn.commands.items ++ replicate l._cell cell
