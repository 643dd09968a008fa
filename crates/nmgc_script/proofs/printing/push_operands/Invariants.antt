use Rattle.nmgc_script.proofs.Vocabulary.{◌≡◌, ◌++◌, map, drop, after_spaces, operand_word}
use Rattle.nmgc_script.proofs.printing.push_operands.Given as goal

-- the tokens so far have been appended
abbrev pub invariant-loop-operand : goal.invariant-loop-operand
invariant-loop-operand l = l.out.items ++ after_spaces (map operand_word (drop l.operand-index l.operands)) ≡ l.initial.out.items ++
    after_spaces (map operand_word l.operands)
