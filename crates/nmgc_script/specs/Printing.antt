-- The bytes that printing appends.
use Rattle.std.specs.Prelude.{ℕ, List, decimal}
use Rattle.nmgc_script.specs.{declared.printing.Word.Word, declared.printing.Word.TheVariants.Register, declared.printing.Word.TheVariants.Tag, declared.printing.Word.TheVariants.Short, declared.printing.Word.TheVariants.Number, declared.printing.Word.TheVariants.Operand, Spelling.register_word, Spelling.operand_word}

-- the text of a token
abbrev pub word_text : Word → List ℕ
word_text (Register r) = register_word r
word_text (Tag n) = decimal n
word_text (Short n) = decimal n
word_text (Number n) = decimal n
word_text (Operand o) = operand_word o
