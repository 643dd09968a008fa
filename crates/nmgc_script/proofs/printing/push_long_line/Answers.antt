use Rattle.nmgc_script.proofs.{Vocabulary.◌++◌, Vocabulary.ℕ, Vocabulary.List, Vocabulary.map, Vocabulary.ap, Vocabulary.◌∙◌, Vocabulary.append_assoc, Vocabulary.IfOk-equal, Vocabulary.after_spaces, Vocabulary.word_text, Vocabulary.operand_word, PrintLaws.spaced_longer}
use Rattle.nmgc_script.proofs.printing.push_long_line.Goals as goal

pub returns : goal.returns
returns c =
    let out = c.args.out.now.items in
    let name = c.args.name.now in
    let words = map word_text c.args.words.now in
    let more = map operand_word c.args.operands.now in
    IfOk-equal c.push_operands.result _ _ _ c.push_operands.ensures (ap (λ (l : List ℕ). l ++ after_spaces more) c.in_ok-push_line.ensures ∙
    append_assoc out _ (after_spaces more) ∙ ap (λ (l : List ℕ). out ++ l) (spaced_longer name words more))
