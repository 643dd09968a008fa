use Rattle.std.proofs.{Common.◌++◌, Common.ℕ, Common.List, Common.map, Common.ap, Common.sym, Common.◌∙◌, Common.append_assoc, lemmas.Result.IfOk-equal}
use Rattle.nmgc_io.specs.{Spaced.after_spaces, laws.Parts.spaced_after}
use Rattle.nmgc_script.specs.Printing.{word_text}
use Rattle.nmgc_script.proofs.printing.push_line.Goals as goal

pub returns : goal.returns
returns c =
    let out = c.args.out.now.items in
    let words = map word_text c.args.words.now in
    IfOk-equal c.push_words.result _ _ _ c.push_words.ensures (ap (λ (l : List ℕ). l ++
    after_spaces words) c.in_ok-extend_from_slice.ensures.items ∙ append_assoc out c.args.name.now (after_spaces words) ∙
    ap (λ (l : List ℕ). out ++ l) (sym (spaced_after c.args.name.now words)))
