use Rattle.nmgc_trace_checker.proofs.Vocabulary.{List, ap, codes, inl, ℕ, ◌++◌, ◌∙◌}
use Rattle.nmgc_trace_checker.proofs.program.result_line.Goals as goal

pub returns : goal.returns
returns c =
    let h = c.in_ok-status.ensures in
    (h.0, inl h.1, c.in_ok-push_text.ensures ∙ ap (λ (l : List ℕ). l ++ codes "\n") (h.2 ∙ ap (λ (l : List ℕ). l ++ h.0) c.new-line.ensures.items))
