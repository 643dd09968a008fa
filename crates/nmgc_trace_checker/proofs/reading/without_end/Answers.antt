use Rattle.nmgc_trace_checker.proofs.{Vocabulary.◌≡◌, Vocabulary.◌∙◌, Vocabulary.ap, Vocabulary.refl, Vocabulary.arith, Vocabulary.List, Vocabulary.ℕ, Vocabulary.Bor, Vocabulary.strip_last, Texts.stripped_by}
use Rattle.nmgc_trace_checker.proofs.reading.without_end.Goals as goal

pub returns : goal.returns
returns c =
    let first : c.unwrap_or-text.result.now ≡ strip_last 10 c.args.text.now =
    ap (λ (b : Bor (List ℕ)). b.now) c.unwrap_or-text.ensures ∙
    stripped_by 10 c.args.text.now c.strip_suffix.result c.args.text (omega arith) refl c.strip_suffix.ensures.cases in
    let second : c.unwrap_or.result.now ≡ strip_last 13 c.unwrap_or-text.result.now =
    ap (λ (b : Bor (List ℕ)). b.now) c.unwrap_or.ensures ∙
    stripped_by 13 c.unwrap_or-text.result.now c.strip_suffix-2.result c.unwrap_or-text.result (omega arith) refl c.strip_suffix-2.ensures.cases in
    second ∙ ap (strip_last 13) first
