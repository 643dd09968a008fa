use Rattle.nmgc_journal.proofs.Vocabulary.{ℕ, ◌≡◌, ◌∙◌, List, [], ◌∷◌, ◌++◌, ap, refl, subst, sym, OnOk, flat_map, flat_map-append, Name, Span, names_in, names_of, span_lines, name_line}
use Rattle.nmgc_journal.proofs.stops.push_name_list.Goals as goal

-- the lines of spans are the lines of their names
lines_in : (word : List ℕ) (spans : List Span) → flat_map (span_lines word) spans ≡ flat_map (name_line word) (names_in spans)
lines_in word [] = refl
lines_in word (span ∷ spans) =
    ap (λ (lines : List ℕ). span_lines word span ++ lines) (lines_in word spans) ∙ sym (flat_map-append (name_line word) (names_of span) (names_in spans))

pub returns : goal.returns
returns c =
    let lines = lines_in c.args.word.now c.spans.result.now ∙ ap (λ (names : List Name). flat_map (name_line c.args.word.now) names) c.spans.ensures in
    subst (λ (lines : List ℕ). OnOk c.push_spans.result (c.push_spans.new.out.items ≡ c.args.out.now.items ++ lines)) lines c.push_spans.ensures
