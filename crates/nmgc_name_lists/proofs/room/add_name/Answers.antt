use Rattle.nmgc_name_lists.proofs.Vocabulary.{◌≡◌, ◌+◌, ◌-◌, ◌∙◌, [], ◌∷◌, ◌++◌, List, length, ap, arith, Span, names_in, names_of, last_longer, one_more}
use Rattle.nmgc_name_lists.proofs.room.add_name.Goals as goal

pub returns-then-is_followed_by-clause-names : goal.returns-then-is_followed_by-clause-names
returns-then-is_followed_by-clause-names c =
    let spans : List Span = c.args.spans.now.items in
    let many = c.len-count.ensures in
    let same = c.args.spans.now.ok.0 in
    let some = c.if-count-gt0.true in
    let at : (c.len-count.result - 1) + 1 ≡ length spans = omega (arith, many, same, some) in
    last_longer spans (c.len-count.result - 1) c.with_name.result c.index.result.now c.args.name at
    (c.with_name.ensures ∙ ap (λ (span : Span). names_of span ++ c.args.name ∷ []) c.index.ensures)

pub returns-clause-names : goal.returns-clause-names
returns-clause-names c =
    ap names_in c.push_reserved.ensures.items ∙ one_more c.args.spans.now.items c.new.result c.args.name c.new.ensures
