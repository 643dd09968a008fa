use Rattle.nmgc_script.proofs.{Vocabulary.◌≡◌, Vocabulary.◌∙◌, Vocabulary.map, Vocabulary.ap, Vocabulary.err_from_is_err_and, Vocabulary.tokens_of, Vocabulary.section_at, Entries.line_read, Entries.ok_read, Entries.err_read, Entries.no_section, Entries.first_fails, Entries.first_begins}
use Rattle.nmgc_script.proofs.parsing.threads.Goals as goal

pub returns-in_default : goal.returns-in_default
returns-in_default c = no_section _ c.number.result c.args.version c.args.config.now _ c.in_default.ensures.none (c.number.ensures ∙ c.in_default.ensures.last)

pub returns-in_err-add_line_number : goal.returns-in_err-add_line_number
returns-in_err-add_line_number c =
    let words : map (λ w. w.now) c.deref.result.now ≡ tokens_of c.in-Some.line.now = ap (map (λ w. w.now)) c.deref.ensures.value ∙ c.in_ok-cut_tokens_within.ensures in
    let read = line_read (section_at c.args.version c.args.config.now 0) c.in-Some.number c.in-Some.line.now _ c.section.result c.add_line_number.result
    words c.section.ensures.gives c.add_line_number.ensures in
    let p = err_from_is_err_and c.from_residual-in_err-add_line_number.result c.from_residual-in_err-add_line_number.ensures.1 in
    rw (p.1, p.2) (first_fails _ c.args.version c.args.config.now _ (
      c.in-Some.number,
      c.in-Some.line.now,
    ) _ c.in-Some.ensures.line _ (err_read c.add_line_number.result _ _ c.in_err-add_line_number.was read))

pub returns : goal.returns
returns c =
    let words : map (λ w. w.now) c.deref.result.now ≡ tokens_of c.in-Some.line.now = ap (map (λ w. w.now)) c.deref.ensures.value ∙ c.in_ok-cut_tokens_within.ensures in
    let read = line_read (section_at c.args.version c.args.config.now 0) c.in-Some.number c.in-Some.line.now _ c.section.result c.add_line_number.result
    words c.section.ensures.gives c.add_line_number.ensures in
    first_begins _ c.args.version c.args.config.now _ (
      c.in-Some.number,
      c.in-Some.line.now,
    ) _ c.in-Some.ensures.line _ c.programs.result (ok_read c.add_line_number.result _ _ c.in_ok-add_line_number.was read) c.programs.ensures
