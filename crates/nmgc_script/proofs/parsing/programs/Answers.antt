use Rattle.nmgc_script.proofs.{Vocabulary.◌≡◌, Vocabulary.◌∙◌, Vocabulary.map, Vocabulary.ap, Vocabulary.arith, Vocabulary.Ok, Vocabulary.err_from_is_err_and, Vocabulary.tokens_of, Vocabulary.lines_of, Vocabulary.kept_from, Vocabulary.entry_at, Entries.starts, Entries.line_read, Entries.ok_read, Entries.err_read, Entries.within, Entries.begins, Entries.goes_on, Entries.fails, Entries.is_done}
use Rattle.nmgc_script.specs.declared.sections.Entry.TheVariants as entry
use Rattle.nmgc_script.proofs.parsing.programs.Goals as goal

pub loop-number-init : goal.loop-number-init
loop-number-init c = rw (
  c.new-threads.ensures,
  c.new-program.ensures,
) (starts c.args.version c.args.config.now (kept_from c.args.lines.now.number (lines_of c.args.lines.now.rest.now)))

pub returns-in_err-add_line_number : goal.returns-in_err-add_line_number
returns-in_err-add_line_number c =
    let words : map (λ w. w.now) c.deref.result.now ≡ tokens_of c.in-Some.line.now = ap (map (λ w. w.now)) c.deref.ensures.value ∙ c.in_ok-cut_tokens_within.ensures in
    let read = line_read (entry_at c.args.version c.args.config.now c.loop-number.begun) c.in-Some.number c.in-Some.line.now _ c.read_entry.result
    c.add_line_number.result words c.read_entry.ensures.gives c.add_line_number.ensures in
    let p = err_from_is_err_and c.from_residual-in_err-add_line_number.result c.from_residual-in_err-add_line_number.ensures.1 in
    rw (p.1, p.2) (fails c.args.version c.args.config.now c.loop-number.begun c.loop-number.threads c.loop-number.program _ (
      c.in-Some.number,
      c.in-Some.line.now,
    ) _ _ c.in-Some.ensures.line c.loop-number.invariant _ (err_read c.add_line_number.result _ _ c.in_err-add_line_number.was read))

pub loop-number-preserved-in-Section : goal.loop-number-preserved-in-Section
loop-number-preserved-in-Section c =
    let words : map (λ w. w.now) c.deref.result.now ≡ tokens_of c.in-Some.line.now = ap (map (λ w. w.now)) c.deref.ensures.value ∙ c.in_ok-cut_tokens_within.ensures in
    let read = line_read (entry_at c.args.version c.args.config.now c.loop-number.begun) c.in-Some.number c.in-Some.line.now _ c.read_entry.result
    c.add_line_number.result words c.read_entry.ensures.gives c.add_line_number.ensures in
    let is : c.add_line_number.result ≡ Ok entry.Section = c.in_ok-add_line_number.was ∙ ap Ok c.in-Section.is in
    rw (
      c.in_ok-push-in-Section.ensures.ok,
      c.new-program-in-Section.ensures,
    ) (begins c.args.version c.args.config.now c.loop-number.begun c.loop-number.threads c.loop-number.program _
    (c.in-Some.number, c.in-Some.line.now) _ _ c.in-Some.ensures.line c.loop-number.invariant (ok_read c.add_line_number.result _ entry.Section is read))

pub loop-number-preserved : goal.loop-number-preserved
loop-number-preserved c =
    let words : map (λ w. w.now) c.deref.result.now ≡ tokens_of c.in-Some.line.now = ap (map (λ w. w.now)) c.deref.ensures.value ∙ c.in_ok-cut_tokens_within.ensures in
    let read = line_read (entry_at c.args.version c.args.config.now c.loop-number.begun) c.in-Some.number c.in-Some.line.now _ c.read_entry.result
    c.add_line_number.result words c.read_entry.ensures.gives c.add_line_number.ensures in
    let is : c.add_line_number.result ≡ Ok (entry.Command c.in-Command.command) = c.in_ok-add_line_number.was ∙ ap Ok c.in-Command.is in
    rw c.in_ok-push-in-Command.ensures.ok (goes_on c.args.version c.args.config.now c.loop-number.begun c.loop-number.threads c.loop-number.program _
    (c.in-Some.number, c.in-Some.line.now) _ _ c.in-Some.ensures.line c.loop-number.invariant c.in-Command.command
    (ok_read c.add_line_number.result _ (entry.Command c.in-Command.command) is read))

pub returns : goal.returns
returns c = rw c.in_ok-push.ensures.ok (is_done c.args.version c.args.config.now c.loop-number.begun c.loop-number.threads c.loop-number.program _ _
    c.in_default.ensures.none c.loop-number.invariant)

pub overflow_add-begun : goal.overflow_add-begun
overflow_add-begun c =
    let is : c.add_line_number.result ≡ Ok entry.Section = c.in_ok-add_line_number.was ∙ ap Ok c.in-Section.is in
    omega (arith, within c.loop-number.begun c.in-Some.number 255 c.read_entry.result c.add_line_number.result c.add_line_number.ensures is c.read_entry.ensures.within)
