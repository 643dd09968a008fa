use Rattle.nmgc_trace_checker.proofs.{Vocabulary.◌≡◌, Vocabulary.◌∙◌, Vocabulary.ap, Vocabulary.subst, Vocabulary.arith, Vocabulary.ℕ, Vocabulary.List, Vocabulary.Option, Vocabulary.string_bytes, Vocabulary.strip_last, Vocabulary.Progress, Vocabulary.IsTooLong, Vocabulary.ahead, Vocabulary.SaysLine, Vocabulary.IsNext, Readings.nothing_read, Readings.reached_more, Readings.judged_refused, Readings.judged_ended, Readings.marked_too_long, Readings.of_stream}
use Rattle.nmgc_trace_checker.proofs.reading.judge_marked.Goals as goal

pub loop-number-init : goal.loop-number-init
loop-number-init g c = nothing_read (g.R.Read.remaining c.args.reader.now) c.args.is_there (string_bytes c.args.text)

pub returns-then-not-goes_on-clause-lines : goal.returns-then-not-goes_on-clause-lines
returns-then-not-goes_on-clause-lines g c =
    judged_ended (g.R.Read.remaining c.args.reader.now) c.args.is_there (string_bytes c.args.text) c.loop-number.number c.loop-number.progress
    (g.R.Read.remaining c.loop-number.reader) c.loop-number.goes_on (string_bytes c.loop-number.text) c.loop-number.invariant c.in_ok-meaning.meaning
    c.if-not-goes_on.true c.in_ok-meaning.ensures

pub returns-in-None-clause-lines : goal.returns-in-None-clause-lines
returns-in-None-clause-lines g c =
    let N : Option Progress → Type 0 = IsNext c.loop-number.progress c.in_ok-line.line in
    let text : c.without_end.result.now ≡ strip_last 13 (strip_last 10 (string_bytes c.loop-number.text)) =
    c.without_end.ensures ∙ ap (λ (l : List ℕ). strip_last 13 (strip_last 10 l)) c.as_str.ensures.value in
    judged_refused (g.R.Read.remaining c.args.reader.now) c.args.is_there (string_bytes c.args.text) c.loop-number.number c.loop-number.progress
    (g.R.Read.remaining c.loop-number.reader) c.loop-number.goes_on (string_bytes c.loop-number.text) c.loop-number.invariant c.in_ok-line.line
    c.refusal.result c.if-not-goes_on.false (subst (λ (l : List ℕ). SaysLine l c.in_ok-line.line) text c.in_ok-line.ensures)
    (subst N c.in-None.is c.in_ok-next.ensures) c.refusal.ensures

pub loop-number-preserved : goal.loop-number-preserved
loop-number-preserved g c =
    let N : Option Progress → Type 0 = IsNext c.loop-number.progress c.in_ok-line.line in
    let text : c.without_end.result.now ≡ strip_last 13 (strip_last 10 (string_bytes c.loop-number.text)) =
    c.without_end.ensures ∙ ap (λ (l : List ℕ). strip_last 13 (strip_last 10 l)) c.as_str.ensures.value in
    reached_more (g.R.Read.remaining c.args.reader.now) c.args.is_there (string_bytes c.args.text) c.loop-number.number c.loop-number.progress
    (g.R.Read.remaining c.loop-number.reader) c.loop-number.goes_on (string_bytes c.loop-number.text) c.loop-number.invariant
    (g.R.Read.remaining c.next_line.new.reader) c.in-Some.reached c.in_ok-goes_on.goes_on (string_bytes c.next_line.new.text) c.in_ok-line.line
    c.if-not-goes_on.false (subst (λ (l : List ℕ). SaysLine l c.in_ok-line.line) text c.in_ok-line.ensures)
    (subst N c.in-Some.is c.in_ok-next.ensures) c.in_ok-goes_on.ensures

pub returns-in_err-goes_on-clause-fault : goal.returns-in_err-goes_on-clause-fault
returns-in_err-goes_on-clause-fault g c =
    of_stream (IsTooLong (ahead c.args.is_there (string_bytes c.args.text)) (g.R.Read.remaining c.args.reader.now)) c.from_residual-in_err-goes_on.result
    c.from_residual-in_err-goes_on.ensures.1

pub returns-clause-fault : goal.returns-clause-fault
returns-clause-fault g c =
    marked_too_long (g.R.Read.remaining c.args.reader.now) c.args.is_there (string_bytes c.args.text) c.loop-number.number c.loop-number.progress
    (g.R.Read.remaining c.loop-number.reader) c.loop-number.goes_on (string_bytes c.loop-number.text) c.loop-number.invariant (omega arith)
