use Rattle.nmgc_trace_checker.proofs.Vocabulary.{IsHeardUpTo, IsTooLong, ok_to, ahead, AppendsFront, Rose, List, [], ap, arith, inl, string_bytes, subst, true, ℕ, ◌++◌, ◌∙◌, ◌≡◌, Appends, option_map, strip_last}
use Rattle.nmgc_trace_checker.proofs.{Appended.appends_on, Appended.front_then, Appended.rose_since, Readings.after_the_head, Readings.at_memory, Readings.at_output, Readings.at_stream, Readings.heard_up_to, Readings.known_ended, Readings.known_refused, Readings.one_more, Readings.watched_too_long}
use Rattle.nmgc_trace_checker.proofs.reading.judge_watched.Goals as goal

pub loop-number-init : goal.loop-number-init
loop-number-init g c =
    after_the_head (g.R.Read.remaining c.args.reader.now) c.args.is_asked c.new-checker.result (g.K.Sink.taken c.args.answers.now)
    (g.K.Sink.faults c.args.answers.now) c.new-checker.ensures.begun c.new-checker.ensures.counts c.new-checker.ensures.dues c.new-checker.ensures.lines

pub returns-then-not-branch-clause-lines : goal.returns-then-not-branch-clause-lines
returns-then-not-branch-clause-lines g c =
    let i = c.loop-number.invariant in (
      i.said,
      i.written,
      known_ended (g.R.Read.remaining c.args.reader.now) (g.R.Read.remaining c.loop-number.reader) c.args.is_asked c.loop-number.number
          c.loop-number.checker i.said i.so_far (g.R.Read.remaining c.next_line.new.reader) _ (string_bytes c.next_line.new.text) c.end_answer.result
          c.if-not-branch.true c.in_ok-next_line.ensures c.end_answer.ensures.report c.end_answer.ensures.counts c.end_answer.ensures.dues c.end_answer.ensures.since,
    )

pub returns-in-Some-clause-lines : goal.returns-in-Some-clause-lines
returns-in-Some-clause-lines g c =
    let i = c.loop-number.invariant in
    let a = c.in_ok-answer.ensures in
    let text : c.without_end-line.result.now ≡ strip_last 13 (strip_last 10 (string_bytes c.next_line.new.text)) =
    c.without_end-line.ensures ∙ ap (λ (l : List ℕ). strip_last 13 (strip_last 10 l)) c.as_str.ensures.value in (
      i.said,
      i.written,
      known_refused (g.R.Read.remaining c.args.reader.now) (g.R.Read.remaining c.loop-number.reader) (g.R.Read.remaining c.next_line.new.reader)
          c.args.is_asked _ c.loop-number.number c.loop-number.checker c.judge_line.new.self i.said (string_bytes c.next_line.new.text)
          c.without_end-line.result.now i.so_far c.if-not-branch.false c.in_ok-next_line.ensures text _ c.in-Some.refusal c.in_ok-answer.answer.report
          c.in_ok-answer.answer.counts c.in_ok-answer.answer.dues (option_map string_bytes c.in_ok-answer.answer.since) c.in-Some.is
          c.in_ok-refused.ensures a.report a.counts a.dues a.since,
    )

pub loop-number-preserved : goal.loop-number-preserved
loop-number-preserved g c =
    let i = c.loop-number.invariant in
    let line : List ℕ = c.without_end-line.result.now in
    let a = g.K.Sink.taken c.args.answers.now in
    let b = g.K.Sink.taken c.loop-number.answers in
    let end = g.K.Sink.taken c.write_all.new.sink in
    let text : c.without_end-line.result.now ≡ strip_last 13 (strip_last 10 (string_bytes c.next_line.new.text)) =
    c.without_end-line.ensures ∙ ap (λ (l : List ℕ). strip_last 13 (strip_last 10 l)) c.as_str.ensures.value in
    record {
      said = i.said ++ ok_to c.args.is_asked line;
      written = appends_on a b end i.said (ok_to c.args.is_asked line) i.written (subst (Appends b end) c.ok_to.ensures c.in_ok-write_all.ensures.ok);
      so_far = one_more (g.R.Read.remaining c.args.reader.now) (g.R.Read.remaining c.loop-number.reader) (g.R.Read.remaining c.next_line.new.reader)
          c.args.is_asked _ c.loop-number.number c.loop-number.checker c.judge_line.new.self i.said (string_bytes c.next_line.new.text) line i.so_far
          c.if-not-branch.false c.in_ok-next_line.ensures text _ c.in_default.is c.in_ok-refused.ensures;
      later = omega (arith, i.later, c.write_all.ensures.later);
    }

pub returns-in_err-next_line-clause-fault : goal.returns-in_err-next_line-clause-fault
returns-in_err-next_line-clause-fault g c =
    let known = g.R.Read.remaining c.args.reader.now in
    let b = g.K.Sink.taken c.loop-number.answers in
    let rose = Rose (g.K.Sink.faults c.args.answers.now) (g.K.Sink.faults c.loop-number.answers) in
    let i = c.loop-number.invariant in
    at_stream (IsHeardUpTo [] known c.args.is_asked) (IsTooLong (ahead true (string_bytes c.args.text)) known) (g.K.Sink.taken c.args.answers.now) b rose i.said
    (heard_up_to _ _ _ _ _ _ i.so_far) c.from_residual.result i.written c.from_residual.ensures.1

pub returns-in_err-refused-clause-fault : goal.returns-in_err-refused-clause-fault
returns-in_err-refused-clause-fault g c =
    let known = g.R.Read.remaining c.args.reader.now in
    let b = g.K.Sink.taken c.loop-number.answers in
    let rose = Rose (g.K.Sink.faults c.args.answers.now) (g.K.Sink.faults c.loop-number.answers) in
    let i = c.loop-number.invariant in
    at_memory (IsHeardUpTo [] known c.args.is_asked) (IsTooLong (ahead true (string_bytes c.args.text)) known) (g.K.Sink.taken c.args.answers.now) b rose i.said
    (heard_up_to _ _ _ _ _ _ i.so_far) c.from_residual-in_err-refused.result i.written c.from_residual-in_err-refused.ensures.1

pub returns-in_err-answer-clause-fault : goal.returns-in_err-answer-clause-fault
returns-in_err-answer-clause-fault g c =
    let known = g.R.Read.remaining c.args.reader.now in
    let b = g.K.Sink.taken c.loop-number.answers in
    let rose = Rose (g.K.Sink.faults c.args.answers.now) (g.K.Sink.faults c.loop-number.answers) in
    let i = c.loop-number.invariant in
    at_memory (IsHeardUpTo [] known c.args.is_asked) (IsTooLong (ahead true (string_bytes c.args.text)) known) (g.K.Sink.taken c.args.answers.now) b rose i.said
    (heard_up_to _ _ _ _ _ _ i.so_far) c.from_residual-in_err-answer.result i.written c.from_residual-in_err-answer.ensures.1

pub returns-in_err-write_all-clause-fault : goal.returns-in_err-write_all-clause-fault
returns-in_err-write_all-clause-fault g c =
    let i = c.loop-number.invariant in
    let known = g.R.Read.remaining c.args.reader.now in
    let line : List ℕ = c.without_end-line.result.now in
    let a = g.K.Sink.taken c.args.answers.now in
    let b = g.K.Sink.taken c.loop-number.answers in
    let end = g.K.Sink.taken c.write_all.new.sink in
    let m = g.K.Sink.faults c.args.answers.now in
    let o = g.K.Sink.faults c.write_all.new.sink in
    let text : c.without_end-line.result.now ≡ strip_last 13 (strip_last 10 (string_bytes c.next_line.new.text)) =
    c.without_end-line.ensures ∙ ap (λ (l : List ℕ). strip_last 13 (strip_last 10 l)) c.as_str.ensures.value in
    let next = one_more known (g.R.Read.remaining c.loop-number.reader) (g.R.Read.remaining c.next_line.new.reader) c.args.is_asked _
    c.loop-number.number c.loop-number.checker c.judge_line.new.self i.said (string_bytes c.next_line.new.text) line i.so_far c.if-not-branch.false
    c.in_ok-next_line.ensures text _ c.in_default.is c.in_ok-refused.ensures in
    at_output (IsHeardUpTo [] known c.args.is_asked) (IsTooLong (ahead true (string_bytes c.args.text)) known) a end (Rose m o) (i.said ++ ok_to c.args.is_asked line)
    (heard_up_to _ _ _ _ _ _ next) c.from_residual-in_err-write_all.result
    (front_then a b end i.said (ok_to c.args.is_asked line) i.written (subst (AppendsFront b end) c.ok_to.ensures c.in_err-write_all.ensures.err))
    (rose_since m (g.K.Sink.faults c.loop-number.answers) o i.later c.in_err-write_all.ensures.fault) c.from_residual-in_err-write_all.ensures.1

pub returns-clause-fault : goal.returns-clause-fault
returns-clause-fault g c =
    let i = c.loop-number.invariant in (
      i.said,
      heard_up_to _ _ _ _ _ _ i.so_far,
      inl (
        watched_too_long (g.R.Read.remaining c.args.reader.now) (g.R.Read.remaining c.loop-number.reader) (string_bytes c.args.text) c.args.is_asked
            c.loop-number.number c.loop-number.checker i.said i.so_far (omega arith),
        i.written,
      ),
    )
