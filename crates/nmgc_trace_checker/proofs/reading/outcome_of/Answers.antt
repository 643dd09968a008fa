use Rattle.nmgc_trace_checker.proofs.Vocabulary.{IsHeard, IsTooLong, ahead, texts_of, Bool, Rose, List, [], ap, codes, inl, refl, string_bytes, sym, true, ℕ, ◌∙◌, ◌≡◌, err_from_is_err_and, strip_last, ◌&&◌, bytes_eq}
use Rattle.nmgc_trace_checker.proofs.{Appended.appends_nothing, Readings.IsHead, Readings.IsNoHead, Readings.fields_after_head, Readings.outcome_fields, Readings.outcome_watched, Readings.outcome_marked, Readings.heard_after_head, Readings.at_stream, Readings.fault_after_by, Readings.fault_by, Readings.all_too_long, Readings.head_too_long}
use Rattle.nmgc_trace_checker.proofs.reading.outcome_of.Goals as goal

-- the result of a test of the first line
tested : (there tested is : Bool) (line text head : List ℕ) → text ≡ line → tested ≡ (there && bytes_eq (strip_last 13 (strip_last 10 text)) head) → tested ≡ is →
    (there && bytes_eq (strip_last 13 (strip_last 10 line)) head) ≡ is
tested there t is line text head same e b = ap (λ (l : List ℕ). there && bytes_eq (strip_last 13 (strip_last 10 l)) head) (sym same) ∙ sym e ∙ b

pub returns-then-is_watched-clause-outcome : goal.returns-then-is_watched-clause-outcome
returns-then-is_watched-clause-outcome g c =
    let w = c.in_ok-answer.ensures.lines in
    let is : IsHead c.in_ok-is_there.is_there (string_bytes c.next_line.new.text) (codes "trace 2") =
    tested _ _ _ _ _ _ c.as_str.ensures.value c.is_watched.ensures c.if-is_watched.true in (
      w.0,
      w.1,
      outcome_watched (g.R.Read.remaining c.args.reader.now) (g.R.Read.remaining c.next_line.new.reader) c.in_ok-is_there.is_there
          (string_bytes c.next_line.new.text) c.args.is_asked w.0 c.in_ok-is_there.ensures is c.in_ok-answer.answer w.2,
    )

pub returns-then-has_fields-clause-outcome : goal.returns-then-has_fields-clause-outcome
returns-then-has_fields-clause-outcome g c =
    let w = c.in_ok-answer-2.ensures.lines in
    let is : IsHead c.in_ok-is_there.is_there (string_bytes c.next_line.new.text) (codes "trace 3") =
    tested _ _ _ _ _ _ c.as_str-2.ensures.value c.has_fields.ensures c.if-has_fields.true in (
      w.0,
      w.1,
      outcome_fields (g.R.Read.remaining c.args.reader.now) (g.R.Read.remaining c.next_line.new.reader) c.in_ok-is_there.is_there
          (string_bytes c.next_line.new.text) c.args.is_asked w.0 c.in_ok-is_there.ensures is c.in_ok-answer-2.answer w.2,
    )

pub returns-clause-outcome : goal.returns-clause-outcome
returns-clause-outcome g c =
    let two : IsNoHead c.in_ok-is_there.is_there (string_bytes c.next_line.new.text) (codes "trace 2") =
    tested _ _ _ _ _ _ c.as_str.ensures.value c.is_watched.ensures c.if-is_watched.false in
    let three : IsNoHead c.in_ok-is_there.is_there (string_bytes c.next_line.new.text) (codes "trace 3") =
    tested _ _ _ _ _ _ c.as_str-2.ensures.value c.has_fields.ensures c.if-has_fields.false in (
      [],
      appends_nothing (g.K.Sink.taken c.args.answers.now),
      outcome_marked (g.R.Read.remaining c.args.reader.now) (g.R.Read.remaining c.next_line.new.reader) c.in_ok-is_there.is_there
          (string_bytes c.next_line.new.text) c.args.is_asked c.in_ok-verdict.verdict c.in_ok-is_there.ensures two three c.in_ok-verdict.ensures.lines,
    )

pub returns-in_err-is_there-clause-fault : goal.returns-in_err-is_there-clause-fault
returns-in_err-is_there-clause-fault g c =
    let known = g.R.Read.remaining c.args.reader.now in
    let a = g.K.Sink.taken c.args.answers.now in
    let rose = Rose (g.K.Sink.faults c.args.answers.now) (g.K.Sink.faults c.args.answers.now) in
    at_stream (IsHeard known c.args.is_asked) (IsTooLong texts_of known) a a rose [] (inl (inl refl)) c.from_residual.result (appends_nothing a)
    c.from_residual.ensures.1

pub returns-in_err-answer-clause-fault : goal.returns-in_err-answer-clause-fault
returns-in_err-answer-clause-fault g c =
    let old = g.R.Read.remaining c.args.reader.now in
    let now = g.R.Read.remaining c.next_line.new.reader in
    let line : List ℕ = string_bytes c.next_line.new.text in
    let is : IsHead c.in_ok-is_there.is_there line (codes "trace 2") = tested _ _ _ _ _ _ c.as_str.ensures.value c.is_watched.ensures c.if-is_watched.true in
    let h = c.in_err-answer.ensures.fault in
    let p = err_from_is_err_and c.from_residual-in_err-answer.result c.from_residual-in_err-answer.ensures.1 in
    rw (p.1, p.2) (
      h.0,
      heard_after_head old now c.in_ok-is_there.is_there line c.args.is_asked h.0 c.in_ok-is_there.ensures is h.1,
      fault_after_by (IsTooLong (ahead true line) now) (IsTooLong texts_of old) (g.K.Sink.taken c.args.answers.now) (g.K.Sink.taken c.judge_watched.new.answers)
          (Rose (g.K.Sink.faults c.args.answers.now) (g.K.Sink.faults c.judge_watched.new.answers)) h.0 _
          (head_too_long (codes "trace 2") old now c.in_ok-is_there.is_there line c.in_ok-is_there.ensures is) h.2,
    )

pub returns-in_err-answer-2-clause-fault : goal.returns-in_err-answer-2-clause-fault
returns-in_err-answer-2-clause-fault g c =
    let old = g.R.Read.remaining c.args.reader.now in
    let now = g.R.Read.remaining c.next_line.new.reader in
    let line : List ℕ = string_bytes c.next_line.new.text in
    let is : IsHead c.in_ok-is_there.is_there line (codes "trace 3") = tested _ _ _ _ _ _ c.as_str-2.ensures.value c.has_fields.ensures c.if-has_fields.true in
    let h = c.in_err-answer-2.ensures.fault in
    let p = err_from_is_err_and c.from_residual-in_err-answer-2.result c.from_residual-in_err-answer-2.ensures.1 in
    rw (p.1, p.2) (
      h.0,
      fields_after_head old now c.in_ok-is_there.is_there line c.args.is_asked h.0 c.in_ok-is_there.ensures is h.1,
      fault_after_by (IsTooLong (ahead true line) now) (IsTooLong texts_of old) (g.K.Sink.taken c.args.answers.now) (g.K.Sink.taken c.judge_fields.new.answers)
          (Rose (g.K.Sink.faults c.args.answers.now) (g.K.Sink.faults c.judge_fields.new.answers)) h.0 _
          (head_too_long (codes "trace 3") old now c.in_ok-is_there.is_there line c.in_ok-is_there.ensures is) h.2,
    )

pub returns-in_err-verdict-clause-fault : goal.returns-in_err-verdict-clause-fault
returns-in_err-verdict-clause-fault g c =
    let old = g.R.Read.remaining c.args.reader.now in
    let now = g.R.Read.remaining c.next_line.new.reader in
    let line : List ℕ = string_bytes c.next_line.new.text in
    let p = err_from_is_err_and c.from_residual-in_err-verdict.result c.from_residual-in_err-verdict.ensures.1 in
    rw (p.1, p.2) (
      [],
      inl (inl refl),
      inl (
        fault_by (IsTooLong (ahead c.in_ok-is_there.is_there line) now) (IsTooLong texts_of old) _
            (all_too_long old now c.in_ok-is_there.is_there line c.in_ok-is_there.ensures) c.in_err-verdict.ensures.fault,
        appends_nothing (g.K.Sink.taken c.args.answers.now),
      ),
    )
