use Rattle.std.proofs.Common.{ℕ, ◌∙◌, ap, subst, sym}
use Rattle.std.specs.Io.KnownBytes.{Appends}
use Rattle.std.proofs.lemmas.Result.{err_from_is_err_and}
use Rattle.nmgc_script.specs.declared.script.Config.{Config}
use Rattle.nmgc_live.specs.{Meanings.IsNextJudged, Refusals.GivesUp, Refusals.bad_line, declared.session.Judged.Judged}
use Rattle.nmgc_live.proofs.{Stepping.closed_keeps, Stepping.judged_keeps, Stepping.kept_heap, Taking.added_taken, Taking.bad_refused, Taking.bad_taken, Taking.end_taken, Taking.help_taken, Taking.none_refused, Taking.quiet_taken, Taking.round_taken}
use Rattle.nmgc_live.proofs.session.take_line.Goals as goal

pub returns-in_err-next_line-clause-refused : goal.returns-in_err-next_line-clause-refused
returns-in_err-next_line-clause-refused g c =
    let p = err_from_is_err_and c.from_residual.result c.from_residual.ensures.1 in
    rw (p.1, p.2) (none_refused c.args.options (g.S.Source.left c.args.source.now) (g.S.Source.left c.next_line.new.source) (g.K.Sink.taken c.args.sink.now)
    c.args.lines.now c.args.session.now c.in_err-next_line.field-0.0 c.in_err-next_line.ensures.refused)

pub returns-in_err-answer_bad-in-Bad-clause-refused : goal.returns-in_err-answer_bad-in-Bad-clause-refused
returns-in_err-answer_bad-in-Bad-clause-refused g c =
    let p = err_from_is_err_and c.from_residual-in_err-answer_bad-in-Bad.result c.from_residual-in_err-answer_bad-in-Bad.ensures.1 in
    let a = g.S.Source.left c.args.source.now in
    let b = g.S.Source.left c.next_line.new.source in
    let w = g.K.Sink.taken c.args.sink.now in
    let v = g.K.Sink.taken c.answer_bad.new.sink in
    let r = c.args.lines.now in
    let x = c.next_line.new.lines in
    let s = c.args.session.now in
    let y = c.next_line.new.session in
    let f = c.in-Bad.fault in
    let refusal = c.in_err-answer_bad-in-Bad.field-0.0 in
    rw (p.1, p.2) (bad_refused c.args.options c.args.heap a b w r x s y c.in_ok-next_line.ensures.number c.requires.heap f v refusal
    (subst (λ (j : Judged). IsNextJudged c.args.options c.args.heap r x a b s y j) c.in-Bad.is c.in_ok-next_line.ensures.judged)
    (subst (λ (k : ℕ). GivesUp w v c.args.options k f refusal) c.number.ensures c.in_err-answer_bad-in-Bad.ensures.err))

pub returns-in_ok-answer_bad-in-Bad-clause-read : goal.returns-in_ok-answer_bad-in-Bad-clause-read
returns-in_ok-answer_bad-in-Bad-clause-read g c =
    let a = g.S.Source.left c.args.source.now in
    let b = g.S.Source.left c.next_line.new.source in
    let w = g.K.Sink.taken c.args.sink.now in
    let v = g.K.Sink.taken c.answer_bad.new.sink in
    let r = c.args.lines.now in
    let x = c.next_line.new.lines in
    let s = c.args.session.now in
    let y = c.next_line.new.session in
    let f = c.in-Bad.fault in
    bad_taken c.args.options c.args.heap a b w r x s y c.in_ok-next_line.ensures.number c.requires.heap f v
    (subst (λ (j : Judged). IsNextJudged c.args.options c.args.heap r x a b s y j) c.in-Bad.is c.in_ok-next_line.ensures.judged)
    c.in_ok-answer_bad-in-Bad.ensures.ok.0
    (subst (λ (k : ℕ). Appends w v (bad_line k f)) c.number.ensures c.in_ok-answer_bad-in-Bad.ensures.ok.1)

pub returns-in-Quiet-clause-read : goal.returns-in-Quiet-clause-read
returns-in-Quiet-clause-read g c =
    let a = g.S.Source.left c.args.source.now in
    let b = g.S.Source.left c.next_line.new.source in
    let w = g.K.Sink.taken c.args.sink.now in
    let r = c.args.lines.now in
    let x = c.next_line.new.lines in
    let s = c.args.session.now in
    let y = c.next_line.new.session in
    quiet_taken c.args.options c.args.heap a b w r x s y c.in_ok-next_line.ensures.number c.requires.heap
    (subst (λ (j : Judged). IsNextJudged c.args.options c.args.heap r x a b s y j) c.in-Quiet.is c.in_ok-next_line.ensures.judged)

pub returns-in-Added-clause-read : goal.returns-in-Added-clause-read
returns-in-Added-clause-read g c =
    let a = g.S.Source.left c.args.source.now in
    let b = g.S.Source.left c.next_line.new.source in
    let w = g.K.Sink.taken c.args.sink.now in
    let r = c.args.lines.now in
    let x = c.next_line.new.lines in
    let s = c.args.session.now in
    let y = c.next_line.new.session in
    added_taken c.args.options c.args.heap a b w r x s y c.in_ok-next_line.ensures.number c.requires.heap
    (subst (λ (j : Judged). IsNextJudged c.args.options c.args.heap r x a b s y j) c.in-Added.is c.in_ok-next_line.ensures.judged) c.in_ok-next_line.ensures.session

pub returns-in-Help-clause-read : goal.returns-in-Help-clause-read
returns-in-Help-clause-read g c =
    let a = g.S.Source.left c.args.source.now in
    let b = g.S.Source.left c.next_line.new.source in
    let w = g.K.Sink.taken c.args.sink.now in
    let r = c.args.lines.now in
    let x = c.next_line.new.lines in
    let s = c.args.session.now in
    let y = c.next_line.new.session in
    help_taken c.args.options c.args.heap a b w r x s y c.in_ok-next_line.ensures.number c.requires.heap
    (subst (λ (j : Judged). IsNextJudged c.args.options c.args.heap r x a b s y j) c.in-Help.is c.in_ok-next_line.ensures.judged)

pub returns-in-Round-clause-read : goal.returns-in-Round-clause-read
returns-in-Round-clause-read g c =
    let a = g.S.Source.left c.args.source.now in
    let b = g.S.Source.left c.next_line.new.source in
    let w = g.K.Sink.taken c.args.sink.now in
    let r = c.args.lines.now in
    let x = c.next_line.new.lines in
    let s = c.args.session.now in
    let y = c.next_line.new.session in
    round_taken c.args.options c.args.heap a b w r x s y c.in_ok-next_line.ensures.number c.requires.heap
    (subst (λ (j : Judged). IsNextJudged c.args.options c.args.heap r x a b s y j) c.in-Round.is c.in_ok-next_line.ensures.judged)

pub returns-in-End-clause-read : goal.returns-in-End-clause-read
returns-in-End-clause-read g c =
    let a = g.S.Source.left c.args.source.now in
    let b = g.S.Source.left c.next_line.new.source in
    let w = g.K.Sink.taken c.args.sink.now in
    let r = c.args.lines.now in
    let x = c.next_line.new.lines in
    let s = c.args.session.now in
    let y = c.next_line.new.session in
    end_taken c.args.options c.args.heap a b w r x s y c.in_ok-next_line.ensures.number c.requires.heap c.close.new.self
    (subst (λ (j : Judged). IsNextJudged c.args.options c.args.heap r x a b s y j) c.in-End.is c.in_ok-next_line.ensures.judged)
    c.close.ensures.session c.close.ensures.is_open c.close.ensures.rest c.close.ensures.accepted

pub returns-in-Quiet-clause-is_open : goal.returns-in-Quiet-clause-is_open
returns-in-Quiet-clause-is_open g c =
    (judged_keeps c.args.options c.args.heap c.args.lines.now c.next_line.new.lines (g.S.Source.left c.args.source.now) (g.S.Source.left c.next_line.new.source)
    c.args.session.now c.next_line.new.session c.in_ok-next_line.field-0 c.in_ok-next_line.ensures.judged).1 ∙ c.requires.is_open

pub returns-in-Quiet-clause-collector : goal.returns-in-Quiet-clause-collector
returns-in-Quiet-clause-collector g c =
    (judged_keeps c.args.options c.args.heap c.args.lines.now c.next_line.new.lines (g.S.Source.left c.args.source.now) (g.S.Source.left c.next_line.new.source)
    c.args.session.now c.next_line.new.session c.in_ok-next_line.field-0 c.in_ok-next_line.ensures.judged).0

pub returns-in-Quiet-clause-heap : goal.returns-in-Quiet-clause-heap
returns-in-Quiet-clause-heap g c =
    kept_heap c.args.heap c.args.session.now c.next_line.new.session
    (judged_keeps c.args.options c.args.heap c.args.lines.now c.next_line.new.lines (g.S.Source.left c.args.source.now) (g.S.Source.left c.next_line.new.source)
    c.args.session.now c.next_line.new.session c.in_ok-next_line.field-0 c.in_ok-next_line.ensures.judged) c.requires.heap

pub returns-in-Added-clause-is_open : goal.returns-in-Added-clause-is_open
returns-in-Added-clause-is_open g c =
    (judged_keeps c.args.options c.args.heap c.args.lines.now c.next_line.new.lines (g.S.Source.left c.args.source.now) (g.S.Source.left c.next_line.new.source)
    c.args.session.now c.next_line.new.session c.in_ok-next_line.field-0 c.in_ok-next_line.ensures.judged).1 ∙ c.requires.is_open

pub returns-in-Added-clause-collector : goal.returns-in-Added-clause-collector
returns-in-Added-clause-collector g c =
    (judged_keeps c.args.options c.args.heap c.args.lines.now c.next_line.new.lines (g.S.Source.left c.args.source.now) (g.S.Source.left c.next_line.new.source)
    c.args.session.now c.next_line.new.session c.in_ok-next_line.field-0 c.in_ok-next_line.ensures.judged).0

pub returns-in-Added-clause-heap : goal.returns-in-Added-clause-heap
returns-in-Added-clause-heap g c =
    kept_heap c.args.heap c.args.session.now c.next_line.new.session
    (judged_keeps c.args.options c.args.heap c.args.lines.now c.next_line.new.lines (g.S.Source.left c.args.source.now) (g.S.Source.left c.next_line.new.source)
    c.args.session.now c.next_line.new.session c.in_ok-next_line.field-0 c.in_ok-next_line.ensures.judged) c.requires.heap

pub returns-in-Help-clause-is_open : goal.returns-in-Help-clause-is_open
returns-in-Help-clause-is_open g c =
    (judged_keeps c.args.options c.args.heap c.args.lines.now c.next_line.new.lines (g.S.Source.left c.args.source.now) (g.S.Source.left c.next_line.new.source)
    c.args.session.now c.next_line.new.session c.in_ok-next_line.field-0 c.in_ok-next_line.ensures.judged).1 ∙ c.requires.is_open

pub returns-in-Help-clause-collector : goal.returns-in-Help-clause-collector
returns-in-Help-clause-collector g c =
    (judged_keeps c.args.options c.args.heap c.args.lines.now c.next_line.new.lines (g.S.Source.left c.args.source.now) (g.S.Source.left c.next_line.new.source)
    c.args.session.now c.next_line.new.session c.in_ok-next_line.field-0 c.in_ok-next_line.ensures.judged).0

pub returns-in-Help-clause-heap : goal.returns-in-Help-clause-heap
returns-in-Help-clause-heap g c =
    kept_heap c.args.heap c.args.session.now c.next_line.new.session
    (judged_keeps c.args.options c.args.heap c.args.lines.now c.next_line.new.lines (g.S.Source.left c.args.source.now) (g.S.Source.left c.next_line.new.source)
    c.args.session.now c.next_line.new.session c.in_ok-next_line.field-0 c.in_ok-next_line.ensures.judged) c.requires.heap

pub returns-in_ok-answer_bad-in-Bad-clause-is_open : goal.returns-in_ok-answer_bad-in-Bad-clause-is_open
returns-in_ok-answer_bad-in-Bad-clause-is_open g c =
    (judged_keeps c.args.options c.args.heap c.args.lines.now c.next_line.new.lines (g.S.Source.left c.args.source.now) (g.S.Source.left c.next_line.new.source)
    c.args.session.now c.next_line.new.session c.in_ok-next_line.field-0 c.in_ok-next_line.ensures.judged).1 ∙ c.requires.is_open

pub returns-in_ok-answer_bad-in-Bad-clause-collector : goal.returns-in_ok-answer_bad-in-Bad-clause-collector
returns-in_ok-answer_bad-in-Bad-clause-collector g c =
    (judged_keeps c.args.options c.args.heap c.args.lines.now c.next_line.new.lines (g.S.Source.left c.args.source.now) (g.S.Source.left c.next_line.new.source)
    c.args.session.now c.next_line.new.session c.in_ok-next_line.field-0 c.in_ok-next_line.ensures.judged).0

pub returns-in_ok-answer_bad-in-Bad-clause-heap : goal.returns-in_ok-answer_bad-in-Bad-clause-heap
returns-in_ok-answer_bad-in-Bad-clause-heap g c =
    kept_heap c.args.heap c.args.session.now c.next_line.new.session
    (judged_keeps c.args.options c.args.heap c.args.lines.now c.next_line.new.lines (g.S.Source.left c.args.source.now) (g.S.Source.left c.next_line.new.source)
    c.args.session.now c.next_line.new.session c.in_ok-next_line.field-0 c.in_ok-next_line.ensures.judged) c.requires.heap

pub returns-in-Round-clause-is_open : goal.returns-in-Round-clause-is_open
returns-in-Round-clause-is_open g c =
    (judged_keeps c.args.options c.args.heap c.args.lines.now c.next_line.new.lines (g.S.Source.left c.args.source.now) (g.S.Source.left c.next_line.new.source)
    c.args.session.now c.next_line.new.session c.in_ok-next_line.field-0 c.in_ok-next_line.ensures.judged).1 ∙ c.requires.is_open

pub returns-in-Round-clause-collector : goal.returns-in-Round-clause-collector
returns-in-Round-clause-collector g c =
    (judged_keeps c.args.options c.args.heap c.args.lines.now c.next_line.new.lines (g.S.Source.left c.args.source.now) (g.S.Source.left c.next_line.new.source)
    c.args.session.now c.next_line.new.session c.in_ok-next_line.field-0 c.in_ok-next_line.ensures.judged).0

pub returns-in-Round-clause-heap : goal.returns-in-Round-clause-heap
returns-in-Round-clause-heap g c =
    kept_heap c.args.heap c.args.session.now c.next_line.new.session
    (judged_keeps c.args.options c.args.heap c.args.lines.now c.next_line.new.lines (g.S.Source.left c.args.source.now) (g.S.Source.left c.next_line.new.source)
    c.args.session.now c.next_line.new.session c.in_ok-next_line.field-0 c.in_ok-next_line.ensures.judged) c.requires.heap

pub returns-in-Round-clause-room : goal.returns-in-Round-clause-room
returns-in-Round-clause-room g c = λ e.
    let q = subst (λ (j : Judged). IsNextJudged c.args.options c.args.heap c.args.lines.now c.next_line.new.lines (g.S.Source.left c.args.source.now)
    (g.S.Source.left c.next_line.new.source) c.args.session.now c.next_line.new.session j) c.in-Round.is c.in_ok-next_line.ensures.judged in
    q.2

pub returns-in-End-clause-collector : goal.returns-in-End-clause-collector
returns-in-End-clause-collector g c =
    (closed_keeps c.next_line.new.session c.close.new.self c.close.ensures.rest c.close.ensures.accepted).0
    ∙ (judged_keeps c.args.options c.args.heap c.args.lines.now c.next_line.new.lines (g.S.Source.left c.args.source.now) (g.S.Source.left c.next_line.new.source)
    c.args.session.now c.next_line.new.session c.in_ok-next_line.field-0 c.in_ok-next_line.ensures.judged).0

pub returns-in-End-clause-heap : goal.returns-in-End-clause-heap
returns-in-End-clause-heap g c =
    let k = closed_keeps c.next_line.new.session c.close.new.self c.close.ensures.rest c.close.ensures.accepted in
    let h = kept_heap c.args.heap c.args.session.now c.next_line.new.session (judged_keeps c.args.options c.args.heap c.args.lines.now c.next_line.new.lines (g.S.Source.left c.args.source.now) (g.S.Source.left c.next_line.new.source)
    c.args.session.now c.next_line.new.session c.in_ok-next_line.field-0 c.in_ok-next_line.ensures.judged) c.requires.heap in
    (h.0 ∙ ap (λ (d : Config). d.words) (sym k.1), h.1 ∙ sym k.2)
