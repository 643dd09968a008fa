use Rattle.std.proofs.Common.{ℕ, subst}
use Rattle.std.specs.Io.KnownBytes.{Appends}
use Rattle.std.proofs.lemmas.Result.{err_from_is_err_and}
use Rattle.nmgc_live.specs.{Heads.IsNextHeadLine, Refusals.GivesUp, Refusals.bad_line}
use Rattle.nmgc_live.specs.declared.head.HeadLine.{HeadLine}
use Rattle.nmgc_live.proofs.Taking.{bad_head_refused, bad_head_taken, begun_taken, more_taken, none_head_refused}
use Rattle.nmgc_live.proofs.head.Head.take_line.Goals as goal

pub returns-in_err-next_line-clause-refused : goal.returns-in_err-next_line-clause-refused
returns-in_err-next_line-clause-refused g c =
    let p = err_from_is_err_and c.from_residual.result c.from_residual.ensures.1 in
    rw (p.1, p.2) (none_head_refused c.args.options (g.S.Source.left c.args.source.now) (g.S.Source.left c.next_line.new.source) (g.K.Sink.taken c.args.sink.now)
    c.args.lines.now c.args.self.now.text.items c.in_err-next_line.field-0.0 c.in_err-next_line.ensures.refused)

pub returns-in_err-answer_bad-in-Bad-clause-refused : goal.returns-in_err-answer_bad-in-Bad-clause-refused
returns-in_err-answer_bad-in-Bad-clause-refused g c =
    let p = err_from_is_err_and c.from_residual-in_err-answer_bad-in-Bad.result c.from_residual-in_err-answer_bad-in-Bad.ensures.1 in
    let a = g.S.Source.left c.args.source.now in
    let b = g.S.Source.left c.next_line.new.source in
    let w = g.K.Sink.taken c.args.sink.now in
    let v = g.K.Sink.taken c.answer_bad.new.sink in
    let r = c.args.lines.now in
    let x = c.next_line.new.lines in
    let old = c.args.self.now.text.items in
    let new = c.next_line.new.self.text.items in
    let f = c.in-Bad.fault in
    let refusal = c.in_err-answer_bad-in-Bad.field-0.0 in
    rw (p.1, p.2) (bad_head_refused c.args.options a b w r x old new c.in_ok-next_line.ensures.number f v refusal
    (subst (λ (j : HeadLine). IsNextHeadLine r x a b old new j) c.in-Bad.is c.in_ok-next_line.ensures.judged)
    (subst (λ (k : ℕ). GivesUp w v c.args.options k f refusal) c.number.ensures c.in_err-answer_bad-in-Bad.ensures.err))

pub returns-in-More-clause-read : goal.returns-in-More-clause-read
returns-in-More-clause-read g c =
    let a = g.S.Source.left c.args.source.now in
    let b = g.S.Source.left c.next_line.new.source in
    let r = c.args.lines.now in
    let x = c.next_line.new.lines in
    let old = c.args.self.now.text.items in
    let new = c.next_line.new.self.text.items in
    more_taken c.args.options a b (g.K.Sink.taken c.args.sink.now) r x old new c.in_ok-next_line.ensures.number
    (subst (λ (j : HeadLine). IsNextHeadLine r x a b old new j) c.in-More.is c.in_ok-next_line.ensures.judged)

pub returns-in-Begun-clause-read : goal.returns-in-Begun-clause-read
returns-in-Begun-clause-read g c =
    let a = g.S.Source.left c.args.source.now in
    let b = g.S.Source.left c.next_line.new.source in
    let r = c.args.lines.now in
    let x = c.next_line.new.lines in
    let old = c.args.self.now.text.items in
    let new = c.next_line.new.self.text.items in
    begun_taken c.args.options a b (g.K.Sink.taken c.args.sink.now) r x old new c.in_ok-next_line.ensures.number c.in-Begun.script
    (subst (λ (j : HeadLine). IsNextHeadLine r x a b old new j) c.in-Begun.is c.in_ok-next_line.ensures.judged)

pub returns-in_ok-answer_bad-in-Bad-clause-read : goal.returns-in_ok-answer_bad-in-Bad-clause-read
returns-in_ok-answer_bad-in-Bad-clause-read g c =
    let a = g.S.Source.left c.args.source.now in
    let b = g.S.Source.left c.next_line.new.source in
    let w = g.K.Sink.taken c.args.sink.now in
    let v = g.K.Sink.taken c.answer_bad.new.sink in
    let r = c.args.lines.now in
    let x = c.next_line.new.lines in
    let old = c.args.self.now.text.items in
    let new = c.next_line.new.self.text.items in
    let f = c.in-Bad.fault in
    bad_head_taken c.args.options a b w r x old new c.in_ok-next_line.ensures.number f v
    (subst (λ (j : HeadLine). IsNextHeadLine r x a b old new j) c.in-Bad.is c.in_ok-next_line.ensures.judged)
    c.in_ok-answer_bad-in-Bad.ensures.ok.0
    (subst (λ (k : ℕ). Appends w v (bad_line k f)) c.number.ensures c.in_ok-answer_bad-in-Bad.ensures.ok.1)
