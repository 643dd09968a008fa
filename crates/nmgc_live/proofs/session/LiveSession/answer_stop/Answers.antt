use Rattle.std.proofs.Common.{subst}
use Rattle.std.proofs.lemmas.Result.{err_from_is_err_and}
use Rattle.std.specs.Io.KnownBytes.{Appends}
use Rattle.nmgc_io.specs.Text.{AppendsFront}
use Rattle.nmgc_live.proofs.Ending.{at_lines, cut_text, stop_given_up}
use Rattle.nmgc_live.proofs.session.LiveSession.answer_stop.Goals as goal

pub returns-in_err-end-clause-refused : goal.returns-in_err-end-clause-refused
returns-in_err-end-clause-refused g c =
    let p = err_from_is_err_and c.from_residual.result c.from_residual.ensures.1 in
    let live = c.args.self.now in
    rw (p.1, p.2, c.in_err-end.ensures.cause) (λ o lb ln tb h. stop_given_up o lb ln tb (g.K.Sink.taken c.args.sink.now) h.1.0 live.lines live.session
    c.stop.new.session live.is_open live.report c.stop.new.report h.1.1)

pub returns-in_err-write_all-clause-refused : goal.returns-in_err-write_all-clause-refused
returns-in_err-write_all-clause-refused g c =
    let p = err_from_is_err_and c.from_residual-in_err-write_all.result c.from_residual-in_err-write_all.ensures.1 in
    let live = c.args.self.now in
    let w = g.K.Sink.taken c.args.sink.now in
    let x = g.K.Sink.taken c.write_all.new.sink in
    rw (p.1, p.2) (λ o lb ln tb h. cut_text o lb ln tb w h.1.0 live.lines live.session c.stop.new.session live.is_open live.report c.stop.new.report h.1.1
    c.in_ok-end.end c.in_ok-end.ensures.did c.in_ok-end.ensures.session c.in_ok-end.ensures.rest x
    (subst (AppendsFront w x) c.bytes.ensures c.in_err-write_all.ensures.err))

pub returns-clause-answered : goal.returns-clause-answered
returns-clause-answered g c =
    let w = g.K.Sink.taken c.args.sink.now in
    let x = g.K.Sink.taken c.write_all.new.sink in
    at_lines w x c.args.self.now c.stop.new.session c.stop.new.report c.clear.new.self c.in_ok-end.end c.requires c.in_ok-end.ensures.did
    c.in_ok-end.ensures.session c.in_ok-end.ensures.rest (subst (Appends w x) c.bytes.ensures c.in_ok-write_all.ensures.ok) c.clear.ensures.0
    c.clear.ensures.1
