use Rattle.std.proofs.Common.{◌∙◌, ap, sym}
use Rattle.std.proofs.lemmas.Result.{err_from_is_err_and}
use Rattle.nmgc_cycle.specs.declared.collector.Collector.{Collector}
use Rattle.nmgc_live.proofs.Ending.{at_stop, round_given_up}
use Rattle.nmgc_live.proofs.session.LiveSession.come_to_stop.Goals as goal

pub come_to_round-requires : goal.come_to_round-requires
come_to_round-requires g c =
    let parts = c.requires.parts in
    record { reader = parts.reader; session = parts.session; is_open = parts.is_open_is; heap = parts.heap }

pub returns-in_err-is_open-clause-refused : goal.returns-in_err-is_open-clause-refused
returns-in_err-is_open-clause-refused g c =
    let p = err_from_is_err_and c.from_residual.result c.from_residual.ensures.1 in
    rw (p.1, p.2) (λ lb tb h. (h.1.0, c.in_err-is_open.ensures.refused h.1.0 h.1.1.0 lb tb h.1.1.1))

pub round-requires-clause-goes_on : goal.round-requires-clause-goes_on
round-requires-clause-goes_on g c κs within = ap (λ (k : Collector). k.answered) c.in_ok-is_open.ensures.collector ∙ c.requires.goes_on

pub round-requires-clause-room : goal.round-requires-clause-room
round-requires-clause-room g c κs within e = c.in_ok-is_open.ensures.room (sym c.in_ok-is_open.ensures.is_open ∙ e)

pub returns-in_err-round-clause-refused : goal.returns-in_err-round-clause-refused
returns-in_err-round-clause-refused g c =
    let p = err_from_is_err_and c.from_residual-in_err-round.result c.from_residual-in_err-round.ensures.1 in
    let o = c.args.options in
    let b = g.S.Source.left c.come_to_round.new.source in
    let v = g.K.Sink.taken c.come_to_round.new.sink in
    rw (p.1, p.2, c.in_err-round.ensures.cause) (λ lb tb h.
    let k = c.in_ok-is_open.ensures.read h.1.0 h.1.1.0 lb tb h.1.1.1 in
    round_given_up o lb b tb v h.1.0 k.0 c.come_to_round.new.lines c.come_to_round.new.session c.round.new.session c.in_ok-is_open.is_open
    c.args.self.now.report c.round.new.report k.1)

pub returns-clause-did : goal.returns-clause-did
returns-clause-did g c =
    at_stop c.args.options (g.S.Source.left c.args.source.now) (g.S.Source.left c.come_to_round.new.source) (g.K.Sink.taken c.args.sink.now)
    (g.K.Sink.taken c.come_to_round.new.sink) c.args.self.now c.come_to_round.new.lines c.come_to_round.new.session c.round.new.session
    c.in_ok-is_open.is_open c.round.new.report c.in_ok-is_open.ensures.read c.in_ok-round.ensures.did c.in_ok-round.ensures.session
    c.in_ok-round.ensures.lines c.in_ok-is_open.ensures.reader c.in_ok-is_open.ensures.is_open c.in_ok-is_open.ensures.heap
