use Rattle.std.proofs.Common.{◌∙◌, ap, inl, inr, sym, Err}
use Rattle.nmgc_live.specs.declared.refusal.Refusal.{Refusal}
use Rattle.nmgc_live.proofs.Lives.{live_ended, live_refused, no_fault, read_fault_from, rose_later, rose_more}
use Rattle.nmgc_live.proofs.session.live.Goals as goal

pub returns-in-Ok-clause-live : goal.returns-in-Ok-clause-live
returns-in-Ok-clause-live g c = live_ended c.args.options (g.S.Source.left c.args.source.now) (g.S.Source.left c.session.new.source)
    (g.K.Sink.taken c.args.sink.now) (g.K.Sink.taken c.session.new.sink) c.in-Ok.status c.in-Ok.ensures.ended

pub returns-in-Ok-clause-read_fault : goal.returns-in-Ok-clause-read_fault
returns-in-Ok-clause-read_fault g c = λ e. (let h = c.in-Ok.ensures.ended in absurd ((no_fault h.1.2.0).0 (sym h.1.2.1 ∙ e)))

pub returns-in-Ok-clause-write_fault : goal.returns-in-Ok-clause-write_fault
returns-in-Ok-clause-write_fault g c = λ e. (let h = c.in-Ok.ensures.ended in absurd ((no_fault h.1.2.0).1 (sym h.1.2.1 ∙ e)))

pub returns-in-Err-clause-live : goal.returns-in-Err-clause-live
returns-in-Err-clause-live g c = live_refused c.args.options (g.S.Source.left c.args.source.now) (g.S.Source.left c.session.new.source)
    (g.K.Sink.taken c.args.sink.now) (g.K.Sink.taken c.session.new.sink) (g.K.Sink.taken c.write_refusal.new.sink) c.in-Err.refusal c.write_refusal.result
    c.in-Err.ensures.refused c.write_refusal.ensures.written

pub returns-in-Err-clause-read_fault : goal.returns-in-Err-clause-read_fault
returns-in-Err-clause-read_fault g c = λ e. c.in-Err.ensures.read_fault (ap (λ (r : Refusal). Err r) (read_fault_from
    (g.K.Sink.taken c.session.new.sink) (g.K.Sink.taken c.write_refusal.new.sink) c.in-Err.refusal c.write_refusal.result
    c.write_refusal.ensures.written e))

pub returns-in-Err-clause-write_fault : goal.returns-in-Err-clause-write_fault
returns-in-Err-clause-write_fault g c = λ e. (
    let old = g.K.Sink.faults c.args.sink.now in
    let mid = g.K.Sink.faults c.session.new.sink in
    let new = g.K.Sink.faults c.write_refusal.new.sink in
    elim (c.write_refusal.ensures.fault e) [
      | inl same ↦ rose_more old mid new (c.in-Err.ensures.write_fault (ap (λ (r : Refusal). Err r) same)) c.write_refusal.ensures.later
      | inr rose ↦ rose_later old mid new c.session.ensures.writes rose
    ])
