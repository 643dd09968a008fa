use Rattle.std.proofs.Common.{[], refl, sym, ◌∙◌, inl, inr, codes}
use Rattle.nmgc_live.specs.declared.refusal.Refusal.TheVariants as no
use Rattle.nmgc_live.proofs.Answering.{appends_none, writes_said}
use Rattle.nmgc_live.proofs.refusal.write_refusal.Goals as goal

pub returns-in-Ok-clause-written : goal.returns-in-Ok-clause-written
returns-in-Ok-clause-written g c = writes_said (g.K.Sink.taken c.args.sink.now) (g.K.Sink.taken c.write_last.new.sink) c.args.refusal
    (no.Bad c.in-Bad.line c.in-Bad.fault) c.deref.result.now c.write_last.result (inl (sym c.in-Bad.is)) (c.deref.ensures.value ∙ c.in-Ok.ensures)
    c.write_last.ensures.written

pub returns-in-Err-clause-written : goal.returns-in-Err-clause-written
returns-in-Err-clause-written g c = writes_said (g.K.Sink.taken c.args.sink.now) (g.K.Sink.taken c.write_last-in-Err.new.sink) c.args.refusal no.NoMemory
    (codes "no memory\n") c.write_last-in-Err.result (inr (refl, (c.in-Bad.line, (c.in-Bad.fault, c.in-Bad.is)))) refl c.write_last-in-Err.ensures.written

pub returns-in-ReadFault-clause-written : goal.returns-in-ReadFault-clause-written
returns-in-ReadFault-clause-written g c = writes_said (g.K.Sink.taken c.args.sink.now) (g.K.Sink.taken c.write_last-in-ReadFault.new.sink) c.args.refusal
    no.ReadFault (codes "read fault\n") c.write_last-in-ReadFault.result (inl (sym c.in-ReadFault.is)) refl c.write_last-in-ReadFault.ensures.written

pub returns-in-NoMemory-clause-written : goal.returns-in-NoMemory-clause-written
returns-in-NoMemory-clause-written g c = writes_said (g.K.Sink.taken c.args.sink.now) (g.K.Sink.taken c.write_last-in-NoMemory.new.sink) c.args.refusal
    no.NoMemory (codes "no memory\n") c.write_last-in-NoMemory.result (inl (sym c.in-NoMemory.is)) refl c.write_last-in-NoMemory.ensures.written

pub returns-in-WriteFault-clause-written : goal.returns-in-WriteFault-clause-written
returns-in-WriteFault-clause-written g c = writes_said (g.K.Sink.taken c.args.sink.now) (g.K.Sink.taken c.args.sink.now) c.args.refusal no.WriteFault []
    _ (inl (sym c.in-WriteFault.is)) refl (inl (refl, appends_none (g.K.Sink.taken c.args.sink.now)))
