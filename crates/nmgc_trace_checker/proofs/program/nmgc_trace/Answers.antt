use Rattle.nmgc_trace_checker.proofs.Vocabulary.{inl, inr, refl}
use Rattle.nmgc_trace_checker.proofs.program.nmgc_trace.Goals as goal

pub returns-in-Ok : goal.returns-in-Ok
returns-in-Ok g c = let h = c.in-Ok.ensures in (h.0, h.1, h.2, inl (h.3, h.4, refl))

pub returns-in-Err : goal.returns-in-Err
returns-in-Err g c = let h = c.in-Err.ensures in (h.0, h.1, h.2, inr (h.3, h.4, c.write_output.ensures))
