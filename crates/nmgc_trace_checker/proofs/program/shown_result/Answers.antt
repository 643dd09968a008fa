use Rattle.nmgc_trace_checker.proofs.Vocabulary.{codes, inr, refl}
use Rattle.nmgc_trace_checker.proofs.program.shown_result.Goals as goal

pub returns-in-Err : goal.returns-in-Err
returns-in-Err c = (codes "no memory", inr (refl, refl), refl)
