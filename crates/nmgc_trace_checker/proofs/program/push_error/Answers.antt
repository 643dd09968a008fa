use Rattle.nmgc_trace_checker.proofs.Vocabulary.{refl}
use Rattle.nmgc_trace_checker.proofs.program.push_error.Goals as goal

pub returns : goal.returns
returns c = (_, ((_, refl), refl), c.in_ok-push_words.ensures)
