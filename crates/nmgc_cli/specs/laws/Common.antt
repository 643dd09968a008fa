-- Lemmas that the crates above need too.
use Rattle.std.proofs.Common.{ℕ, List, Result, Ok, Err}
use Rattle.std.specs.Prelude.{IfOk}
use Rattle.nmgc_journal.specs.declared.report.Report.{Report}
use Rattle.nmgc_cli.specs.{declared.answer.Refusal.Refusal, Output.IsRan, Output.AnswersBytes, Parts.IsOfScript}

-- a report that answers bytes is a report of a run of some script within the limits
pub of_bytes : (bytes : List ℕ) (answer : Result Report Refusal) → AnswersBytes IsRan bytes answer → IfOk answer IsOfScript
of_bytes bytes (Ok report) h = record { script = h.0; limits = h.2.limits; run = h.2.run }
of_bytes bytes (Err refusal) h = tt
