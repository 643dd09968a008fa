use Rattle.std.specs.Prelude.{map}
use Rattle.nmgc_trace_checker.specs.{Program.SaysAll, Shown.WritesOne}
use Rattle.nmgc_trace_checker.proofs.Vocabulary.{subst, string_bytes}
use Rattle.nmgc_trace_checker.proofs.program.write_whole.Goals as goal

pub returns-in-Given : goal.returns-in-Given
returns-in-Given g c = rw c.in-Given.is (subst (λ l. WritesOne (SaysAll (g.T.Traces.bytes c.args.traces.now) (map string_bytes l))
    (g.K.Sink.taken c.args.output.now) (g.K.Sink.taken c.write_answers.new.output) (g.K.Sink.faults c.args.output.now)
    (g.K.Sink.faults c.write_answers.new.output) c.write_answers.result) c.as_slice.ensures.value c.write_answers.ensures)

pub returns-in-NotText : goal.returns-in-NotText
returns-in-NotText g c = rw c.in-NotText.is c.write_answers-in-NotText.ensures

pub returns-in-NoMemory : goal.returns-in-NoMemory
returns-in-NoMemory g c = rw c.in-NoMemory.is c.write_fixed.ensures
