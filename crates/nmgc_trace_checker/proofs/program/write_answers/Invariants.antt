use Rattle.nmgc_trace_checker.proofs.Vocabulary.{AreAnswered, WritesOne, Global, Ok, map, string_bytes, take}
use Rattle.nmgc_trace_checker.proofs.program.write_answers.Given as goal

abbrev pub invariant-loop-word : goal.invariant-loop-word
invariant-loop-word g l =
    WritesOne (AreAnswered (g.T.Traces.bytes l.traces) (map (string_bytes {Z = Global}) (take l.word-index l.words))) (g.K.Sink.taken l.fn.output)
    (g.K.Sink.taken l.output) (g.K.Sink.faults l.fn.output) (g.K.Sink.faults l.output) (Ok l.gravest)
