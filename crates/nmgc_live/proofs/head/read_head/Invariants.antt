use Rattle.std.proofs.Common.{◌≤◌, length}
use Rattle.nmgc_live.specs.{Lines.IsReader, Steps.IsHeading, Transcripts.Transcript, declared.head.TheConstants.MAX_HEAD_BYTES}
use Rattle.nmgc_live.proofs.head.read_head.Given as goal

-- the lines so far are a head that goes on, and all of its transcript was written
abbrev pub invariant-loop-line : goal.invariant-loop-line
invariant-loop-line g l = record {
  reader : IsReader l.lines;
  within : length l.head.text.items ≤ MAX_HEAD_BYTES;
  heading : (t : Transcript) × IsHeading l.options (g.S.Source.left l.fn.source) (g.S.Source.left l.source) (g.K.Sink.taken l.fn.sink) (g.K.Sink.taken l.sink)
      l.head.text.items l.lines t;
  reads : g.S.Source.faults l.fn.source ≤ g.S.Source.faults l.source;
  writes : g.K.Sink.faults l.fn.sink ≤ g.K.Sink.faults l.sink;
}
