use Rattle.std.proofs.Common.{ℕ, ◌≡◌, ◌≤◌, List, Option}
use Rattle.std.specs.Prelude.{true, false}
use Rattle.nmgc_script.specs.declared.script.Script.{Script}
use Rattle.nmgc_cycle.specs.Sessions.{IsSession}
use Rattle.nmgc_live.specs.{Lines.IsReader, Steps.IsAnswered, Steps.IsHeapOf, Steps.IsReading, Transcripts.Transcript, Transcripts.round_of}
use Rattle.nmgc_live.proofs.session.come_to_round.Given as goal

-- the session is open and reads lines, and each transcript of its beginning goes on to here
abbrev pub invariant-loop-line : goal.invariant-loop-line
invariant-loop-line g l = record {
  reader : IsReader l.lines;
  session : IsSession false l.session;
  is_open : l.session.is_open ≡ true;
  collector : l.session.collector ≡ l.fn.session.collector;
  heap : IsHeapOf l.heap l.session;
  reading : (head : Script) (t : Transcript) (left_before taken_before : Option (List ℕ)) →
      IsAnswered l.options left_before (g.S.Source.left l.fn.source) taken_before (g.K.Sink.taken l.fn.sink) head t l.fn.lines l.fn.session l.was_open →
      (u : Transcript) × IsReading l.options left_before (g.S.Source.left l.source) taken_before (g.K.Sink.taken l.sink) head u l.lines l.session ×
      (round_of u ≡ round_of t);
  reads : g.S.Source.faults l.fn.source ≤ g.S.Source.faults l.source;
  writes : g.K.Sink.faults l.fn.sink ≤ g.K.Sink.faults l.sink;
}
