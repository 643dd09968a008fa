-- The promise of a session: its transcript, the lawful run that it belongs to, and each way to end.
use Rattle.std.specs.Prelude.{ℕ, ◌≡◌, ◌≢◌, ◌⊎◌, ◌++◌, List, [], codes, Option, Some, false}
use Rattle.std.specs.Io.KnownBytes.{Appends, Consumes, IsAtEnd}
use Rattle.nmgc_io.specs.Text.{AppendsFront}
use Rattle.nmgc_script.specs.{declared.fault.Cause.Cause, declared.script.Script.Script}
use Rattle.nmgc_journal.specs.{Text.end_text, Text.report_text, declared.report.End.End}
use Rattle.nmgc_journal.specs.declared.report.End.TheVariants as ending
use Rattle.nmgc_run_spec.specs.Lawful.{IsRunOf}
use Rattle.nmgc_cycle.specs.{Keeps.HasEnded, Shown.report_of}
use Rattle.nmgc_cli.specs.{Output.status_of, declared.status.Status.Status}
use Rattle.nmgc_cli.specs.declared.status.Status.TheVariants as status
use Rattle.nmgc_live.specs.{Heads.IsEndCause, Lines.HasNoLineFeed, Lines.fed, Lines.next_number, Played.HasRun, Played.IsBadLine, Played.IsPlayed, Refusals.bad_line, Refusals.refusal_text, Transcripts.Transcript, Transcripts.Bad, Transcripts.Begin, Transcripts.Close, Transcripts.CutOff, Transcripts.Did, Transcripts.Given, Transcripts.HasNoStopDue, Transcripts.Head, Transcripts.InHead, Transcripts.Quiet, Transcripts.Ready, Transcripts.Round, Transcripts.Start, Transcripts.Stopped, Transcripts.TakesLine, Transcripts.bytes_of, Transcripts.closed_by, Transcripts.head_of, Transcripts.is_open, Transcripts.number_of, Transcripts.phase_of, Transcripts.report_in, Transcripts.text_of, declared.options.Options.Options, declared.refusal.Fault.Fault, declared.refusal.Refusal.Refusal}
use Rattle.nmgc_live.specs.declared.refusal.Fault.TheVariants as fault
use Rattle.nmgc_live.specs.declared.refusal.Refusal.TheVariants as no

-- the input ended behind these bytes
abbrev pub EndsBehind : Option (List ℕ) → List ℕ → Type 0
EndsBehind before bytes = (now : Option (List ℕ)) × Consumes before now bytes × IsAtEnd now

-- the input ended behind each line of a transcript that was cut off
abbrev pub EndsAtCuts : Option (List ℕ) → Transcript → Type 0
EndsAtCuts before Start = Unit {0}
EndsAtCuts before (Head t line) = EndsAtCuts before t
EndsAtCuts before (Begin t) = EndsAtCuts before t
EndsAtCuts before (Quiet t line) = EndsAtCuts before t
EndsAtCuts before (Given t line m c) = EndsAtCuts before t
EndsAtCuts before (Bad t line f) = EndsAtCuts before t
EndsAtCuts before (CutOff t part) = EndsAtCuts before t × EndsBehind before (bytes_of t ++ part)
EndsAtCuts before (Round t) = EndsAtCuts before t
EndsAtCuts before (Close t bytes) = EndsAtCuts before t
EndsAtCuts before (Did t e) = EndsAtCuts before t
EndsAtCuts before (Ready t) = EndsAtCuts before t

-- a transcript's lines were read, and perhaps some bytes behind them. The input ended at each line that was cut off. A session that
-- no line closed met the end of the input
abbrev pub HasRead : Option (List ℕ) → Option (List ℕ) → Transcript → Type 0
HasRead before now t = (rest : List ℕ) × Consumes before now (bytes_of t ++ rest) × (closed_by t ≡ Some [] → IsAtEnd now) × EndsAtCuts before t

-- a transcript of a session that may have a run: its lines were read. Its head isn't whole yet, or a lawful run has its events
abbrev pub IsSound : Options → Option (List ℕ) → Option (List ℕ) → Script → Transcript → Type 0
IsSound o before now head t = IsPlayed o head t × HasRead before now t × ((phase_of t ≡ InHead) ⊎ HasRun head t)

-- all whole lines that came were read: behind them came some bytes without a line feed
abbrev pub HasReadAll : Option (List ℕ) → Option (List ℕ) → Transcript → Type 0
HasReadAll before now t = (part : List ℕ) × Consumes before now (bytes_of t ++ part) × HasNoLineFeed part

-- the line behind a transcript is bad for this fault
abbrev pub HasBadNext : Options → Option (List ℕ) → Option (List ℕ) → Script → Transcript → Fault → Type 0
HasBadNext o before now head t f = (line : List ℕ) × (rest : List ℕ) × Consumes before now (bytes_of t ++ (fed line ++ rest)) × HasNoLineFeed line ×
    IsBadLine o head t line f

-- the input ended behind a transcript, and some bytes without a line feed came last
abbrev pub IsCutBehind : Option (List ℕ) → Option (List ℕ) → Transcript → Type 0
IsCutBehind before now t = (part : List ℕ) × Consumes before now (bytes_of t ++ part) × HasNoLineFeed part × (part ≢ []) × IsAtEnd now

-- the input ended in the head, with this fault
abbrev pub EndsInHead : Option (List ℕ) → Option (List ℕ) → Transcript → Fault → Type 0
EndsInHead before now t f = (phase_of t ≡ InHead) × Consumes before now (bytes_of t) × IsAtEnd now ×
    ((c : Cause) × (f ≡ fault.Script c) × IsEndCause (head_of t) c)

-- a session that doesn't pass over bad lines came to one: the line is bad for this fault, or the input ended within it
abbrev pub StopsAtBad : Options → Option (List ℕ) → Option (List ℕ) → Script → Transcript → Fault → Type 0
StopsAtBad o before now head t f = (o.passes_over ≡ false) × (HasBadNext o before now head t f ⊎ ((f ≡ fault.Line) × IsCutBehind before now t))

-- a session ended at a bad line, which it doesn't pass over, or since the input ended in the head
abbrev pub IsAtBad : Options → Option (List ℕ) → Option (List ℕ) → Script → Transcript → Fault → Type 0
IsAtBad o before now head t f = TakesLine t × (StopsAtBad o before now head t f ⊎ EndsInHead before now t f)

-- the last text of a session: none, the line of an end, or the text of a refusal
abbrev pub IsLastText : List ℕ → Type 0
IsLastText text = (text ≡ []) ⊎ (((end : End) × (text ≡ end_text end)) ⊎ ((refusal : Refusal) × (text ≡ refusal_text refusal)))

-- the sink failed at a text of the session, and took a front of it
abbrev pub IsCutText : Option (List ℕ) → Option (List ℕ) → Transcript → Type 0
IsCutText before now t = (last : List ℕ) × IsLastText last × AppendsFront before now (text_of t ++ last)

-- a session was given up behind this transcript: the text of the transcript was written. If the source failed, each whole line
-- that came was read and answered. At a bad line no line behind it was answered. If there was no memory, no round was written
-- without its stop
abbrev pub IsRefused : Options → Option (List ℕ) → Option (List ℕ) → Option (List ℕ) → Option (List ℕ) → Script → Transcript → Refusal → Type 0
IsRefused o left_before left_now taken_before taken_now head t (no.Bad n f) = Appends taken_before taken_now (text_of t) ×
    (n ≡ next_number (number_of t)) × IsAtBad o left_before left_now head t f
IsRefused o left_before left_now taken_before taken_now head t no.ReadFault = Appends taken_before taken_now (text_of t) × TakesLine t ×
    HasReadAll left_before left_now t
IsRefused o left_before left_now taken_before taken_now head t no.WriteFault = IsCutText taken_before taken_now t
IsRefused o left_before left_now taken_before taken_now head t no.NoMemory = Appends taken_before taken_now (text_of t) × HasNoStopDue t

-- a session ended with its run, whose report is lawful: the line of the end was written behind the text of its last stop. The
-- written text is the report's text with lines `ready` and answers to bad lines between its lines. A run ends as done only if the
-- session was closed
pub record IsEnded (taken_before taken_now : Option (List ℕ)) (head : Script) (t : Transcript) (end : End) : Type 0 where
  pub phase : phase_of t ≡ Stopped
  pub run : HasRun head t
  pub ended : HasEnded run.script run.collector end
  pub lawful : IsRunOf run.script (report_of run.collector end)
  pub written : Appends taken_before taken_now (text_of t ++ end_text end)
  pub report : report_in t ++ end_text end ≡ report_text (report_of run.collector end)
  pub closed : end ≡ ending.Done → is_open t ≡ false

-- the end of a session with this status
abbrev pub EndsAs : Options → Option (List ℕ) → Option (List ℕ) → Option (List ℕ) → Option (List ℕ) → Script → Transcript → Status → Type 0
EndsAs o left_before left_now taken_before taken_now head t status.Done = (end : End) × (status_of end ≡ status.Done) × IsEnded taken_before taken_now head t end
EndsAs o left_before left_now taken_before taken_now head t status.HeapFull = (end : End) × (status_of end ≡ status.HeapFull) ×
    IsEnded taken_before taken_now head t end
EndsAs o left_before left_now taken_before taken_now head t status.ReadFault = TakesLine t × HasReadAll left_before left_now t ×
    Appends taken_before taken_now (text_of t ++ codes "read fault\n")
EndsAs o left_before left_now taken_before taken_now head t status.WriteFault = IsCutText taken_before taken_now t
EndsAs o left_before left_now taken_before taken_now head t status.BadScript = (f : Fault) × IsAtBad o left_before left_now head t f ×
    Appends taken_before taken_now (text_of t ++ bad_line (next_number (number_of t)) f)
EndsAs o left_before left_now taken_before taken_now head t status.NoMemory = Appends taken_before taken_now (text_of t ++ codes "no memory\n") ×
    HasNoStopDue t
EndsAs o left_before left_now taken_before taken_now head t _ = ⊥

-- a session ended with this status: the written text belongs to a lawful run of the accepted lines
abbrev pub IsLive : Options → Option (List ℕ) → Option (List ℕ) → Option (List ℕ) → Option (List ℕ) → Status → Type 0
IsLive o left_before left_now taken_before taken_now status = (head : Script) × ((t : Transcript) × IsSound o left_before left_now head t ×
    EndsAs o left_before left_now taken_before taken_now head t status)

-- a session ended with its run, and with the status of the run's end
abbrev pub HasEndedRun : Options → Option (List ℕ) → Option (List ℕ) → Option (List ℕ) → Option (List ℕ) → Status → Type 0
HasEndedRun o left_before left_now taken_before taken_now status = (head : Script) × ((t : Transcript) × IsSound o left_before left_now head t ×
    ((end : End) × (status ≡ status_of end) × IsEnded taken_before taken_now head t end))

-- a session was given up
abbrev pub HasGivenUp : Options → Option (List ℕ) → Option (List ℕ) → Option (List ℕ) → Option (List ℕ) → Refusal → Type 0
HasGivenUp o left_before left_now taken_before taken_now refusal = (head : Script) × ((t : Transcript) × IsSound o left_before left_now head t ×
    IsRefused o left_before left_now taken_before taken_now head t refusal)
