-- The steps of a session, as its functions promise them: a stop, a round, and the lines that come between them.
use Rattle.std.specs.Prelude.{ℕ, ◌≡◌, ◌+◌, ◌⊎◌, ◌++◌, List, [], ◌∷◌, length, codes, Bool, true, false, Option, Some, None}
use Rattle.std.specs.Io.KnownBytes.{Appends, Consumes, IsAtEnd}
use Rattle.nmgc_script.specs.declared.script.Script.{Script}
use Rattle.nmgc_journal.specs.{Printing.round_text, Printing.stop_text, Text.end_text, declared.report.End.End, declared.report.RoundRows.RoundRows, declared.report.StopRow.StopRow, declared.report.CycleRow.CycleRow}
use Rattle.nmgc_journal.specs.declared.report.End.TheVariants as ending
use Rattle.nmgc_run_spec.specs.{Lawful.IsRunOf}
use Rattle.nmgc_cycle.specs.{declared.observer.Event.Event, declared.session.Session.Session, Keeps.HasEnded, Observed.AreEventsOf, Sessions.IsSession, Sessions.script_in, Shown.report_of}
use Rattle.nmgc_cycle.specs.declared.observer.Event.TheVariants as event
use Rattle.nmgc_live.specs.{Heads.IsHead, Lines.unread, Live.EndsAtCuts, Live.HasGivenUp, Live.IsRefused, Live.IsSound, Played.Carries, Played.IsPlayed, Transcripts.HasNoStopDue, Transcripts.InHead, Transcripts.Reading, Transcripts.RoundDue, Transcripts.StopDue, Transcripts.Stopped, Transcripts.Transcript, Transcripts.bytes_of, Transcripts.closed_by, Transcripts.events_of, Transcripts.given_to, Transcripts.head_of, Transcripts.is_open, Transcripts.number_of, Transcripts.phase_of, Transcripts.round_of, Transcripts.text_of, declared.lines.LineReader.LineReader, declared.options.Options.Options, declared.refusal.Refusal.Refusal, declared.session.LineLimits.LineLimits, declared.writer.ReportText.ReportText, Lines.IsReader, Live.HasEndedRun, declared.session.LiveSession.LiveSession}
use Rattle.nmgc_cli.specs.Output.{status_of}

-- the numbers of a session's heap
abbrev pub IsHeapOf : LineLimits → Session → Type 0
IsHeapOf heap session = (heap.words ≡ session.config.words) × (heap.count ≡ length session.queues.items)

-- the text behind a stop: the line of the run's end, or `ready` while lines may come
abbrev pub tail_of : Bool → Option End → List ℕ
tail_of is_open (Some end) = end_text end
tail_of true None = codes "ready\n"
tail_of false None = []

-- the run goes on, or it ended so, and its report is a lawful one of the session's script
abbrev pub AnswersEnd : Session → Option End → Type 0
AnswersEnd session None = session.collector.answered ≡ None
AnswersEnd session (Some end) = HasEnded (script_in session) session.collector end × IsRunOf (script_in session) (report_of session.collector end)

-- the text of a stop and of its cycles joined the report's
abbrev pub WritesStop : StopRow → List CycleRow → ReportText → ReportText → Type 0
WritesStop row cycles before after = (after.text.items ≡ before.text.items ++ stop_text row cycles) × (after.round ≡ row.number + 1)

-- a stop was done: its event joined the run's events, and its text joined the report's. The run is done only if the session is
-- closed
pub record DidStop (is_open : Bool) (old new : Session) (before after : ReportText) (end : Option End) : Type 0 where
  pub row : StopRow
  pub cycles : List CycleRow
  pub events : (events : List Event) → AreEventsOf old.collector true events → AreEventsOf new.collector false (events ++ event.Stop row cycles ∷ [])
  pub text : after.text.items ≡ before.text.items ++ stop_text row cycles ++ tail_of is_open end
  pub round : after.round ≡ row.number + 1
  pub answers : AnswersEnd new end
  pub closed : end ≡ Some ending.Done → is_open ≡ false

-- a round was done: its event joined the run's events, and its text joined the report's
pub record DidRound (old new : Session) (before after : ReportText) : Type 0 where
  pub rows : RoundRows
  pub events : (events : List Event) → AreEventsOf old.collector false events → AreEventsOf new.collector true (events ++ event.Round rows ∷ [])
  pub text : after.text.items ≡ before.text.items ++ round_text before.round rows
  pub round : after.round ≡ before.round

-- a transcript was read up to here
pub record IsReadTo (left_before left_now : Option (List ℕ)) (lines : LineReader) (t : Transcript) : Type 0 where
  pub read : Consumes left_before left_now (bytes_of t ++ unread lines)
  pub number : lines.number ≡ number_of t
  pub closed : closed_by t ≡ Some [] → IsAtEnd left_now
  pub cuts : EndsAtCuts left_before t

-- a session that reads lines: all of its transcript was written
pub record IsReading (o : Options) (left_before left_now taken_before taken_now : Option (List ℕ)) (head : Script) (t : Transcript) (lines : LineReader) (session : Session) : Type 0 where
  pub played : IsPlayed o head t
  pub reading : phase_of t ≡ Reading
  pub carries : Carries false head t session
  pub read : IsReadTo left_before left_now lines t
  pub written : Appends taken_before taken_now (text_of t)

-- a session whose next step is a round
pub record IsRounding (o : Options) (left_before left_now taken_before taken_now : Option (List ℕ)) (head : Script) (t : Transcript) (lines : LineReader)
    (session : Session) (is_open_now : Bool) : Type 0 where
  pub played : IsPlayed o head t
  pub due : (phase_of t ≡ RoundDue) ⊎ ((phase_of t ≡ Stopped) × (is_open t ≡ false))
  pub is_open_is : is_open t ≡ is_open_now
  pub carries : Carries false head t session
  pub read : IsReadTo left_before left_now lines t
  pub written : Appends taken_before taken_now (text_of t)

-- lines were read up to `round`, or to the session's end
abbrev pub HasReadUpTo : Options → Option (List ℕ) → Option (List ℕ) → Option (List ℕ) → Option (List ℕ) → LineReader → LineReader → Session → Session → Bool → Type 0
HasReadUpTo o left_old left_new taken_old taken_new lines_old lines_new old new is_open_now =
    (head : Script) (t : Transcript) (left_before taken_before : Option (List ℕ)) →
    IsReading o left_before left_old taken_before taken_old head t lines_old old →
    (u : Transcript) × IsRounding o left_before left_new taken_before taken_new head u lines_new new is_open_now × (round_of u ≡ round_of t)

-- a session was given up while lines were read
abbrev pub HasNotReadLines : Options → Option (List ℕ) → Option (List ℕ) → Option (List ℕ) → Option (List ℕ) → LineReader → Session → Refusal → Type 0
HasNotReadLines o left_old left_new taken_old taken_new lines_old old refusal =
    (head : Script) (t : Transcript) (left_before taken_before : Option (List ℕ)) →
    IsReading o left_before left_old taken_before taken_old head t lines_old old →
    (u : Transcript) × IsSound o left_before left_new head u × IsRefused o left_before left_new taken_before taken_new head u refusal

-- whether a session is open behind a line: it is if another line follows
abbrev pub open_after : Option Bool → Bool
open_after None = true
open_after (Some is_open) = is_open

-- a line was read and answered, and another one follows, or it was the last one before a round
abbrev pub HasTakenLine : Options → Option (List ℕ) → Option (List ℕ) → Option (List ℕ) → Option (List ℕ) → LineReader → LineReader → Session → Session → Option Bool → Type 0
HasTakenLine o left_old left_new taken_old taken_new lines_old lines_new old new None =
    (head : Script) (t : Transcript) (left_before taken_before : Option (List ℕ)) →
    IsReading o left_before left_old taken_before taken_old head t lines_old old →
    (u : Transcript) × IsReading o left_before left_new taken_before taken_new head u lines_new new × (round_of u ≡ round_of t)
HasTakenLine o left_old left_new taken_old taken_new lines_old lines_new old new (Some is_open_now) =
    HasReadUpTo o left_old left_new taken_old taken_new lines_old lines_new old new is_open_now

-- the head of a session was read
pub record HasReadHead (o : Options) (left_before left_now taken_before taken_now : Option (List ℕ)) (lines : LineReader) (head : Script) : Type 0 where
  pub t : Transcript
  pub played : IsPlayed o head t
  pub due : phase_of t ≡ StopDue
  pub is_open_is : is_open t ≡ true
  pub is_head : IsHead (head_of t) head
  pub none : (k : ℕ) → given_to k t ≡ []
  pub no_events : events_of t ≡ []
  pub first : round_of t ≡ 0
  pub read : IsReadTo left_before left_now lines t
  pub before : Transcript
  pub before_sound : IsSound o left_before left_now head before
  pub before_whole : HasNoStopDue before
  pub written : Appends taken_before taken_now (text_of before)
  pub pending : text_of t ≡ text_of before ++ codes "report 1\n"

-- a session whose head is read: these lines of it are kept
pub record IsHeading (o : Options) (left_before left_now taken_before taken_now : Option (List ℕ)) (text : List ℕ) (lines : LineReader) (t : Transcript) : Type 0 where
  pub played : (head : Script) → IsPlayed o head t
  pub in_head : phase_of t ≡ InHead
  pub text_is : head_of t ≡ text
  pub is_open_is : is_open t ≡ true
  pub none : (k : ℕ) → given_to k t ≡ []
  pub no_events : events_of t ≡ []
  pub first : round_of t ≡ 0
  pub read : IsReadTo left_before left_now lines t
  pub written : Appends taken_before taken_now (text_of t)

-- a session whose next step is a stop: the text of its round wasn't written yet
pub record IsStopping (o : Options) (left_before left_now taken_before taken_now : Option (List ℕ)) (head : Script) (lines : LineReader) (session : Session)
    (is_open_now : Bool) (report : ReportText) : Type 0 where
  pub t : Transcript
  pub played : IsPlayed o head t
  pub due : phase_of t ≡ StopDue
  pub is_open_is : is_open t ≡ is_open_now
  pub round : round_of t ≡ report.round
  pub carries : Carries true head t session
  pub read : IsReadTo left_before left_now lines t
  pub before : Transcript
  pub before_sound : IsSound o left_before left_now head before
  pub before_whole : HasNoStopDue before
  pub written : Appends taken_before taken_now (text_of before)
  pub pending : text_of t ≡ text_of before ++ report.text.items

-- the next part behind a stop that didn't end the run: lines in an open session, and a round in a closed one
abbrev pub GoesOn : Bool → Transcript → Type 0
GoesOn true t = phase_of t ≡ Reading
GoesOn false t = (phase_of t ≡ Stopped) × (is_open t ≡ false)

-- a session whose stop was answered
pub record IsAnswered (o : Options) (left_before left_now taken_before taken_now : Option (List ℕ)) (head : Script) (t : Transcript) (lines : LineReader)
    (session : Session) (is_open_now : Bool) : Type 0 where
  pub played : IsPlayed o head t
  pub goes_on : GoesOn is_open_now t
  pub is_open_is : is_open t ≡ is_open_now
  pub carries : Carries false head t session
  pub read : IsReadTo left_before left_now lines t
  pub written : Appends taken_before taken_now (text_of t)

-- an open session read lines up to its next round, and a closed one read none
abbrev pub HasComeToRound : Options → Option (List ℕ) → Option (List ℕ) → Option (List ℕ) → Option (List ℕ) → LineReader → LineReader → Session → Session →
    Bool → Bool → Type 0
HasComeToRound o left_old left_new taken_old taken_new lines_old lines_new old new was_open is_open_now =
    (head : Script) (t : Transcript) (left_before taken_before : Option (List ℕ)) →
    IsAnswered o left_before left_old taken_before taken_old head t lines_old old was_open →
    (u : Transcript) × IsRounding o left_before left_new taken_before taken_new head u lines_new new is_open_now × (round_of u ≡ round_of t)

-- a session was given up before its next round
abbrev pub HasNotComeToRound : Options → Option (List ℕ) → Option (List ℕ) → Option (List ℕ) → Option (List ℕ) → LineReader → Session → Bool → Refusal → Type 0
HasNotComeToRound o left_old left_new taken_old taken_new lines_old old was_open refusal =
    (head : Script) (t : Transcript) (left_before taken_before : Option (List ℕ)) →
    IsAnswered o left_before left_old taken_before taken_old head t lines_old old was_open →
    (u : Transcript) × IsSound o left_before left_new head u × IsRefused o left_before left_new taken_before taken_new head u refusal

-- the parts of a session behind its head fit together; `stop` says whether a stop comes next
pub record IsLiveSession (stop : Bool) (live : LiveSession) : Type 0 where
  pub reader : IsReader live.lines
  pub session : IsSession stop live.session
  pub is_open_is : live.session.is_open ≡ live.is_open
  pub heap : IsHeapOf live.heap live.session

-- the same behind a stop at which the run didn't end, and whose text was written
pub record IsAfterStop (live : LiveSession) : Type 0 where
  pub parts : IsLiveSession false live
  pub goes_on : live.session.collector.answered ≡ None
  pub written : live.report.text.items ≡ []

-- a session at its next stop, and one behind it
abbrev pub IsAtStop : Options → Option (List ℕ) → Option (List ℕ) → Option (List ℕ) → Option (List ℕ) → LiveSession → Type 0
IsAtStop o left_before left_now taken_before taken_now live = IsLiveSession true live × ((head : Script) ×
    IsStopping o left_before left_now taken_before taken_now head live.lines live.session live.is_open live.report)

abbrev pub IsAtLines : Options → Option (List ℕ) → Option (List ℕ) → Option (List ℕ) → Option (List ℕ) → LiveSession → Type 0
IsAtLines o left_before left_now taken_before taken_now live = IsAfterStop live × ((head : Script) × ((t : Transcript) ×
    IsAnswered o left_before left_now taken_before taken_now head t live.lines live.session live.is_open × (round_of t ≡ live.report.round)))

-- a stop was answered and the run goes on, or it ended, or the session was given up there
pub record HasAnsweredStop (taken_old taken_new : Option (List ℕ)) (old new : LiveSession) (end : Option End) : Type 0 where
  pub goes_on : end ≡ None → (o : Options) (left_before left_now taken_before : Option (List ℕ)) →
      IsAtStop o left_before left_now taken_before taken_old old → IsAtLines o left_before left_now taken_before taken_new new
  pub ends : (e : End) → end ≡ Some e → (o : Options) (left_before left_now taken_before : Option (List ℕ)) →
      IsAtStop o left_before left_now taken_before taken_old old → HasEndedRun o left_before left_now taken_before taken_new (status_of e)

abbrev pub HasNotAnsweredStop : Option (List ℕ) → Option (List ℕ) → LiveSession → Refusal → Type 0
HasNotAnsweredStop taken_old taken_new old refusal = (o : Options) (left_before left_now taken_before : Option (List ℕ)) →
    IsAtStop o left_before left_now taken_before taken_old old → HasGivenUp o left_before left_now taken_before taken_new refusal

-- a session came to its next stop, or was given up before
abbrev pub HasComeToStop : Options → Option (List ℕ) → Option (List ℕ) → Option (List ℕ) → Option (List ℕ) → LiveSession → LiveSession → Type 0
HasComeToStop o left_old left_new taken_old taken_new old new = (left_before taken_before : Option (List ℕ)) →
    IsAtLines o left_before left_old taken_before taken_old old → IsAtStop o left_before left_new taken_before taken_new new

abbrev pub HasNotComeToStop : Options → Option (List ℕ) → Option (List ℕ) → Option (List ℕ) → Option (List ℕ) → LiveSession → Refusal → Type 0
HasNotComeToStop o left_old left_new taken_old taken_new old refusal = (left_before taken_before : Option (List ℕ)) →
    IsAtLines o left_before left_old taken_before taken_old old → HasGivenUp o left_before left_new taken_before taken_new refusal

-- a line of the head was read and answered, and another one follows, or it was `begin`
abbrev pub HasTakenHeadLine : Options → Option (List ℕ) → Option (List ℕ) → Option (List ℕ) → Option (List ℕ) → LineReader → LineReader → List ℕ → List ℕ →
    Option Script → Type 0
HasTakenHeadLine o left_old left_new taken_old taken_new lines_old lines_new old new None =
    (t : Transcript) (left_before taken_before : Option (List ℕ)) → IsHeading o left_before left_old taken_before taken_old old lines_old t →
    (u : Transcript) × IsHeading o left_before left_new taken_before taken_new new lines_new u
HasTakenHeadLine o left_old left_new taken_old taken_new lines_old lines_new old new (Some script) =
    (t : Transcript) (left_before taken_before : Option (List ℕ)) → IsHeading o left_before left_old taken_before taken_old old lines_old t →
    HasReadHead o left_before left_new taken_before taken_new lines_new script

-- a session was given up at a line of the head
abbrev pub HasNotTakenHeadLine : Options → Option (List ℕ) → Option (List ℕ) → Option (List ℕ) → Option (List ℕ) → LineReader → List ℕ → Refusal → Type 0
HasNotTakenHeadLine o left_old left_new taken_old taken_new lines_old old refusal =
    (t : Transcript) (left_before taken_before : Option (List ℕ)) → IsHeading o left_before left_old taken_before taken_old old lines_old t →
    HasGivenUp o left_before left_new taken_before taken_new refusal
