-- Lawful transcripts of sessions: the run that the events belong to, and the parts that may follow one another.
use Rattle.std.specs.Prelude.{ℕ, ◌≡◌, ◌≢◌, ◌<◌, ◌⊎◌, List, [], length, codes, Bool, true, false}
use Rattle.nmgc_io.specs.Text.{is_blank_or_comment}
use Rattle.nmgc_script.specs.declared.script.Script.{Script}
use Rattle.nmgc_run_spec.specs.AfterRound.{program_of}
use Rattle.nmgc_run_laws.specs.Limits.{FitsRun}
use Rattle.nmgc_cycle.specs.{declared.collector.Collector.Collector, declared.session.Session.Session, Observed.AreEventsOf, Observed.IsInRun, Sessions.IsSession, Sessions.WithPauses, Sessions.accepted_in}
use Rattle.nmgc_cycle.specs.declared.observer.Event.TheVariants as event
use Rattle.nmgc_live.specs.{Heads.IsBadInHead, Heads.IsGoodInHead, Heads.IsHead, Lines.HasNoLineFeed, Lines.IsShortLine, Lines.fed, Meanings.IsBad, Meanings.IsFullIn, Meanings.IsGiven, Transcripts.Transcript, Transcripts.Bad, Transcripts.Begin, Transcripts.Close, Transcripts.CutOff, Transcripts.Did, Transcripts.Given, Transcripts.Head, Transcripts.InHead, Transcripts.Quiet, Transcripts.Reading, Transcripts.Ready, Transcripts.Round, Transcripts.RoundDue, Transcripts.Start, Transcripts.StopDue, Transcripts.Stopped, Transcripts.TakesLine, Transcripts.events_of, Transcripts.given_to, Transcripts.head_of, Transcripts.is_open, Transcripts.phase_of, declared.options.Options.Options, declared.refusal.Fault.Fault}

-- the events of a transcript belong to a lawful run so far, and are all its events. Its script has the heap of the head, and each program consists of
-- the commands that the mutator was given, with pauses between them. `stop` says whether a stop comes next
pub record HasRun (head : Script) (t : Transcript) : Type 0 where
  pub script : Script
  pub collector : Collector
  pub stop : Bool
  pub config : script.config ≡ head.config
  pub count : length script.threads ≡ length head.threads
  pub accepted : (k : ℕ) → k < length head.threads → WithPauses (given_to k t) (program_of script.threads k)
  pub limits : FitsRun script
  pub in_run : IsInRun script collector stop
  pub events : AreEventsOf collector stop (events_of t)

-- a session has the commands and the events of a transcript; `stop` says whether a stop comes next
pub record Carries (stop : Bool) (head : Script) (t : Transcript) (session : Session) : Type 0 where
  pub is : IsSession stop session
  pub config : session.config ≡ head.config
  pub count : length session.queues.items ≡ length head.threads
  pub is_open : session.is_open ≡ is_open t
  pub accepted : (k : ℕ) → k < length head.threads → program_of (accepted_in session) k ≡ given_to k t
  pub events : AreEventsOf session.collector stop (events_of t)

-- a mutator may get no more commands behind a transcript: a session with its commands and events has no room for one
abbrev pub IsFullFor : Script → Transcript → ℕ → Type 0
IsFullFor head t m = (session : Session) × Carries false head t session × IsFullIn session m

-- a line behind a transcript is bad for this fault
abbrev pub IsBadLine : Options → Script → Transcript → List ℕ → Fault → Type 0
IsBadLine o head t line f = ((phase_of t ≡ InHead) × IsBadInHead (head_of t) line f) ⊎
    ((phase_of t ≡ Reading) × IsBad head.config.words (length head.threads) o.has_prompts (IsFullFor head t) line f)

-- each part follows from those before, in a session of this form with this head. A line has no line feed, and an accepted one isn't
-- too long
abbrev pub IsPlayed : Options → Script → Transcript → Type 0
IsPlayed o head Start = Unit {0}
IsPlayed o head (Head t line) = IsPlayed o head t × (phase_of t ≡ InHead) × IsShortLine line × IsGoodInHead (head_of t) line
IsPlayed o head (Begin t) = IsPlayed o head t × (phase_of t ≡ InHead) × IsHead (head_of t) head
IsPlayed o head (Quiet t line) = IsPlayed o head t × (phase_of t ≡ Reading) × IsShortLine line ×
    ((is_blank_or_comment line ≡ true) ⊎ ((line ≡ codes "help") × (o.has_prompts ≡ true)))
IsPlayed o head (Given t line m c) = IsPlayed o head t × (phase_of t ≡ Reading) × IsShortLine line ×
    IsGiven head.config.words (length head.threads) line m c
IsPlayed o head (Bad t line f) = IsPlayed o head t × (o.passes_over ≡ true) × HasNoLineFeed line × IsBadLine o head t line f
IsPlayed o head (CutOff t part) = IsPlayed o head t × (o.passes_over ≡ true) × TakesLine t × HasNoLineFeed part × (part ≢ [])
IsPlayed o head (Round t) = IsPlayed o head t × (phase_of t ≡ Reading)
IsPlayed o head (Close t bytes) = IsPlayed o head t × (phase_of t ≡ Reading) × ((bytes ≡ fed (codes "end")) ⊎ (bytes ≡ []))
IsPlayed o head (Did t (event.Stop row cycles)) = IsPlayed o head t × (phase_of t ≡ StopDue)
IsPlayed o head (Did t (event.Round rows)) = IsPlayed o head t × ((phase_of t ≡ RoundDue) ⊎ ((phase_of t ≡ Stopped) × (is_open t ≡ false)))
IsPlayed o head (Ready t) = IsPlayed o head t × (phase_of t ≡ Stopped) × (is_open t ≡ true)
