-- Transcripts of sessions: the lines read, the events of the run and the answers written, in their order.
use Rattle.std.specs.Prelude.{ℕ, ◌≡◌, ◌≢◌, ◌==◌, ◌⊎◌, ◌++◌, List, [], ◌∷◌, codes, Bool, true, false, Option, Some, None, if◌then◌else◌}
use Rattle.nmgc_world_spec.specs.declared.command.Command.{Command}
use Rattle.nmgc_cycle.specs.{EventTexts.event_text, EventTexts.next_round, declared.observer.Event.Event}
use Rattle.nmgc_cycle.specs.declared.observer.Event.TheVariants as event
use Rattle.nmgc_live.specs.{Heads.with_line, Lines.fed, Lines.next_number, Refusals.bad_line, declared.refusal.Fault.Fault}
use Rattle.nmgc_live.specs.declared.refusal.Fault.TheVariants as fault

-- a session so far. The head has lines and then `begin`. Behind it come lines that do nothing, and commands for mutators. A bad
-- line, or bytes without a line feed, may come anywhere. `Round` is the line `round`. `Close` is the line `end`, or the end of the
-- input. Then there are events of the run, and lines `ready`
pub data Transcript : Type 0 where
  Start : Transcript
  Head : Transcript → List ℕ → Transcript
  Begin : Transcript → Transcript
  Quiet : Transcript → List ℕ → Transcript
  Given : Transcript → List ℕ → ℕ → Command → Transcript
  Bad : Transcript → List ℕ → Fault → Transcript
  CutOff : Transcript → List ℕ → Transcript
  Round : Transcript → Transcript
  Close : Transcript → List ℕ → Transcript
  Did : Transcript → Event → Transcript
  Ready : Transcript → Transcript

-- the next part of a session: a line of the head, a stop, `ready`, a line behind the head, or a round
pub data Phase : Type 0 where
  InHead : Phase
  StopDue : Phase
  Stopped : Phase
  Reading : Phase
  RoundDue : Phase

abbrev pub phase_of : Transcript → Phase
phase_of Start = InHead
phase_of (Head t line) = InHead
phase_of (Begin t) = StopDue
phase_of (Quiet t line) = Reading
phase_of (Given t line m c) = Reading
phase_of (Bad t line f) = phase_of t
phase_of (CutOff t part) = phase_of t
phase_of (Round t) = RoundDue
phase_of (Close t bytes) = RoundDue
phase_of (Did t (event.Stop row cycles)) = Stopped
phase_of (Did t (event.Round rows)) = StopDue
phase_of (Ready t) = Reading

-- the bytes of the line `end`, or none at the end of the input, if the session was closed
abbrev pub closed_by : Transcript → Option (List ℕ)
closed_by Start = None
closed_by (Head t line) = closed_by t
closed_by (Begin t) = closed_by t
closed_by (Quiet t line) = closed_by t
closed_by (Given t line m c) = closed_by t
closed_by (Bad t line f) = closed_by t
closed_by (CutOff t part) = closed_by t
closed_by (Round t) = closed_by t
closed_by (Close t bytes) = Some bytes
closed_by (Did t e) = closed_by t
closed_by (Ready t) = closed_by t

-- whether further lines may come
abbrev pub is_open : Transcript → Bool
is_open Start = true
is_open (Head t line) = is_open t
is_open (Begin t) = is_open t
is_open (Quiet t line) = is_open t
is_open (Given t line m c) = is_open t
is_open (Bad t line f) = is_open t
is_open (CutOff t part) = is_open t
is_open (Round t) = is_open t
is_open (Close t bytes) = false
is_open (Did t e) = is_open t
is_open (Ready t) = is_open t

-- the bytes that were read
abbrev pub bytes_of : Transcript → List ℕ
bytes_of Start = []
bytes_of (Head t line) = bytes_of t ++ fed line
bytes_of (Begin t) = bytes_of t ++ fed (codes "begin")
bytes_of (Quiet t line) = bytes_of t ++ fed line
bytes_of (Given t line m c) = bytes_of t ++ fed line
bytes_of (Bad t line f) = bytes_of t ++ fed line
bytes_of (CutOff t part) = bytes_of t ++ part
bytes_of (Round t) = bytes_of t ++ fed (codes "round")
bytes_of (Close t bytes) = bytes_of t ++ bytes
bytes_of (Did t e) = bytes_of t
bytes_of (Ready t) = bytes_of t

-- the number of the last line that was read, counted from 1 up to 2^64 - 1
abbrev pub number_of : Transcript → ℕ
number_of Start = 0
number_of (Head t line) = next_number (number_of t)
number_of (Begin t) = next_number (number_of t)
number_of (Quiet t line) = next_number (number_of t)
number_of (Given t line m c) = next_number (number_of t)
number_of (Bad t line f) = next_number (number_of t)
number_of (CutOff t part) = next_number (number_of t)
number_of (Round t) = next_number (number_of t)
number_of (Close t bytes) = next_number (number_of t)
number_of (Did t e) = number_of t
number_of (Ready t) = number_of t

-- the lines of the head that are kept, each with its line feed
abbrev pub head_of : Transcript → List ℕ
head_of Start = []
head_of (Head t line) = with_line (head_of t) line
head_of (Begin t) = head_of t
head_of (Quiet t line) = head_of t
head_of (Given t line m c) = head_of t
head_of (Bad t line f) = head_of t
head_of (CutOff t part) = head_of t
head_of (Round t) = head_of t
head_of (Close t bytes) = head_of t
head_of (Did t e) = head_of t
head_of (Ready t) = head_of t

-- the commands that mutator k was given
abbrev pub given_to : ℕ → Transcript → List Command
given_to k Start = []
given_to k (Head t line) = given_to k t
given_to k (Begin t) = given_to k t
given_to k (Quiet t line) = given_to k t
given_to k (Given t line m c) = if m == k then given_to k t ++ c ∷ [] else given_to k t
given_to k (Bad t line f) = given_to k t
given_to k (CutOff t part) = given_to k t
given_to k (Round t) = given_to k t
given_to k (Close t bytes) = given_to k t
given_to k (Did t e) = given_to k t
given_to k (Ready t) = given_to k t

-- the events of the run
abbrev pub events_of : Transcript → List Event
events_of Start = []
events_of (Head t line) = events_of t
events_of (Begin t) = events_of t
events_of (Quiet t line) = events_of t
events_of (Given t line m c) = events_of t
events_of (Bad t line f) = events_of t
events_of (CutOff t part) = events_of t
events_of (Round t) = events_of t
events_of (Close t bytes) = events_of t
events_of (Did t e) = events_of t ++ e ∷ []
events_of (Ready t) = events_of t

-- the number of the next round
abbrev pub round_of : Transcript → ℕ
round_of Start = 0
round_of (Head t line) = round_of t
round_of (Begin t) = round_of t
round_of (Quiet t line) = round_of t
round_of (Given t line m c) = round_of t
round_of (Bad t line f) = round_of t
round_of (CutOff t part) = round_of t
round_of (Round t) = round_of t
round_of (Close t bytes) = round_of t
round_of (Did t e) = next_round (round_of t) e
round_of (Ready t) = round_of t

-- the text that is written: the report's first line and the text of its events, with lines `ready` and answers to bad lines
abbrev pub text_of : Transcript → List ℕ
text_of Start = []
text_of (Head t line) = text_of t
text_of (Begin t) = text_of t ++ codes "report 1\n"
text_of (Quiet t line) = text_of t
text_of (Given t line m c) = text_of t
text_of (Bad t line f) = text_of t ++ bad_line (next_number (number_of t)) f
text_of (CutOff t part) = text_of t ++ bad_line (next_number (number_of t)) fault.Line
text_of (Round t) = text_of t
text_of (Close t bytes) = text_of t
text_of (Did t e) = text_of t ++ event_text (round_of t) e
text_of (Ready t) = text_of t ++ codes "ready\n"

-- the report among this text: without lines `ready` and answers to bad lines
abbrev pub report_in : Transcript → List ℕ
report_in Start = []
report_in (Head t line) = report_in t
report_in (Begin t) = report_in t ++ codes "report 1\n"
report_in (Quiet t line) = report_in t
report_in (Given t line m c) = report_in t
report_in (Bad t line f) = report_in t
report_in (CutOff t part) = report_in t
report_in (Round t) = report_in t
report_in (Close t bytes) = report_in t
report_in (Did t e) = report_in t ++ event_text (round_of t) e
report_in (Ready t) = report_in t

-- no stop is due: the beginning and each round have their stops
abbrev pub HasNoStopDue : Transcript → Type 0
HasNoStopDue t = phase_of t ≢ StopDue

-- a line comes next
abbrev pub TakesLine : Transcript → Type 0
TakesLine t = (phase_of t ≡ InHead) ⊎ (phase_of t ≡ Reading)
