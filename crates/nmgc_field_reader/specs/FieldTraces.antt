-- When a line of format 3 can happen, and the report on a trace.
use Rattle.std.specs.Prelude.{◌≡◌, ◌+◌, ◌⊎◌, ℕ, List, [], ◌∷◌, ◌++◌, length, Option, Some, None, Bool, true, false}
use Rattle.nmgc_io.specs.Text.{is_blank_or_comment, tokens_of, next}
use Rattle.nmgc_field_checker.specs.{declared.event.FieldEvent.FieldEvent, declared.watch.FieldPhase.FieldPhase, declared.watch.FieldWatch.FieldWatch, Heaps.world_of, Watching.Can, Watching.CountsDues, Watching.IsWhy, Watching.next_of}
use Rattle.nmgc_field_checker.specs.declared.event.FieldEvent.TheVariants as event
use Rattle.nmgc_field_checker.specs.declared.watch.FieldPhase.TheVariants as phase
use Rattle.nmgc_field_reader.specs.{declared.checker.FieldChecker.FieldChecker, declared.counts.FieldCounts.FieldCounts, declared.report.FieldRefusal.FieldRefusal, declared.report.FieldReport.FieldReport, FieldLines.Known, FieldLines.Means, FieldLines.has_name, FieldLines.known_by, FieldLines.without}
use Rattle.nmgc_field_reader.specs.declared.report.FieldRefusal.TheVariants as refusal
use Rattle.nmgc_field_reader.specs.declared.report.FieldReport.TheVariants as report

-- a trace after some lines: the runtime, the object of each name, the counts of lines, and how often something came due
pub record FieldTrace : Type 0 where
  pub watch : FieldWatch
  pub known : Known
  pub counts : FieldCounts
  pub dues : ℕ

-- the counts before the first line
abbrev pub no_counts : FieldCounts
no_counts = record { cycles = 0; commands = 0; pushes = 0 }

-- no line so far: the empty heap, no mutators and no names
abbrev pub nothing_yet : FieldTrace
nothing_yet = record { watch = record { there = []; phase = phase.Between (world_of []) }; known = λ word. None; counts = no_counts; dues = 0 }

-- the counts after an event. A close adds a cycle. A new object, a store, an object that is handed over or owed adds a command.
-- A push adds a push. Each count stops at 2^64 - 1
abbrev pub with_event : FieldCounts → FieldEvent → FieldCounts
with_event c (event.Made a taken count values) = record c { commands = next c.commands }
with_event c (event.Written a object place values) = record c { commands = next c.commands }
with_event c (event.Handed a object b) = record c { commands = next c.commands }
with_event c (event.Owed a object) = record c { commands = next c.commands }
with_event c (event.Push a object) = record c { pushes = next c.pushes }
with_event c event.Close = record c { cycles = next c.cycles }
with_event c e = c

-- the names after an object got the name that is the third token
abbrev pub IsGiven : ℕ → List (List ℕ) → Known → Known → Type 0
IsGiven object (m ∷ verb ∷ name ∷ rest) before after = (word : List ℕ) → after word ≡ has_name name (Some object) before word
IsGiven object words before after = (word : List ℕ) → after word ≡ before word

-- the names after those that follow the first token lost their objects
abbrev pub IsForgotten : List (List ℕ) → Known → Known → Type 0
IsForgotten (verb ∷ names) before after = (word : List ℕ) → after word ≡ without names before word
IsForgotten words before after = (word : List ℕ) → after word ≡ before word

-- the names after an event with these tokens: a new object, of this number, has its name, and no object has a freed name
abbrev pub IsNaming : ℕ → FieldEvent → List (List ℕ) → Known → Known → Type 0
IsNaming object (event.Made a taken count values) words before after = IsGiven object words before after
IsNaming object (event.Freed objects) words before after = IsForgotten words before after
IsNaming object e words before after = (word : List ℕ) → after word ≡ before word

-- an event that can happen, with the line's number and its tokens, and the trace before and after it
pub record Takes (line : ℕ) (p : FieldTrace) (words : List (List ℕ)) (e : FieldEvent) (after : FieldTrace) : Type 0 where
  pub can : Can line p.watch e after.watch
  pub names : IsNaming (next_of p.watch.phase) e words p.known after.known
  pub counts : after.counts ≡ with_event p.counts e
  pub dues : CountsDues p.watch e p.dues after.dues

-- an event that can happen at a line with these tokens, which mean it
pub record CanCome (line : ℕ) (p : FieldTrace) (words : List (List ℕ)) (e : FieldEvent) (after : FieldTrace) : Type 0 where
  pub means : Means p.known words e
  pub takes : Takes line p words e after

-- the tokens of a line that can happen
abbrev pub HappensBy : ℕ → FieldTrace → List (List ℕ) → FieldTrace → Type 0
HappensBy line p words after = (e : FieldEvent) × CanCome line p words e after

-- a line that can happen, with its number, and the trace before and after it: it is blank or a comment, or it is an event that
-- can happen
abbrev pub Happens : ℕ → FieldTrace → List ℕ → FieldTrace → Type 0
Happens line p text after = ((is_blank_or_comment text ≡ true) × (after ≡ p)) ⊎
    ((is_blank_or_comment text ≡ false) × HappensBy line p (tokens_of text) after)

-- the reason why a line with these tokens can't happen: it is no line of a trace, or its event can't happen for a reason that
-- is a fact
abbrev pub IsRefusedBy : FieldTrace → List (List ℕ) → FieldRefusal → Type 0
IsRefusedBy p words refusal.Unknown = (e : FieldEvent) → Means p.known words e → ⊥
IsRefusedBy p words (refusal.Event y) = (e : FieldEvent) × Means p.known words e × IsWhy p.watch e y

-- the reason why a line can't happen
abbrev pub IsRefused : FieldTrace → List ℕ → FieldRefusal → Type 0
IsRefused p text r = (is_blank_or_comment text ≡ false) × IsRefusedBy p (tokens_of text) r

-- lines that can happen in order, the first with this number, with the trace before and after them
abbrev pub Comes : ℕ → FieldTrace → List (List ℕ) → FieldTrace → Type 0
Comes n p [] last = last ≡ p
Comes n p (text ∷ texts) last = (after : FieldTrace) × Happens n p text after × Comes (n + 1) after texts last

-- the report on a trace whose lines can all happen, by its state
abbrev pub report_of : FieldPhase → FieldReport
report_of (phase.Between w) = report.Unmarked
report_of (phase.Marking running) = report.Open
report_of (phase.Ended left) = report.Cut
report_of phase.Stopped = report.Whole

-- a refused trace: the lines before line `n` can happen, in order, and line `n` can't, for a reason that is a fact. The first
-- line after the head has the number 2. The counts are those before that line
pub record EndsAtLine (lines : List (List ℕ)) (n : ℕ) (r : FieldRefusal) (counts : FieldCounts) (dues : ℕ) : Type 0 where
  pub earlier : List (List ℕ)
  pub line : List ℕ
  pub later : List (List ℕ)
  pub lines_are : lines ≡ earlier ++ line ∷ later
  pub number : n ≡ length earlier + 2
  pub before : FieldTrace
  pub comes : Comes 2 nothing_yet earlier before
  pub refused : IsRefused before line r
  pub counts_are : counts ≡ before.counts
  pub dues_are : dues ≡ before.dues

-- a trace whose lines can all happen, with the report and the counts of its last state
pub record EndsWell (lines : List (List ℕ)) (r : FieldReport) (counts : FieldCounts) (dues : ℕ) : Type 0 where
  pub last : FieldTrace
  pub comes : Comes 2 nothing_yet lines last
  pub report_is : r ≡ report_of last.watch.phase
  pub counts_are : counts ≡ last.counts
  pub dues_are : dues ≡ last.dues

-- the report on the lines after the head, with the counts: a refused line, or the state after all lines
abbrev pub IsFieldReport : List (List ℕ) → FieldReport → FieldCounts → ℕ → Type 0
IsFieldReport lines (report.Refused n r) counts dues = EndsAtLine lines n r counts dues
IsFieldReport lines r counts dues = EndsWell lines r counts dues

-- whether a trace is whole: each line can happen, and the trace was stopped. The program's exit status shows it
abbrev pub is_whole : FieldReport → Bool
is_whole report.Whole = true
is_whole r = false

-- whether a line was refused
abbrev pub is_refused : FieldReport → Bool
is_refused (report.Refused n r) = true
is_refused r = false

-- CHECKERS

-- the state of a trace that a checker has
abbrev pub trace_of : FieldChecker → FieldTrace
trace_of c = record { watch = c.watch; known = known_by c.names; counts = c.counts; dues = c.dues }

-- a checker tried an event at a line with these tokens: it happened, or this is the reason why it can't
abbrev pub HasTaken : ℕ → List (List ℕ) → FieldEvent → FieldTrace → Option FieldRefusal → FieldTrace → Type 0
HasTaken n words e old None new = Takes n old words e new
HasTaken n words e old (Some refusal.Unknown) new = ⊥
HasTaken n words e old (Some (refusal.Event y)) new = IsWhy old.watch e y × (new.counts ≡ old.counts) × (new.dues ≡ old.dues)

-- a checker tried a line with these tokens: it happened, or this is the reason why it can't
abbrev pub HasTriedBy : ℕ → List (List ℕ) → FieldTrace → Option FieldRefusal → FieldTrace → Type 0
HasTriedBy n words old None new = HappensBy n old words new
HasTriedBy n words old (Some r) new = IsRefusedBy old words r × (new.counts ≡ old.counts) × (new.dues ≡ old.dues)

-- a checker tried a line with this number and text: it happened, or this is the reason why it can't
abbrev pub HasTried : ℕ → List ℕ → FieldTrace → Option FieldRefusal → FieldTrace → Type 0
HasTried n text old None new = Happens n old text new
HasTried n text old (Some r) new = IsRefused old text r × (new.counts ≡ old.counts) × (new.dues ≡ old.dues)
