-- When a line of format 2 can happen, and the report on a trace.
use Rattle.std.specs.Prelude.{◌≡◌, ◌≤◌, ◌+◌, ℕ, List, [], ◌∷◌, ◌++◌, length, Option, Some, None, Bool, true, false}
use Rattle.nmgc_limits.specs.declared.mutators.TheConstants.{MAKERS}
use Rattle.nmgc_world_spec.specs.World.{new_world}
use Rattle.nmgc_barrier_checker.specs.{declared.event.Event.Event, declared.watch.Watch.Watch, CameDue.CountsDues, Watching.Can, Watching.IsWhy}
use Rattle.nmgc_barrier_checker.specs.declared.watch.Watch.TheVariants as watch
use Rattle.nmgc_trace_checker.specs.{declared.meaning.Meaning.Meaning, declared.report.Begun.Begun, declared.report.Refusal.Refusal, declared.report.Report.Report}
use Rattle.nmgc_trace_checker.specs.declared.meaning.Meaning.TheVariants as meaning
use Rattle.nmgc_trace_checker.specs.declared.report.Begun.TheVariants as begun
use Rattle.nmgc_trace_checker.specs.declared.report.Refusal.TheVariants as refusal
use Rattle.nmgc_trace_checker.specs.declared.report.Report.TheVariants as report

-- the number of mutators can be given, once, and the watch then begins with their empty heap
abbrev pub CanBegin : Begun → ℕ → Begun → Type 0
CanBegin begun.Nothing count next = (1 ≤ count) × (count ≤ MAKERS) × (next ≡ begun.Watching (watch.Between (new_world count)))
CanBegin (begun.Watching p) count next = ⊥

-- an event can happen in a trace: the number of mutators was given, and the watch lets the event happen
abbrev pub CanHappen : ℕ → Begun → Event → Begun → Type 0
CanHappen n begun.Nothing e next = ⊥
CanHappen n (begun.Watching p) e next = (after : Watch) × Can n p e after × (next ≡ begun.Watching after)

-- a line that can happen, with its number and the states of the trace before and after it. It is blank; it gives the number
-- of mutators, once, at the front; or it is an event that can happen by the watch
abbrev pub Happens : ℕ → Begun → Meaning → Begun → Type 0
Happens n p meaning.Blank next = next ≡ p
Happens n p (meaning.Mutators count) next = CanBegin p count next
Happens n p (meaning.Event e) next = CanHappen n p e next
Happens n p meaning.Unknown next = ⊥

-- the reason why a number of mutators can't be given: there are mutators already, or the number is too small or too great
abbrev pub WhyNoBegin : Begun → ℕ → Refusal → Type 0
WhyNoBegin begun.Nothing count r = (r ≡ refusal.Misplaced) × (1 ≤ count → count ≤ MAKERS → ⊥)
WhyNoBegin (begun.Watching p) count r = r ≡ refusal.Misplaced

-- a refusal of an event for a reason that is a fact in this state of the watch
abbrev pub IsReason : Watch → Event → Refusal → Type 0
IsReason p e (refusal.Event y) = IsWhy p e y
IsReason p e _ = ⊥

-- the reason why an event can't happen: there are no mutators yet, or the watch has a reason
abbrev pub WhyNoEvent : Begun → Event → Refusal → Type 0
WhyNoEvent begun.Nothing e r = r ≡ refusal.Misplaced
WhyNoEvent (begun.Watching p) e r = IsReason p e r

-- a refusal of a line whose reason is a fact in this state
abbrev pub IsRefusal : Begun → Meaning → Refusal → Type 0
IsRefusal p meaning.Blank r = ⊥
IsRefusal p (meaning.Mutators count) r = WhyNoBegin p count r
IsRefusal p (meaning.Event e) r = WhyNoEvent p e r
IsRefusal p meaning.Unknown r = r ≡ refusal.Unknown

-- the result of trying a line: it happened, or it was refused for a reason that is a fact
abbrev pub IsHappening : ℕ → Begun → Meaning → Option Refusal → Begun → Type 0
IsHappening n p t None next = Happens n p t next
IsHappening n p t (Some r) next = IsRefusal p t r

-- lines that can happen in order, the first with this number, with the states of the trace before and after them
abbrev pub Comes : ℕ → Begun → List Meaning → Begun → Type 0
Comes n p [] last = last ≡ p
Comes n p (t ∷ ts) last = (next : Begun) × Happens n p t next × Comes (n + 1) next ts last

-- the count of dues after a line that can happen: an event may add to it
abbrev pub AddsOf : ℕ → Begun → Meaning → ℕ → ℕ → Type 0
AddsOf n (begun.Watching p) (meaning.Event e) before after = CountsDues n p e before after
AddsOf n p t before after = after ≡ before

-- lines that can happen in order, as `Comes`, with the counts of dues before and after them: how often a name came due
abbrev pub ComeDue : ℕ → Begun → List Meaning → ℕ → Begun → ℕ → Type 0
ComeDue n p [] before last after = (last ≡ p) × (after ≡ before)
ComeDue n p (t ∷ ts) before last after = (next : Begun) × (count : ℕ) × Happens n p t next × AddsOf n p t before count ×
    ComeDue (n + 1) next ts count last after

-- a refused trace: the lines before line `n` (from 1) can happen, in order, and line `n` can't, for a reason that is a fact
pub record EndsAtLine (lines : List Meaning) (n : ℕ) (r : Refusal) : Type 0 where
  pub earlier : List Meaning
  pub line : Meaning
  pub later : List Meaning
  pub lines_are : lines ≡ earlier ++ line ∷ later
  pub number : n ≡ length earlier + 1
  pub before : Begun
  pub comes : Comes 1 begun.Nothing earlier before
  pub refused : IsRefusal before line r

-- the report on a trace whose lines can all happen, by its state. No cycle has begun, a cycle goes on, the last cycle has
-- ended, or the trace was stopped after the end of a cycle and so is whole
abbrev pub report_of : Begun → Report
report_of begun.Nothing = report.Unmarked
report_of (begun.Watching (watch.Between w)) = report.Unmarked
report_of (begun.Watching (watch.Marking h)) = report.Open
report_of (begun.Watching (watch.Ended left)) = report.Cut
report_of (begun.Watching watch.Stopped) = report.Whole

-- a trace whose lines can all happen, with the report of its last state
pub record EndsWell (lines : List Meaning) (meaning : Report) : Type 0 where
  pub last : Begun
  pub comes : Comes 1 begun.Nothing lines last
  pub known_is : meaning ≡ report_of last

-- the report on a trace: a refused line, or the state after all lines
abbrev pub IsReport : List Meaning → Report → Type 0
IsReport lines (report.Refused n r) = EndsAtLine lines n r
IsReport lines r = EndsWell lines r

-- whether a trace is whole: each line can happen, and the trace was stopped. The program's exit status shows it
abbrev pub is_whole : Report → Bool
is_whole report.Whole = true
is_whole r = false
