-- The counts and texts that a checker keeps of the lines so far, for private contracts. `Outcomes` has the definitions for answers.
use Rattle.std.specs.Prelude.{◌≡◌, ◌⊎◌, ℕ, List, string_bytes, Option, Some, None, Bool, true, Contains}
use Rattle.nmgc_barrier_laws.specs.declared.debt.Debt.{Debt}
use Rattle.nmgc_barrier_checker.specs.Watching.{IsOwed}
use Rattle.nmgc_barrier_checker.specs.declared.event.Why.TheVariants as why
use Rattle.nmgc_trace_checker.specs.{declared.checker.DueLine.DueLine, declared.checker.TraceChecker.TraceChecker, declared.counts.Counts.Counts, declared.meaning.Meaning.Meaning, declared.report.Begun.Begun, declared.report.Refusal.Refusal, Outcomes.with_line, Reports.AddsOf, Reports.IsHappening, Said.Says}
use Rattle.nmgc_trace_checker.specs.declared.report.Begun.TheVariants as begun
use Rattle.nmgc_trace_checker.specs.declared.report.Refusal.TheVariants as refusal

-- the counts after a line was tried: with the line if it happened, and otherwise the same
abbrev pub counted : Counts → Meaning → Option Refusal → Counts
counted c t None = with_line c t
counted c t (Some r) = c

-- the count of dues after a line that happened; after a refused line it can be any
abbrev pub AddsOfIf : ℕ → Begun → Meaning → Option Refusal → ℕ → ℕ → Type 0
AddsOfIf n p t None before after = AddsOf n p t before after
AddsOfIf n p t (Some r) before after = Unit {0}

-- the count of dues after a line was tried: with the line if it happened, and otherwise the same
abbrev pub TriesDues : ℕ → Begun → Meaning → Option Refusal → ℕ → ℕ → Type 0
TriesDues n p t None before after = AddsOf n p t before after
TriesDues n p t (Some r) before after = after ≡ before

-- the state to which a tried line leads: the new state if it happened, and otherwise the old one
abbrev pub led_to : Option Refusal → Begun → Begun → Begun
led_to None old new = new
led_to (Some r) old new = old

-- a debt of the cycle that goes on in a trace
abbrev pub IsOwedIn : Begun → Debt → Type 0
IsOwedIn begun.Nothing debt = ⊥
IsOwedIn (begun.Watching p) debt = IsOwed p debt

-- one of the kept lines has this number
abbrev pub HasLine : List DueLine → ℕ → Type 0
HasLine lines n = (line : DueLine) × Contains lines line × (line.number ≡ n)

-- the line of each debt is kept
abbrev pub AreKept : Begun → List DueLine → Type 0
AreKept p lines = (debt : Debt) → IsOwedIn p debt → HasLine lines debt.line

-- after a line, the line of each debt is kept that was kept before, or is this line
abbrev pub KeepsLines : ℕ → Begun → List DueLine → List DueLine → Type 0
KeepsLines n p old new = (debt : Debt) → IsOwedIn p debt → (debt.line ≡ n) ⊎ HasLine old debt.line → HasLine new debt.line

-- the lines kept before are kept, and a line with this number, if it is due
pub record HasKept (is_due : Bool) (n : ℕ) (old new : List DueLine) : Type 0 where
  pub all : (line : DueLine) → Contains old line → Contains new line
  pub this : is_due ≡ true → HasLine new n

-- the texts kept after a line was tried: texts kept before, and perhaps the line's own text
abbrev pub IsNoted : ℕ → List ℕ → List DueLine → List DueLine → Type 0
IsNoted n text old new = (line : DueLine) → Contains new line → Contains old line ⊎ ((line.number ≡ n) × (string_bytes line.text ≡ text))

-- a checker tried a line with this number and text, and this is the reason if it was refused
pub record HasTried (n : ℕ) (text : List ℕ) (old : TraceChecker) (refused : Option Refusal) (new : TraceChecker) : Type 0 where
  pub line : Meaning
  pub says : Says text line
  pub happens : IsHappening n old.begun line refused new.begun
  pub counts_are : new.counts ≡ counted old.counts line refused
  pub dues_are : TriesDues n old.begun line refused old.dues new.dues
  pub noted : IsNoted n text old.due_lines.items new.due_lines.items
  pub kept : AreKept old.begun old.due_lines.items → AreKept (led_to refused old.begun new.begun) new.due_lines.items

-- the text kept of the line with this number, or none if it wasn't kept
abbrev pub IsTextOf : List DueLine → ℕ → Option (List ℕ) → Type 0
IsTextOf lines n None = HasLine lines n → ⊥
IsTextOf lines n (Some text) = (line : DueLine) × Contains lines line × (line.number ≡ n) × (text ≡ string_bytes line.text)

-- the text beside a refusal: if a name is due, the text kept of the line since which it is, and otherwise none
abbrev pub IsSinceIn : List DueLine → Refusal → Option (List ℕ) → Type 0
IsSinceIn lines (refusal.Event (why.Due debt)) since = IsTextOf lines debt.line since
IsSinceIn lines r since = since ≡ None
