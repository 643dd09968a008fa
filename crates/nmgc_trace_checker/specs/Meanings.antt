-- The meaning of a line of format 2 by its parts, for private contracts. `Said` alone defines the meaning of a line.
use Rattle.std.specs.Prelude.{◌≡◌, ◌⊎◌, ℕ, List, [], Option, Some, None}
use Rattle.nmgc_world_spec.specs.{declared.command.Command.Command, declared.command.Reply.Reply}
use Rattle.nmgc_barrier_checker.specs.declared.event.Event.TheVariants as event
use Rattle.nmgc_barrier_checker.specs.{declared.hand.Hand.Hand, declared.rows.Task.Task}
use Rattle.nmgc_trace_checker.specs.{declared.borrowing.Rows.Rows, declared.meaning.Meaning.Meaning, Borrowing.borrowing_at, Immediates.IsRewritten, Reading.IsCommandOf, Reading.hand_at, Reading.parts_at, Reading.rows_if}
use Rattle.nmgc_trace_checker.specs.declared.meaning.Meaning.TheVariants as meaning

-- the meaning of a line with a mutator: a command with a register for each immediate, or no line of a trace
abbrev pub IsMeaningOfImmediates : ℕ → List (List ℕ) → Reply → Meaning → Type 0
IsMeaningOfImmediates m words answer t =
    ((rows : Rows) × (t ≡ meaning.Event (event.Rows m rows.borrowed rows.tasks)) × IsRewritten answer words rows) ⊎
    ((t ≡ meaning.Unknown) × ((rows : Rows) → IsRewritten answer words rows → ⊥))

-- the meaning of a line with a mutator: the command that its tokens spell, or else one with immediates
abbrev pub IsMeaningOfCommand : ℕ → List (List ℕ) → Reply → Meaning → Type 0
IsMeaningOfCommand m words answer t = ((c : Command) × (t ≡ meaning.Event (event.Given m c answer)) × IsCommandOf words c) ⊎
    (((c : Command) → IsCommandOf words c → ⊥) × IsMeaningOfImmediates m words answer t)

-- the meaning of a line with a mutator: tasks with borrowed registers, or else one command
abbrev pub IsMeaningOfBorrowing : ℕ → List (List ℕ) → Reply → Option Rows → Meaning → Type 0
IsMeaningOfBorrowing m words answer (Some rows) t = t ≡ meaning.Event (event.Rows m rows.borrowed rows.tasks)
IsMeaningOfBorrowing m words answer None t = IsMeaningOfCommand m words answer t

-- the meaning of a line with a mutator: the tasks of a copy or a fill, or else tasks with borrowed registers, or one command
abbrev pub IsMeaningOfRows : ℕ → List (List ℕ) → Reply → Option (List Task) → Meaning → Type 0
IsMeaningOfRows m words answer (Some tasks) t = t ≡ meaning.Event (event.Rows m [] tasks)
IsMeaningOfRows m words answer None t = IsMeaningOfBorrowing m words answer (borrowing_at answer words) t

-- the meaning of a line with a mutator: a value handed over, or else commands
abbrev pub IsMeaningOfHand : ℕ → List (List ℕ) → Reply → Option Hand → Meaning → Type 0
IsMeaningOfHand m words answer (Some k) t = t ≡ meaning.Event (event.Hand k answer)
IsMeaningOfHand m words answer None t = IsMeaningOfRows m words answer (rows_if answer words) t

-- the meaning of a line by its parts: a value handed over or commands, or no line of a trace if there are no parts
abbrev pub IsMeaningOfRow : Option (ℕ × List (List ℕ) × Reply) → Meaning → Type 0
IsMeaningOfRow (Some p) t = IsMeaningOfHand p.0 p.1 p.2 (hand_at p.0 p.1) t
IsMeaningOfRow None t = t ≡ meaning.Unknown

-- the meaning of a line by its keyword or, without a keyword, as commands of a mutator
abbrev pub IsMeaningBy : Option Meaning → List (List ℕ) → Meaning → Type 0
IsMeaningBy (Some plain) words t = t ≡ plain
IsMeaningBy None words t = IsMeaningOfRow (parts_at words) t
