-- The texts of reports of format 3. A reason may have the name that it is about, and the text of the line that it cites.
use Rattle.std.specs.Prelude.{ℕ, ◌-◌, List, [], ◌++◌, codes, decimal, Option, Bool, true, false, if◌then◌else◌}
use Rattle.nmgc_field_checker.specs.declared.event.{FieldDebt.FieldDebt, FieldStore.FieldStore, FieldWhy.FieldWhy}
use Rattle.nmgc_field_checker.specs.declared.event.FieldWhy.TheVariants as why
use Rattle.nmgc_field_reader.specs.declared.{counts.FieldCounts.FieldCounts, report.FieldRefusal.FieldRefusal, report.FieldReport.FieldReport}
use Rattle.nmgc_field_reader.specs.declared.report.FieldRefusal.TheVariants as refusal
use Rattle.nmgc_field_reader.specs.declared.report.FieldReport.TheVariants as report
use Rattle.nmgc_trace_checker.specs.{declared.counts.Counts.Counts, Texts.bracketed, Texts.counts_text}

-- a reason that says something before and after a name
abbrev pub about_name : List ℕ → List ℕ → List ℕ → List ℕ
about_name before name after = before ++ (name ++ after)

-- a reason that says something before and after a mutator. A trace calls a mutator by its number less 1
abbrev pub about_mutator : List ℕ → ℕ → List ℕ → List ℕ
about_mutator before number after = before ++ (decimal (number - 1) ++ after)

-- a line's number, and its text in brackets if it is known
abbrev pub line_text : ℕ → Option (List ℕ) → List ℕ
line_text line since = codes "line " ++ (decimal line ++ bracketed since)

-- the reason that the object of a debt is due
abbrev pub due_text : FieldDebt → List ℕ → Option (List ℕ) → List ℕ
due_text debt name since = about_name [] name (codes " is due since ") ++ (line_text debt.line since ++ codes ", and nobody remembered it")

-- the reason that a stored object isn't kept
abbrev pub unkept_text : FieldStore → List ℕ → Option (List ℕ) → List ℕ
unkept_text store name since = about_name [] name (codes " isn't kept, but ") ++ (line_text store.line since ++ codes " stored it")

-- the text of a reason why an event can't happen
abbrev pub reason_text : FieldWhy → List ℕ → Option (List ℕ) → List ℕ
reason_text why.Misplaced name since = []
reason_text (why.NotThere mutator) name since = about_mutator (codes "there is no mutator ") mutator.number []
reason_text (why.There mutator) name since = about_mutator (codes "mutator ") mutator.number (codes " is there already")
reason_text (why.Unscanned mutator) name since = about_mutator (codes "mutator ") mutator.number (codes " wasn't scanned")
reason_text (why.NoObject object) name since = about_name (codes "the heap has no ") name []
reason_text (why.Made object) name since = about_name (codes "the heap has ") name (codes " already")
reason_text why.Full name since = codes "the heap has too many objects"
reason_text (why.NoField object place) name since = about_name [] name (codes " has no field ") ++ decimal place
reason_text (why.Due debt) name since = due_text debt name since
reason_text (why.Unkept store) name since = unkept_text store name since
reason_text (why.NotListed object) name since = about_name [] name (codes " has to be marked")
reason_text (why.NotMarked object) name since = about_name [] name (codes " isn't kept, or was made since the cycle began")
reason_text (why.NotOld object) name since = about_name [] name (codes " was made since the cycle began")
reason_text (why.Needed object) name since = about_name [] name (codes " is needed")

-- whether the reason is that no event of its kind can happen there
abbrev pub is_misplaced : FieldWhy → Bool
is_misplaced why.Misplaced = true
is_misplaced y = false

-- the text of a refusal, which follows the number of the line
abbrev pub field_refusal_text : FieldRefusal → List ℕ → Option (List ℕ) → List ℕ
field_refusal_text refusal.Unknown name since = codes "is none of a trace"
field_refusal_text (refusal.Event y) name since = if is_misplaced y then codes "can't stand there" else codes "can't happen: " ++ reason_text y name since

-- the counts of a trace of format 3, as they are printed
abbrev pub printed_counts : FieldCounts → Counts
printed_counts c = record { cycles = c.cycles; commands = c.commands; pushes = c.pushes }

-- the text of a report of format 3, with the counts of the lines
abbrev pub field_report_text : FieldReport → FieldCounts → ℕ → List ℕ → Option (List ℕ) → List ℕ
field_report_text (report.Refused n r) counts dues name since = codes "line " ++ decimal n ++ codes " " ++ field_refusal_text r name since
field_report_text report.Unmarked counts dues name since = codes "nothing is marked"
field_report_text report.Open counts dues name since = codes "a cycle goes on"
field_report_text report.Cut counts dues name since = codes "each line can happen, but there is no stop"
field_report_text report.Whole counts dues name since = codes "each line can happen: " ++ counts_text (printed_counts counts) dues
