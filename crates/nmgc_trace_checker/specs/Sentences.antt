-- The texts of outcomes: the text that the program prints is a function of the outcome. `Program` has the texts of faults.
use Rattle.std.specs.Prelude.{ℕ, List, [], ◌++◌, codes, decimal, string_bytes, Option}
use Rattle.std.specs.{List.flat_map, Option.option_map}
use Rattle.nmgc_world_spec.specs.declared.value.Name.{Name}
use Rattle.nmgc_barrier_laws.specs.declared.debt.Debt.{Debt}
use Rattle.nmgc_barrier_checker.specs.declared.event.Why.{Why}
use Rattle.nmgc_barrier_checker.specs.declared.event.Why.TheVariants as why
use Rattle.nmgc_journal.specs.Text.{name_text, reply_text}
use Rattle.nmgc_trace_checker.specs.{declared.counts.Counts.Counts, declared.reading.Outcome.Outcome, declared.report.Refusal.Refusal, declared.report.Report.Report, declared.verdict.Verdict.Verdict, FieldSentences.field_report_text, Texts.bracketed, Texts.counts_text}
use Rattle.nmgc_trace_checker.specs.declared.reading.Outcome.TheVariants as outcome
use Rattle.nmgc_trace_checker.specs.declared.report.Refusal.TheVariants as refusal
use Rattle.nmgc_trace_checker.specs.declared.report.Report.TheVariants as report
use Rattle.nmgc_trace_checker.specs.declared.verdict.Verdict.TheVariants as verdict

-- REASONS

-- a reason that says something before or after a name
abbrev pub named_text : List ℕ → Name → List ℕ → List ℕ
named_text before name after = codes "can't happen: " ++ before ++ name_text name ++ after

-- the reason that a mutator's registers weren't read in the cycle
abbrev pub unscanned_text : ℕ → List ℕ
unscanned_text mutator = codes "can't happen: mutator " ++ decimal mutator ++ codes " wasn't scanned"

-- the reason that a name is due and wasn't pushed: the name, the number of the line since which it is due, and
-- that line's text
abbrev pub debt_text : Debt → Option (List ℕ) → List ℕ
debt_text debt since = codes "can't happen: " ++ name_text debt.name ++ codes " is due since line " ++ decimal debt.line ++ bracketed since ++
    codes ", and nobody remembered it"

-- the text of a reason why an event can't happen
abbrev pub why_text : Why → Option (List ℕ) → List ℕ
why_text why.Misplaced since = codes "can't stand there"
why_text why.CannotApply since = codes "can't happen: there is no such mutator or register"
why_text (why.Answer answer) since = codes "can't happen: the heap answers " ++ reply_text answer
why_text (why.Due debt) since = debt_text debt since
why_text (why.NoSuchName name) since = named_text (codes "the heap has no ") name []
why_text (why.NotMarked name) since = named_text [] name (codes " isn't kept, or was made since the cycle began")
why_text (why.Untaken name) since = named_text (codes "nobody took ") name []
why_text (why.Unscanned mutator) since = unscanned_text mutator
why_text (why.NotPushed name) since = named_text [] name (codes " wasn't pushed, or was made since the cycle began")
why_text (why.NotOld name) since = named_text [] name (codes " was made since the cycle began")
why_text (why.NotDead name) since = named_text [] name (codes " isn't dead")
why_text (why.NotListed name) since = named_text [] name (codes " has to be marked")
why_text (why.Needed name) since = named_text [] name (codes " is needed")

-- the text of a refusal, which follows the number of the line
abbrev pub refusal_text : Refusal → Option (List ℕ) → List ℕ
refusal_text refusal.Unknown since = codes "is none of a trace"
refusal_text refusal.Misplaced since = codes "can't stand there"
refusal_text (refusal.Event y) since = why_text y since

-- RESULTS

-- the text of a report of format 2, with the counts of the lines, and the text of the line since which a name is due
abbrev pub report_text : Report → Counts → ℕ → Option (List ℕ) → List ℕ
report_text (report.Refused n r) counts dues since = codes "line " ++ decimal n ++ codes " " ++ refusal_text r since
report_text report.Unmarked counts dues since = codes "nothing is marked"
report_text report.Open counts dues since = codes "a cycle goes on"
report_text report.Cut counts dues since = codes "each line can happen, but there is no stop"
report_text report.Whole counts dues since = codes "each line can happen: " ++ counts_text counts dues

-- a name after a space
abbrev pub after_space : Name → List ℕ
after_space name = codes " " ++ name_text name

-- the text of a verdict of format 1
abbrev pub verdict_text : Verdict → List ℕ
verdict_text (verdict.Bad n) = codes "line " ++ decimal n ++ codes " is none of a trace"
verdict_text (verdict.Refused n) = codes "line " ++ decimal n ++ codes " can't happen"
verdict_text verdict.Unmarked = codes "nothing is marked"
verdict_text (verdict.Open names) = codes "marking goes on, marked" ++ flat_map after_space names
verdict_text (verdict.Closed names) = codes "closed, kept" ++ flat_map after_space names

-- the text of an outcome
abbrev pub outcome_text : Outcome → List ℕ
outcome_text (outcome.Marked v) = verdict_text v
outcome_text (outcome.Watched answer) = report_text answer.report answer.counts answer.dues (option_map string_bytes answer.since)
outcome_text (outcome.Fields answer) = field_report_text answer.report answer.counts answer.dues answer.name.items (option_map string_bytes answer.since)
