-- The text of a report, and the summary of a bench.
use Rattle.std.specs.List.{flat_map}
use Rattle.std.specs.Option.{option_map_or}
use Rattle.std.specs.Prelude.{List, [], codes, decimal, filter, if◌then◌else◌, length, slice_get, sum_by, ℕ, ◌&&◌, ◌++◌, ◌+◌, ◌-◌, ◌<◌, ◌==◌, ◌∷◌}
use Rattle.nmgc_limits.specs.declared.mutators.TheConstants.{SHARED_MAKER}
use Rattle.nmgc_world_spec.specs.declared.command.Reply.TheVariants.{Already, Dead, Fine, Fixed, Given, No, NoField, NoPointer, NotOwner, Nothing, StackEmpty, StackFull, Updated, WrongKind, Yes}
use Rattle.nmgc_world_spec.specs.{declared.command.Reply.Reply, declared.value.Name.Name, declared.value.Value.Value, declared.value.Value.TheVariants.Nil, declared.value.Value.TheVariants.Number, declared.value.Value.TheVariants.Ref}
use Rattle.nmgc_object.specs.{Words.IsName, declared.words.TheConstants.NUMBER_LIMIT}
use Rattle.nmgc_journal.specs.{declared.report.CycleRow.CycleRow, declared.report.End.End, declared.report.End.TheVariants.Done, declared.report.End.TheVariants.HeapFull, declared.report.MutatorEnd.MutatorEnd, declared.report.Phase.Phase, declared.report.Phase.TheVariants.Idle, declared.report.Phase.TheVariants.Marking, declared.report.Phase.TheVariants.Sweeping, declared.report.Report.Report, declared.report.RoundRows.RoundRows, declared.report.StopRow.StopRow}

-- the text of a name: the maker and the serial with a full stop between, or g for the shared array
abbrev pub name_text : Name → List ℕ
name_text name = if (name.maker == SHARED_MAKER) && (name.serial == 0) then codes "g" else decimal name.maker ++ 46 ∷ decimal name.serial

-- the text of a value
abbrev pub value_text : Value → List ℕ
value_text Nil = codes "nil"
value_text (Number n) = decimal n
value_text (Ref name) = name_text name

-- the text of a reply: its token, or the value that it gives
abbrev pub reply_text : Reply → List ℕ
reply_text Fine = codes "ok"
reply_text Yes = codes "yes"
reply_text No = codes "no"
reply_text Updated = codes "updated"
reply_text Already = codes "already"
reply_text (Given v) = value_text v
reply_text NoPointer = codes "nopointer"
reply_text NoField = codes "nofield"
reply_text WrongKind = codes "wrongkind"
reply_text NotOwner = codes "notowner"
reply_text Fixed = codes "fixed"
reply_text Dead = codes "dead"
reply_text Nothing = codes "none"
reply_text StackFull = codes "stackfull"
reply_text StackEmpty = codes "stackempty"

-- the reply lines of the mutators from m on, with one list of replies for each: a line has the mutator, a space and the reply
abbrev pub replies_text : ℕ → List (List Reply) → List ℕ
replies_text m [] = []
replies_text m (replies ∷ others) = flat_map (λ (reply : Reply). decimal m ++ 32 ∷ reply_text reply ++ 10 ∷ []) replies ++
    replies_text (m + 1) others

-- the token of a phase, with the space before it
abbrev pub phase_text : Phase → List ℕ
phase_text Idle = codes " idle"
phase_text Marking = codes " marking"
phase_text Sweeping = codes " sweeping"

-- the line of a stop
abbrev pub stop_line : StopRow → List ℕ
stop_line s = codes "stop " ++ decimal s.number ++ phase_text s.phase ++ codes " free " ++ decimal s.free ++ codes " filled " ++ decimal s.filled ++
    codes " sweep " ++ decimal s.sweep ++ codes " promoted " ++ decimal s.promoted ++ 10 ∷ []

-- a line of a token and a name
abbrev pub name_line : List ℕ → Name → List ℕ
name_line word name = word ++ name_text name ++ 10 ∷ []

-- the lines of a cycle: its own line with its stops and counts, the weak pointers that died, and the names that were freed
abbrev pub cycle_text : CycleRow → List ℕ
cycle_text c = codes "cycle " ++ decimal c.number ++ codes " from " ++ decimal c.from ++ codes " closed " ++ decimal c.closed ++
    (codes " swept " ++ decimal (length c.swept) ++ codes " had " ++ decimal (length c.had) ++ codes " freed " ++ decimal (length c.freed)) ++
    (codes " kept " ++ decimal c.kept ++ codes " dead " ++ decimal (length c.dead) ++ 10 ∷ []) ++
    flat_map (name_line (codes "dead ")) c.dead ++ flat_map (name_line (codes "freed ")) c.freed

-- the lines of stop n: its own line, and the lines of the cycles that ended at it; no lines if the stop has no row
abbrev pub stop_at : List StopRow → List CycleRow → ℕ → List ℕ
stop_at stops cycles n =
    option_map_or (λ stop. stop_line stop ++ flat_map cycle_text (filter (λ (cycle : CycleRow). cycle.ended == n) cycles)) (slice_get stops n) []

-- the lines of rounds from number n on: each its number, its replies, and its stop
abbrev pub rounds_text : List StopRow → List CycleRow → ℕ → List RoundRows → List ℕ
rounds_text stops cycles n [] = []
rounds_text stops cycles n (rows ∷ others) = codes "round " ++ decimal n ++ 10 ∷ replies_text 0 rows.replies ++ stop_at stops cycles n ++
    rounds_text stops cycles (n + 1) others

-- the last line of a report; if the heap was full, with the free segments, which were too few, and the reserve
abbrev pub end_text : End → List ℕ
end_text Done = codes "end done\n"
end_text (HeapFull free reserve) = codes "end heapfull" ++ codes " free " ++ decimal free ++ codes " reserve " ++ decimal reserve ++ 10 ∷ []

-- the text of a report: its lines, as a function of the report
abbrev pub report_text : Report → List ℕ
report_text r = codes "report 1\n" ++ stop_at r.stops r.cycles 0 ++ rounds_text r.stops r.cycles 1 r.rounds ++ end_text r.end

-- the value has a text: it is nil, a number that fits a word, or a name that an object may have
abbrev pub IsValue : Value → Type 0
IsValue Nil = Unit {0}
IsValue (Number n) = n < NUMBER_LIMIT
IsValue (Ref name) = IsName name

-- the number of objects that the last cycle kept, and 0 if there is no cycle
abbrev pub kept_count : List CycleRow → ℕ
kept_count cycles = option_map_or (λ (cycle : CycleRow). cycle.kept) (slice_get cycles (length cycles - 1)) 0

-- a line: a token and a number
abbrev pub count_line : List ℕ → ℕ → List ℕ
count_line word n = word ++ decimal n ++ 10 ∷ []

-- the summary of a bench with this number of batches. It has the counts of commands, rounds and cycles, of objects made,
-- promoted, freed, and kept by the last cycle, and the end
abbrev pub summary_text : ℕ → Report → List ℕ
summary_text batches r = count_line (codes "bench ") batches ++
    count_line (codes "commands ") (sum_by (λ (rows : RoundRows). sum_by length rows.replies) r.rounds) ++
    count_line (codes "rounds ") (length r.rounds) ++ count_line (codes "cycles ") (length r.cycles) ++
    count_line (codes "made ") (sum_by (λ (mutator : MutatorEnd). mutator.serial) r.mutators) ++
    count_line (codes "promoted ") (sum_by (λ (stop : StopRow). stop.promoted) r.stops) ++
    count_line (codes "freed ") (sum_by (λ (cycle : CycleRow). length cycle.freed) r.cycles) ++
    count_line (codes "kept ") (kept_count r.cycles) ++ end_text r.end
