-- Parts of lines and counts of rows, as the functions that print them name them.
use Rattle.std.specs.Prelude.{ℕ, List, [], ◌∷◌, ◌++◌, codes, decimal, length, sum_by, filter, ◌==◌}
use Rattle.std.specs.List.{flat_map}
use Rattle.nmgc_world_spec.specs.declared.command.Reply.{Reply}
use Rattle.nmgc_journal.specs.{declared.report.RoundRows.RoundRows, declared.report.StopRow.StopRow, declared.report.CycleRow.CycleRow, declared.report.MutatorEnd.MutatorEnd, declared.report.Report.Report, Text.replies_text, Text.reply_text, Text.kept_count, Text.count_line, Text.stop_line, Text.cycle_text}

-- the four counts that end a stop's line
abbrev pub stop_counts : StopRow → List ℕ
stop_counts s = codes " free " ++ decimal s.free ++ codes " filled " ++ decimal s.filled ++ codes " sweep " ++ decimal s.sweep ++
    codes " promoted " ++ decimal s.promoted ++ 10 ∷ []

-- the two counts that end the last line of a run whose heap was full: the free segments, which were too few, and the reserve
abbrev pub end_counts : ℕ → ℕ → List ℕ
end_counts free reserve = codes " free " ++ decimal free ++ codes " reserve " ++ decimal reserve ++ 10 ∷ []

-- the last line of a run whose heap was full
abbrev pub heap_full_line : ℕ → ℕ → List ℕ
heap_full_line free reserve = codes "end heapfull" ++ end_counts free reserve

-- the cycles of the report that ended at this stop
abbrev pub ended_at : ℕ → List CycleRow → List CycleRow
ended_at n cycles = filter (λ (cycle : CycleRow). cycle.ended == n) cycles

-- the lines of a stop and of these cycles, which ended at it
abbrev pub stop_text : StopRow → List CycleRow → List ℕ
stop_text row cycles = stop_line row ++ flat_map cycle_text cycles

-- the lines of a round: its number, and its replies
abbrev pub round_text : ℕ → RoundRows → List ℕ
round_text n rows = codes "round " ++ decimal n ++ 10 ∷ replies_text 0 rows.replies

-- the start of a cycle's line: its number, and the stops of its snapshot and its closing
abbrev pub cycle_stops : CycleRow → List ℕ
cycle_stops c = codes "cycle " ++ decimal c.number ++ codes " from " ++ decimal c.from ++ codes " closed " ++ decimal c.closed

-- the counts of the segments that a cycle swept, of their blocks in use, and of the blocks that it freed
abbrev pub cycle_swept : CycleRow → List ℕ
cycle_swept c = codes " swept " ++ decimal (length c.swept) ++ codes " had " ++ decimal (length c.had) ++ codes " freed " ++ decimal (length c.freed)

-- the counts of the blocks that a cycle kept, and of the weak pointers that died
abbrev pub cycle_kept : CycleRow → List ℕ
cycle_kept c = codes " kept " ++ decimal c.kept ++ codes " dead " ++ decimal (length c.dead) ++ 10 ∷ []

-- a cycle's own line
abbrev pub cycle_line : CycleRow → List ℕ
cycle_line c = cycle_stops c ++ cycle_swept c ++ cycle_kept c

-- the number of replies of a round
abbrev pub reply_count : RoundRows → ℕ
reply_count rows = sum_by length rows.replies

-- the number of commands that were answered
abbrev pub command_count : List RoundRows → ℕ
command_count rounds = sum_by reply_count rounds

-- the number of objects that the mutators made: the sum of their next serials
abbrev pub made_count : List MutatorEnd → ℕ
made_count mutators = sum_by (λ (mutator : MutatorEnd). mutator.serial) mutators

-- the number of objects that the stops promoted
abbrev pub promoted_count : List StopRow → ℕ
promoted_count stops = sum_by (λ (stop : StopRow). stop.promoted) stops

-- the number of objects that the cycles freed
abbrev pub freed_count : List CycleRow → ℕ
freed_count cycles = sum_by (λ (cycle : CycleRow). length cycle.freed) cycles

-- the counts of the run: the commands answered, the rounds, and the cycles that ended
abbrev pub run_lines : Report → List ℕ
run_lines r = count_line (codes "commands ") (command_count r.rounds) ++ count_line (codes "rounds ") (length r.rounds) ++
    count_line (codes "cycles ") (length r.cycles)

-- the counts of objects: made, promoted, freed, and kept by the last cycle
abbrev pub object_lines : Report → List ℕ
object_lines r = count_line (codes "made ") (made_count r.mutators) ++ count_line (codes "promoted ") (promoted_count r.stops) ++
    count_line (codes "freed ") (freed_count r.cycles) ++ count_line (codes "kept ") (kept_count r.cycles)

-- the line of a mutator's reply: the mutator, a space and the reply
abbrev pub reply_line : ℕ → Reply → List ℕ
reply_line m reply = decimal m ++ 32 ∷ reply_text reply ++ 10 ∷ []
