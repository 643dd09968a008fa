-- Every name of std, of the crates below and of this crate's definitions that the proofs speak of.
pub use Rattle.nmgc_barrier_laws.specs.{Barrier.Watches, Cycle.Cycle, Cycle.MarksName, Cycle.watching, Hybrid.AreScanned, Hybrid.Hybrid, Hybrid.IsWatchedIn, Hybrid.WatchesIn, Hybrid.beginning, Hybrid.is_scanned, Hybrid.scanned_at_once, laws.Beside.barrier_theorem, laws.Beside.joint_theorem, laws.Finishing.some_finisher, laws.HybridBeside.hybrid_joint, laws.HybridFinishing.some_finisher_in, laws.HybridSafe.hybrid_safety}
pub use Rattle.nmgc_journal.specs.{Reading.number_at, Reading.value_at, Reading.◌>>=◌, Text.IsValue, Text.name_text, Text.reply_text, Text.value_text, laws.Reading.Reads, laws.Reading.bind_some, laws.Reading.guard_some, laws.Reading.name_reads, laws.Reading.number_again, laws.Reading.number_takes, laws.Reading.value_reads}
pub use Rattle.nmgc_trace_checker.specs.{Kept.IsKeptListed, Kept.ListsKept, Kept.rows_in, Notes.HasTried, Notes.IsNoted, Notes.IsSinceIn, Outcomes.AreLinesOf, Outcomes.AreMarkedLines, Outcomes.IsFault, Outcomes.IsFaultAfter, Outcomes.AreFields, Outcomes.AreFieldsBy, Outcomes.AreFieldsHeard, Outcomes.IsHeard, Outcomes.IsHeardUpTo, Outcomes.field_head_texts, Outcomes.happened_in, Outcomes.IsMarked, Outcomes.IsMarkedOf, Outcomes.IsOutcome, Outcomes.IsSince, Outcomes.IsTextAt, Outcomes.IsTooLong, Outcomes.IsWatchedBy, Outcomes.happened_of, Outcomes.head_texts, Outcomes.is_passed_of, Outcomes.is_refused, Outcomes.is_refused_there, Outcomes.no_counts, Outcomes.ok_to, Outcomes.oks, Outcomes.with_line, Outcomes.with_lines, Program.AreAnswered, Program.IsAnswerTo, Program.IsGravest, Program.IsResult, Program.Judged, Program.SaysAll, Program.is_live, Program.label_of, Program.rank, Program.status_of, Reading.IsCommandOf, Reading.IsLastIf, Reading.IsLastOf, Reading.IsLineBy, Reading.IsLineCommand, Reading.IsLineGiven, Meanings.IsMeaningBy, Meanings.IsMeaningOfRow, Meanings.IsMeaningOfRows, Reading.IsSpelled, Reading.IsSpelledIf, Reading.answered_at, Reading.byte_at, Reading.copying_of, Reading.onto_command, Reading.or_else, Reading.rows_if, Reading.script_head, Reading.short_at, Reports.Comes, Reports.EndsAtLine, Reports.Happens, Reports.IsHappening, Reports.IsRefusal, Reports.IsReport, Reports.report_of, Said.AreNames, Said.AreSaid, Said.IsCopying, Said.IsFilling, Said.IsGiven, Said.IsMutators, Said.IsNextLine, Said.IsPusher, Said.IsReply, Said.IsTakeOf, Said.Says, Said.SaysCore, Said.SaysEvent, Said.SaysLine, Said.ahead, Said.copy_words, Said.fill_words, Said.given_words, Said.names_words, Said.texts_of, Sentences.after_space, Sentences.outcome_text, Shown.IsPassedOn, Shown.IsShownAs, Shown.Writes, Shown.WritesLive, Shown.WritesOne, Trace.Can, Trace.IsAnswered, Trace.IsAnsweredIf, Trace.IsDrain, Trace.IsNext, Trace.IsTakeIf, Trace.MarksJust, Trace.Scans, Trace.next_if, Verdicts.IsVerdict, Verdicts.IsVerdictAfter, Verdicts.refusal_of, Whole.Closes, Whole.IsWholeReport}
pub use Rattle.nmgc_trace_checker.specs.declared.{line.Line.Line, progress.Progress.Progress, reading.TraceFault.TraceFault, report.Begun.Begun, report.Refusal.Refusal, report.Report.Report, checker.Answer.Answer, checker.DueLine.DueLine, checker.TraceChecker.TraceChecker, counts.Counts.Counts, meaning.Meaning.Meaning, reading.Outcome.Outcome, status.Status.Status, verdict.Verdict.Verdict}
pub use Rattle.nmgc_arguments.specs.{Output.text_bytes, declared.output.Text.Text}
pub use Rattle.nmgc_io.specs.declared.ends.WriteEnd.{WriteEnd}
pub use Rattle.nmgc_limits.specs.declared.mutators.TheConstants.{REGISTERS, SHARED_MAKER}
pub use Rattle.nmgc_lists.specs.{declared.memory.NoMemory.NoMemory, laws.Items.contains_cases, laws.Items.contains_head, laws.Items.contains_tail, laws.Items.nothing_in, laws.Items.nothing_in as nothing, laws.Items.same_first as head_of, laws.Truths.chosen, laws.Truths.cond_true, laws.Truths.unmarked as is_not}
pub use Rattle.nmgc_object.specs.Words.{IsName}
pub use Rattle.nmgc_io.specs.Text.{is_blank_or_comment, lines_of, onto_first, tokens_of, spaced, AppendsFront, Rose}
pub use Rattle.nmgc_script.specs.{Spelling.FitsConfig, Spelling.FitsScript, Spelling.Spells, Spelling.command_words, Spelling.heap_words, Spelling.operand_word, Spelling.register_word, Spelling.section_lines, Spelling.kept_lines, Parts.program_lines, Parts.section_words, Parts.version_words, declared.fault.Cause.Cause, declared.fault.ScriptFault.ScriptFault, declared.script.Config.Config, declared.script.Script.Script}
pub use Rattle.nmgc_snapshot_laws.specs.{Machine.IsPossible, Machine.Passes, Machine.after_take, Run.IsExact, Run.Runs, State.State, State.is_new, State.names_of, State.oldest_first, State.opening, State.with_mark, declared.event.Event.Event, laws.Common.runs_join, laws.Runs.snapshot_theorem}
pub use Rattle.nmgc_barrier_checker.specs.{Rows.copied, Rows.filled, Watching.AreDone, Watching.CanAct, declared.cycle_result.CycleResult.CycleResult, declared.rows.Copying.Copying, declared.rows.Filling.Filling, declared.watch.Watch.Watch}
pub use Rattle.nmgc_world_laws.specs.laws.{Deaths.closed_world, NewWorlds.new_is_world, WorldSteps.step_keeps_world}
pub use Rattle.nmgc_world_spec.specs.{World.Fits, World.HasRegistersBelow, World.shared_name, World.step, World.World, World.new_world, Known.IsOperand, Known.IsRegister, Reach.Row, Reach.finalised, Reach.opened, Reach.IsBefore, Reach.IsInOrder, Reach.IsKept, Reach.Lists, Known.IsWorld, declared.command.Command.Command, declared.command.Command.TheVariants.Arr, declared.command.Command.TheVariants.Cas, declared.command.Command.TheVariants.Collect, declared.command.Command.TheVariants.Con, declared.command.Command.TheVariants.Deref, declared.command.Command.TheVariants.Finalise, declared.command.Command.TheVariants.Force, declared.command.Command.TheVariants.Full, declared.command.Command.TheVariants.Get, declared.command.Command.TheVariants.Mov, declared.command.Command.TheVariants.NextFin, declared.command.Command.TheVariants.Nil, declared.command.Command.TheVariants.Num, declared.command.Command.TheVariants.Pop, declared.command.Command.TheVariants.Push, declared.command.Command.TheVariants.Same, declared.command.Command.TheVariants.Set, declared.command.Command.TheVariants.Show, declared.command.Command.TheVariants.Stack, declared.command.Command.TheVariants.Tag, declared.command.Command.TheVariants.Thunk, declared.command.Command.TheVariants.Update, declared.command.Command.TheVariants.Var, declared.command.Command.TheVariants.Weak, declared.command.Command.TheVariants.Yield, declared.command.Operand.Operand, declared.command.Operand.TheVariants.Register, declared.command.Operand.TheVariants.Shared, declared.command.Reply.Reply, declared.value.Name.Name, declared.value.Value.Value, laws.Orders.before_trans, laws.Orders.in_order_first, laws.Orders.in_order_rest, laws.Orders.not_before_itself}
pub use Rattle.std.proofs.Math.Seq.{take-add}
pub use Rattle.std.proofs.Common.{Bool, Bor, Err, Global, IfOk, List, MatchResult, None, Ok, Option, Result, Some, [], add-one, ap, append_assoc, arith, codes, cond, decimal, drop, drop-cons, eqb, false, get_or, inl, inr, leb, length, lit≤, ltb, map, min, not, refl, string_bytes, subst, suc, sym, take, true, zero, ℕ, ◌%◌, ◌*◌, ◌++◌, ◌+◌, ◌-◌, ◌<◌, ◌^◌, ◌↔◌, ◌∙◌, ◌∷◌, ◌≡◌, ◌≢◌, ◌≤◌, ◌⊎◌}
pub use Rattle.std.proofs.lemmas.{Bool.and_from, Bool.and_parts, Bool.cases_Bool, Bool.cond-false, Bool.cond-true, Bool.eq-eqb, Bool.eqb-true, Bool.false≢true, Bool.leb-true, Bool.lt-ltb, Bool.ltb-true, Bool.ne_eqb, Bool.Decides.eqb_tells, Fmt.decimal_by_steps, Fmt.decimal_nonempty, Fmt.length-decimal-le, List.append-nil, List.drop_all, List.drop_at, List.flat_map_more, List.get_or_push, List.length-append, List.length-map, List.length-take-le, List.length_push, List.map-append, List.map_more, List.map_push, List.nil_from_length, List.same_from_push, List.take-append-drop, List.take-append-le, List.take_all, List.take_more, List.Elements.All-cons, List.Elements.All-contains, List.Elements.All-from_recursion, List.Elements.All-nil, List.Elements.Contains-append_cases, List.Elements.Contains-append_left, List.Elements.Contains-append_right, List.Elements.Contains-get_or, List.Elements.Contains-push, List.Elements.Contains-push_cases, List.Elements.recursion_from_All, Option.none-some, Option.same_Some, Result.IfOk-weaker, Result.err_from_is_err_and, Result.on_err_weaker, Result.on_ok_weaker, Slice.Eq.bytes_eq-Decides, Str.Pattern.strip_suffix_char}
pub use Rattle.std.specs.{Io.KnownBytes.Appends, List.flat_map, Option.option_map, Prelude.OnErr, Prelude.OnOk, Io.BufRead.DropsThrough, Io.BufRead.drop_through, Io.BufRead.ends_with_byte, Io.BufRead.strip_last, Io.BufRead.take_through, List.AllByRecursion, Prelude.All, Prelude.Contains, Prelude.IfErr, Prelude.IfSome, Prelude.IsErrAnd, Prelude.IsTrue, Prelude.MatchOption, Prelude.if◌then◌else◌, Prelude.slice_set, Prelude.unwrap_or, Prelude.◌&&◌, Str.bytes_eq, Str.Pattern.FindsCharSuffix}
unfoldable pub use Rattle.nmgc_journal.specs.Reading.{dotted_at, name_at}
unfoldable pub use Rattle.nmgc_trace_checker.specs.Reading.{close_at, close_line_at, copy_at, copying_at, count_line_at, done_at, drain_line_at, each_at, ending_at, fill_at, filling_at, freed_at, mark_at, mark_line_at, marked_at, marker_line_at, mutators_at, names_at, no_names_at, nothing_at, operand_at, parts_at, place_at, plain_at, plain_line_at, push_at, push_line_at, pusher_at, refused_at, register_at, reply_at, rows_at, scan_at, scan_line_at, settle_at, shared_mark_at, span_at, stop_at, take_at, take_line_at}
unfoldable pub use Rattle.nmgc_script.specs.Spelling.{kept_from}
unfoldable pub use Rattle.std.specs.Fmt.{digits}
unfoldable pub use lib.Count.{ones}
