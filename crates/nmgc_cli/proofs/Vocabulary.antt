-- All names of std, of the crates below and of this crate's definitions that the proofs use.
pub use Rattle.nmgc_alloc.specs.Segments.{IsSegments}
pub use Rattle.nmgc_arguments.specs.Output.{text_bytes}
pub use Rattle.nmgc_cli.specs.{Output.Answer, Output.IsRan, Output.answer_report, Output.answer_status, Output.answer_text, Output.refusal_status, Output.status_of, Output.IsMarksText, Output.marks_lines, Output.Asks, Output.IsWrong, Output.Answers, Output.AnswersBench, Output.AnswersBytes, Output.AnswersScript, Output.Ends, Output.IsImageText, Output.IsReadWithin, Output.IsReport, Output.ReadsNothing, Output.IsSummary, Output.IsText, Output.IsAnswer, Output.IsUpgraded, Output.SpellsOnly, Output.AnswersWithReport, Output.IsOutputOfReport, Parts.IsOutputOf, Parts.read_refusal, Parts.script_refusal, Claimed.AreClaimsOf, Claimed.last_world, Parts.CanBeDone, Consequences.IsRunning, Parts.AnswersRetain, Consequences.IsBenchComplete, Consequences.IsComplete, Consequences.IsPath, Parts.IsRead, Parts.IsReading, Consequences.IsReportOfTask, Consequences.IsRetainComplete, Consequences.IsRunThrough, Consequences.IsUpgrade, Consequences.IsUpgradeComplete, Parts.IsWritten}
pub use Rattle.nmgc_cli.specs.declared.{answer.Refusal.Refusal, status.Status.Status, status.Status.TheVariants.Done, status.Status.TheVariants.HeapFull, status.Status.TheVariants.NoMemory, status.Status.TheVariants.WriteFault, task.Task.Task, task.Task.TheVariants.Bench, task.Task.TheVariants.Image, task.Task.TheVariants.Marks, task.Task.TheVariants.Retain, task.Task.TheVariants.Run, task.Task.TheVariants.Upgrade, output.Output.Output}
pub use Rattle.nmgc_image.specs.{Left.IsLeftAs, declared.read.TheConstants.MAX_IMAGE_BYTES}
pub use Rattle.nmgc_io.specs.{Text.Rose, Text.Takes, Text.TakesUpTo, declared.ends.ReadEnd.ReadEnd, laws.Common.taken_within}
pub use Rattle.nmgc_journal.specs.{Reading.name_at, Printing.command_count, Printing.reply_count, Text.summary_text, Text.name_line, Text.name_text, Text.report_text, declared.report.End.End, declared.report.MutatorEnd.MutatorEnd, declared.report.Report.Report, declared.report.RoundRows.RoundRows, laws.Reading.name_again}
pub use Rattle.nmgc_limits.specs.{Limits.most_script_bytes, declared.mutators.TheConstants.MAKERS}
pub use Rattle.nmgc_object.specs.Words.{IsName}
pub use Rattle.nmgc_pmark.specs.{Claims.AreClaims, Claims.IsStopped, Claims.Stopped, Stops.IsStoppedAs, Stops.StopsAreStopped, Stops.root_words, Strong.IsStrong, Strong.roots_of, Strong.RootsStartStrongReach}
pub use Rattle.nmgc_retain.specs.{Paths.retained_text, Paths.IsRight, declared.path.Retained.Retained}
pub use Rattle.nmgc_run_laws.specs.{Sound.IsRunnable, laws.Common.places_low, laws.Crowding.in_limits_fit, laws.Crowding.runnable_of, laws.Lefts.stop_left, laws.Limits.scripts_have_good_plans, laws.Limits.states_are_within, laws.Places.blocks_at_stop, laws.Programs.slice_few, laws.Runs.states_are_sound, laws.Ends.heap_at_stop}
pub use Rattle.nmgc_run_spec.specs.{Lawful.IsHeapFull, Lawful.IsRunOf, Lawful.IsLawful, Terms.registers_of, Heap.snapshots, Run.IsRound, Run.AreTurns, Run.Turn, Run.last_state, Run.state_after, Run.rest_of, Run.slice_of, Run.slices, Run.Plan, Run.State, Run.layout_of, Run.plan_of, Run.start}
pub use Rattle.nmgc_script.specs.{Spelling.bench_script, Spelling.IsInLimits, Spelling.most_bytes, Spelling.upgraded, Spelling.Spells, Spelling.kept_lines, Results.IsFaultOf, declared.script.Config.Config, declared.fault.ScriptFault.ScriptFault, declared.script.Script.Script, laws.Versions.lines_few, laws.Versions.threads_few, Parts.HasFewCommands, Parts.plain}
pub use Rattle.nmgc_world_spec.specs.{Reach.Lists, Reach.Row, World.World, declared.command.Command.Command, declared.command.Reply.Reply, declared.value.Name.Name, declared.value.Value.Value}
pub use Rattle.std.proofs.{Common.Bool, Common.Err, Common.Global, Common.List, Common.None, Common.Ok, Common.Option, Common.Result, Common.Some, Common.[], Common.ap, Common.arith, Common.codes, Common.decimal, Common.drop, Common.get_or, Common.inl, Common.inr, Common.length, Common.map, Common.refl, Common.subst, Common.sym, Common.ℕ, Common.◌*◌, Common.◌++◌, Common.◌+◌, Common.◌-◌, Common.◌<◌, Common.◌^◌, Common.◌∙◌, Common.◌∷◌, Common.◌≡◌, Common.◌≢◌, Common.◌≤◌, Common.◌⊎◌, lemmas.Fmt.decimal_injective, lemmas.List.append-nil, lemmas.List.length-drop, lemmas.List.Sums.get_or-le-sum_by, lemmas.List.Sums.sum_by-cons, lemmas.List.Sums.sum_by-le, lemmas.Option.same_Some, lemmas.Result.IfOk-weaker, lemmas.Result.err_from_is_err_and, lemmas.Slice.Eq.bytes_eq-Decides}
pub use Rattle.std.specs.{Io.KnownBytes.Appends, List.flat_map, Prelude.IfErr, Prelude.IfNone, Prelude.IfOk, Prelude.IfSome, Prelude.IsTrue, Prelude.string_bytes, Prelude.sum_by, Str.bytes_eq}
