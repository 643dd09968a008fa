-- The names of std, of the crates below and of this crate's definitions that the proofs use.
pub use Rattle.nmgc_limits.specs.Limits.{IsSegmentSize, least_segment_words, most_heap_words, most_nursery_words, most_quota, most_script_bytes, most_segment_words, most_segments, most_slice, most_trigger}
pub use Rattle.nmgc_lists.specs.laws.Truths.{and_both as both_true, chosen, cond_true}
pub use Rattle.nmgc_io.specs.{Text.is_blank_or_comment, Text.lines_of, Text.tokens_of, Spaced.after_spaces, Text.ended, Text.spaced}
pub use Rattle.nmgc_script.specs.{Spelling.batch, Spelling.bench_script, Spelling.repeated, Spelling.HasArity, Spelling.IsOf, Spelling.IsSince, Spelling.HasFault, Spelling.HasToBegin, Spelling.IsFaultless, Spelling.IsFirstFault, Spelling.IsFaultOfText, Spelling.IsFaultFromHeap, Spelling.IsFaultInRest, Spelling.begun_with, Spelling.first_of, Spelling.order_of, Spelling.FitsConfig, Spelling.FitsScript, Spelling.IsVersion, Spelling.version_1, Spelling.version_2, Spelling.version_of, Spelling.Spells, Spelling.command_words, Spelling.heap_words, Spelling.operand_word, Spelling.register_word, Spelling.script_lines, Spelling.section_lines, Spelling.kept_lines, Spelling.version_3, Parts.bench_config, Parts.bench_program, Parts.cell, Parts.most_batches, Results.IsFaultOf, Parts.HasFewCommands, Parts.total_words, Printing.word_text, Reading.Fails, Reading.FailsAt, Reading.Gives, Reading.GivesAt, Reading.at_line, Reading.begun_after, Reading.is_section, Reading.long_at, Reading.operands_at, Reading.or_cause, Reading.placed, Reading.short_at, Reading.tag_at, Reading.named_at, Reading.has_verb, Reading.with_entry, Reading.◌>>=◌, Parts.plain, Parts.program_lines, Parts.section_words, Parts.verb_name, Parts.version_words, Parts.end_of, laws.Versions.bench_sizes_fit}
pub use Rattle.nmgc_script.specs.{declared.fault.Cause.Cause, declared.fault.LineFault.LineFault, declared.fault.ScriptFault.ScriptFault, declared.script.Config.Config, declared.script.Script.Script, declared.sections.Entry.Entry, declared.verbs.TheConstants.VERBS, declared.verbs.Verb.Verb, declared.version.Version.Version, laws.Versions.IsUsable, laws.Versions.registers_wider, laws.Versions.threads_few, laws.Versions.upgraded_fits, laws.Versions.usable_number, laws.Versions.usable_version, laws.Versions.version_is}
pub use Rattle.nmgc_world_spec.specs.{World.Fits, World.HasNumbers, World.HasRegistersBelow, World.IsOperandBelow, World.words_made, Known.IsOperand, Known.IsRegister, Known.IsRegisterBelow, declared.command.Command.Command, declared.command.Command.TheVariants.Arr, declared.command.Command.TheVariants.Cas, declared.command.Command.TheVariants.Collect, declared.command.Command.TheVariants.Con, declared.command.Command.TheVariants.Deref, declared.command.Command.TheVariants.Finalise, declared.command.Command.TheVariants.Force, declared.command.Command.TheVariants.Full, declared.command.Command.TheVariants.Get, declared.command.Command.TheVariants.Mov, declared.command.Command.TheVariants.NextFin, declared.command.Command.TheVariants.Nil, declared.command.Command.TheVariants.Num, declared.command.Command.TheVariants.Pop, declared.command.Command.TheVariants.Push, declared.command.Command.TheVariants.Rec, declared.command.Command.TheVariants.Same, declared.command.Command.TheVariants.Set, declared.command.Command.TheVariants.Show, declared.command.Command.TheVariants.Stack, declared.command.Command.TheVariants.Tag, declared.command.Command.TheVariants.Thunk, declared.command.Command.TheVariants.Update, declared.command.Command.TheVariants.Var, declared.command.Command.TheVariants.Weak, declared.command.Command.TheVariants.Yield, declared.command.Operand.Operand, declared.command.Operand.TheVariants.Register, declared.command.Operand.TheVariants.Shared}
pub use Rattle.std.proofs.{Common.Bool, Common.Err, Common.IfErr, Common.IfOk, Common.List, Common.MatchResult, Common.Ok, Common.Result, Common.[], Common.add-one, Common.ap, Common.append_assoc, Common.arith, Common.codes, Common.cond, Common.decimal, Common.drop, Common.drop-cons, Common.eqb, Common.false, Common.get_or, Common.inl, Common.inr, Common.leb, Common.length, Common.length-append, Common.length-take, Common.lit<, Common.lit≤, Common.map, Common.refl, Common.rules, Common.subst, Common.suc, Common.sym, Common.true, Common.zero, Common.ℕ, Common.◌%◌, Common.◌&&◌, Common.◌*◌, Common.◌++◌, Common.◌+◌, Common.◌-◌, Common.◌<◌, Common.◌^◌, Common.◌∙◌, Common.◌∷◌, Common.◌≡◌, Common.◌≤◌, Common.◌⊎◌, Math.Nat.mul-le-mul, Math.Nat.mul-le-mul_right}
pub use Rattle.std.proofs.lemmas.{Bool.cases_order, Bool.eqb-true, Bool.le-leb, Bool.leb-false, Bool.leb-true, Bool.Decides.eqb_tells, Fmt.decimal_by_steps, Fmt.decimal_digit, Fmt.decimal_is_IsNumeral, List.append-nil, List.drop_all, List.length-map, List.length-replicate, List.map_push, List.Elements.All-append, List.Elements.All-cons, List.Elements.All-from_recursion, List.Elements.All-nil, List.Elements.All-replicate, List.Elements.All-weaker, List.Elements.recursion_from_All, List.Sums.sum_by-cons, Result.IfOk-equal, Result.err_from_is_err_and, Slice.Eq.bytes_eq-Decides}
pub use Rattle.std.specs.{Int.is_power_of_two, List.AllByRecursion, List.sum_by, Prelude.All, Prelude.OnOk, Prelude.replicate, Str.bytes_eq, Str.Parse.digits_value}
unfoldable pub use Rattle.nmgc_script.specs.{Reading.between_at, Reading.command_at, Reading.con_at, Reading.config_at, Reading.each_at, Reading.entry_at, Reading.first_named, Reading.four_at, Reading.heap_at, Reading.heap_words_at, Reading.none_at, Reading.number_at, Reading.numbers_at, Reading.one_at, Reading.operand_at, Reading.pace_at, Reading.programs_at, Reading.register_at, Reading.rest_at, Reading.script_at, Reading.section_at, Reading.segment_size_at, Reading.sized, Reading.sizes_at, Reading.thread_at, Reading.threads_at, Reading.three_at, Reading.two_at, Reading.values_at, Reading.verb_at, Reading.version_at, Spelling.kept_from, Spelling.list_cells}
unfoldable pub use lib.Count.{ones}
