-- The names of std, of the crates below and of this crate's definitions that the lemmas of these laws use.
pub use Rattle.nmgc_alloc.specs.{AllocState.AllocState, AllocState.Cells, AllocState.Exists, AllocState.HoldsKept, AllocState.IsIn, AllocState.IsTarget, AllocState.LiesIn, AllocState.NoneIs, AllocState.Opens, AllocState.PlacesName, AllocState.Sweeps, AllocState.SweepsEach, AllocState.SweepsSome, AllocState.all_empty, AllocState.all_retired, AllocState.cells, AllocState.cycle_begun, AllocState.name_in, AllocState.no_cells, AllocState.prepared_state, AllocState.restated, AllocState.retired_state, AllocState.HasNumber, AllocState.Segments, AllocState.block_place, AllocState.is, AllocState.nth, AllocState.Shows, AllocState.StandsFor, Invariant.HasBlock, Invariant.IsAllocState, Invariant.LiesNowhere, Segments.IsSegments, laws.Cells.AllLie, laws.Cells.AllWait, laws.Cells.AreFreeEmpty, laws.Cells.all_swept, laws.Cells.begun_cells, laws.Cells.begun_names, laws.Cells.begun_once, laws.Cells.first_once, laws.Cells.free_empty, laws.Cells.none_some, laws.Cells.placed_back, laws.Cells.placed_free, laws.Cells.placed_has, laws.Cells.placed_keeps, laws.Cells.placed_once, laws.Cells.placed_waits, laws.Cells.placed_where, laws.Cells.retired_cells, laws.Cells.retired_names, laws.Cells.retired_once, laws.Cells.swept_back, laws.Cells.swept_here, laws.Cells.swept_keeps, laws.Cells.swept_once, laws.Cells.swept_other, laws.Cells.swept_state, laws.Cells.swept_was, laws.OneState.first_cells, laws.Sound.used_exists, laws.Steps.begun_sound, laws.Steps.first_sound, laws.Steps.placed_sound, laws.Steps.retired_sound, laws.Steps.swept_sound}
pub use Rattle.nmgc_stop_spec.specs.{Cycle.Cycle, Cycle.IsBlockPlace, Cycle.IsFirstPromoted, Cycle.IsKeptIn, Cycle.IsPlaceAtStop, Cycle.IsYoung, Cycle.PlacesEach, Cycle.PlacesObject, Kept.IsKeptObject, Kept.interval_of, Occupied.AreBlocks, Occupied.IsOccupied, Waiting.AreAsNoted, laws.Blocks.is_block, laws.Blocks.one_size}
pub use Rattle.nmgc_heap_spec.specs.{Objects.Place, Objects.shared_place, Changes.IsEarlier, Represents.NoNode, Represents.Represents, Tracked.IsTracked, laws.CommandLaws.closing_tracks, laws.CommandLaws.held_tracked, laws.CommandLaws.past_tracked, laws.CommandLaws.still_earlier, laws.CommandLaws.tracked_holds, laws.CommandLaws.world_is_earlier, laws.Roots.tracked_wide, laws.Tracking.tracked_more}
pub use Rattle.nmgc_journal.specs.{Text.kept_count, declared.report.CycleRow.CycleRow, declared.report.End.End, declared.report.End.TheVariants.Done, declared.report.End.TheVariants.HeapFull, declared.report.MutatorEnd.MutatorEnd, declared.report.Report.Report, declared.report.RoundRows.RoundRows, declared.report.StopRow.StopRow}
pub use Rattle.nmgc_limits.specs.{Limits.most_script_bytes, declared.mutators.TheConstants.SHARED_MAKER}
pub use Rattle.nmgc_lists.specs.laws.{Items.at_some, Items.contains_cases, Items.contains_head, Items.contains_tail, Items.is_some_of, Items.nothing_in, Options.not_none}
pub use Rattle.nmgc_object.specs.{Words.IsName, Words.block_size, Words.name_word, Words.nursery_place, declared.layout.Layout.Layout, declared.layout.TheConstants.SHARED_PLACE, laws.Classes.least_block as large, Words.reserve_count}
pub use Rattle.nmgc_run_laws.specs.{Course.CyclesBeginInCourse, Course.IsInCourse, Course.IsLastBegun, Course.IsStateInCourse, Course.PromotionsStayInCourse, Course.RoundsStayInCourse, Course.RunsAreInCourse, Course.WaitsWhole, Headers.RowsKeepHeaders, Limits.IsWithinLimits, Limits.RoundsAreWithin, Limits.ScriptsHaveGoodPlans, Limits.StatesAreWithin, Places.BlocksAfterRound, Places.BlocksAtStop, Sound.AreSoundBlocks, Sound.IsAfterClosing, Sound.IsInCycle, Sound.IsOfSnapshot, Sound.IsRunnable, Sound.IsSoundState, Sound.LieKnown, Sound.RoundsAreSound, Sound.StatesAreSound, Sound.TrackedHaveBlocks, Sound.WaitKnown, Sound.left_of, Statements.ClosingsAreSoon, Statements.EachCycleHasItsRow, Statements.IsClosedSoon, Statements.LastIsOfTurn, Statements.LawfulAreOfRuns, Statements.LeftIsDetermined, Statements.RunGoesOn, Statements.AddsOneTurn, Statements.answered_count, Statements.last_free_count, Longer.MayGoOn, Longer.RowsAreOfLonger, Longer.RunsAreOfLonger, Longer.longer, Longer.longer_plan, Longer.longer_state, Longer.longer_turn, Statements.SerialsAreFew}
pub use Rattle.nmgc_run_spec.specs.{Run.Closes, Run.ClosesNow, Run.ClosesOrWaits, Run.IsForcedSoon, Run.IsSoon, Run.IsRound, Run.answered, Run.noted, Run.AreTurns, Run.IsRun, Run.IsTurn, Run.Run, Run.Stop, Run.AreRowsOf, Run.Turn, Run.last_state, Run.state_after, Run.ends_slice, Run.has_left, Run.rest_of, Run.slice, Run.slice_of, Run.slices, Run.Plan, Run.Progress, Run.State, Run.cycle_started, Run.free_count, Run.idle, Run.is_idle, Run.layout_of, Run.marking, Run.next_cycle, Run.plan_of, Run.start, Run.sweeping, Run.BeginsOrWaits, Run.DoesFullCycle, Run.EndsOrWaits, Run.Finishes, Run.IsCensus, Run.IsFullDue, Run.IsStop, Run.Proceeds, Run.Promotes, Run.answer_of, Run.is_short, Lawful.IsCrowded, Lawful.IsHeapFull, Lawful.IsRunOf, Lawful.LeavesHeapFull, Lawful.StopInRun, Lawful.last_after, Lawful.last_stop, Lawful.FitBlocks, Lawful.IsLawful, AfterRound.HoldsAfterRound, Heap.HoldsAtStop, AfterRound.IsBornPlace, Heap.snapshots, Terms.SweepsBeside, Terms.is_next, AfterRound.program_of, Terms.reserve_of, Terms.SweepsRest, Terms.is_done, Terms.with_all_retired, Run.IsHistory, Run.is_collect, Run.is_full, Terms.some_asks}
pub use Rattle.nmgc_script.specs.{Spelling.FitsScript, declared.script.Config.Config, declared.script.Script.Script, laws.Versions.segments_few, laws.Versions.threads_few, laws.Versions.total_few}
pub use Rattle.nmgc_segment.specs.declared.state.State.{State as Stands}
pub use Rattle.nmgc_world_laws.specs.{Limits.IsWithin, Reachable.CanReplay, Reachable.HoldsOnly, laws.Deaths.closed_mutators, laws.Deaths.closed_names, laws.Deaths.closed_serials, laws.Deaths.closed_world, laws.Distinct.no_more, laws.Distinct.one_count, laws.Growth.step_grows, laws.HeldSteps.absent, laws.HeldSteps.some_of, laws.Keeps.step_leaves_others, laws.LimitSteps.closing_keeps_limits, laws.LimitSteps.rows_keep_limits, laws.LiveRows.replayed_names, laws.LiveRows.world_after, laws.NewLimits.new_is_within, laws.NewWorlds.each_new, laws.NewWorlds.new_is_world, laws.NewWorlds.new_nodes, laws.Reached.from_there, laws.Reached.listed_cases as listed_or_not, laws.Reached.nothing_reachable_is_freed, laws.Reached.rows_hold, laws.Reached.wide_known, laws.Reached.world_holds, laws.Shapes.rows_keep_shapes, laws.StoredLaws.old_weaks_stay, laws.WorldSteps.step_keeps_world}
pub use Rattle.nmgc_world_spec.specs.{World.Fits, World.words_made, World.shared_name, World.step, World.World, World.new_mutator, World.new_world, World.no_mutator, World.node_of, World.serial_of, World.state_of, Known.HasRegisters, Reach.Row, Reach.replayed, Reach.rows_of, Reach.AreDistinct, Reach.Counts, Reach.IsBefore, Reach.IsInOrder, Reach.IsReached, Reach.Lists, Reach.RefersTo, Reach.closed, Reach.field, Reach.start as begins, Reach.IsWide, Known.CanApply, Known.IsWorld, declared.command.Command.Command, declared.command.Reply.Reply, declared.mutator_state.MutatorState.MutatorState, declared.node.Node.Node, declared.value.Name.Name, laws.Orders.in_order_first, laws.Orders.in_order_rest, laws.Orders.not_before_itself}
pub use Rattle.std.proofs.{Common.Bool, Common.List, Common.None, Common.Option, Common.Some, Common.[], Common.ap, Common.append-nil, Common.append_assoc, Common.arith, Common.cond, Common.drop, Common.eqb, Common.false, Common.get_or, Common.inl, Common.inr, Common.length, Common.length-append, Common.map, Common.not, Common.refl, Common.slice_index_or, Common.subst, Common.suc, Common.sym, Common.take, Common.true, Common.zero, Common.zero-add, Common.ℕ, Common.◌*◌, Common.◌++◌, Common.◌+◌, Common.◌-◌, Common.◌/◌, Common.◌<◌, Common.◌^◌, Common.◌↔◌, Common.◌∙◌, Common.◌∷◌, Common.◌≡◌, Common.◌≢◌, Common.◌≤◌, Common.◌⊎◌, Math.ListN.get_or-eq_default, Math.ListN.get_or-map, Math.ListN.length-replicate, Math.Nat.div-eq_of_lt, Math.Nat.le-div_iff_mul-le, Math.Nat.lt-div-mul-add, Math.Seq.drop-append-le, lemmas.Bool.lt-ltb}
pub use Rattle.std.proofs.lemmas.{Bool.cases_eq, Bool.cases_lt, Bool.ltb-true, Bool.ne_eqb, Bool.Decides.eqb_tells, List.drop-drop, List.get_or-set_other, List.get_or-set_same, List.get_or_past, List.length-drop, List.length-map, List.map-append, List.take_all, List.Elements.All-append, List.Elements.All-cons, List.Elements.All-drop, List.Elements.All-get_or, List.Elements.All-head, List.Elements.All-nil, List.Elements.All-tail, List.Elements.All-weaker, List.Sums.sum_by-cons, List.Sums.sum_by_more, Option.slice_get_within}
pub use Rattle.std.specs.Prelude.{All, Contains, IsSome, flat_map, if◌then◌else◌, nat_lt, slice_get, slice_index, sum_by, ◌&&◌, ◌||◌}
