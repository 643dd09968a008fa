-- All names of std, of the crates below and of this crate's definitions that the proofs use.
pub use Rattle.nmgc_alloc.specs.{AllocState.AllocState, AllocState.Cells, AllocState.IsIn, AllocState.LiesIn, AllocState.NoneIs, AllocState.SweepsEach, AllocState.SweepsSome, AllocState.all_empty, AllocState.all_retired, AllocState.cells, AllocState.cycle_begun, AllocState.name_in, AllocState.no_cells, AllocState.retired_state, AllocState.prepared, AllocState.Segments, AllocState.block_place, AllocState.is, AllocState.nth, AllocState.StandsFor, Invariant.HasBlock, AllocState.carried_over, CycleSteps.retired, Segments.HasNone, Segments.IsCurrent, Segments.IsMember, Segments.IsSegments, Segments.IsWaiting, Segments.all_free, Settled.AreSettled, laws.Cells.begun_names, laws.Cells.retired_cells, laws.Cells.retired_names, laws.Common.prepared_current, laws.Common.prepared_in, laws.Keeping.carried_stands, laws.Keeping.counts_stand, laws.Numbers.nth-map, laws.Numbers.nth_free, laws.OneState.first_cells, laws.OneState.first_stands, laws.Sweeping.none_to_sweep, laws.Turning.prepared_stands, laws.Turning.retired_stands}
pub use Rattle.nmgc_stop_spec.specs.{Cycle.Cycle, Cycle.IsKeptIn, Cycle.IsPlaceAtStop, Cycle.IsPromoted, Cycle.PlacesEach, Kept.IsKeptObject, Kept.interval_of, Nurseries.AreEmpty, Nurseries.AreUsed, Nurseries.LieInOrder, Nurseries.nursery_at, Occupied.AreBlocks, Occupied.KeepsMarks, Remembers.Remembers, Stopped.IsRoundOf, Stopped.IsSettled, Stopped.IsStopped, Stopped.Stopped, Stopped.young_base, laws.Blocks.is_block}
pub use Rattle.nmgc_collector_laws.specs.{Calls.AddIsMarking, Calls.SnapshotIsMarking, Closes.ClosingIsPaced, Closes.ClosingIsSoon, Collector.AreAtRest, Collector.AreNurseries, Collector.EachMutator, Collector.HasReserve, Collector.HoldsInCycle, Collector.IsAfterRound, Collector.IsAtStop, Collector.IsEmptied, Collector.IsMarking, Collector.IsPacedAfterRound, Collector.IsPacedAtStop, Collector.Matches, CycleCloses.HasClosed as IsClosedBy, Drops.DropsFreed, Drops.FreesUntracked, Drops.StopFreesUntracked, Drops.SweptHoldsAtStop, Heaps.AreShown, Heaps.HeapRests, Heaps.IsRoundFrom, Heaps.MarkedHolds, Joins.HaveJoinedList, Joins.HaveMoved, Joins.IsAliveAt, Joins.JoinersAreNew, Joins.JoiningLists, Joins.weak_header, Keeps.HasLeft, Keeps.PaceAtStop, Keeps.PaceBegins, Keeps.Scans, Keeps.ShowEntries, Marker.IsCoreOf, Owed.gathered, Prepares.StopBegins, Prepares.StopIsPrepared, Prepares.all_prepared, Resolves.ClosedCycleSweeps, Resolves.ClosedHolds, Resolves.FinalisersInHand as HaveJoinedInRun, Resolves.FinishMayResolve, Resolves.IsClosingOf, Resolves.IsStopOf, Resolves.ResolveCloses, Resolves.ShowsDeaths, Resolves.closed_state, Resolves.finished_on, Resolves.stop_opening, Rest.IsAtRest, Rest.IsResting, RestMarking.IsAtRestMarking as RestsBeside, RestMarking.IsMachineAtRest, RestMarking.opening_beside, RestMarking.with_rows, Seen.CollectorSeen, Seen.MutatorSeen, Seen.end_of, Seen.ends_of, Seen.finalised_in, Seen.nurseries_of, Seen.recorded_in, Seen.young_weaks_in, Sweeps.HasPlaced, Sweeps.MarkedWait, Sweeps.all_carried, Tie.CoreHasSnapshot, Tie.RoundBeginsTied, Turn.RoundIsHistory, Turn.RoundIsStopped, Turn.RoundListsFinalised, Turn.SlicesAreDone, Turn.SlicesAreGathered, Turn.stop_after, Worked.Done, Worked.HaveWorked, Worked.ListsFinalised, Worked.finalised_of, Worked.recorded_of, laws.Longer.stops_are_of_longer}
pub use Rattle.nmgc_collector_laws.specs.laws.Remembering.{round_is_remembered}
pub use Rattle.nmgc_cycle.specs.{Asking.CanAsk, Asking.CanAskAll, Asking.HasAskedOn, Asking.HaveAskedAll, Bound.AreFew, Bound.AreFewAtStop, Bound.AreFewBeforeStop, Bound.HasMore, Bound.MayFollow, Bound.NoneIsDue, Bound.commands, Bound.cycle_most, Bound.heap_of, Bound.left_from, Bound.most_stops, Bound.no_cycle, Bound.one_cycle, Bound.phase_left, Cycles.AddsTo, Cycles.Begins, Cycles.Begins as BeginsThen, Cycles.CanAdd, Cycles.CanBegin, Cycles.CanClose, Cycles.CanHelp, Cycles.Closes, Cycles.Ends, Cycles.HasAdded, Cycles.HasClosed, Cycles.HasHelped, Cycles.HasScanned, Cycles.HasStarted, Cycles.HasStood, Cycles.HasSweptSome, Cycles.HasTaken, Cycles.IsClosed, Cycles.IsDue, Cycles.IsReadyToClose, Cycles.MarksOn, Cycles.StartsMarking, Cycles.next_epoch, Cycles.remembered_by, Cycles.row_of, Cycles.swept_beside, Cycles.upper_worked_on, Cycles.worked_on, Full.CanCloseNow, Full.CanSweepRest, Full.ClosesNow as ClosesNowBy, Full.HasDoneFull, Full.HasFinished, Full.HasSweptAll, Full.HasSweptRest, Full.IsFullDue as IsDueBy, Full.Proceeds as ProceedsThen, Full.SweepsRest as SweepsRestBy, Full.with_all_retired as filed_by, FullLaws.CloseNowReady, FullLaws.FilingLeads, FullLaws.FinishLeads, FullLaws.FinishingNowLeads, FullLaws.FullLeads, FullLaws.ProceedingLeads, FullLaws.StandsAtStop, FullLaws.SweepRestReady, FullLaws.SweepingRestLeads, Keeps.CanStop, Keeps.DidRound, Keeps.HasAnswered, Keeps.HasEnded, Keeps.HasStopped, Keeps.HasWorked, Keeps.IsAfterStop, Keeps.IsFresh, Keeps.IsOwn, Keeps.IsWellFormed, Keeps.NothingReachableIsFreed, Keeps.StopsAfter, Keeps.Sweeps, Lined.AnyLine, Lined.HasForgotten, Lined.HasMetSender, Lined.HaveForgotten, Lined.HaveForgottenSoFar, Lined.HaveLines, Lined.HaveMet, Lined.IsLined, Lined.IsPaired, Lined.RememberInOrder, Listed.AreMovedInside, Listed.CanJoin, Listed.FinalisedAreListed, Listed.FinalisedLeft, Listed.FinalisersQueued, Listed.HasQueueRoom, Listed.HaveQueueRoom, Listed.HaveQueues, Listed.MovedJoined, Listed.count_made_by, Listed.is_alive_at, Listed.listed_move, Listed.moved_weaks, Listed.no_queue, Observed.AlternateFrom, Observed.AreEventsOf, Observed.AreNumbered, Observed.FailedRun, Observed.FailedStop, Observed.HandsOn, Observed.IsInRun, Observed.KeepsEvent, Observed.Observed, Observed.ObservedPart, Observed.ObservedPrograms, Observed.but_last, Observed.each_event, Observed.no_event, Observed.ObservedRun, Observed.ObservedStop, Observed.cycles_in, Observed.rounds_in, Observed.stop_follows, Observed.stops_in, Programs.AreListed, Programs.CanContinue, Programs.Continues, Programs.DidAsk, Programs.FollowEach, Programs.GaveEach, Programs.GaveSome, Programs.HasNoCommands, Programs.HasRunPrograms, Programs.HaveAskRoom, Programs.MayBeAsked, Programs.MayBeLonger, Programs.MayRun, Programs.SomeGives, Programs.all_replies, Programs.longer_script, Programs.most_at, Programs.most_total, Programs.replies_to, Programs.script_of, Programs.threads_of, Roots.HasRegisters, Roots.promoted_by, Roots.queues_in, RoundLaws.HasOpeningLaws, RoundLaws.HasRoundLaws, RoundLaws.HasSliceLaws, RoundLaws.MutatorsAreReady, Shown.HasNamesOnce, Shown.cycle_in, Shown.died, Shown.is_marking_in, Shown.marker_in, Shown.mutator_turns_of, Shown.phase_in, Shown.report_of, Shown.seen, Shown.seen_mutator, Shown.sweeper_in, Shown.report_cycles, Shown.report_row, Shown.turns_by, Shown.turns_in, Shown.turns_of, Shown.upper_turns_by, Shown.upper_turns_of, Shown.words_in, Shown.work_in, SoFar.AreParked, SoFar.GaveMore, SoFar.RunHasEnded, SoFar.IsReportOf, SoFar.IsRunSoFar, SoFar.MayGoOnWith, SoFar.MayReplace, SoFar.ObservedSince, SoFar.StandsAfterStop, SoFar.StandsBeforeStop, SoFar.joined, SoFar.no_done, SoFar.nothing_given, SoFar.script_so_far, SoFar.total_of, Steps.AddingLeads, Steps.BeginReady, Steps.BeginningLeads, Steps.CloseReady, Steps.ClosingLeads, Steps.EndLeads, Steps.FinishingLeads, Steps.HasOnlyEntries, Steps.IsPacedPromoted, Steps.IsPacedWithin, Steps.StandsAt, Steps.StandsForState, Steps.StandsPromoted, Steps.StandsWithin, Steps.StartingLeads, StopLaws.HasPromotionLaws, StopLaws.HasStopLaws, Stopping.CanList, Stopping.HasListed, Stopping.HasPromoted, Stopping.IsDone, Stopping.IsHeapFullAt, Stopping.SomeIsLeft, Stopping.StandsStopped, Stopping.ended_by, Stopping.moved_names, Stopping.moves_of, Stopping.young_weaks_of, Working.AreReserved, Working.DidSlice, Working.DidSlices, Working.HasLists, Working.HasWorkedOn, Working.HaveAllWorked, Working.HaveTried, Working.OpensAt, Working.OpensIn, Working.asks_full_of, Working.asks_of, Working.cleared, Working.commands_in, Working.done_by, Working.in_blocks, Working.is_asking, Working.is_asking_full, Working.left_at, Working.mutator_of, Working.replies_of, Working.seat_of, Working.worker_of, Working.workers_of, Open.MayBeScript, Programs.HasEndedItself, Programs.MayComeAfter, Observed.AreEventsFrom, Observed.FailedFrom, Observed.ObservedFrom, Observed.ObservedRest, Observed.each_further, Observed.last_failed, SoFar.HasDoneRound, SoFar.HasDoneStop, SoFar.IsRoundOrNone, SoFar.further, SoFar.stays, SoFar.IsContinued, SoFar.IsContinuedTo}
pub use Rattle.nmgc_cycle.specs.declared.{collector.Collector.Collector, command_queue.CommandQueue.CommandQueue, observer.Event.Event, observer.KeptRows.KeptRows, program_run.ProgramRun.ProgramRun, progress.Marking.Marking, progress.Progress.Progress as Doing, progress.Sweeping.Sweeping, session.Session.Session, stop.StopEnd.StopEnd, worker.Worker.Worker}
pub use Rattle.nmgc_heap_spec.specs.{Changes.AreEarlier, Emptied.emptied, Moves.Copies, Moves.Moved, Moves.new_place, Moves.old_place, Moves.settled, Objects.ListMeans, Objects.Place, Objects.shared_place, Objects.header_of, Objects.size_of, Changes.IsEarlier, Represents.NoNode, Represents.Represents, Roots.ListsWeaks, Roots.RepresentsRoots, Tracked.IsTracked, laws.CommandLaws.closing_keeps_earlier, laws.CommandLaws.closing_tracks, laws.CommandLaws.world_is_earlier, laws.Kinds.map_item, laws.Moving.settled_cases, laws.Moving.settled_comes, laws.Roots.tracked_wide, laws.Roots.wide_tracked}
pub use Rattle.nmgc_journal.specs.{contracts.report.Phase.the_type, declared.report.CycleRow.CycleRow, declared.report.End.End, declared.report.End.TheVariants.HeapFull, declared.report.MutatorEnd.MutatorEnd, declared.report.Phase.Phase, declared.report.Phase.TheVariants.Idle, declared.report.RoundRows.RoundRows, declared.report.StopRow.StopRow, declared.report.Report.Report}
pub use Rattle.nmgc_limits.specs.{Limits.most_slice, declared.mutators.TheConstants.MAKERS, declared.mutators.TheConstants.REGISTERS, declared.mutators.TheConstants.SHARED_MAKER, declared.mutators.TheConstants.SHARED_SLOTS}
pub use Rattle.nmgc_lists.specs.{Room.Room, laws.Items.contains_cases, laws.Items.contains_filter as filter_keeps, laws.Items.contains_flat, laws.Items.contains_head, laws.Items.contains_map, laws.Items.contains_tail, laws.Items.filter_contains as filter_had, laws.Items.flat_contains, laws.Items.is_some_of, laws.Items.item, laws.Items.item_map, laws.Items.map_contains, laws.Items.nothing_in, laws.Items.of_item, laws.Items.place_of as place_in, laws.Items.slice_get-append_last as last_item, laws.Items.slice_get-set_other as set_other, laws.Items.slice_get-set_same as set_here, laws.Items.some_wait, laws.Truths.eq_true as true_eq, laws.Truths.or_second as or_true}
pub use Rattle.nmgc_mark.specs.{Beginning.IsBeginning, Beginning.IsPrepared, Beginning.most_blocks, Marker.HasMarked, Marker.HasRoomToMark, Marker.StandAsBefore, Marker.blank, Seen.MarkerSeen, Seen.WorkSeen, Stopped.IsReady, Tie.IsTied, Tie.IsTied as IsTiedByPlaces, Tie.with_places, Work.marks_seen, declared.marker.Work.Work}
pub use Rattle.nmgc_minor.specs.{Placing.moved_of, Promotion.IsFor, Start.words_of, declared.placing.Move.Move, laws.Common.names_twice as names_moved}
pub use Rattle.nmgc_mutator.specs.{Does.HasDone, Does.IsYield, Does.remembered, Programs.Follows, Programs.Gives, Ready.IsNew, Ready.IsUnused, Ready.IsWhole, Ready.Reserves, Ready.words_by, Records.numbers, Records.numbers as numbers_of, Slice.Ended, Slice.GoesOn, Slice.IsLast, Slice.tried, declared.mutator.Mutator.Mutator, declared.mutator.SliceEnd.SliceEnd, declared.mutator.TheConstants.MOST_PUSHED, laws.Common.none_known as none_noted, laws.Common.reserved, laws.Refilled.refill_all}
pub use Rattle.nmgc_name_lists.specs.laws.Order.{ordered_once}
pub use Rattle.nmgc_object.specs.{FinQueue.FinQueue, Words.InSegment, Words.nursery_place, Words.reserve_count, Words.word_total, Words.block_size, Words.header_word, Words.name_word, Layouts.IsLayout, declared.layout.Layout.Layout, declared.layout.Nursery.Nursery, declared.layout.TheConstants.FIRST_PLACE, declared.layout.TheConstants.SHARED_PLACE, declared.size.TheConstants.HEADER_WORDS, declared.size.TheConstants.MIN_BLOCK_WORDS, declared.size.TheConstants.NAME_OFFSET, declared.words.Address.Address, declared.words.Header.Header, declared.words.TheConstants.NIL_WORD, laws.Common.in_segment_low as segment_low}
pub use Rattle.nmgc_round.specs.{Empty.empty_array, Empty.first_opening, Events.rows_in, Finishing.HasAll, Finishing.IsFinished, Finishing.Leaves, Finishing.places_then, Gate.passed, Marking.Marks, Marking.marks_after, Marking.marks_of, Marking.name_at, Marking.with_name, Naming.AllReply, Objects.earlier, Rule.now, Seat.IsAt, Seat.RoundSeat, Seat.opening_of, Seat.seen as seat_seen, Seating.all_together, Seating.alone, Seating.alones, Seating.collecting, Starting.CanOpen, View.DoneRow, View.FixedWord, View.Hand, View.Opening, View.Part, View.Scan, View.Seen, View.Seen as View, View.hand_of, View.no_hand, View.whole, declared.table.Round.Round, laws.Common.alones_count}
pub use Rattle.nmgc_run_laws.specs.{Course.CyclesBeginInCourse, Course.IsInCourse, Course.IsLastBegun, Course.IsStateInCourse, Limits.FitsRun, Limits.HasGoodPlan, Limits.most_commands, Places.BlocksArePlaces, Sound.AreSoundBlocks, Sound.IsAble, Sound.IsInCycle, Sound.IsOfSnapshot, Sound.IsRunnable, Sound.IsSoundRound, Sound.IsSoundState, Sound.LieKnown, Sound.WaitKnown, Statements.answered_count, laws.Closings.one_more, laws.Common.places_low, laws.Course.SameWait, laws.Course.all_placing_waits, laws.Course.none_retired as none_then, laws.Course.promotions_stay, laws.Course.rounds_stay, laws.Course.runs_are, laws.Crowding.few_in_each, laws.Crowding.in_limits_fit, laws.Crowding.lawful_are_of_runs, laws.Crowding.runnable_of, laws.Filing.begun_filed, laws.Filing.each_filed, laws.Filing.places_filed, laws.Filing.retired_filed, laws.Lefts.left_is_determined, laws.Lefts.round_left, laws.Lefts.slice_count, laws.Lefts.stop_left, laws.Limits.scripts_have_good_plans, laws.Places.block_used, laws.Places.blocks_at_stop, laws.Programs.slice_few, laws.Runs.opening_worked, laws.Runs.rounds_are_sound, laws.Runs.start_programs, laws.Runs.states_are_sound, laws.States.known_then, laws.Stops.young_fresh, laws.Sweeps.each_lie, laws.Sweeps.each_waits, laws.Sweeps.sweeps_keep, laws.Tracks.tracked_fewer, laws.Tracks.tracked_itself, laws.Tracks.tracked_known, laws.Turns.last_is_of_turn, laws.Turns.a_run_takes_a_further_round, laws.Turns.one_more_turn, laws.Ends.stop_is_lawful, Longer.MayGoOn, Longer.longer, Longer.longer_plan, Longer.longer_run, Longer.longer_state, laws.Longer.count_longer, laws.Longer.layout_longer, laws.Longer.runs_are_of_longer, laws.SerialRuns.serials_are_few}
pub use Rattle.nmgc_run_spec.specs.{Run.ClosesNow, Run.ClosesOrWaits, Run.IsForcedSoon, Run.IsSoon, Run.IsRound, Run.answered, Run.noted, Run.AreTurns, Run.IsRun, Run.IsTurn, Run.Run, Run.AreRowsOf, Run.Turn, Run.last_state, Run.state_after, Run.ends_slice, Run.has_left, Run.is_collect, Run.is_full, Run.rest_of, Run.slice, Run.slice_of, Run.slices, Run.Plan, Run.Progress, Run.State, Run.cycle_started, Run.free_count, Run.free_count as run_free, Run.idle, Run.is_idle, Run.layout_of, Run.marking, Run.next_cycle, Run.phase_of, Run.plan_of, Run.start, Run.sweeping, Run.BeginsOrWaits, Run.DoesFullCycle, Run.EndsOrWaits, Run.Finishes, Run.IsCensus, Run.IsCycleDue, Run.IsFullDue, Run.IsStop, Run.IsSwept, Run.Proceeds, Run.Promotes, Run.answer_of, Run.is_short, Run.stop_row, Lawful.FitBlocks, Terms.HasAllRegisters, Heap.HeapStandsFor, AfterRound.HoldsAfterRound, Heap.HoldsAtStop, Terms.queues_of, Terms.registers_of, Terms.serials_of, Heap.snapshots, Terms.SweepsBeside, Terms.own_rows, AfterRound.with_turn, Terms.is_next, AfterRound.program_of, Terms.some_asks, Terms.reserve_of, Terms.waiting_count, Terms.SweepsRest, Terms.is_done, Terms.with_all_retired, AtStop.IsLawfulAtStop, Lawful.IsRunOf}
pub use Rattle.nmgc_script.specs.{declared.script.Config.Config, declared.script.Script.Script, laws.Versions.segments_few, laws.Versions.threads_few, laws.Versions.total_few}
pub use Rattle.nmgc_segment.specs.{Marks.IsEpoch, Marks.epoch_of, Segment.Segment, Segment.free_segment, Segment.mark_of, laws.Common.epoch_sound}
pub use Rattle.nmgc_snapshot_laws.specs.State.{State as Core, newest_first, opening_in, unmarked}
pub use Rattle.nmgc_sweep.specs.{NameTable.AreNamed, NameTable.HaveEntries, NameTable.HaveNoted, NameTable.entry_of, NameTable.named_at, Statements.ClosingBeginsWork, Statements.EndShowsCensus, Statements.IsClosedNow, Statements.KeepsWaiting, Statements.LeftIsCounted, Statements.LeftStays, Statements.StartNotesSegments, Statements.ShowsCensus, Sweeper.AreLeft, Sweeper.HasNotes, Sweeper.Sweeper, Sweeper.turned, Sweeping.IsSweeping, Work.HasBegun, Work.IsAtWork, laws.NameTable.low_entry, laws.NameTable.named_begun, laws.NameTable.named_first, laws.NameTable.named_noted, laws.NameTable.named_retired, laws.NameTable.named_swept, laws.NameTable.one_noted}
pub use Rattle.nmgc_updrem.specs.{Lines.Clears, Lines.HasMetSo, Lines.IsLevelSo, Lines.TakesRestSo, Rings.AreNew, Rings.AtLine, Rings.HasLooked, Rings.HasPolled, Rings.HavePolled, Rings.IsLine, Rings.IsPair, Rings.Receiver, Rings.Sender, Rings.in_ring, declared.block.TheConstants.BLOCK_ENTRIES, declared.ring.TheConstants.RING_BLOCKS, laws.Lines.line_goes_on, laws.Lines.line_is, laws.Lines.new_line, laws.Polls.at_polled, laws.Polls.polled_all_none, laws.Polls.polled_all_then}
pub use Rattle.nmgc_weak.specs.{Closes.DeathsHaveRoom, Closes.LeavingLists, Queues.HaveRoom, Queues.weak_count, Resolve.AreDeaths, Resolve.CanResolve, Resolve.HasResolved, Rows.left_of, Weaks.Weaks, Weaks.alive_of, Weaks.is_alive, Weaks.names_of, Weaks.place_of, Weaks.places_of, Weaks.value_place, declared.weaks.Death.Death, declared.weaks.OldWeak.OldWeak, laws.Common.names_same, laws.Common.of_place as of_places, laws.Left.left_both, laws.Left.left_had, laws.Left.left_is_alive, laws.Left.left_more}
pub use Rattle.nmgc_world_laws.specs.{Reachable.IsSound, laws.Deaths.closed_mutators, laws.Deaths.closed_names, laws.Deaths.closed_serials, laws.Deaths.closed_world, laws.HeldSteps.absent, laws.NewWorlds.each_new, laws.NewWorlds.new_is_world, laws.NewWorlds.new_nodes, laws.NodeLaws.get-append_cases, laws.Reached.world_holds, laws.Weaks.not_array as no_weak, laws.Weaks.weak_maker, laws.Worlds.refill_whole}
pub use Rattle.nmgc_world_spec.specs.{World.Fits, World.words_made, World.shared_name, World.World, World.new_mutator, World.new_world, World.node_of, World.serial_of, Reach.IsLegal, Reach.IsOrderOf, Reach.Row, Reach.replayed, Reach.rows_of, Reach.Ascends, Reach.Counts, Reach.IsAlive, Reach.IsAliveWeak, Reach.IsBefore, Reach.IsInOrder, Reach.closed, Known.IsWorld, declared.command.Command.Command, declared.command.Command.TheVariants.Collect, declared.command.Command.TheVariants.Full, declared.command.Command.TheVariants.Yield, declared.command.Reply.Reply, declared.mutator_state.MutatorState.MutatorState, declared.node.Node.Node, declared.node.Node.TheVariants.Arr, declared.node.Node.TheVariants.Con, declared.node.Node.TheVariants.Stack, declared.node.Node.TheVariants.Thunk, declared.node.Node.TheVariants.Var, declared.node.Node.TheVariants.Weak, declared.node.Parts.Parts, declared.value.Name.Name, declared.value.Value.Value, declared.value.Value.TheVariants.Nil, laws.Orders.in_order_cons, laws.Orders.in_order_first, laws.Orders.in_order_rest, World.HasRegistersBelow}
pub use Rattle.std.proofs.{Common.Bool, Common.Global, Common.IsTrue, Common.List, Common.None, Common.Option, Common.Some, Common.[], Common.add-one, Common.ap, Common.append-nil, Common.append_assoc, Common.arith, Common.cond, Common.drop, Common.drop-cons, Common.eqb, Common.false, Common.get_or, Common.inl, Common.inr, Common.length, Common.length-append, Common.length-set, Common.map, Common.min, Common.mul-le-mul_right, Common.refl, Common.replicate, Common.rules, Common.set, Common.slice_index, Common.slice_index_or, Common.subst, Common.suc, Common.sym, Common.take, Common.true, Common.vec_capacity, Common.vec_len, Common.zero, Common.ℕ, Common.◌*◌, Common.◌++◌, Common.◌+◌, Common.◌-◌, Common.◌<◌, Common.◌^◌, Common.◌↔◌, Common.◌∙◌, Common.◌∷◌, Common.◌≡◌, Common.◌≢◌, Common.◌≤◌, Common.◌⊎◌, Math.ListN.get_or-map, Math.ListN.length-replicate, Common.take_at, Math.Seq.drop-append-le, lemmas.List.take-append-drop, lemmas.Option.slice_get_read, Common.drop_at}
pub use Rattle.std.proofs.lemmas.{Bool.and_parts, Bool.cases_eq, Bool.cases_lt, Bool.eq-eqb, Bool.false≢true, Bool.le-leb, Bool.le-ltb, Bool.lt-ltb, Bool.ltb-false, Bool.ltb-true, Bool.ne_eqb, Grind.common_steps, Grind.flat_map-append, List.Sums.sum_by-cons, List.append_cancel_left, List.drop-drop, List.drop_all, List.get_or-append-add, List.get_or-append_right, List.get_or-replicate, List.get_or-set_other, List.get_or-set_same, List.get_or_append_left, List.get_or_default, List.get_or_past, List.length-drop, List.length-map, List.length-take-le, List.map-append, List.nil_from_length, List.set-get_or, List.set-set, List.take_all, List.take_more, List.with_items_is, List.Edits.map_over_more, List.Elements.All-append, List.Elements.All-cons, List.Elements.All-drop, List.Elements.All-get_or, List.Elements.All-head, List.Elements.All-nil, List.Elements.All-replicate, List.Elements.All-tail, List.Elements.Contains-get_or, List.Folds.Any-from_list_any, List.Folds.list_any_at, List.Sums.count_by-le-length, List.Sums.length-filter, List.Sums.sum_by-cons, Option.get_or_from_slice_get, Option.slice_get-get_or, Option.slice_get-map, Option.slice_get_within, Result.IfOk-weaker, Result.on_ok_weaker}
pub use Rattle.std.specs.{List.flat_map, List.list_any, List.refill, Prelude.All, Prelude.Contains, Prelude.Err, Prelude.IfSome, Prelude.IsSome, Prelude.Ok, Prelude.OnErr, Prelude.OnOk, Prelude.Result, Prelude.count_by, Prelude.filter, Prelude.if◌then◌else◌, Prelude.is_some, Prelude.nat_le, Prelude.nat_lt, Prelude.not, Prelude.option_map, Prelude.slice_get, Prelude.slice_set, Prelude.sum_by, Prelude.◌&&◌, Prelude.◌/◌, Prelude.◌==◌, Prelude.◌||◌, Vec.with_items, VecDeque.deque_capacity, VecDeque.deque_len, declared.vec.Vec.Vec, Prelude.IfNone, Prelude.IfOk, Prelude.option_to_list}
pub use denote.Enum.Bare.{same_false, same_true}
unfoldable pub use Rattle.nmgc_cycle.specs.Bound.{commands_left}
