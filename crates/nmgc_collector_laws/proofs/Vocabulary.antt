-- The names of std, of the crates below and of this crate's definitions that the proofs use.
pub use Rattle.nmgc_alloc.specs.{AllocState.AllocState, AllocState.AreNames, AllocState.Cells, AllocState.Exists, AllocState.HoldsKept, AllocState.IsFull, AllocState.IsIn, AllocState.IsOf, AllocState.IsOne, AllocState.IsTarget, AllocState.LiesIn, AllocState.NoneIs, AllocState.PlacesName, AllocState.Sweeps, AllocState.SweepsEach, AllocState.all_empty, AllocState.cells, AllocState.count_in, AllocState.cycle_begun, AllocState.name_in, AllocState.no_cells, AllocState.with_cells, AllocState.prepared, AllocState.HasNumber, AllocState.Segments, AllocState.block_place, AllocState.is, AllocState.nth, AllocState.Shows, AllocState.StandsFor, Invariant.HasBlock, Blocks.IsMarkedAt, Blocks.IsSnapshotAt, Blocks.IsUsedAt, AllocState.carried_in, AllocState.carried_over, Segments.IsBlockAt, Segments.IsSegments, Segments.IsWaiting, Settled.AreSettled, Settled.IsSettledByte}
pub use Rattle.nmgc_alloc.specs.laws.{Apart.lies_in, Apart.same_block, Blocks.Carries, Blocks.Within, Blocks.carried_at, Blocks.marked_within, Blocks.prepared_snapshot, Blocks.snapshot_within, Cells.AreFreeEmpty, Cells.begun_cells, Cells.begun_names, Cells.free_empty, Cells.none_some, Cells.placed_free, Cells.placed_size, Cells.placed_stays, Cells.placed_where, Cells.swept_back, Cells.swept_other, Numbers.nth-map, OneState.first_cells as all_free, Placing.free_or_not, Placing.inside, Sound.stands_sound, Sound.used_exists, Turning.prepared_stands}
pub use Rattle.nmgc_stop_spec.specs.{Cycle.Cycle, Cycle.IsBlockPlace, Cycle.IsDeadIn, Cycle.IsKeptIn, Cycle.IsPlaceAtStop, Cycle.IsPromoted, Cycle.IsYoung, Cycle.PlacesEach, Cycle.PlacesObject, Kept.IsKeptObject, Kept.interval_of, Nurseries.AreUsed, Nurseries.LieInOrder, Nurseries.nursery_at, Occupied.AreBlocks, Remembers.Remembers, Stopped.IsRoundOf, Stopped.IsSettled, Stopped.IsStopped, Stopped.Stopped, Stopped.young_base, laws.Blocks.is_block}
pub use Rattle.nmgc_collector_laws.specs.{Blocks.AreOfBlocks, Blocks.TiesAgree, Calls.AddIsMarking, Calls.RoundIsMarking, Calls.SnapshotIsMarking, Calls.all_entries, Closes.ClosingComes, Closes.ClosingIsPaced, Closes.ClosingIsSoon, Collector.AreAtRest, Collector.EachMutator, Collector.IsMarking, CycleCloses.CycleCloses, CycleCloses.CycleMayResolve, CycleCloses.HasClosed, Drops.DropKeepsRound, Drops.DropsFreed, Drops.FreeGrows, Drops.FreesUntracked, Drops.RoundFreesUntracked, Drops.StopFreesUntracked, Drops.SweptHoldsAfterRound, Drops.SweptHoldsAtStop, Heaps.AreShown, Heaps.HeapRests, Heaps.IsRoundFrom, Heaps.MarkedHolds, Heaps.RoundHolds, Heaps.seen_mutator, Joins.FewerListed, Joins.HaveJoinedList, Joins.HaveMoved, Joins.IsAliveAt, Joins.JoinersAreNew, Joins.JoiningLists, Joins.weak_header, Keeps.HasLeft, Keeps.NoneRemember, Keeps.PaceAfterRound, Keeps.PaceAtStop, Keeps.PaceBegins, Keeps.PromotionKeepsMarking, Keeps.ShowEntries, Marker.AreAt, Marker.AreMarked, Marker.AreRemembered, Marker.IsCoreOf, Marker.IsRightSnapshot, Marker.IsRightSnapshot as IsRightByBlocks, Marker.IsTied, Marker.IsTied as IsTiedByBlocks, Marker.IsUnread, Owed.GoesOn, Owed.HaveOwed, Owed.MachineGoesOn, Owed.SlicesAreGathered, Owed.SlicesAreOwed, Owed.gathered, Prepares.StopBegins, Prepares.StopIsPrepared, Prepares.all_prepared, Resolves.ClosedCycleSweeps, Resolves.ClosedHolds, Resolves.FinalisersInHand, Resolves.FinishMayResolve, Resolves.IsClosingOf, Resolves.IsStopOf, Resolves.ResolveCloses, Resolves.closed_state, Resolves.finished_on, Resolves.stop_opening, Rest.IsAtRest, Rest.IsResting, Rest.hand_of, Rest.opening_at, RestMarking.IsAtRestMarking, RestMarking.IsMachineAtRest, RestMarking.RestOpens, RestMarking.opening_beside, RestMarking.with_rows, Samples.ObjectIsLawful, Samples.object_mutator, Samples.object_name, Samples.object_program, Samples.object_replies, Samples.object_segments, Samples.object_words, Samples.quiet_stop, Samples.small_heap, Samples.small_plan, Seen.CollectorSeen, Seen.MutatorSeen, Seen.end_of, Seen.ends_of, Stays.HasPromoted, Stays.places_after, Sweeps.HasPlaced, Sweeps.MarkedWait, Sweeps.PlacedWait, Sweeps.SettledStays, Sweeps.SweepingStays, Sweeps.all_carried, Tie.CoreHasSnapshot, Tie.RoundBeginsTied, Turn.BirthsAreInOrder, Turn.RootsAreLeft, Turn.RoundIsHistory, Turn.RoundIsRemembered, Turn.RoundIsStopped, Turn.RoundListsFinalised, Turn.stop_after, Worked.Done, Worked.HaveWorked, Worked.finalised_of, Worked.nurseries_of, Worked.queues_of, Worked.recorded_of, Worked.weaks_of}
pub use Rattle.nmgc_collector_laws.specs.laws.{Common.core_facts, Common.core_facts as facts_of, Gathered.own_part, Gathered.parts_are, Gathered.slice_at, Gathered.slices_gathered, Openings.opened_below, Placed.in_place, Placed.is_place, Placed.place_cases, Reading.item_found, Registers.HaveAll, Registers.all_mean, Registers.list_long, Registers.own_mean, Registers.registers_count, Remembering.round_is_forgotten, Replays.EventsAreHistory, Replays.can_replay, Replays.still_earlier, Replays.still_world, Workers.Worker, Workers.worker_at}
pub use Rattle.nmgc_heap_spec.specs.{Changes.AreEarlier, Changes.DropsPlaces, Moves.Copies, Moves.Moved, Moves.new_place, Moves.old_place, Objects.AllMean, Objects.Fills, Objects.HasSlots, Objects.LiesInSegment, Objects.LiesWell, Objects.ListMeans, Objects.Means, Objects.Place, Objects.shared_place, Objects.Slot, Objects.header_of, Objects.holds, Objects.size_of, Objects.slots_of, Objects.unset, Objects.unspecified, Changes.IsEarlier, Represents.IsNamed, Represents.IsObject, Represents.IsPlaced, Represents.NoNode, Represents.Represents, Roots.IsListedWeak, Roots.ListsWeaks, Roots.RepresentsRoots, Tracked.IsTracked, laws.Changes.places_dropped, laws.Changes.remembered, laws.CommandLaws.closing_keeps_earlier, laws.CommandLaws.held_tracked, laws.CommandLaws.past_tracked, laws.CommandLaws.world_is_earlier, laws.Kinds.item_all, laws.Kinds.item_right, laws.Kinds.map_item, laws.Moving.settled_cases, laws.Moving.settled_comes, laws.Moving.settled_stays, laws.Roots.list_in, laws.Roots.root_wide, laws.Roots.roots_dropped, laws.Roots.tracked_wide, laws.Roots.wide_tracked, laws.Slots.list_more, laws.Tracking.free_tracked, laws.Zeros.zeros_first}
pub use Rattle.nmgc_journal.specs.declared.report.MutatorEnd.{MutatorEnd}
pub use Rattle.nmgc_limits.specs.declared.mutators.TheConstants.{REGISTERS, SHARED_MAKER, SHARED_SLOTS}
pub use Rattle.nmgc_lists.specs.laws.{Items.at_some, Items.contains_at, Items.contains_cases, Items.contains_flat, Items.contains_head, Items.contains_map, Items.contains_one, Items.contains_tail, Items.flat_contains, Items.get_is_some, Items.is_some_get, Items.is_some_of, Items.item, Items.item_map, Items.map_contains, Items.nothing_in, Items.nothing_in as none_in, Items.one_is, Items.place_of as index_of, Items.slice_get-append as item_left, Items.slice_get-append_last as last_there, Items.some_wait as not_none, Options.not_none as not_there, Options.some_is}
pub use Rattle.nmgc_mark.specs.{Marker.HasRoomToMark, Seen.MarkerSeen, Stopped.AreScans, Stopped.HasFinished, Tie.AreApart, Tie.AreQueued, Tie.IsTied as IsTiedByPlaces, Tie.with_places, Work.marks_seen, laws.Common.places_apart}
pub use Rattle.nmgc_mutator.specs.{Does.remembered as remembered_of, Ready.IsUnused, Ready.LieFrom, Ready.words_by, Records.all_finalised, Records.all_pushed, Records.all_recorded, Records.all_weaks, Records.depth_of, Records.finalised_by, Records.is_old, Records.is_young, Records.noted_by, Records.numbers, Records.pushed_at, Records.recorded_at, Records.weaks_by, declared.mutator.Mutator.Mutator, laws.Common.none_known, laws.Common.old_odd as odd_word, laws.Common.old_word}
pub use Rattle.nmgc_object.specs.{FinQueue.FinQueue, Words.InNursery, Words.InSegment, Words.IsHeader, Words.IsName, Words.block_size, Words.header_word, Words.name_word, Words.nursery_place, Words.word_total, declared.layout.Layout.Layout, declared.layout.Nursery.Nursery, declared.layout.TheConstants.FIRST_PLACE, declared.layout.TheConstants.SHARED_PLACE, declared.size.TheConstants.HEADER_WORDS, declared.words.Header.Header, declared.words.TheConstants.NIL_WORD, declared.words.TheConstants.ZERO_WORD, laws.Classes.least_block, laws.Common.in_segment_low}
pub use Rattle.nmgc_round.specs.{Events.Happening, Events.IsLegal, Events.did, Events.done_by, Events.event_of, Events.replay, Events.rows_in, Events.scanned, Finishing.HasEach, Finishing.IsFinished, Finishing.IsKeptThen, Finishing.places_then, Marking.Marks, Marking.marks_after, Marking.marks_of, Marking.name_at, Marking.with_name, Naming.AllReply, Naming.Replies, Objects.IsLater, Objects.IsPlace, Objects.Object, Objects.earlier, Objects.free_of, Objects.place_of, Own.OwnSlots, Own.old_stacks, Own.slots_at, Rule.AllAnswer, Rule.Answers, Rule.AreOwed, Rule.IsHand, Rule.IsOpening, Rule.IsQueued, Rule.Owes, Rule.now, Seat.RoundSeat, Seat.seen, Seating.all_together, Seating.collecting, Seating.together, Starting.CanOpen, Starting.HandStands, View.Answer, View.DoneRow, View.DoneRow as OwnRow, View.FixedWord, View.Hand, View.Opening, View.Part, View.Scan, View.Seen, View.Seen as View, View.bearing, View.hand_now, View.leaves, View.no_hand, View.plain, View.popped, View.pushed, View.stacking, View.taking, View.whole, View.with_slots, View.word, View.word_of}
pub use Rattle.nmgc_round.specs.laws.{Common.marks_if, Common.plain_is, Common.plain_is as plain_answer, Common.same_count, Common.world_scanned, Gathering.same_opening, Gathering.still_collects, Slots.slots_other, Slots.slots_same}
pub use Rattle.nmgc_run_laws.specs.{Course.WaitsWhole, Sound.IsInCycle, Sound.IsSoundState, laws.Closings.one_more, laws.Closings.within_rounds, laws.Course.SameWait, laws.Course.all_placing_waits, laws.Course.still_noted, laws.CycleCounts.free, laws.Leaving.rows_keep_headers, laws.Places.block_used, laws.Places.blocks_at_stop, laws.Runs.rounds_are_sound, laws.Runs.states_are_sound, laws.Sweeps.sweeps_keep, laws.Tracks.tracked_before, laws.Tracks.tracked_itself}
pub use Rattle.nmgc_run_spec.specs.{Terms.IsStrongObject, Run.owed as owed_along, Run.answered, Run.IsRun, Run.Run, Run.last_state, Run.slices, Run.Plan, Run.Progress, Run.State as RunState, Run.cycle_started, Run.layout_of, Run.marking, Run.next_cycle, Run.sweeping, Run.IsCycleDue, Run.IsFullDue, Lawful.FitBlocks, Terms.HasAllRegisters, Heap.HeapStandsFor, AfterRound.HoldsAfterRound, Heap.HoldsAtStop, AfterRound.IsBornPlace, Terms.registers_of, Terms.serials_of, Heap.snapshots, Terms.SweepsBeside, Terms.own_rows}
pub use Rattle.nmgc_segment.specs.{Marks.IsEpoch, Segment.carried, Marks.epoch_of, Invariant.InSnapshot, Segment.InUse, Invariant.IsMarked, Invariant.IsSegment, Segment.Segment, Segment.free_segment, Segment.mark_of, declared.state.State.State as Stands, declared.state.State.TheVariants.Free, laws.Common.epoch_sound as epoch_is_epoch, laws.Segments.mark-map}
pub use Rattle.nmgc_snapshot_laws.specs.{Closing.IsClosing, Closing.IsRescued, Closing.IsRevived, Facts.Facts, Facts.IsAhead, Facts.IsSafe, Facts.marked, Facts.owed, Facts.queued, Machine.AreEmpty, Machine.Passes, Machine.advanced, Machine.after_command, Machine.after_push, Machine.after_scan, Machine.after_take, Machine.is_pushed_in, Machine.pushed_of, Run.IsExactClosing, Run.Runs, Scan.field_at, Scan.read_at, State.Order, State.State, State.State as Core, State.entry_of, State.is_listed, State.is_new, State.joined, State.mark_name, State.mark_read, State.mark_values, State.names_of, State.newest_first, State.oldest_first, State.opening_in, State.root_values, State.unmarked, State.unmarked as first_state, State.with_mark, declared.event.Entry.Entry, declared.event.Event.Event, laws.Commands.next_absent, laws.Common.runs_join as runs_then, laws.Ending.none_of as each_empty, laws.Listed.all_from_contains, laws.Listed.each_names, laws.Listed.is_same_name-refl, laws.Listed.listed_from, laws.Listed.names_other, laws.Listed.names_same, laws.Listed.tested_same, laws.Lives.live_there, laws.Lives.stands, laws.MarkedOnce.IsOnce, laws.MarkedOnce.once_opening, laws.MarkedOnce.once_runs, laws.MarkedOnce.stays_closed, laws.Marking.joined_cases, laws.Marking.mark_cases, laws.Openings.no_names as none_at_first, laws.Openings.no_names as none_owed, laws.Runs.closing_is_exact, laws.Runs.event_keeps_facts, laws.Runs.facts_kept, laws.Runs.opening_has_facts, laws.Runs.opening_world, laws.Runs.snapshot_theorem, laws.ScanReads.read_cases, laws.Scans.has_free as thunk_free}
pub use Rattle.nmgc_sweep.specs.{Seen.CycleSeen, Seen.SweeperSeen, Sweeping.HasListedNothing, Sweeping.HasNoted, Sweeping.IsFreedSoFar, Sweeping.IsListedSoFar, laws.NameTable.lies_exists as lies_within}
pub use Rattle.nmgc_weak.specs.{Closes.QueuesClose, Queues.weak_count, Resolve.CanResolve, Weaks.places_of, declared.weaks.Death.Death, declared.weaks.OldWeak.OldWeak}
pub use Rattle.nmgc_world_laws.specs.{Holds.CoversReach, Holds.Fields, Holds.HasStrongField, Holds.Names, Holds.free_of as free_if, Holds.has_result, Holds.strong_at, Reachable.CanReplay, Reachable.CountsNew, Reachable.HoldsOnly, Reachable.IsSound, Shape.SameShape, Shape.kind_of, Shape.made_by, Shape.part_count, Stored.Stores, Stored.place_written, Stored.value_written}
pub use Rattle.nmgc_world_laws.specs.laws.{Barrier.field_at_place, Barrier.place_of_field, Deaths.finalised_dead, Distinct.others_counted, Growth.step_grows, HeldSteps.absent, HeldSteps.opened_has, HeldSteps.some_of, HeldSteps.step_holds_only, HeldSteps.weaks_held, Keeps.Any, Keeps.hand_nodes, Keeps.step_leaves_others, Keeps.stepped, Keeps.still_there, NodeLaws.as_many, NodeLaws.maker_there, NodeLaws.next_is_new, NodeLaws.node_born, NodeLaws.node_cases, NodeLaws.node_same, NodeLaws.nodes_kept, NodeLaws.own_node, NodeLaws.state_other, NodeLaws.state_same, NodeShapes.changed_shape, Reached.OfOld, Reached.rows_hold, Reached.step_adds_one, Reached.wide_or_new_holds, Reached.world_holds, Shapes.rows_keep_shapes, Steps.Stepped, StoredLaws.old_refers_to_young, StoredLaws.old_weaks_are_finalised, StoredLaws.old_weaks_stay, StoredLaws.step_stores, WeakMoves.all_moves, WeakMoves.opened_owed, Weaks.weak_maker, WorldSteps.change_count as count_changed, WorldSteps.step_keeps_world, Worlds.not_shared}
pub use Rattle.nmgc_world_spec.specs.{World.changed, World.exchanged_at, World.field_exchanged, World.field_set, World.is_same, World.is_same_name, World.last_of, World.stack_popped, World.stack_pushed, World.thunk_updated, World.words_made, World.born, World.change_into, World.change_object, World.keeping, World.next_name, World.shared_name, World.step, World.value_for, World.value_of, World.with_node, World.with_register, World.with_state, World.World, World.held_by, World.no_mutator, World.node_of, World.serial_of, World.state_of, Pieces.given_or, Pieces.without_last, Known.IsMaking, Reach.IsLegal as IsLegalHistory, Reach.IsOrderOf, Reach.Row, Reach.opened, Reach.opened_by, Reach.replayed, Reach.rows_of, Reach.Counts, Reach.ListsNumbers, Reach.names_among, Reach.owed_by, Reach.IsAlive, Reach.IsAliveWeak, Reach.IsBefore, Reach.IsDead, Reach.IsInOrder, Reach.IsKept, Reach.IsLive, Reach.IsReached, Reach.IsRoot, Reach.Lists, Reach.RefersTo, Reach.closed, Reach.further, Reach.live_key, Reach.plain_key, Reach.root, Reach.start, Reach.start as begins, Reach.strong_fields, Reach.IsWide, Known.CanApply, Written.asked, Pieces.change_node, Pieces.holding as world_holding, Pieces.holding_given, Pieces.with_finaliser, Pieces.with_new, Pieces.with_nth, Known.IsKnown, Known.IsNodeOf, Known.IsWorld, Known.given}
pub use Rattle.nmgc_world_spec.specs.declared.{change.Change.Change, command.Command.Command, command.Command.TheVariants.Cas, command.Command.TheVariants.Collect, command.Command.TheVariants.Deref, command.Command.TheVariants.Finalise, command.Command.TheVariants.Force, command.Command.TheVariants.Full, command.Command.TheVariants.Get, command.Command.TheVariants.Mov, command.Command.TheVariants.NextFin, command.Command.TheVariants.Num, command.Command.TheVariants.Pop, command.Command.TheVariants.Push, command.Command.TheVariants.Same, command.Command.TheVariants.Set, command.Command.TheVariants.Show, command.Command.TheVariants.Tag, command.Command.TheVariants.Update, command.Command.TheVariants.Yield, command.Operand.Operand, command.Operand.TheVariants.Register, command.Operand.TheVariants.Shared, command.Reply.Reply, command.Reply.TheVariants.Fine, command.Reply.TheVariants.Given, command.Reply.TheVariants.No, command.Reply.TheVariants.NoField, command.Reply.TheVariants.NoPointer, command.Reply.TheVariants.Nothing, command.Reply.TheVariants.Updated, command.Reply.TheVariants.Yes, mutator_state.MutatorState.MutatorState, node.Kind.Kind, node.Node.Node, node.Node.TheVariants.Arr, node.Node.TheVariants.Con, node.Node.TheVariants.Stack, node.Node.TheVariants.Thunk, node.Node.TheVariants.Var, node.Node.TheVariants.Weak, node.Parts.Parts, value.Name.Name, value.Value.Value, value.Value.TheVariants.Nil, value.Value.TheVariants.Number, value.Value.TheVariants.Ref}
pub use Rattle.nmgc_world_spec.specs.laws.{Common.none_left as empty_last, Common.not_known, Common.of_weak as of_kept, Orders.in_order_first, Orders.in_order_rest, Orders.not_before_itself, Orders.same_name}
pub use Rattle.std.proofs.{Common.Bool, Common.List, Common.None, Common.Option, Common.Some, Common.[], Common.ap, Common.append-nil, Common.append_assoc, Common.arith, Common.cond, Common.eq-eqb, Common.eqb, Common.eqb-true, Common.false, Common.get_or, Common.inl, Common.inr, Common.le-leb, Common.le-ltb, Common.leb, Common.leb-true, Common.length, Common.length-append, Common.length-set, Common.length-take, Common.lit<, Common.lit≤, Common.lt-ltb, Common.ltb, Common.map, Common.mul-le-mul_right, Common.ne_eqb, Common.not, Common.refl, Common.replicate, Common.set, Common.slice_index, Common.subst, Common.suc, Common.sym, Common.take, Common.true, Common.zero, Common.ℕ, Common.◌%◌, Common.◌&&◌, Common.◌*◌, Common.◌++◌, Common.◌+◌, Common.◌-◌, Common.◌/◌, Common.◌<◌, Common.◌↔◌, Common.◌∙◌, Common.◌∷◌, Common.◌≡◌, Common.◌≢◌, Common.◌≤◌, Common.◌⊎◌, Math.ListN.get_or-eq_default}
pub use Rattle.std.proofs.lemmas.{Bool.and_cases, Bool.and_from, Bool.and_parts, Bool.cases_eq, Bool.cases_lt, Bool.false_from_ne_true, Bool.false≢true, Bool.not-false, Bool.Decides.eqb_tells, List.get_or-append-add, List.get_or-replicate, List.get_or-set_other, List.get_or-set_same, List.get_or_default, List.get_or_past, List.length-map, List.length-replicate, List.set_past, List.Elements.All-append, List.Elements.All-cons, List.Elements.All-contains, List.Elements.All-head, List.Elements.All-nil, List.Elements.All-tail, List.Elements.Contains-append_cases, List.Elements.Contains-append_left, List.Elements.Contains-append_right, List.Elements.Contains-get_or, List.Sums.sum_by-cons, List.Sums.sum_by-set, Option.get_or_from_slice_get, Option.none-some, Option.same_Some, Option.slice_get-get_or, Option.slice_get_past, Option.slice_get_within, Option.some_pair_parts}
pub use Rattle.std.specs.{List.filter, List.flat_map, Prelude.All, Prelude.Contains, Prelude.IfSome, Prelude.IsSome, Prelude.count_by, Prelude.drop, Prelude.if◌then◌else◌, Prelude.is_some, Prelude.min, Prelude.slice_get, Prelude.sum_by, Prelude.◌==◌}
pub use lib.ListN.{get_elem?}
pub use mathlib.Core.Option.{some}
