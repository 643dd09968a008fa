-- Every name of std, of the crates below and of this crate's definitions that the proofs speak of.
pub use Rattle.nmgc_alloc.specs.{AllocState.Segments, AllocState.nth, Blocks.HasAt, Blocks.IsMarkedAt, Blocks.IsSnapshotAt, Segments.IsBlockAt, Segments.IsSegments, laws.Apart.same_block}
pub use Rattle.nmgc_heap_spec.specs.{Changes.AreEarlier, Objects.Fills, Objects.LiesWell, Objects.ListMeans, Objects.Means, Objects.Place, Objects.Slot, Objects.holds, Objects.size_of, Objects.slots_of, Objects.unset, Represents.NoNode, Represents.Represents, Roots.IsListedWeak, Roots.ListsWeaks, Tracked.IsTracked, laws.Changes.field_changed, laws.CommandLaws.closing_keeps_earlier, laws.CommandLaws.closing_tracks, laws.Common.lies_within, laws.NodeChanges.died as dead_at}
pub use Rattle.nmgc_limits.specs.declared.mutators.TheConstants.{MAKERS, REGISTERS, SHARED_MAKER}
pub use Rattle.nmgc_lists.specs.{declared.memory.NoMemory.NoMemory, laws.Items.contains_at, laws.Items.contains_cases, laws.Items.contains_filter, laws.Items.contains_head, laws.Items.contains_map, laws.Items.contains_one, laws.Items.contains_tail, laws.Items.filter_contains, laws.Items.get_is_some, laws.Items.is_some_of, laws.Items.item, laws.Items.item as get_at, laws.Items.item_map, laws.Items.map_contains, laws.Items.nothing_in, laws.Items.one_is, laws.Items.slice_get-set_other, laws.Items.slice_get-set_same, laws.Truths.and_both, laws.Truths.eq_true, laws.Truths.false_of, laws.Truths.same_test, laws.Truths.unmarked}
pub use Rattle.nmgc_mark.specs.{Marker.HasMarked, Marker.HasRoomToMark, Seen.MarkerSeen, Stopped.AreScans, Stopped.HasFinished, Stopped.IsReady, Tie.AreApart, Tie.AreQueued, Tie.IsTied, laws.Common.marked_none, laws.Common.marked_then}
pub use Rattle.nmgc_object.specs.{FinQueue.FinQueue, Words.InSegment, Words.IsName, Words.name_word, declared.layout.Layout.Layout, declared.layout.TheConstants.SHARED_PLACE, declared.size.TheConstants.HEADER_WORDS, declared.size.TheConstants.NAME_OFFSET, declared.words.Address.Address}
pub use Rattle.nmgc_round.specs.{Events.Happening, Events.did, Events.replay, Events.scanned, Marking.Marks, Marking.marks_of, Marking.name_at, Marking.name_meant, Marking.with_name, Objects.IsOld, Objects.Object, Objects.earlier, Rule.IsOpening, Rule.IsQueued, Rule.now, Starting.CanOpen, Starting.HandStands, View.Hand, View.Opening, laws.Common.some_at}
pub use Rattle.nmgc_segment.specs.{Marks.IsEpoch, Segment.Segment}
pub use Rattle.nmgc_snapshot_laws.specs.{Closing.IsClosing, Closing.IsDying, Closing.IsWaiting, Facts.AsThen, Facts.Base, Facts.Facts, Facts.IsAhead, Facts.IsLiveIn, Facts.IsSafe, Facts.Kept, Facts.MayHold, Facts.marked, Facts.owed, Facts.pushed, Machine.AreEmpty, Machine.advanced, Machine.after_scan, Scan.fields_of, Scan.is_last, Scan.moved_on, Scan.read_at, State.State, State.entry_of, State.is_listed, State.joined as joined_queue, State.mark_name, State.mark_read, State.mark_value, State.newest_first, State.with_mark, laws.Ending.dying_lists, laws.Ending.first_live, laws.Ending.kept_last, laws.Ending.last_kept, laws.Ending.live_first, laws.Ending.none_of, laws.Listed.all_from_contains, laws.Listed.contains_listed, laws.Listed.not_listed, laws.Lives.live_more, laws.Lives.part_there, laws.Lives.stands, laws.Marking.joined_cases, laws.Marking.kept_then, laws.Marking.mark_base, laws.Marking.mark_cases, laws.Marking.mark_facts, laws.Marking.new_there, laws.Marking.still_marked, laws.ScanReads.read_cases, laws.Scans.scan_facts}
pub use Rattle.nmgc_weak.specs.{Closes.DeathsHaveRoom, Closes.KeepsOldWeaks, Closes.LeavingLists, Closes.QueuesClose, Queues.AllJoin, Queues.HaveJoined, Queues.HaveRoom, Queues.Joins, Queues.joined, Queues.joins, Resolve.AreDeaths, Resolve.CanResolve, Resolve.HasResolved, Rows.AreRows, Rows.IsEntryAt, Rows.IsNamedAt, Rows.Row, Rows.entry_names, Rows.is_same, Rows.leaves_at, Rows.left_at, Rows.list_of, Rows.listed, Rows.row_of, Rows.without, Steps.AreLost, Steps.CanKeep, Steps.CanRescue, Steps.GoesOn, Steps.GoesTo, Steps.HasKept, Steps.HasPassed, Steps.HasRescued, Steps.HasRevived, Steps.IsKeyMarked, Steps.IsKeyMarkedWord, Steps.IsLost, Steps.IsLostAt, Steps.MarksOn, Weaks.AreWithin, Weaks.HaveLostValues, Weaks.IsWithin, Weaks.Weaks, Weaks.alive_of, Weaks.count_made_by, Weaks.deaths_of, Weaks.finaliser_place, Weaks.is_alive, Weaks.key_place, Weaks.names_of, Weaks.place_of, Weaks.place_of as place_at, Weaks.places_of, Weaks.value_place, Weaks.without_values}
pub use Rattle.nmgc_weak.specs.{declared.row.Entry.Entry, declared.weaks.Death.Death, declared.weaks.OldWeak.OldWeak, laws.Common.finaliser_is, laws.Common.finaliser_is as word_is, laws.Common.names_same, laws.Common.of_place, laws.Left.filter_all, laws.Left.filter_cond, laws.Left.filter_same, laws.Left.filter_twice}
pub use Rattle.nmgc_world_laws.specs.{Holds.CoversReach, Holds.Fields, Holds.HasStrongField, Holds.Names, Holds.has_result, laws.Barrier.field_at_place, laws.Closes.same_parts as one_parts, laws.Closings.closed_state, laws.Closings.with_dead, laws.Deaths.Dies, laws.Deaths.closed_mutators, laws.Deaths.closed_serials, laws.Deaths.closing_leaves_hands, laws.Deaths.dies_by, laws.Distinct.distinct_push, laws.NodeLaws.state_other, laws.NodeLaws.state_same, laws.Reached.wide_known, laws.Weaks.weak_maker, laws.Worlds.not_shared}
pub use Rattle.nmgc_world_spec.specs.{Reach.AreDistinct, Reach.IsAlive, Reach.IsAliveWeak, Reach.IsBefore, Reach.IsDead, Reach.IsInOrder, Reach.IsKept, Reach.IsKeptBy, Reach.IsLive, Reach.IsPlain, Reach.IsReached, Reach.IsRoot, Reach.Lists, Reach.RefersTo, Reach.closed, Reach.closed_by, Reach.field, Reach.further, Reach.live_key, Reach.plain_key, Reach.queued, Reach.IsOfWeak, Reach.IsWide, World.shared_name, World.with_state, World.World, World.node_of, World.state_of, Pieces.with_nth, Known.IsWorld, declared.mutator_state.MutatorState.MutatorState, declared.node.Node.Node, declared.node.Node.TheVariants.Weak, declared.node.Parts.Parts, declared.value.Name.Name, declared.value.Value.Value, laws.Common.of_weak, laws.Orders.before_trans, laws.Orders.in_order_apart, laws.Orders.in_order_cons, laws.Orders.in_order_first, laws.Orders.in_order_rest, laws.Orders.name_cases, laws.Orders.not_before_itself, laws.Orders.same_name}
pub use Rattle.std.proofs.Common.{Bool, Err, List, None, Ok, Option, Result, Some, [], ap, append-nil, append_assoc, arith, cond, drop, eq-eqb, eqb, false, get_or, inl, inr, leb, length, length-append, length-set, map, ne_eqb, refl, rules, set, subst, suc, sym, take, true, vec_capacity, vec_len, zero, ℕ, ◌%◌, ◌*◌, ◌++◌, ◌+◌, ◌-◌, ◌/◌, ◌<◌, ◌^◌, ◌↔◌, ◌∙◌, ◌∷◌, ◌≡◌, ◌≢◌, ◌≤◌, ◌⊎◌}
pub use Rattle.std.proofs.lemmas.{Bool.and_cases, Bool.and_from, Bool.and_parts, Bool.cases_eq, Bool.cases_lt, Bool.cases_order, Bool.cond_both, Bool.iff_false, Bool.not-true, Bool.or_parts, Bool.Decides.eqb_tells, Grind.common_steps, Grind.flat_map-append, List.drop_all, List.get_or-map, List.get_or-set_other, List.get_or_default, List.length-map, List.map-set, List.take-append-drop, List.take-map, List.take_all, List.take_at, List.take_more, List.with_items_is, List.Edits.map_over_more, List.Elements.Contains-append_cases, List.Elements.Contains-append_left, List.Elements.Contains-append_right, List.Elements.Contains-push, List.Elements.Contains-push_cases, List.Elements.filter-append, List.Sums.count_by-le-length, List.Sums.length-filter, List.Sums.sum_by-append, List.Sums.sum_by-cons, Option.none-some, Option.same_Some, Option.slice_get-get_or, Option.slice_get-map, Option.slice_get_within, Option.slice_get_within as get_within}
pub use Rattle.std.specs.{Option.option_map, Prelude.All, Prelude.Contains, Prelude.IfNone, Prelude.IfSome, Prelude.IsSome, Prelude.IsTrue, Prelude.OnErr, Prelude.count_by, Prelude.filter, Prelude.insert, Prelude.is_some, Prelude.min, Prelude.not, Prelude.slice_get, Prelude.slice_index, Prelude.◌&&◌, Prelude.◌==◌}
