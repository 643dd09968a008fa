-- The names of std, of the crates below and of this crate's definitions that the lemmas of these laws use.
pub use Rattle.nmgc_alloc.specs.{AllocState.Segments, Segments.IsSegments}
pub use Rattle.nmgc_stop_spec.specs.{Cycle.Cycle, Kept.interval_of, Nurseries.AreUsed, Nurseries.LieInOrder, Occupied.AreBlocks, Remembers.Remembers, Stopped.IsRoundOf, Stopped.IsSettled, Stopped.Stopped, Stopped.young_base, Cycle.IsPlaceAtStop}
pub use Rattle.nmgc_collector_laws.specs.{Collector.HasReserve, Leaving.RoundIsForgotten, Leaving.RoundIsRemembered, Leaving.stopped_after, Marker.IsCoreOf, Rest.IsResting, Seen.CollectorSeen, Seen.ends_of, Seen.nurseries_of, Seen.recorded_in, Seen.young_weaks_in, Turn.SettledIsAtRest, Turn.SlicesAreDone, Turn.SlicesAreGathered, Worked.Done, Worked.HasWorked, Worked.HaveWorked, Worked.registers_of, Collector.AreAtRest, Collector.HoldsInCycle, Collector.IsPacedAtStop, Collector.Matches, Longer.StopsAreOfLonger}
pub use Rattle.nmgc_heap_spec.specs.{Moves.Moved, Moves.settled, Objects.AllMean, Objects.LiesWell, Objects.ListMeans, Objects.Means, Objects.Place, Changes.IsEarlier, Represents.NoNode, Represents.Represents, Roots.RepresentsRoots, Tracked.IsTracked, laws.CommandLaws.past_tracked, laws.CommandLaws.step_keeps_earlier, laws.Kinds.map_item, laws.Moving.settled_cases, Roots.ListsWeaks}
pub use Rattle.nmgc_limits.specs.declared.mutators.TheConstants.{REGISTERS}
pub use Rattle.nmgc_lists.specs.laws.Items.{contains_cases, contains_head, contains_map, contains_tail, item, item_map, map_contains}
pub use Rattle.nmgc_mutator.specs.{Does.HasDone, Ready.HasHand, Ready.part_of, Records.all_finalised, Records.all_recorded, Records.all_weaks, Records.numbers, declared.mutator.Mutator.Mutator}
pub use Rattle.nmgc_object.specs.{Words.nursery_place, declared.layout.Layout.Layout, declared.size.TheConstants.HEADER_WORDS}
pub use Rattle.nmgc_round.specs.{Events.Happening, Events.IsLegal, Events.did, Events.replay, Events.rows_in, Events.scanned, Finishing.HasAll, Finishing.HasEach, Finishing.places_then, Naming.AllReply, Objects.IsIn, Objects.IsPlace, Objects.Object, Objects.place_of, Seat.IsAt, Seat.RoundSeat, Seat.seen, Seating.all_together, Seating.alone, Seating.collecting, Seating.together, Starting.CanOpen, View.DoneRow, View.Opening, View.Part, View.Seen, View.hand_now, View.hand_of, View.whole, declared.table.Round.Round, laws.Common.world_scanned, laws.Gathering.same_opening, laws.Gathering.still_collects}
pub use Rattle.nmgc_run_laws.specs.{Sound.IsSoundRound, laws.Leaving.block_low, laws.Leaving.born_high, laws.Leaving.old_low, laws.Leaving.rows_keep_headers, laws.Places.blocks_after_round, laws.Runs.rounds_are_sound, laws.Runs.states_are_sound, Longer.longer_plan, Longer.longer_run, Longer.longer_state, laws.Longer.answering, laws.Longer.layout_longer, laws.Longer.rows_are_of_longer, laws.Longer.runs_are_of_longer}
pub use Rattle.nmgc_run_spec.specs.{AfterRound.HoldsAfterRound, Heap.snapshots, Run.Plan, Run.State, Run.last_state, Run.layout_of, Heap.HeapStandsFor, Heap.HoldsAtStop, Run.Progress, Run.idle, Run.marking, Run.sweeping, Run.answer_of}
pub use Rattle.nmgc_snapshot_laws.specs.{Facts.Facts, Machine.after_command, Machine.after_scan, State.State as Core, State.newest_first, laws.Runs.facts_kept}
pub use Rattle.nmgc_world_laws.specs.{Holds.HasStrongField, Reachable.CanReplay, Reachable.IsSound, laws.Barrier.place_of_field, laws.HeldSteps.absent, laws.StoredLaws.old_refers_to_young, laws.StoredLaws.old_weaks_stay, laws.WorldSteps.step_keeps_world}
pub use Rattle.nmgc_world_spec.specs.{Reach.IsLegal as IsLegalHistory, Reach.Row, Reach.replayed, Reach.IsAlive, Reach.RefersTo, World.shared_name, World.World, World.node_of, Known.IsWorld, declared.node.Parts.Parts, declared.value.Name.Name, declared.value.Value.Value, declared.value.Value.TheVariants.Ref, declared.command.Command.Command}
pub use Rattle.std.proofs.{Common.List, Common.None, Common.Some, Common.[], Common.ap, Common.append-nil, Common.append_assoc, Common.arith, Common.get_or, Common.inl, Common.inr, Common.length, Common.length-append, Common.map, Common.refl, Common.slice_index, Common.subst, Common.suc, Common.sym, Common.zero, Common.ℕ, Common.◌*◌, Common.◌++◌, Common.◌+◌, Common.◌<◌, Common.◌∙◌, Common.◌∷◌, Common.◌≡◌, Common.◌≤◌, Common.◌⊎◌, Math.Nat.mul-le-mul_right, lemmas.List.get_or-append-add, lemmas.List.get_or_append_left, lemmas.List.length-map, lemmas.List.Elements.Contains-append_cases, lemmas.List.Elements.Contains-append_left, lemmas.List.Elements.Contains-append_right, lemmas.Option.slice_get-get_or, lemmas.Option.slice_get_within}
pub use Rattle.std.specs.Prelude.{All, Contains, IsSome, slice_get, ◌↔◌}
pub use lib.ListN.{get_elem?}
pub use mathlib.Core.Option.{some}
pub use Rattle.nmgc_journal.specs.declared.report.MutatorEnd.{MutatorEnd}
