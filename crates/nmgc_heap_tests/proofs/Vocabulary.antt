-- All names of std, of the crates below and of this crate's definitions that the proofs use.
pub use Rattle.nmgc_alloc.specs.{AllocState.Segments, Reserve.KeepsReserve, Segments.IsSegments, laws.Reserve.begins}
pub use Rattle.nmgc_stop_spec.specs.{Strong.HasHeader, Nurseries.AreEmpty, Nurseries.nursery_at, Samples.young_nurseries, Samples.young_registers, Samples.young_stop, Stopped.IsStopped, Strong.HasStrong, Strong.strong_of, Strong.strong_part}
pub use Rattle.nmgc_collector_laws.specs.Worked.{nurseries_of}
pub use Rattle.nmgc_heap_spec.specs.{Objects.HasZeros, Objects.ListMeans, Objects.Place, Objects.shared_place, Represents.NoNode, Represents.Represents, Samples.SnapshotStands, Samples.after, Samples.block, Samples.chain, Samples.chain_serials, Samples.chain_words, Samples.own, Samples.small_layout, Samples.snapshot, Tracked.IsTracked, laws.Changes.remembered, laws.Headers.same_header, laws.Roots.root_wide, laws.Roots.tracked_wide, laws.Roots.wide_tracked, laws.Tracking.tracked_more}
pub use Rattle.nmgc_heap_tests.specs.{Checked.AreMade, Checked.AreParts, Checked.IsChecked, Checked.IsMade, Checked.PointsWell, Checked.PointsWellAll, Sample.IsBegun, Sample.IsSnapshotHeap, Sample.IsSnapshotMutator, Sample.snapshot_hand, Sample.snapshot_opening}
pub use Rattle.nmgc_limits.specs.declared.mutators.TheConstants.{SHARED_SLOTS}
pub use Rattle.nmgc_lists.specs.laws.Items.{contains_cases, contains_head, contains_tail, filter_contains, flat_contains, map_contains, nothing_in, one_is}
pub use Rattle.nmgc_mark.specs.{Beginning.most_blocks, Marker.HasRoomToMark, Seen.MarkerSeen}
pub use Rattle.nmgc_minor.specs.{Found.IsFound, Found.IsStart, Inputs.Inputs, Placing.AreNurseries, Placing.CanPlaceEach, Placing.IsMarked, Promotes.CanPromoteWith, Promotes.IsStoppedBy, Start.inputs_by, Start.places_of, Start.words_of, Young.IsWithin, declared.young.Young.Young}
pub use Rattle.nmgc_mutator.specs.{Ready.HasHand, Ready.IsNew, Ready.IsReady, Ready.IsUnused, Ready.IsWhole, Ready.Reserves, Slice.HasRoom, declared.mutator.Mutator.Mutator, laws.Common.reserved as new_reserved, laws.Starts.first_ready}
pub use Rattle.nmgc_object.specs.{FinQueue.FinQueue, Layouts.IsLayout, Words.HasFields, Words.IsHeader, Words.IsName, Words.header_word, Words.name_word, Words.nursery_place, Words.word_total, declared.layout.Layout.Layout, declared.layout.Nursery.Nursery, declared.layout.TheConstants.FIRST_PLACE, declared.layout.TheConstants.SHARED_PLACE, declared.size.TheConstants.HEADER_WORDS, declared.words.Address.Address, declared.words.Header.Header}
pub use Rattle.nmgc_pmark.specs.Found.{CanMark, block_index}
pub use Rattle.nmgc_round.specs.{Empty.first_opening, Empty.new_hand, Finishing.HasAll, Objects.IsLater, Objects.IsOld, Objects.IsSnapshot, Objects.Object, Ready.CanBear, Ready.CanGive, Ready.CanLoad, Ready.CanScan, Ready.CanStore, Ready.CanSwap, Ready.HasPart, Ready.IsMutator, Ready.Mutates, Ready.Names, Ready.scanned_by, Rule.IsOpening, Rule.IsQueued, Seat.IsAt, Seat.RoundSeat, Seat.opening_of, Seat.seen, Seating.all_together, Seating.alone, Seating.alones, Seating.collecting, Starting.CanOpen, Starting.HandStands, Known.CanFix, Known.CanTake, Known.taken, Known.known_answer, View.FixedWord, View.Hand, View.Opening, View.Part, View.Seen, View.UnbornWord, View.answered, View.bearing_object, View.blank, View.doing, View.finding, View.gave_birth, View.hand_now, View.hand_of, View.knowing, View.loaded, View.no_hand, View.plain, View.stored, View.storing, View.swapped, View.whole, View.word}
pub use Rattle.nmgc_round.specs.{declared.table.Round.Round, laws.Common.alones_count, laws.Common.are_ready, laws.Common.map_count, laws.Gathering.gathered}
pub use Rattle.nmgc_snapshot_laws.specs.{State.entry_of, State.names_of, declared.event.Entry.Entry}
pub use Rattle.nmgc_sweep.specs.{NameTable.HaveEntries, Sweeper.AreLeft}
pub use Rattle.nmgc_weak.specs.{Rows.leaves_at, declared.weaks.OldWeak.OldWeak}
pub use Rattle.nmgc_world_laws.specs.laws.{NewWorlds.new_is_world, WorldSteps.step_keeps_world}
pub use Rattle.nmgc_world_spec.specs.{World.Fits, World.step, World.World, World.new_world, World.node_of, World.serial_of, World.state_of, Known.HasRegisters, Known.IsOperand, Known.CanApply, Reach.IsWide, Known.IsWorld, declared.command.Command.Command, declared.command.Command.TheVariants.Collect, declared.command.Command.TheVariants.Get, declared.command.Command.TheVariants.Nil, declared.command.Command.TheVariants.Num, declared.command.Command.TheVariants.Set, declared.command.Command.TheVariants.Yield, declared.command.Operand.TheVariants.Register, declared.command.Operand.TheVariants.Shared, declared.command.Reply.TheVariants.Fine, declared.node.Kind.Kind, declared.node.Kind.TheVariants.Arr, declared.node.Kind.TheVariants.Con, declared.node.Kind.TheVariants.Stack, declared.node.Kind.TheVariants.Thunk, declared.node.Kind.TheVariants.Var, declared.node.Kind.TheVariants.Weak, declared.node.Node.Node, declared.value.Name.Name, declared.value.Value.TheVariants.Number, declared.value.Value.TheVariants.Ref}
pub use Rattle.std.proofs.{Common.All, Common.Bool, Common.List, Common.Some, Common.[], Common.ap, Common.append-nil, Common.arith, Common.below_more, Common.drop, Common.eqb, Common.false, Common.get_or, Common.inl, Common.inr, Common.length, Common.length-append, Common.length-set, Common.lit<, Common.lit≤, Common.map, Common.refl, Common.replicate, Common.rules, Common.set, Common.slice_index, Common.subst, Common.suc, Common.sym, Common.take, Common.true, Common.zero, Common.ℕ, Common.◌*◌, Common.◌++◌, Common.◌+◌, Common.◌-◌, Common.◌<◌, Common.◌∙◌, Common.◌∷◌, Common.◌≡◌, Common.◌≢◌, Common.◌≤◌, Common.◌⊎◌, Math.ListN.get_or-eq_default, Math.Nat.min-le_left, Math.Nat.mul-le-mul_right}
pub use Rattle.std.proofs.lemmas.{Bool.cases_eq, Bool.cases_lt, Bool.cases_order, List.get_or-replicate, List.get_or_default, List.length-replicate, List.map-append, List.Elements.All-cons, List.Elements.All-from_recursion, List.Elements.All-get_or, List.Elements.All-nil}
pub use Rattle.std.specs.{List.flat_map, List.refill, Prelude.Contains, Prelude.min, Prelude.not, Prelude.slice_get, Prelude.slice_index_or}
pub use lib.ListN.{get_elem?}
pub use mathlib.Core.Option.{some, some-injective, some-ne-none}
unfoldable pub use lib.Count.{ones}
