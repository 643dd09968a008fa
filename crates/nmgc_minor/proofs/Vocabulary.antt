-- Every name of std, of the crates below and of this crate's definitions that the proofs use.
pub use Rattle.nmgc_alloc.specs.{AllocState.AllocState, AllocState.Cells, AllocState.PlacesName, AllocState.cells, AllocState.name_in, AllocState.HasNumber, AllocState.Segments, AllocState.block_place, AllocState.nth, AllocState.Shows, AllocState.StandsFor, Reserve.KeepsReserve, Segments.HasRoom, Segments.IsClass, Segments.IsSegments, Invariant.Writes, laws.Placing.placed_stands, laws.Reserve.begins, laws.Reserve.placing_keeps, laws.Reserve.reserve_has_room}
pub use Rattle.nmgc_stop_spec.specs.{Cycle.IsFirstPromoted, Cycle.IsPromoted, Cycle.PlacesEach, Nurseries.AreEmpty, Nurseries.AreUsed, Nurseries.nursery_at, Occupied.AreBlocks, Occupied.IsOccupied, Remembers.Remembers, Stopped.IsRoundOf, Stopped.IsSettled, Stopped.IsStopped, Stopped.Stopped, Stopped.earlier_of, Stopped.young_base, Strong.HasStrong, Strong.strong_of, laws.Blocks.IsBlock, laws.Blocks.is_block, laws.Blocks.occupied_apart, laws.Blocks.occupied_in, laws.Fields.field_in, laws.Fields.field_out, laws.Fields.held_where, laws.Fields.not_zero, laws.Fields.stands, laws.Placings.keeps_marks, laws.Placings.lies_apart, laws.Placings.occupies, laws.Placings.only_occupied, laws.Placings.stays_occupied}
pub use Rattle.nmgc_heap_spec.specs.{Emptied.emptied, Moves.Copies, Moves.Forwards, Moves.KeepsObject, Moves.Moved, Moves.Moves, Moves.StillSpoken, Moves.new_place, Moves.old_place, Moves.settled, Objects.Fills, Objects.IsBetween, Objects.LiesInNursery, Objects.Means, Objects.Place, Objects.Slot, Objects.header_of, Objects.holds, Objects.size_of, Objects.slots_of, Objects.unset, Objects.unspecified, Represents.NoNode, Represents.Represents, Roots.RepresentsRoots, Tracked.IsTracked, Tracked.IsWideIn, laws.Changes.not_between, laws.Common.list_has, laws.Common.list_of, laws.Moving.represents_moved, laws.Moving.settled_cases, laws.Moving.settled_comes, laws.Moving.settled_stays, laws.Roots.roots_moved, laws.Roots.strong_slot, laws.Slots.slot_count, laws.Slots.slot_held, laws.Slots.strong_held, laws.Tracking.slot_tracked, laws.Tracking.tracked_more}
pub use Rattle.nmgc_limits.specs.declared.mutators.TheConstants.{REGISTERS, SHARED_MAKER, SHARED_SLOTS}
pub use Rattle.nmgc_lists.specs.laws.Items.{at_some, contains_at as contains_read, contains_cases, contains_flat, contains_head, contains_map as map_in, contains_tail, flat_contains, is_some_of, map_contains as map_from}
pub use Rattle.nmgc_minor.specs.{Forwarding.CanCopyAll, Forwarding.CopiesAll, Forwarding.CopiesFields, Forwarding.CopiesObject, Forwarding.ForwardsAt, Forwarding.forward_word, Found.IsAliveAt, Found.IsFound, Found.IsStart, Inputs.HasInputs, Inputs.Inputs, Placing.AreNurseries, Placing.AreRising, Placing.CanPlace, Placing.CanPlaceAll, Placing.CanPlaceEach, Placing.HasHeaderWord, Placing.IsMarked, Placing.IsOutside, Placing.IsPlacing, Placing.IsSharedSlot, Placing.PlacesEach as PlacesMoves, Placing.PlacesOne, Placing.PlacesRange, Placing.Reaches, Placing.Rewrites, Placing.StandsAfter, Placing.moved_of, Placing.with_names, Promotes.CanPromote, Promotes.CanPromoteWith, Promotes.Leaves, Promotes.Promotes, Promotes.forwarded, Promotes.promoted, Promotion.Promotion, Start.Finds, Start.IsWeakStart, Start.inputs_by, Start.inputs_of, Start.words_of, Young.CanFollow, Young.Following, Young.Follows, Young.IsIn, Young.IsWithin, Young.IsYoung, Young.Notes, Young.PointsIn, Young.unfound_count}
pub use Rattle.nmgc_minor.specs.{declared.placing.Move.Move, declared.young.TheConstants.FOUND, declared.young.Young.Young, laws.Common.names_twice}
pub use Rattle.nmgc_object.specs.{FinQueue.ArePointersBelow, FinQueue.FinQueue, Words.InNursery, Words.InSegment, Words.nursery_place, Words.IsClassOf, Words.block_size, Words.IsHeader, Words.IsName, Words.header_word, Words.name_word, Layouts.IsSegmentSize, declared.layout.Layout.Layout, declared.layout.Nursery.Nursery, declared.layout.TheConstants.FIRST_PLACE, declared.layout.TheConstants.SHARED_PLACE, declared.size.TheConstants.HEADER_WORDS, declared.words.Address.Address, declared.words.Header.Header, declared.words.TheConstants.NIL_WORD, declared.words.TheConstants.WEAK_FIELDS, declared.words.TheConstants.ZERO_WORD, laws.Classes.class_counted, laws.Classes.class_fits, laws.Classes.least_block as large}
pub use Rattle.nmgc_segment.specs.Segment.{Segment}
pub use Rattle.nmgc_world_spec.specs.{Reach.IsAlive, Reach.IsBefore, Reach.IsInOrder, Reach.IsReached, Reach.IsRoot, Reach.Lists, Reach.RefersTo, Reach.strong_fields, Reach.IsOfWeak, Reach.IsWide, World.shared_name, World.IsShared, World.World, World.held_by, World.no_mutator, World.node_of, World.state_of, Pieces.IsWideRoot, Known.IsKnown, Known.IsNodeOf, Known.IsWorld, declared.mutator_state.MutatorState.MutatorState, declared.node.Node.Node, declared.node.Node.TheVariants.Arr, declared.node.Node.TheVariants.Con, declared.node.Node.TheVariants.Stack, declared.node.Node.TheVariants.Thunk, declared.node.Node.TheVariants.Var, declared.node.Node.TheVariants.Weak, declared.node.Parts.Parts, declared.value.Name.Name, declared.value.Value.Value, declared.value.Value.TheVariants.Nil, declared.value.Value.TheVariants.Ref}
pub use Rattle.std.proofs.{Common.List, Common.None, Common.Option, Common.Some, Common.[], Common.ap, Common.append_assoc, Common.arith, Common.cond, Common.count_by, Common.drop, Common.eqb, Common.false, Common.get_or, Common.inl, Common.inr, Common.length, Common.length-append, Common.length-drop, Common.length-take, Common.map, Common.refl, Common.set, Common.slice_index, Common.subst, Common.suc, Common.sym, Common.take, Common.true, Common.zero, Common.ℕ, Common.◌%◌, Common.◌*◌, Common.◌++◌, Common.◌+◌, Common.◌-◌, Common.◌/◌, Common.◌<◌, Common.◌∙◌, Common.◌∷◌, Common.◌≡◌, Common.◌≢◌, Common.◌≤◌, Common.◌⊎◌, Math.ListN.get_or-eq_default, Math.ListN.get_or-map, Math.ListN.length-set, Math.Nat.mul-le-mul_right}
pub use Rattle.std.proofs.lemmas.{Bool.cases_Bool, Bool.cases_eq, Bool.cases_lt, Bool.cases_order, Bool.eq-eqb, Bool.eqb-false, Bool.ne_eqb, Bool.Decides.eqb_tells, List.append-nil, List.get_or-set_other, List.get_or-set_same, List.get_or_append_left, List.get_or_default, List.get_or_past, List.length-map, List.map-append, List.take-append-drop, List.take_all, List.take_at, List.take_more, List.Concat.flat_map-append, List.Edits.map_over_more, List.Elements.All-contains, List.Elements.Contains-append_cases, List.Elements.Contains-append_left, List.Elements.Contains-append_right, List.Elements.Contains-get_or, List.Elements.Contains-push, List.Elements.Contains-push_cases, List.Sums.sum_by-set, Option.slice_get-get_or, Option.slice_get_within}
pub use Rattle.std.specs.{List.flat_map, Prelude.Contains, Prelude.IsSome, Prelude.nat_le, Prelude.slice_get, Prelude.slice_index_or}
