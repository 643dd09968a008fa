-- The names of std, of the crates below and of this crate's definitions that the lemmas of these laws use.
pub use Rattle.nmgc_heap_spec.specs.{Changes.AddsPlaces, Changes.AgreeWhereKnown, Changes.AreEarlier, Changes.ChangesAt, Changes.ChangesField, Changes.DropsPlaces, Changes.HaveHeaders, Changes.IsBorn, Changes.IsSameHeap, Changes.IsSpokenOf, Changes.IsUnborn, Changes.Remembers, Commands.ClosingKeepsEarlier, Commands.ClosingKeepsHeaders, Commands.ClosingTracks, Commands.NodeStep, Commands.StepChangesField, Commands.StepIsOne, Commands.StepKeepsEarlier, Commands.StepKeepsHeaders, Commands.StepLeavesHeap, Commands.StepTracks, Commands.StepTracksNoMore, Commands.TrackedAreKnown, Commands.WorldIsEarlier, Commands.birth, Commands.change, Commands.none, Moves.Copies, Moves.KeepsObject, Moves.Moved, Moves.Moves, Moves.StillSpoken, Moves.new_place, Moves.old_place, Moves.settled, Objects.AllMean, Objects.Fills, Objects.HasSlots, Objects.HasZeros, Objects.IsBetween, Objects.LiesWell, Objects.ListMeans, Objects.Means, Objects.Place, Objects.Slot, Objects.fixed_slots, Objects.free_slots, Objects.header_of, Objects.holds, Objects.size_of, Objects.slots_of, Objects.unset, Objects.unspecified, Changes.IsEarlier, Represents.IsNamed, Represents.IsObject, Represents.IsPlaced, Represents.NoNode, Represents.Represents, Roots.ListsWeaks, Roots.RepresentsRoots, Samples.own, Changes.MayChange, Statements.FieldHasMeaning, Statements.MeaningIsField, Tracked.IsTracked, Tracked.IsWideIn, Written.HeaderIsShape, Written.NodeIsWritten, Written.PartsAreWritten, Written.WorldIsWritten}
pub use Rattle.nmgc_limits.specs.declared.mutators.TheConstants.{REGISTERS, SHARED_MAKER, SHARED_SLOTS}
pub use Rattle.nmgc_lists.specs.laws.Items.{at_some, contains_at as contains_read, contains_cases, contains_filter, contains_head, contains_map, contains_tail, filter_contains, is_some_get, is_some_of, item_map, map_contains, nothing_in as no_more, slice_get-append as item_left, slice_get-append_last as last_item, slice_get-set_other}
pub use Rattle.nmgc_object.specs.{Words.HasTag, Words.InNursery, Words.InSegment, Words.IsHeader, Words.header_word, Words.kind_number, Words.nursery_place, Words.word_total, declared.layout.Layout.Layout, declared.size.TheConstants.HEADER_WORDS, declared.words.Header.Header}
pub use Rattle.nmgc_world_laws.specs.{Limits.IsNodeWithin, Reachable.HoldsOnly, Shape.KeepsShapes, Shape.SameShape, Shape.kind_of, Shape.part_count, Shape.tag_of, Shape.words_of, laws.Deaths.closed_names, laws.Growth.step_grows, laws.HeldSteps.absent, laws.HeldSteps.some_of, laws.HeldSteps.step_holds_only, laws.Keeps.Any, laws.Keeps.hand_nodes, laws.Keeps.stepped, laws.Keeps.still_there, laws.NodeLaws.next_is_new, laws.NodeLaws.node_born, laws.NodeLaws.node_cases, laws.NodeLaws.node_same, laws.Reached.closed_holds, laws.Reached.from_there, laws.Reached.wide_is_held, laws.Reached.wide_known, laws.Reached.world_holds, laws.Shapes.closing_keeps_shapes, laws.Shapes.step_keeps_shapes, laws.Steps.Object, laws.WorldSteps.step_keeps_world, laws.Worlds.not_shared}
pub use Rattle.nmgc_world_spec.specs.{World.changed, World.exchanged_at, World.field_exchanged, World.field_set, World.is_same, World.stack_popped, World.stack_pushed, World.thunk_updated, World.weak_finalised, World.born, World.next_name, World.shared_name, World.step, World.IsShared, World.World, World.held_by, World.no_mutator, World.node_of, World.state_of, Pieces.without_last, Reach.IsAlive, Reach.IsAliveWeak, Reach.IsReached, Reach.IsRoot, Reach.RefersTo, Reach.closed, Reach.field, Reach.start, Reach.strong_fields, Reach.IsOfWeak, Reach.IsWide, Known.CanApply, Pieces.with_new, Pieces.IsWideRoot, Known.IsKnown, Known.IsNodeOf, Known.IsSized, Known.IsWorld, declared.change.Change.Change, declared.command.Command.Command, declared.command.Reply.Reply, declared.command.Reply.TheVariants.No, declared.command.Reply.TheVariants.Yes, declared.mutator_state.MutatorState.MutatorState, declared.node.Kind.Kind, declared.node.Node.Node, declared.node.Node.TheVariants.Arr, declared.node.Node.TheVariants.Con, declared.node.Node.TheVariants.Stack, declared.node.Node.TheVariants.Thunk, declared.node.Node.TheVariants.Var, declared.node.Node.TheVariants.Weak, declared.node.Parts.Parts, declared.value.Name.Name, declared.value.Value.Value, declared.value.Value.TheVariants.Nil, declared.value.Value.TheVariants.Number, declared.value.Value.TheVariants.Ref, laws.Orders.name_cases}
pub use Rattle.std.proofs.Common.{Bool, List, None, Option, Some, [], ap, arith, cond, drop, eqb, false, get_or, get_or-drop, get_or-set_other, get_or-set_same, inl, inr, length, length-append, length-drop, length-set, length-take-le, ltb, map, mul-le-mul_right, refl, replicate, set, slice_index, subst, suc, sym, take, true, zero, ℕ, ◌*◌, ◌++◌, ◌+◌, ◌-◌, ◌<◌, ◌∙◌, ◌∷◌, ◌≡◌, ◌≢◌, ◌≤◌, ◌⊎◌}
pub use Rattle.std.proofs.lemmas.{Bool.cases_eq, Bool.cases_lt, Bool.lt-ltb, Bool.ltb-true, List.get_or-append-add, List.get_or-map, List.get_or-replicate, List.get_or-take, List.get_or_append_left, List.length-map, List.length-replicate, List.take-append-drop, List.Elements.All-contains, List.Elements.All-replicate, List.Elements.Contains-append_cases, List.Elements.Contains-append_left, List.Elements.Contains-append_right, Option.slice_get-get_or, Option.slice_get_within, Option.slice_get_within as got_below}
pub use Rattle.std.specs.{List.flat_map, Prelude.Contains, Prelude.IsSome, Prelude.filter, Prelude.nat_lt, Prelude.slice_get}
