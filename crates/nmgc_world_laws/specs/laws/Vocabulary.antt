-- All names of std, of the crates below and of this crate's definitions that these laws use.
pub use Rattle.nmgc_limits.specs.declared.mutators.TheConstants.{MAKERS, REGISTERS, SHARED_MAKER, SHARED_SLOTS}
pub use Rattle.nmgc_lists.specs.{declared.memory.NoMemory.NoMemory, laws.Items.at_some, laws.Items.contains_at, laws.Items.contains_cases, laws.Items.contains_flat, laws.Items.contains_head, laws.Items.contains_one, laws.Items.contains_option, laws.Items.contains_tail, laws.Items.get_is_some, laws.Items.is_some_get, laws.Items.is_some_of, laws.Items.item_has, laws.Items.kept_or_held, laws.Items.kept_or_last, laws.Items.nothing_in, laws.Items.one_has, laws.Items.one_is, laws.Items.place_of, laws.Items.slice_get-append, laws.Items.slice_get-append_last, laws.Items.slice_get-set_other, laws.Items.slice_get-set_same, laws.Options.some_is}
pub use Rattle.nmgc_world_laws.specs.{Holds.CoversReach, Holds.Fields, Holds.HasStrongField, Holds.IsLater, Holds.Names, Holds.OfParts, Holds.StillThere, Holds.strong_at, Leaves.ClosingLeavesHands, Leaves.QueueGrows, Leaves.SameHands, Leaves.StepLeavesOthers, Limits.ClosingKeepsLimits, Limits.HasLimits, Limits.IsNodeWithin, Limits.IsSmall, Limits.IsWithin, Limits.NewIsWithin, Limits.RowsKeepLimits, Limits.StepKeepsLimits, Reachable.CanContinue, Reachable.CanReplay, Reachable.ClosesWell, Reachable.ClosingAddsNone, Reachable.ClosingHoldsOnly, Reachable.ClosingKeepsWorld, Reachable.CountsNew, Reachable.HoldsOnly, Reachable.IsLiveOrNew, Reachable.IsNotLost, Reachable.IsSound, Reachable.NeverComesBack, Reachable.NothingReachableIsEverFreed, Reachable.NothingReachableIsFreed, Reachable.ReachableIsEverKept, Reachable.ReachableIsKept, Reachable.RowsHoldLive, Reachable.RowsKeepWorld, Reachable.StaysUnreached, Reachable.StepAddsOne, Reachable.StepHoldsOnly, Reachable.Stretch, Reachable.continued, Shape.ClosingKeepsShapes, Shape.KeepsShapes, Shape.RowsKeepShapes, Shape.SameShape, Shape.StepKeepsShapes, Shape.kind_of, Shape.made_by, Shape.part_count, Shape.tag_of, Shape.words_of, Stored.IsStored, Stored.OldRefersToYoung, Stored.OldWeaksAreFinalised, Stored.OldWeaksStay, Stored.StepStores, Stored.Stores, Stored.place_written, Stored.value_written}
pub use Rattle.nmgc_world_spec.specs.{World.changed, World.exchanged_at, World.field_exchanged, World.field_read, World.field_set, World.is_same, World.last_of, World.result_read, World.stack_popped, World.stack_pushed, World.tag_read, World.thunk_updated, World.value_read, World.weak_finalised, World.Fits, World.born, World.change_into, World.change_object, World.keeping, World.next_name, World.object_of, World.shared_name, World.step, World.value_for, World.value_of, World.with_node, World.with_register, World.with_state, World.IsShared, World.World, World.held_by, World.new_mutator, World.new_world, World.no_mutator, World.node_of, World.serial_of, World.state_of, Pieces.given_or, Known.IsOperand, Reach.Row, Reach.finalised, Reach.finalised_by, Reach.name_in, Reach.opened, Reach.opened_by, Reach.replayed, Reach.AreDistinct, Reach.Counts, Reach.field_held, Reach.names_among, Reach.owed_by, Reach.owed_in, Reach.owed_of, Reach.values_owed, Reach.IsAlive, Reach.IsAliveWeak, Reach.IsBefore, Reach.IsInOrder, Reach.IsKept, Reach.IsKeptBy, Reach.IsLive, Reach.IsPlain, Reach.IsReached, Reach.IsRoot, Reach.Lists, Reach.RefersTo, Reach.closed, Reach.closed_by, Reach.queued, Reach.strong_fields, Reach.IsOfWeak, Reach.IsWide, Pieces.finalised_in, Pieces.value_opened, Pieces.opened_in, Interval.Interval, Interval.IsDeadAfter, Interval.IsKeptAfter, Pieces.free_held, Pieces.if_same, Pieces.owed_at, Pieces.top_held, Pieces.value_held, Known.CanApply, Written.asked, Written.change_asked, Pieces.change_node, Pieces.holding_given, Pieces.read_object, Pieces.with_finaliser, Pieces.with_new, Pieces.with_nth, Known.AreKnown, Known.Grows, Known.IsKnown, Known.IsKnownChange, Known.IsKnownReply, Known.IsNodeOf, Known.IsWorld, Known.given}
pub use Rattle.nmgc_world_spec.specs.declared.{change.Change.Change, command.Command.Command, command.Command.TheVariants.Cas, command.Command.TheVariants.Collect, command.Command.TheVariants.Deref, command.Command.TheVariants.Finalise, command.Command.TheVariants.Force, command.Command.TheVariants.Full, command.Command.TheVariants.Get, command.Command.TheVariants.Mov, command.Command.TheVariants.NextFin, command.Command.TheVariants.Num, command.Command.TheVariants.Pop, command.Command.TheVariants.Push, command.Command.TheVariants.Same, command.Command.TheVariants.Set, command.Command.TheVariants.Show, command.Command.TheVariants.Tag, command.Command.TheVariants.Update, command.Command.TheVariants.Yield, command.Operand.Operand, command.Operand.TheVariants.Register, command.Operand.TheVariants.Shared, command.Reply.Reply, command.Reply.TheVariants.Fine, command.Reply.TheVariants.No, command.Reply.TheVariants.NoField, command.Reply.TheVariants.StackEmpty, command.Reply.TheVariants.StackFull, command.Reply.TheVariants.Yes, mutator_state.MutatorState.MutatorState, node.Node.Node, node.Node.TheVariants.Arr, node.Node.TheVariants.Con, node.Node.TheVariants.Stack, node.Node.TheVariants.Thunk, node.Node.TheVariants.Var, node.Node.TheVariants.Weak, node.Parts.Parts, value.Name.Name, value.Value.Value, value.Value.TheVariants.Nil, value.Value.TheVariants.Number, value.Value.TheVariants.Ref}
pub use Rattle.nmgc_world_spec.specs.laws.Orders.{in_order_cons, in_order_first, in_order_rest, name_cases, not_before_itself, same_name}
pub use Rattle.std.proofs.Common.{Bool, Err, List, None, Ok, Option, Result, Some, [], ap, arith, cond, drop, eqb, false, get_or, inl, inr, length, length-append, length-set, length-take, ltb, map, refl, set, subst, suc, sym, take, true, zero, ℕ, ◌++◌, ◌+◌, ◌-◌, ◌<◌, ◌^◌, ◌∙◌, ◌∷◌, ◌≡◌, ◌≢◌, ◌≤◌, ◌⊎◌}
pub use Rattle.std.proofs.lemmas.{Bool.cases_eq, Bool.cases_lt, Bool.cases_order, Bool.eq-eqb, Bool.ltb-true, Bool.ne_eqb, Bool.Decides.eqb_tells, List.append-nil, List.append_assoc, List.drop_all, List.get_or-set_other, List.get_or-set_same, List.get_or_past, List.length-map, List.length-replicate, List.set-get_or, List.set-set, List.set_past, List.take_all, List.Elements.All-cons, List.Elements.All-contains, List.Elements.All-drop, List.Elements.All-get_or, List.Elements.All-head, List.Elements.All-nil, List.Elements.All-push, List.Elements.All-replicate, List.Elements.All-set, List.Elements.All-tail, List.Elements.All-take, List.Elements.All-weaker, List.Elements.Contains-append_cases, List.Elements.Contains-append_left, List.Elements.Contains-append_right, List.Elements.Contains-get_or, Option.same_Some, Option.slice_get_past, Option.slice_get_within}
pub use Rattle.std.specs.{List.refill, Prelude.All, Prelude.Contains, Prelude.IfOk, Prelude.IfSome, Prelude.IsSome, Prelude.OnErr, Prelude.option_to_list, Prelude.replicate, Prelude.slice_get}
