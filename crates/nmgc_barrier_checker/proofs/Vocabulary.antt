-- Every name of std, of the crates below and of this crate's definitions that the proofs speak of.
pub use Rattle.nmgc_barrier_laws.specs.{Cycle.AreKeysLeft, Cycle.Cycle, Cycle.IsAllTaken, Cycle.IsDeadAmong, Cycle.IsKeyLeft, Cycle.IsPushed, Cycle.IsTook, Cycle.MarksName, Cycle.Needs, Cycle.watching, Due.IsBroken, Due.IsDue, Due.IsEnded, Hybrid.AreScanned, Hybrid.CanHand, Hybrid.Hybrid, Hybrid.IsDueIn, Hybrid.IsHandedBy, Hybrid.IsHandedOut, Hybrid.IsHandedOver, Hybrid.IsScanned, Hybrid.IsWatchedIn, Hybrid.beginning, Hybrid.handed_over, Hybrid.held_names, Hybrid.is_scanned, Hybrid.scanned_at_once, declared.debt.Debt.Debt, laws.Beside.barrier_theorem, laws.TiedPush.dead_same, laws.TiedPush.kept_same}
pub use Rattle.nmgc_graph.specs.{Marks.HasPlace, Marks.HasPlaces, Marks.IsMarked, Marks.mark_of, Marks.with_mark, Search.IsSetOf, Search.parts_of, laws.Common.alive_from_parts as alive_parts, laws.Common.parts_from_alive as parts_alive, laws.Rows.added, laws.Rows.kept_others, laws.Rows.makers_kept, laws.Rows.marked_place, laws.Rows.name_placed, laws.Rows.places_kept}
pub use Rattle.nmgc_limits.specs.declared.mutators.TheConstants.{REGISTERS, SHARED_MAKER}
pub use Rattle.nmgc_lists.specs.laws.{Items.at_some, Items.contains_at, Items.contains_cases, Items.contains_flat, Items.contains_head, Items.contains_one, Items.contains_option, Items.contains_tail, Items.flat_contains, Items.get_is_some, Items.is_some_get, Items.none_first, Items.nothing_in, Items.one_is, Items.place_of, Items.slice_get-append, Items.slice_get-set_other, Items.slice_get-take, Options.copied_is_some, Truths.or_first as or_left, Truths.or_second as or_right, Truths.unmarked, Truths.unmarked as not_true}
pub use Rattle.nmgc_snapshot_laws.specs.{State.is_listed, laws.Listed.contains_listed, laws.Listed.is_same_name-refl, laws.Listed.listed_from, laws.Listed.name_among, laws.Listed.not_listed, laws.Listed.tested_same, laws.Lives.live_there, laws.Lives.part_there, laws.Lives.target_there, laws.Turns.step_alive}
pub use Rattle.nmgc_barrier_checker.specs.{Accounts.AreAccounts, Accounts.AreNew, Accounts.IsForgotten, Accounts.IsLeastIn, Accounts.IsOwing, Accounts.IsPaidUp, Accounts.all_debts, Accounts.debt_of, Accounts.is_new, Accounts.is_unpaid, Accounts.owed_one, Accounts.queue_of, Accounts.set_of, Accounts.unpaid, Cycles.Hands, Cycles.IsCycle, Cycles.IsGivenOver, Cycles.IsNotDone, Cycles.IsMadeDue, Cycles.IsNotScanned, Cycles.IsOpenedWith, Cycles.IsTaken, Cycles.IsUntakenIf, Cycles.IsUntakenIn, Cycles.IsUntakenName, Cycles.IsWhyNoHand, Cycles.IsWhyNot, Cycles.is_outside, Cycles.is_untaken, Cycles.key_names, Cycles.keys_then, Dues.IsStanding, Dues.end_place, Dues.first_place, Dues.given_names, Dues.is_ref_to, Dues.kept_of, Dues.kept_then, Dues.stands_in, Dues.strong_in, Dues.targets, NameSet.IsListed, NameSet.Joins, NameSet.joined, SortedNames.AreMet, SortedNames.IsBetween, SortedNames.IsPlaceOf, SortedNames.StandsAt, Rows.copied, Rows.emptied, Rows.filled, Rows.Suits, Rows.is_done, Rows.load_of, Rows.store_of, Rows.task_of, Rows.write_of, Watching.AreActed, Watching.AreClosed, Watching.AreDone, Watching.AreHeldIf, Watching.AreHeldIn, Watching.AreKnownIn, Watching.AreRows, Watching.Can, Watching.CanAct, Watching.CanBlack, Watching.CanClose, Watching.CanCloseWith, Watching.CanFreed, Watching.CanGive, Watching.CanGiveOver, Watching.CanMark, Watching.CanMarkShared, Watching.CanMarked, Watching.CanPush, Watching.CanRows, Watching.CanScan, Watching.CanSettle, Watching.CanStop, Watching.CanTake, Watching.ClosedIsExact, Watching.CountsAsScanned, Watching.EveryEventIsJudged, Watching.IsAbsent, Watching.IsAct, Watching.IsAgainst, Watching.IsAgainstIf, Watching.IsBlackName, Watching.IsDeadIf, Watching.IsLeft, Watching.IsResultWith, Watching.IsMissingIf, Watching.IsKnownIn, Watching.IsStep, Watching.IsStopped, Watching.IsWhy, Watching.KeptIsMarked, Watching.MayFree, Watching.NeededIsKept, Watching.NeedsNoScan, Watching.ReasonsRefuse, Watching.StopsAt, Watching.WhyBlack, Watching.WhyClose, Watching.WhyCloseWith, Watching.WhyFreed, Watching.WhyGive, Watching.WhyKept, Watching.WhyMark, Watching.WhyMarked, Watching.WhyNoAct, Watching.WhyNotGivenOver, Watching.WhyPush, Watching.WhyScan, Watching.WhySettle, Watching.WhyStop, Watching.WhyTake, Watching.is_old, Watching.is_stopped, Watching.mutators_of, Watching.put, Watching.put_back, Watching.registers_in, Watching.with_value}
pub use Rattle.nmgc_barrier_checker.specs.declared.{accounts.Accounts.Accounts, due.Field.Field, event.Event.Event, event.Why.Why, hand.Hand.Hand, cycle_result.CycleResult.CycleResult, name_set.NameSet.NameSet, rows.Copying.Copying, rows.Filling.Filling, rows.Task.Task, watch.Watch.Watch}
pub use Rattle.nmgc_world_laws.specs.{Holds.HasStrongField, Holds.Names, Holds.strong_at, laws.Barrier.exchanged_node, laws.Barrier.two_nodes, laws.Keeps.Any, laws.Keeps.hand_nodes, laws.Keeps.stepped, laws.Keeps.still_there, laws.NodeLaws.next_is_new, laws.NodeLaws.node_born, laws.NodeLaws.node_cases, laws.Steps.Object, laws.Steps.Stepped, laws.WorldSteps.step_keeps_world, laws.Worlds.not_shared, laws.Worlds.refill_whole}
pub use Rattle.nmgc_world_spec.specs.{World.changed, World.field_exchanged, World.field_set, World.is_same_name, World.stack_popped, World.stack_pushed, World.shared_name, World.step, World.World, World.no_mutator, World.node_of, World.serial_of, World.state_of, Known.HasRegisters, Known.IsOperand, Known.IsRegister, Reach.finalised_by, Reach.name_in, Reach.opened_by, Reach.names_among, Reach.IsAlive, Reach.IsAliveWeak, Reach.IsBefore, Reach.IsDead, Reach.IsInOrder, Reach.IsKept, Reach.IsKeptBy, Reach.IsLive, Reach.IsPlain, Reach.Lists, Reach.RefersTo, Reach.closed, Reach.strong_fields, Order.ListsBefore, Known.CanApply, Written.asked, Known.IsKnown, Known.IsNodeOf, Known.IsWorld, declared.change.Change.Change, declared.command.Command.Command, declared.command.Command.TheVariants.Cas, declared.command.Command.TheVariants.Collect, declared.command.Command.TheVariants.Deref, declared.command.Command.TheVariants.Finalise, declared.command.Command.TheVariants.Force, declared.command.Command.TheVariants.Full, declared.command.Command.TheVariants.Get, declared.command.Command.TheVariants.Mov, declared.command.Command.TheVariants.NextFin, declared.command.Command.TheVariants.Nil, declared.command.Command.TheVariants.Num, declared.command.Command.TheVariants.Pop, declared.command.Command.TheVariants.Push, declared.command.Command.TheVariants.Same, declared.command.Command.TheVariants.Set, declared.command.Command.TheVariants.Show, declared.command.Command.TheVariants.Tag, declared.command.Command.TheVariants.Update, declared.command.Command.TheVariants.Yield, declared.command.Operand.Operand, declared.command.Operand.TheVariants.Register, declared.command.Operand.TheVariants.Shared, declared.command.Reply.Reply, declared.command.Reply.TheVariants.Fine, declared.command.Reply.TheVariants.NoField, declared.command.Reply.TheVariants.StackFull, declared.mutator_state.MutatorState.MutatorState, declared.node.Node.Node, declared.node.Node.TheVariants.Arr, declared.node.Node.TheVariants.Con, declared.node.Node.TheVariants.Stack, declared.node.Node.TheVariants.Thunk, declared.node.Node.TheVariants.Var, declared.node.Node.TheVariants.Weak, declared.node.Parts.Parts, declared.value.Name.Name, declared.value.Value.Value, laws.Common.same_ref as ref_is, laws.Common.weak_there, laws.Common.weak_there as alive_there, laws.Orders.before_trans, laws.Orders.contains_filter, laws.Orders.filter_contains, laws.Orders.in_order_filter, laws.Orders.in_order_first, laws.Orders.in_order_rest, laws.Orders.lists_all, laws.Orders.lists_maker, laws.Orders.lists_more, laws.Orders.lists_none, laws.Orders.lists_same, laws.Orders.name_cases, laws.Orders.not_before_itself}
pub use Rattle.std.proofs.Common.{Bool, Bor, List, None, Option, Some, [], ap, append-nil, append_assoc, arith, cond, drop, eqb, false, get_or, inl, inr, length, length-set, ltb, map, not, refl, replicate, set, subst, suc, sym, take, true, zero, ℕ, ◌++◌, ◌+◌, ◌-◌, ◌/◌, ◌<◌, ◌^◌, ◌∙◌, ◌∷◌, ◌≡◌, ◌≢◌, ◌≤◌, ◌⊎◌}
pub use Rattle.std.proofs.lemmas.{Bool.and_cases, Bool.and_from, Bool.and_parts, Bool.cases_Bool, Bool.cases_eq, Bool.cases_lt, Bool.eq-eqb, Bool.eqb-true, Bool.false≢true, Bool.ne_eqb, Bool.not-false, Bool.or_cases, Bool.Decides.eqb_tells, List.get_or-set_other, List.get_or-set_same, List.get_or_default, List.get_or_past, List.length-replicate, List.take_all, List.take_more, List.Elements.All-append, List.Elements.All-cons, List.Elements.All-contains, List.Elements.All-head, List.Elements.All-nil, List.Elements.All-tail, List.Elements.Contains-append_cases, List.Elements.Contains-append_left, List.Elements.Contains-append_right, List.Elements.Contains-get_or, List.Elements.filter-append, Option.get_or_from_slice_get, Option.slice_get-get_or, Option.slice_get_within, Result.IfOk-weaker}
pub use Rattle.std.specs.Prelude.{All, Contains, IfNone, IsSome, filter, flat_map, is_none, is_some, option_copied, option_to_list, slice_get, slice_set, ◌&&◌, ◌||◌, ◌↔◌}
