-- Every name of std, of the crates below and of this crate's definitions that the lemmas of these laws speak of.
pub use Rattle.nmgc_limits.specs.declared.mutators.TheConstants.{SHARED_MAKER}
pub use Rattle.nmgc_lists.specs.laws.Items.{at_some, contains_cases, contains_flat, contains_head, contains_one, contains_tail, is_some_of, nothing_in, one_is, place_of}
pub use Rattle.nmgc_snapshot_laws.specs.{Closing.IsClosing, Closing.IsDying, Closing.IsMarkedFirst, Closing.IsMarkedLast, Closing.IsRescued, Closing.IsRevived, Closing.IsUnmarked, Closing.IsWaiting, Facts.AsThen, Facts.Base, Facts.Facts, Facts.IsAhead, Facts.IsLiveIn, Facts.IsPassed, Facts.IsSafe, Facts.Kept, Facts.MayHold, Facts.marked, Facts.owed, Facts.pushed, Facts.queued, Facts.unmarked, Machine.AreEmpty, Machine.IsPossible, Machine.Passes, Machine.advanced, Machine.after_command, Machine.after_push, Machine.after_scan, Machine.after_take, Machine.pushed_of, Run.ClosingIsExact, Run.EventKeepsFacts, Run.FactsAreKept, Run.IsExact, Run.IsMarking, Run.OpeningHasFacts, Run.Runs, Run.SnapshotTheorem, Run.row_of, Run.rows_if, Scan.field_at, Scan.fields_of, Scan.is_last, Scan.moved_on, Scan.read_at, State.Order, State.State, State.entry_of, State.is_listed, State.is_new, State.mark_name, State.mark_read, State.joined, State.mark_values, State.names_of, State.newest_first, State.oldest_first, State.opening_in, State.root_values, State.with_mark}
pub use Rattle.nmgc_snapshot_laws.specs.declared.{event.Entry.Entry, event.Event.Event}
pub use Rattle.nmgc_world_laws.specs.{Holds.CoversReach, Holds.Fields, Holds.HasStrongField, Holds.Names, Holds.StillThere, Holds.free_of, Holds.has_result, Holds.strong_at, laws.Alive.AliveOk, laws.Alive.WeaksOk, laws.Alive.step_weaks, laws.Barrier.IsStrongChange, laws.Barrier.Writes, laws.Barrier.changed_fields, laws.Barrier.field_at_place, laws.Barrier.place_of_field, laws.Barrier.same_later, laws.Deaths.keeping_nodes as keeping_kept, laws.Distinct.distinct_push, laws.Growth.step_grows, laws.HeldSteps.alive_ok as each_weak, laws.Moves.RespectsBarrier, laws.Moves.operand_has, laws.Moves.operands_have, laws.NodeLaws.next_is_new, laws.NodeLaws.node_born, laws.NodeLaws.node_cases, laws.NodeLaws.nodes_kept, laws.NodeLaws.own_node, laws.WeakMoves.Ends, laws.WeakMoves.all_moves, laws.WeakMoves.finalised_owed, laws.WeakMoves.opened_owed, laws.WorldSteps.change_count, laws.WorldSteps.step_keeps_world, laws.Worlds.not_shared}
pub use Rattle.nmgc_world_spec.specs.{World.changed, World.is_same_name, World.born, World.change_object, World.keeping, World.next_name, World.object_of, World.shared_name, World.step, World.value_for, World.with_node, World.with_state, World.World, World.held_by, World.no_mutator, World.node_of, World.serial_of, World.state_of, Reach.IsLegal, Reach.Row, Reach.finalised, Reach.finalised_by, Reach.name_in, Reach.opened, Reach.opened_by, Reach.replayed, Reach.AreDistinct, Reach.names_among, Reach.owed_by, Reach.values_owed, Reach.IsAlive, Reach.IsDead, Reach.IsKept, Reach.IsKeptBy, Reach.IsLive, Reach.IsRoot, Reach.Lists, Reach.RefersTo, Reach.closed, Reach.field, Reach.further, Reach.live_key, Reach.plain_key, Reach.root, Reach.strong_fields, Pieces.finalised_in, Known.CanApply, Pieces.change_node, Pieces.holding, Pieces.holding_given, Pieces.with_finaliser, Known.Grows, Known.IsKnown, Known.IsNodeOf, Known.IsSized, Known.IsWorld}
pub use Rattle.nmgc_world_spec.specs.{declared.change.Change.Change, declared.command.Command.Command, declared.command.Operand.Operand, declared.command.Reply.Reply, declared.mutator_state.MutatorState.MutatorState, declared.node.Node.Node, declared.node.Node.TheVariants.Arr, declared.node.Node.TheVariants.Con, declared.node.Node.TheVariants.Stack, declared.node.Node.TheVariants.Thunk, declared.node.Node.TheVariants.Var, declared.node.Node.TheVariants.Weak, declared.node.Parts.Parts, declared.value.Name.Name, declared.value.Value.Value, laws.Orders.name_cases, laws.Orders.same_name}
pub use Rattle.std.proofs.{Common.Bool, Common.List, Common.None, Common.Option, Common.Some, Common.[], Common.ap, Common.append-nil, Common.append_assoc, Common.arith, Common.cond, Common.drop, Common.eqb, Common.false, Common.get_or, Common.inl, Common.inr, Common.leb, Common.length, Common.length-set, Common.not, Common.refl, Common.replicate, Common.set, Common.subst, Common.suc, Common.sym, Common.true, Common.zero, Common.ℕ, Common.◌++◌, Common.◌+◌, Common.◌<◌, Common.◌∙◌, Common.◌∷◌, Common.◌≡◌, Common.◌≢◌, Common.◌≤◌, Common.◌⊎◌, lemmas.Bool.and_cases, lemmas.Bool.and_from, lemmas.Bool.and_left, lemmas.Bool.and_parts, lemmas.Bool.and_right, lemmas.Bool.cases_eq, lemmas.Bool.cases_lt, lemmas.Bool.cond_both, lemmas.Bool.eq-eqb, lemmas.Bool.eqb-true, lemmas.Bool.false_from_ne_true, lemmas.Bool.lt-leb, lemmas.Bool.ne_eqb, lemmas.Bool.not-false, lemmas.Bool.not-true, lemmas.Bool.or_cases, lemmas.Bool.or_from, lemmas.Bool.or_parts, lemmas.List.get_or-set_other, lemmas.List.get_or-set_same, lemmas.List.get_or_past, lemmas.List.length-replicate, lemmas.List.Elements.All-append, lemmas.List.Elements.All-cons, lemmas.List.Elements.All-contains, lemmas.List.Elements.All-head, lemmas.List.Elements.All-nil, lemmas.List.Elements.All-replicate, lemmas.List.Elements.All-tail, lemmas.List.Elements.Contains-append_cases, lemmas.List.Elements.Contains-append_left, lemmas.List.Elements.Contains-append_right, lemmas.List.Elements.Contains-get_or, lemmas.List.Elements.Contains-push, lemmas.List.Elements.Contains-push_cases, lemmas.Option.get_or_from_slice_get, lemmas.Option.same_Some, lemmas.Option.slice_get_past, lemmas.Option.slice_get_within}
pub use Rattle.std.specs.Prelude.{All, Contains, IfSome, IsSome, flat_map, is_some, slice_get, ◌&&◌}
