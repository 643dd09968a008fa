-- Every name of std, of the crates below and of this crate's definitions that the proofs speak of.
pub use Rattle.nmgc_graph.specs.{Closing.finaliser_of, Marks.HasPlace, Marks.HasPlaces, Marks.IsMarked, Marks.IsPlaced, Marks.count_of, Marks.mark_of, Marks.row_of, Marks.unmarked_count, Marks.with_mark, Search.AreRevived, Search.IsFollowed, Search.IsKeptFound, Search.IsLiveFound, Search.IsLiveSearch, Search.IsLost, Search.IsSearch, Search.IsSetOf, Search.fields_in, Search.finaliser_in, Search.finalisers_of, Search.is_key_marked, Search.is_lost, Search.parts_in, Search.parts_of, Search.starts_of, Search.values_held, Search.with_name, Search.with_value, Search.with_values, Search.with_weak, Search.with_weaks, Waiting.AreFiled, Waiting.HasBound, Waiting.IsBound, Waiting.IsRevival, Waiting.bound_of, Waiting.bounds_of, Waiting.key_of, Waiting.name_in, Waiting.weak_at, Waiting.with_bound, Waiting.with_next}
pub use Rattle.nmgc_graph.specs.{declared.search.Search.Search, declared.waiting.Waiting.Waiting, laws.Common.alive_from_parts, laws.Common.parts_alive, laws.Common.parts_from_alive, laws.Rows.added, laws.Rows.kept_others, laws.Rows.makers_kept, laws.Rows.marks_listed, laws.Rows.name_placed, laws.Rows.one_fewer, laws.Rows.places_kept}
pub use Rattle.nmgc_limits.specs.declared.mutators.TheConstants.{SHARED_MAKER}
pub use Rattle.nmgc_lists.specs.{declared.memory.NoMemory.NoMemory, laws.Items.all_back, laws.Items.all_front, laws.Items.contains_cases, laws.Items.contains_head, laws.Items.contains_tail, laws.Items.get_is_some, laws.Items.is_some_of, laws.Options.copied_is_some}
pub use Rattle.nmgc_world_laws.specs.laws.{Closings.closed_length, Closings.closed_other, Closings.closed_state, Closings.dead_keeps, Closings.with_dead, Growth.asked_keeps, Nodes.fields_known, Weaks.weak_maker, Weaks.weak_within, Worlds.born_keeps, Worlds.finaliser_keeps, Worlds.holding_keeps, Worlds.in_state, Worlds.lent, Worlds.maker_exists, Worlds.not_shared, Worlds.nth_changed, Worlds.nth_reply, Worlds.operands_known, Worlds.refill_whole, Worlds.replaced, Worlds.same_state, Worlds.shared_changed, Worlds.within}
pub use Rattle.nmgc_world_spec.specs.{World.changed, World.exchanged_at, World.field_exchanged, World.field_set, World.is_same, World.last_of, World.stack_popped, World.stack_pushed, World.thunk_updated, World.weak_finalised, World.shared_name, World.value_of, World.with_node, World.with_state, World.World, World.new_mutator, World.no_mutator, World.node_of, World.parts_held, World.serial_of, World.state_of, Written.field_written, Pieces.given_or, Written.is_done, Written.killed, Written.result_written, Written.top_dropped, Written.value_pushed, Pieces.without_last, Written.written, Known.IsOperand, Order.ListsBefore, Reach.names_among, Reach.IsAlive, Reach.IsAliveWeak, Reach.IsBefore, Reach.IsDead, Reach.IsInOrder, Reach.IsKept, Reach.IsKeptBy, Reach.IsLive, Reach.IsPlain, Reach.IsReached, Reach.IsRoot, Reach.Lists, Reach.RefersTo, Reach.closed, Reach.closed_by, Reach.strong_fields, Written.asked, Pieces.change_node, Pieces.holding, Pieces.with_finaliser, Pieces.with_new, Pieces.with_nth, Known.AreKnown, Known.IsKnown, Known.IsKnownChange, Known.IsKnownReply, Known.IsNodeOf, Known.IsWorld}
pub use Rattle.nmgc_world_spec.specs.{declared.change.Change.Change, declared.command.Operand.Operand, declared.command.Reply.Reply, declared.command.Reply.TheVariants.Fine, declared.command.Reply.TheVariants.No, declared.command.Reply.TheVariants.NoField, declared.command.Reply.TheVariants.StackEmpty, declared.command.Reply.TheVariants.StackFull, declared.command.Reply.TheVariants.Yes, declared.mutator_state.MutatorState.MutatorState, declared.node.Node.Node, declared.node.Node.TheVariants.Arr, declared.node.Node.TheVariants.Con, declared.node.Node.TheVariants.Stack, declared.node.Node.TheVariants.Thunk, declared.node.Node.TheVariants.Var, declared.node.Node.TheVariants.Weak, declared.node.Parts.Parts, declared.value.Name.Name, declared.value.Value.Value, declared.value.Value.TheVariants.Nil, declared.value.Value.TheVariants.Number, declared.value.Value.TheVariants.Ref, laws.Common.none_left, laws.Orders.contains_filter, laws.Orders.filter_contains, laws.Orders.in_order_apart, laws.Orders.in_order_filter, laws.Orders.in_order_first, laws.Orders.in_order_rest, laws.Orders.in_order_take, laws.Orders.lists_all, laws.Orders.lists_maker, laws.Orders.lists_more, laws.Orders.lists_same, laws.Orders.name_cases, laws.Orders.not_before_itself, laws.Orders.same_name}
pub use Rattle.std.proofs.{Common.Bool, Common.Err, Common.List, Common.None, Common.Ok, Common.Option, Common.Result, Common.Some, Common.[], Common.ap, Common.arith, Common.cond, Common.eqb, Common.false, Common.get_or, Common.inl, Common.inr, Common.length, Common.length-append, Common.ltb, Common.map, Common.not, Common.refl, Common.replicate, Common.set, Common.subst, Common.suc, Common.sym, Common.take, Common.true, Common.zero, Common.ℕ, Common.◌++◌, Common.◌+◌, Common.◌-◌, Common.◌<◌, Common.◌∙◌, Common.◌∷◌, Common.◌≡◌, Common.◌≢◌, Common.◌≤◌, Common.◌⊎◌, Math.ListN.get_or-append, Math.Seq.get_or-append_seam}
pub use Rattle.std.proofs.lemmas.{Bool.and_from, Bool.and_parts, Bool.cases_Bool, Bool.cases_eq, Bool.cases_lt, Bool.false_from_ne_true, Bool.false≢true, Bool.lt-ltb, Bool.ne_eqb, Bool.not-true, Bool.not_from_false, Bool.Decides.eqb_tells, List.get_or-set_other, List.get_or-set_same, List.get_or_past, List.get_or_read, List.length-set, List.take_more, List.Elements.All-append, List.Elements.All-cons, List.Elements.All-contains, List.Elements.All-from_get_or, List.Elements.All-get_or, List.Elements.All-head, List.Elements.All-map, List.Elements.All-nil, List.Elements.All-tail, List.Elements.All-take, List.Elements.All-weaker, List.Elements.Contains-append_cases, List.Elements.Contains-append_left, List.Elements.Contains-append_right, List.Elements.Contains-get_or, List.Elements.Contains-push, List.Elements.Contains-push_cases, List.Sums.fold-append, Option.get_or_from_slice_get}
pub use Rattle.std.specs.{List.refill, Prelude.All, Prelude.Contains, Prelude.IfOk, Prelude.IfSome, Prelude.IsSome, Prelude.OnErr, Prelude.OnOk, Prelude.filter, Prelude.flat_map, Prelude.is_some, Prelude.option_and_then, Prelude.slice_get, Prelude.slice_index}
