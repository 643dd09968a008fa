-- Every name of std, of the crates below and of this crate's definitions that the proofs speak of.
pub use Rattle.nmgc_core.specs.{Finding.Adds, Finding.AreRevived, Finding.IsFirstFound, Finding.IsFollowed, Finding.IsLastFound, Finding.IsPass, Finding.IsReached, Finding.IsReviving, Finding.IsSearch, Finding.IsWaitingWeak, Finding.is_hidden, Finding.values_kept, Sound.IsCore, Sound.IsFound, declared.closing.Closing.Closing, declared.closing.Finding.Finding}
pub use Rattle.nmgc_graph.specs.{Marks.HasPlace, Marks.HasPlaces, Marks.IsMarked, Marks.mark_of, Marks.unmarked_count, Marks.with_mark, Search.IsSetOf, Search.finaliser_in, Search.finalisers_of, Search.is_key_marked, Search.parts_of, laws.Common.parts_from_alive, laws.Rows.added, laws.Rows.kept_others, laws.Rows.makers_kept, laws.Rows.marked_place, laws.Rows.name_placed, laws.Rows.one_fewer, laws.Rows.places_kept}
pub use Rattle.nmgc_limits.specs.declared.mutators.TheConstants.{SHARED_MAKER}
pub use Rattle.nmgc_lists.specs.{declared.memory.NoMemory.NoMemory, laws.Items.contains_cases, laws.Items.contains_flat, laws.Items.contains_head, laws.Items.contains_one, laws.Items.contains_tail, laws.Items.flat_contains, laws.Items.is_some_get, laws.Items.none_first, laws.Items.nothing_in, laws.Items.one_is, laws.Truths.same_test}
pub use Rattle.nmgc_snapshot_laws.specs.{Closing.IsClosing, Closing.IsDying, Closing.IsMarkedFirst, Closing.IsMarkedLast, Closing.IsRescued, Closing.IsRevived, Closing.IsUnmarked, Closing.IsWaiting, Machine.Passes, Machine.advanced, Machine.after_scan, Run.IsSnapshotMarking, Run.Runs, Run.rows_if, Scan.read_at, State.State, State.entry_of, State.is_listed, State.is_new, State.mark_name, State.mark_read, State.mark_value, State.mark_values, State.names_of, State.oldest_first, State.opening, declared.event.Entry.Entry, declared.event.Event.Event, laws.Listed.contains_listed, laws.Listed.is_same_name-refl, laws.Listed.listed_from, laws.Listed.tested_same, laws.Marking.mark_cases, laws.Runs.opening_world, laws.Runs.runs_push, laws.Runs.snapshot_theorem, laws.Turns.step_alive}
pub use Rattle.nmgc_world_laws.specs.{Holds.Names, laws.Growth.step_grows, laws.Worlds.not_shared}
pub use Rattle.nmgc_world_spec.specs.{World.is_same_name, World.shared_name, World.step, World.with_node, World.with_state, World.World, World.node_of, World.state_of, Reach.Row, Reach.finalised_by, Reach.IsAlive, Reach.IsAliveWeak, Reach.IsKeptBy, Reach.IsPlain, Reach.Lists, Reach.RefersTo, Reach.closed, Reach.closed_by, Reach.queued, Reach.strong_fields, Known.CanApply, Pieces.with_nth, Known.IsWorld, declared.command.Command.Command, declared.command.Reply.Reply, declared.mutator_state.MutatorState.MutatorState, declared.node.Node.Node, declared.node.Node.TheVariants.Arr, declared.node.Node.TheVariants.Con, declared.node.Node.TheVariants.Stack, declared.node.Node.TheVariants.Thunk, declared.node.Node.TheVariants.Var, declared.node.Node.TheVariants.Weak, declared.node.Parts.Parts, declared.value.Name.Name, declared.value.Value.Value, laws.Common.same_ref, laws.Orders.contains_filter, laws.Orders.filter_contains, laws.Orders.in_order_filter, laws.Orders.name_cases}
pub use Rattle.std.proofs.{Common.Bool, Common.Err, Common.List, Common.None, Common.Ok, Common.Option, Common.Result, Common.Some, Common.[], Common.ap, Common.arith, Common.cond, Common.drop, Common.eqb, Common.false, Common.get_or, Common.inl, Common.inr, Common.length, Common.length-append, Common.length-set, Common.not, Common.refl, Common.replicate, Common.set, Common.subst, Common.suc, Common.sym, Common.take, Common.true, Common.zero, Common.ℕ, Common.◌++◌, Common.◌+◌, Common.◌<◌, Common.◌∙◌, Common.◌∷◌, Common.◌≡◌, Common.◌⊎◌, lemmas.Bool.cases_Bool, lemmas.Bool.eq-eqb, lemmas.Bool.eqb-true, lemmas.Bool.false_from_ne_true, lemmas.Bool.false≢true, lemmas.Bool.not-true, lemmas.Bool.not_from_false, lemmas.Bool.Decides.eqb_tells, lemmas.Grind.flat_map-append, lemmas.List.append-nil, lemmas.List.get_or-set_same, lemmas.List.length-replicate, lemmas.List.set-get_or, lemmas.List.take-append-le, lemmas.List.take_all, lemmas.List.take_more, lemmas.List.Elements.Contains-append_cases, lemmas.List.Elements.Contains-append_left, lemmas.List.Elements.Contains-append_right, lemmas.List.Elements.Contains-get_or, lemmas.List.Elements.Contains-push, lemmas.List.Elements.Contains-push_cases}
pub use Rattle.std.specs.Prelude.{All, Contains, IfNone, IfOk, IfSome, IsSome, OnOk, filter, flat_map, is_some, slice_get, ◌&&◌, ◌==◌, ◌||◌, ◌↔◌}
