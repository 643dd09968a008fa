-- Every name of std, of the crates below and of this crate's definitions that the lemmas of these laws speak of.
pub use Rattle.nmgc_barrier_laws.specs.{Barrier.BarrierTheorem, Barrier.Beside, Barrier.HasFinished, Barrier.IsOnItsWay, Barrier.IsSorted, Barrier.JointTheorem, Barrier.SomeMarkerFinishes, Barrier.SomeMarkerIsBeside, Barrier.Watches, Barrier.after_pushing, Barrier.names_in, Cycle.Cycle, Cycle.IsPushed, Cycle.IsTook, Cycle.IsWatched, Cycle.MarksName, Cycle.Owes, Cycle.watching, Due.IsBroken, Due.IsDue, Due.IsEnded, Lax.IsFloated, Lax.IsGiven, Lax.IsLax, Lax.IsShuffled, Lax.LaxKeepsFacts, Lax.LaxRow, Lax.LaxRuns, Lax.LaxSteps, Lax.LaxTheorem, Lax.after_owing, declared.debt.Debt.Debt}
pub use Rattle.nmgc_limits.specs.declared.mutators.TheConstants.{SHARED_MAKER}
pub use Rattle.nmgc_lists.specs.laws.Items.{at_some, contains_cases, contains_head, contains_one, contains_tail, get_is_some, nothing_in, one_is}
pub use Rattle.nmgc_snapshot_laws.specs.{Closing.IsClosing, Facts.AsThen, Facts.Base, Facts.Facts, Facts.IsAhead, Facts.IsSafe, Facts.Kept, Facts.MayHold, Facts.marked, Facts.owed, Facts.pushed, Facts.queued, Machine.AreEmpty, Machine.IsPossible, Machine.advanced, Machine.after_command, Machine.after_push, Machine.after_scan, Machine.after_take, Machine.pushed_of, Run.IsExactClosing, Scan.fields_of, Scan.is_last, Scan.moved_on, Scan.read_at, State.State, State.is_listed, State.is_new, State.mark_name, State.mark_read, State.mark_values, State.names_of, State.oldest_first, State.opening, State.root_values, State.unmarked, State.with_mark, declared.event.Entry.Entry, laws.Commands.holds_shared, laws.Commands.next_absent, laws.Handing.dropped, laws.Handing.push_cases, laws.Listed.all_from_contains, laws.Listed.contains_listed, laws.Listed.each_names, laws.Listed.has_place, laws.Listed.listed_from, laws.Listed.name_among, laws.Listed.names_among_have, laws.Listed.names_other, laws.Listed.names_same, laws.Lives.live_more, laws.Lives.part_there, laws.Lives.refers, laws.Lives.target_there, laws.Marking.mark_cases, laws.Marking.mark_facts, laws.Marking.marked_then, laws.Openings.no_names, laws.Openings.opening_facts, laws.Runs.SameHistory, laws.Runs.closing_is_exact, laws.Runs.finalised-push, laws.Runs.legal_push, laws.Runs.live_from, laws.Runs.mark_history, laws.Runs.opened-push, laws.Runs.replayed-push, laws.Runs.scan_history, laws.Runs.values_history, laws.Scans.scan_facts, laws.Turns.step_adds, laws.Turns.step_alive}
pub use Rattle.nmgc_world_laws.specs.{Holds.CoversReach, Holds.Fields, Holds.HasStrongField, Holds.Names, Holds.StillThere, Holds.has_result, Holds.strong_at, laws.Alive.AliveOk, laws.Alive.WeaksOk, laws.Alive.step_weaks, laws.Growth.step_grows, laws.HeldSteps.alive_ok as each_weak, laws.Moves.RespectsBarrier, laws.Moves.operand_has, laws.WeakMoves.Ends, laws.WeakMoves.all_moves, laws.WeakMoves.finalised_owed, laws.WeakMoves.opened_owed, laws.WorldSteps.step_keeps_world, laws.Worlds.not_shared}
pub use Rattle.nmgc_world_spec.specs.{World.is_same_name, World.next_name, World.shared_name, World.step, World.value_for, World.World, World.no_mutator, World.node_of, World.serial_of, World.state_of, Reach.IsLegal, Reach.Row, Reach.finalised, Reach.finalised_by, Reach.opened, Reach.opened_by, Reach.replayed, Reach.owed_by, Reach.values_owed, Reach.IsAlive, Reach.IsDead, Reach.IsKept, Reach.IsKeptBy, Reach.IsLive, Reach.Lists, Reach.RefersTo, Reach.closed, Reach.field, Reach.further, Known.CanApply, Known.Grows, Known.IsWorld, declared.command.Command.Command, declared.command.Operand.Operand, declared.command.Reply.Reply, declared.mutator_state.MutatorState.MutatorState, declared.node.Node.Node, declared.node.Node.TheVariants.Weak, declared.node.Parts.Parts, declared.value.Name.Name, declared.value.Value.Value, laws.Orders.name_cases}
pub use Rattle.std.proofs.{Common.Bool, Common.List, Common.None, Common.Option, Common.Some, Common.[], Common.ap, Common.append-nil, Common.arith, Common.cond, Common.eqb, Common.false, Common.get_or, Common.inl, Common.inr, Common.leb, Common.length, Common.length-set, Common.not, Common.refl, Common.replicate, Common.set, Common.subst, Common.suc, Common.sym, Common.true, Common.zero, Common.ℕ, Common.◌++◌, Common.◌+◌, Common.◌-◌, Common.◌<◌, Common.◌∙◌, Common.◌∷◌, Common.◌≡◌, Common.◌≢◌, Common.◌≤◌, Common.◌⊎◌, lemmas.Bool.and_from, lemmas.Bool.and_parts, lemmas.Bool.and_right, lemmas.Bool.cases_eq, lemmas.Bool.cases_lt, lemmas.Bool.cond_both, lemmas.Bool.false_from_ne_true, lemmas.Bool.false≢true, lemmas.Bool.leb-false, lemmas.Bool.not-true, lemmas.Bool.not_from_false, lemmas.Bool.not_from_true, lemmas.Bool.or_parts, lemmas.Bool.Decides.eqb_tells, lemmas.List.get_or_past, lemmas.List.length-replicate, lemmas.List.Elements.All-append, lemmas.List.Elements.All-cons, lemmas.List.Elements.All-head, lemmas.List.Elements.All-nil, lemmas.List.Elements.All-tail, lemmas.List.Elements.Contains-append_cases, lemmas.List.Elements.Contains-append_left, lemmas.List.Elements.Contains-append_right, lemmas.List.Elements.Contains-get_or, lemmas.List.Elements.Contains-push}
pub use Rattle.std.specs.Prelude.{All, Contains, IfSome, IsSome, filter, is_some, ◌&&◌, ◌↔◌}
