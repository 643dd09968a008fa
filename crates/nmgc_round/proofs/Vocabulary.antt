-- Every name of std, of the crates below and of this crate's definitions that the proofs use.
pub use Rattle.atomic_table.proofs.{Lists.at_set, Names.!, Names.Fml, Names.Goes-dropped, Names.RefOf, Names.SProp, Names.Val, Names.a_type, Names.agg, Names.alive, Names.alloc_all, Names.and_then, Names.bounded, Names.by, Names.dcons, Names.dnil, Names.emp, Names.enter, Names.fact, Names.fact_i, Names.fjoin, Names.free_all, Names.ftrue, Names.get, Names.given, Names.inst_fn, Names.keep, Names.learn, Names.look_at, Names.named, Names.no_more, Names.nothing, Names.owns, Names.param, Names.pass_all, Names.qed, Names.raw, Names.returns, Names.sets, Names.shr_Tells, Names.shr_vals, Names.split, Names.stay_dropped, Names.tables, Names.types_at, Names.use0, Names.vcons, Names.vnil, Names.vptr, Names.vstruct, Names.walk_of, Names.yes, Names.‵, Names.◌$◌, Names.◌∵◌, Names.◌⊛◌, Walks.proved}
pub use Rattle.atomic_table.specs.Table.{Allows, Final, Joins, Me, Seen as SeenIn, Splits, keeps}
pub use Rattle.nmgc_heap_spec.specs.{Objects.AllMean, Objects.Fills, Objects.HasSlots, Objects.IsBetween, Objects.LiesWell, Objects.ListMeans, Objects.Means, Objects.Place, Objects.shared_place, Objects.Slot, Objects.fixed_slots, Objects.free_slots, Objects.header_of, Objects.holds, Objects.size_of, Objects.slots_of, Objects.unset, Objects.unspecified, Represents.IsNamed, Represents.IsObject as IsObjectAt, Represents.IsPlaced, Represents.NoNode, Represents.Represents, Changes.MayChange, Tracked.IsTracked, Tracked.IsWideIn, laws.Births.lies_less, laws.Changes.not_between, laws.Common.lies_within, laws.Headers.same_header, laws.Kinds.AreUnset, laws.Kinds.HasFields, laws.Kinds.KeepsFree, laws.Kinds.all_item, laws.Kinds.fields_of_slots, laws.Kinds.free_of_slots, laws.Kinds.item_all, laws.Kinds.item_cases, laws.Kinds.map_item, laws.Kinds.slots_mean, laws.Kinds.slots_none, laws.Kinds.slots_of_fields, laws.Kinds.slots_of_kept, laws.Kinds.values_fill, laws.Meanings.lies_above, laws.Slots.free_fixed, laws.Slots.slot_count, laws.Tracking.slot_tracked}
pub use Rattle.nmgc_limits.specs.{Limits.most_segment_words, declared.mutators.TheConstants.REGISTERS, declared.mutators.TheConstants.SHARED_MAKER, declared.mutators.TheConstants.SHARED_SLOTS}
pub use Rattle.nmgc_lists.specs.laws.{Items.at_some, Items.contains_at as contains_read, Items.contains_cases, Items.contains_head, Items.contains_one, Items.contains_tail, Items.is_some_of, Items.item_map, Items.nothing_in, Items.one_is, Items.place_of as item_of, Items.slice_get-append as item_left, Items.slice_get-append_last as at_last, Items.slice_get-set_other, Items.slice_get-set_same, Items.word_again as set_again, Truths.and_both, Truths.same_test as both}
pub use Rattle.nmgc_object.specs.{Words.InNursery, Words.InSegment, Words.segment_place, Words.word_total, Words.IsHeader, Words.IsName, Words.header_word, Words.name_word, Layouts.IsLayout, declared.layout.Layout.Layout, declared.layout.TheConstants.FIRST_PLACE, declared.layout.TheConstants.SHARED_PLACE, declared.size.TheConstants.HEADER_WORDS, declared.words.Header.Header, declared.words.TheConstants.NIL_WORD}
pub use Rattle.nmgc_round.specs.{Added.AddsCommand, Added.AddsIfMet, Added.AddsScan, Added.Stays, Compare.CanExchange, Compare.exchanged, Compare.words_exchanged, Empty.IsEmptyHeap, Empty.empty_array, Empty.first_opening, Empty.new_hand, Events.Happening, Events.IsLegal, Events.IsLegalIn, Events.after, Events.did, Events.done_by, Events.event_of, Events.replay, Events.rows_in, Events.scanned, Events.scans_in, Finishing.Ended, Finishing.HasAll, Finishing.HasEach, Finishing.IsFinished, Finishing.IsKeptThen, Finishing.Leaves, Finishing.places_then, Making.fields_made, Making.header_made, Marking.Marks, Marking.after_word, Marking.entry_past, Marking.is_last_word, Marking.is_thunk, Marking.marks_after, Marking.marks_of, Marking.name_at, Marking.name_meant, Marking.name_read, Marking.offset_of, Marking.rest_of, Marking.with_name, Naming.AllReply, Naming.Replies, Objects.IsApart, Objects.IsEarlierNode, Objects.IsFree, Objects.IsIn, Objects.IsLater, Objects.IsObject, Objects.IsOld, Objects.IsPlace, Objects.IsStanding, Objects.KeepsOf, Objects.Object, Objects.RepresentsInRound, Objects.earlier, Objects.end_of, Objects.free_of, Objects.place_of, Owing.finding_all, Owing.fixed_at, Owing.fixed_from, Owing.owed_words, Own.OwnSlots, Own.old_stacks, Own.place_named, Own.slots_at, Own.slots_of_node, Own.stacks_at, Own.word_in, Ready.CanBear, Ready.CanGive, Ready.CanLoad, Ready.CanScan, Ready.CanStore, Ready.CanSwap, Ready.IsMutator, Ready.IsReadable, Ready.IsWritable, Ready.Mutates, Ready.Names, Ready.first_of, Ready.operand_word, Ready.scanned_by, Results.CanForce, Results.CanUpdate, Results.forced, Results.free_named, Results.result_answer, Results.updated, Rule.Agrees, Rule.AllAnswer, Rule.AllRead, Rule.Answers, Rule.AreKnown, Rule.AreOwed, Rule.Fits, Rule.Holding, Rule.IsActive, Rule.IsFixed, Rule.IsHand, Rule.IsIdle, Rule.IsNew, Rule.IsOpening, Rule.IsQueued, Rule.IsRead, Rule.Keeps, Rule.Owes, Rule.Rests, Rule.Stopped, Rule.base_of, Rule.limit_of, Rule.now, Rule.top_of, Seat.IsAt, Seat.RoundSeat, Seat.opening_of, Seat.seen, Seating.CanSplit, Seating.all_together, Seating.alone, Seating.alones, Seating.collecting, Seating.from, Seating.gives_first, Seating.keeps_rest, Seating.mutates, Seating.together, Stacks.CanPeek, Stacks.CanPop, Stacks.CanPush, Stacks.CanSlot, Stacks.IsOwn, Stacks.IsRefusedSlot, Stacks.FindsSlot, Stacks.slot_refusal_reply, Stacks.slot_refused, Stacks.slot_swapped, Starting.CanOpen, Starting.HandStands, Stop.words_of, Known.CanFix, Known.CanTake, Known.CanAnswer, Known.IsForeign, Known.IsRefused, Known.IsSafe, Known.FindsEntry, Known.FindsField, Known.FindsFixed, Known.FindsHeader, Known.FindsName, Known.FindsQueue, Known.FindsScan, Known.first_answer, Known.get_refusal, Known.header_at, Known.owner_refusal, Known.refused, Known.set_refusal, Known.taken, Known.known, Known.known_answer, View.Answer, View.DoneRow, View.FixedWord, View.Hand, View.Opening, View.Part, View.Scan, View.Seen, View.Slots, View.UnbornWord, View.answered, View.bearing_object, View.blank, View.blanks, View.doing, View.exclusive, View.finding, View.first_changed, View.gave_birth, View.hand_now, View.hand_of, View.holding, View.leaves, View.loaded, View.met, View.met_at_birth, View.next_of, View.no_hand, View.nobody, View.owed_word, View.plain, View.scanning, View.stored, View.storing, View.swapped, View.whole, View.with_slots, View.word, View.word_of, Weaks.CanDeref, Weaks.CanFinalise, Weaks.derefed, Weaks.finalised, Weaks.finaliser_named, Weaks.weak_read, Weaks.weak_taken, contracts.witness.Witness.the_row, contracts.witness.Witness.of.clauses, contracts.witness.Witness.of.ended, contracts.witness.Witness.of.Key.name as #self}
pub use Rattle.nmgc_round.specs.{declared.table.Round.Round, laws.Common.folded_more, laws.Common.found_at, laws.Common.leave_more, laws.Common.marks_if, laws.Common.same_count, laws.Common.some_at, laws.Gathering.same_opening, laws.Slots.slots_other, laws.Slots.slots_same}
pub use Rattle.nmgc_snapshot_laws.specs.{Machine.Does, Machine.IsPossible, Machine.advanced, Machine.after_command, Machine.after_scan, Scan.field_at, Scan.fields_of, Scan.is_last, Scan.moved_on, Scan.read_at, State.State, State.entry_of, State.is_listed, State.is_new, State.joined, State.mark_read, State.names_of, State.with_mark, declared.event.Entry.Entry, laws.Listed.is_same_name-refl, laws.Listed.names_other, laws.Listed.names_same, laws.Listed.tested_same, laws.Marking.joined_cases}
pub use Rattle.nmgc_world_laws.specs.{Holds.has_result, laws.Growth.step_grows, laws.NewWorlds.new_is_world, laws.NewWorlds.new_nodes, laws.NodeLaws.as_many, laws.NodeLaws.maker_there, laws.NodeLaws.next_is_new, laws.NodeLaws.node_born, laws.NodeLaws.node_cases, laws.NodeLaws.node_same, laws.NodeLaws.nodes_kept, laws.NodeLaws.own_node, laws.NodeLaws.state_other, laws.NodeLaws.state_same, laws.WorldSteps.change_count}
pub use Rattle.nmgc_world_spec.specs.{World.changed, World.exchanged_at, World.field_exchanged, World.field_read, World.field_set, World.is_same, World.is_same_name, World.last_of, World.result_read, World.stack_popped, World.stack_pushed, World.tag_read, World.thunk_updated, World.value_read, World.weak_finalised, World.words_made, World.born, World.change_into, World.change_object, World.keeping, World.next_name, World.object_of, World.shared_name, World.step, World.value_for, World.value_of, World.with_node, World.with_register, World.with_state, World.World, World.new_mutator, World.new_world, World.no_mutator, World.node_of, World.serial_of, World.state_of, Pieces.given_or, Pieces.without_last, Known.IsMaking, Reach.IsLegal as IsLegalHistory, Reach.Row, Reach.replayed, Reach.rows_of, Reach.field_held, Reach.names_among, Reach.owed_by, Reach.owed_in, Reach.owed_of, Reach.IsAlive, Reach.IsReached, Reach.field, Reach.start, Reach.strong_fields, Reach.IsOfWeak, Reach.IsWide, Pieces.free_held, Pieces.if_same, Pieces.top_held, Pieces.value_held, Pieces.weak_held, Pieces.change_node, Pieces.holding as world_holding, Pieces.holding_given, Pieces.read_into, Pieces.read_object, Pieces.with_new, Pieces.with_nth, Pieces.IsWideRoot, Known.IsNodeOf, Known.IsSized}
pub use Rattle.nmgc_world_spec.specs.declared.{change.Change.Change, command.Command.Command, command.Command.TheVariants.Cas, command.Command.TheVariants.Collect, command.Command.TheVariants.Deref, command.Command.TheVariants.Finalise, command.Command.TheVariants.Force, command.Command.TheVariants.Full, command.Command.TheVariants.Get, command.Command.TheVariants.Mov, command.Command.TheVariants.NextFin, command.Command.TheVariants.Nil, command.Command.TheVariants.Num, command.Command.TheVariants.Pop, command.Command.TheVariants.Push, command.Command.TheVariants.Same, command.Command.TheVariants.Set, command.Command.TheVariants.Show, command.Command.TheVariants.Tag, command.Command.TheVariants.Update, command.Command.TheVariants.Yield, command.Operand.Operand, command.Operand.TheVariants.Register, command.Operand.TheVariants.Shared, command.Reply.Reply, command.Reply.TheVariants.Fine, command.Reply.TheVariants.Fixed, command.Reply.TheVariants.Given, command.Reply.TheVariants.No, command.Reply.TheVariants.NoField, command.Reply.TheVariants.NoPointer, command.Reply.TheVariants.NotOwner, command.Reply.TheVariants.Nothing, command.Reply.TheVariants.WrongKind, command.Reply.TheVariants.Yes, mutator_state.MutatorState.MutatorState, node.Kind.Kind, node.Node.Node, node.Node.TheVariants.Arr, node.Node.TheVariants.Con, node.Node.TheVariants.Stack, node.Node.TheVariants.Thunk, node.Node.TheVariants.Var, node.Node.TheVariants.Weak, node.Parts.Parts, value.Name.Name, value.Value.Value}
pub use Rattle.nmgc_world_spec.specs.laws.{Common.name_itself, Orders.name_cases, Orders.same_name}
pub use Rattle.std.proofs.Common.{All, Bool, List, None, Option, Some, [], ap, append-nil, append_assoc, arith, cond, drop, drop-cons, eq-eqb, eqb, eqb-true, false, get_or, get_or-set_other, get_or-set_same, inl, inr, is_some, le-ltb, leb, leb-false, length, length-append, length-set, lt-ltb, map, mul-le-mul_right, ne_eqb, not, refl, replicate, set, set-set, slice_index, subst, suc, sym, take, true, true≢false, zero, ℕ, ⊎_elim, ◌%◌, ◌&&◌, ◌*◌, ◌++◌, ◌+◌, ◌-◌, ◌/◌, ◌<◌, ◌==◌, ◌^◌, ◌||◌, ◌∙◌, ◌∷◌, ◌≡◌, ◌≢◌, ◌≤◌, ◌⊎◌}
pub use Rattle.std.proofs.lemmas.{Bool.and_parts, Bool.cases_eq, Bool.cases_lt, Bool.Decides.eqb_tells, List.get_or_past, List.length-map, List.length-replicate, List.Elements.All-append, List.Elements.All-cons, List.Elements.All-get_or, List.Elements.All-nil, List.Elements.All-replicate, List.Elements.Contains-append_cases, List.Elements.Contains-append_left, List.Elements.Contains-append_right, List.Elements.Contains-push, List.Elements.Contains-push_cases, Option.slice_get-get_or, Option.slice_get_past, Option.slice_get_within}
pub use Rattle.std.specs.{Prelude.Contains, Prelude.IsSome, Prelude.slice_get, Slots.slots_items}
pub use denote.{Param.Send.IsSend, Param.Send.IsSync, Param.Send.part_keyless, RattleType.RattleType, Shadow.makes_shadow}
pub use lib.ListN.{get_elem?}
pub use mathlib.Core.Option.{some, some-injective, some-ne-none}
pub use prog.Atomic.{either}
