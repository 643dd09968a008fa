-- Every name of std, of the crates below and of this crate's definitions that the proofs use.
pub use Rattle.nmgc_heap_spec.specs.Changes.{MayChange}
pub use Rattle.nmgc_limits.specs.declared.mutators.TheConstants.{REGISTERS}
pub use Rattle.nmgc_lists.specs.{Room.Room, laws.Items.contains_cases, laws.Items.contains_head, laws.Items.contains_tail, laws.Items.slice_get-append_last}
pub use Rattle.nmgc_mutator.specs.{Acts.Acts, Acts.HasActed, Acts.HasNoted, Acts.HasStepRoom, Acts.StepsTo, Acts.most_pushed, Acts.most_weaks, Acts.weaks_of, Acts.with_weaks, Does.Does, Does.Finds, Does.HasDone, Does.HasFlushed, Does.HasNoBlock, Does.HasReplied, Does.HasUsed, Does.IsFilling, Does.IsYield, Does.SameLine, Does.Went, Does.dest_made, Does.next_name, Does.remembered, Does.with_finalised, Does.with_recorded, Does.with_updrem, Ready.HasHand, Ready.IsNursery, Ready.IsReady, Ready.IsWhole, Ready.LieFrom, Ready.first_part, Ready.hand_in, Ready.part_of, Ready.rows_of, Ready.with_register, Ready.words_by, Records.all_finalised, Records.all_pushed, Records.all_recorded, Records.all_weaks, Records.depth_of, Records.finalised_by, Records.is_old, Records.is_young, Records.noted_by, Records.numbers, Records.pushed_at, Records.recorded_at, Records.recorded_by, Records.weaks_by, Slice.Ended, Slice.GoesOn, Slice.HasRoom, Slice.IsEnd, Slice.tried, Slice.with_turns, Stacks.HasDepth, Stacks.HasNoStack, Stacks.IsOwnStack, Stacks.Owns, Thunks.AreLoaded, Programs.Follows, Programs.Gives, Slice.HasAsked, Slice.IsAsking, declared.mutator.Step.TheVariants.NurseryFull}
pub use Rattle.nmgc_mutator.specs.{declared.mutator.Mutator.Mutator, declared.mutator.SliceEnd.SliceEnd, declared.mutator.Step.Step, declared.mutator.Step.TheVariants.Replied, laws.Common.old_odd}
pub use Rattle.nmgc_object.specs.{FinQueue.FinQueue, Words.HasFields, Words.IsName, Words.header_word, Words.kind_number, Words.name_word, Words.nursery_place, Words.word_total, declared.layout.Layout.Layout, declared.layout.Nursery.Nursery, declared.layout.TheConstants.FIRST_PLACE, declared.layout.TheConstants.SHARED_PLACE, declared.size.TheConstants.HEADER_WORDS, declared.words.Address.Address, declared.words.Header.Header, declared.words.TheConstants.NIL_WORD, declared.words.TheConstants.TAGS, declared.words.TheConstants.TAG_UNIT, declared.words.TheConstants.ZERO_WORD}
pub use Rattle.nmgc_round.specs.{Compare.exchanged, Gate.next_turn, Gate.passed, Making.fields_made, Making.header_made, Naming.AllReply, Naming.IsNamed, Naming.Replies, Owing.finding_all, Owing.fixed_at, Owing.fixed_from, Owing.owed_words, Own.slots_at, Ready.CanBear, Ready.CanGive, Ready.CanStore, Ready.IsMutator, Ready.Mutates, Ready.Names, Results.forced, Results.free_named, Results.result_answer, Results.updated, Rule.limit_of, Rule.top_of, Seat.IsAt, Seat.Knows, Seat.RoundSeat, Seat.opening_of, Seat.seen, Seat.word_count, Stacks.CanPeek, Stacks.CanSlot, Stacks.IsOwn, Stacks.IsRefusedSlot, Stacks.FindsSlot, Stacks.slot_refusal_reply, Stacks.slot_refused, Stacks.slot_swapped, Known.CanFix, Known.CanAnswer, Known.IsSafe, Known.TakesPlace, Known.FindsQueue, Known.first_answer, Known.get_refusal, Known.header_at, Known.owner_refusal, Known.refused, Known.set_refusal, Known.tag_answer, Known.tag_at, Known.taken, Known.known, Known.known_answer, View.Answer, View.DoneRow, View.FixedWord, View.Hand, View.Opening, View.Part, View.Seen, View.Slots, View.UnbornWord, View.answered, View.bearing_object, View.changing, View.doing, View.finding, View.first_changed, View.gave_birth, View.hand_now, View.hand_of, View.holding, View.knowing, View.leaves, View.loaded, View.next_of, View.owed_word, View.plain, View.rows_leave, View.stored, View.storing, View.swapped, View.word, View.word_of, Weaks.CanFinalise, Weaks.finaliser_named, Weaks.weak_read, Weaks.weak_taken}
pub use Rattle.nmgc_round.specs.{declared.table.Round.Round, laws.Common.passed_more}
pub use Rattle.nmgc_updrem.specs.Rings.{Sender}
pub use Rattle.nmgc_world_spec.specs.{World.Fits, World.words_made, Known.HasRegisters, Known.IsMaking, Known.IsOperand, Known.given}
pub use Rattle.nmgc_world_spec.specs.declared.{command.Command.Command, command.Command.TheVariants.Arr, command.Command.TheVariants.Cas, command.Command.TheVariants.Collect, command.Command.TheVariants.Con, command.Command.TheVariants.Deref, command.Command.TheVariants.Finalise, command.Command.TheVariants.Force, command.Command.TheVariants.Full, command.Command.TheVariants.Get, command.Command.TheVariants.Mov, command.Command.TheVariants.NextFin, command.Command.TheVariants.Nil, command.Command.TheVariants.Num, command.Command.TheVariants.Pop, command.Command.TheVariants.Push, command.Command.TheVariants.Rec, command.Command.TheVariants.Same, command.Command.TheVariants.Set, command.Command.TheVariants.Show, command.Command.TheVariants.Stack, command.Command.TheVariants.Tag, command.Command.TheVariants.Thunk, command.Command.TheVariants.Update, command.Command.TheVariants.Var, command.Command.TheVariants.Weak, command.Command.TheVariants.Yield, command.Operand.Operand, command.Operand.TheVariants.Register, command.Operand.TheVariants.Shared, command.Reply.Reply, command.Reply.TheVariants.Fine, command.Reply.TheVariants.Fixed, command.Reply.TheVariants.Given, command.Reply.TheVariants.No, command.Reply.TheVariants.NoField, command.Reply.TheVariants.NoPointer, command.Reply.TheVariants.NotOwner, command.Reply.TheVariants.WrongKind, command.Reply.TheVariants.Yes, value.Name.Name, value.Value.Value, value.Value.TheVariants.Ref}
pub use Rattle.std.proofs.{Common.Bool, Common.Bor, Common.List, Common.None, Common.Option, Common.Some, Common.[], Common.ap, Common.append-nil, Common.arith, Common.cond, Common.drop, Common.eq-eqb, Common.eqb, Common.false, Common.get_or, Common.get_or-set_other, Common.get_or-set_same, Common.inl, Common.inr, Common.leb, Common.length, Common.length-set, Common.ltb, Common.map, Common.mul-le-mul_right, Common.ne_eqb, Common.refl, Common.rules, Common.set, Common.slice_index, Common.slice_set, Common.subst, Common.suc, Common.sym, Common.take, Common.true, Common.zero, Common.ℕ, Common.◌%◌, Common.◌&&◌, Common.◌*◌, Common.◌++◌, Common.◌+◌, Common.◌-◌, Common.◌/◌, Common.◌<◌, Common.◌^◌, Common.◌∙◌, Common.◌∷◌, Common.◌≡◌, Common.◌≢◌, Common.◌≤◌, Common.◌⊎◌, Math.Bool.and-false}
pub use Rattle.std.proofs.lemmas.{Bool.cases_lt, Bool.le-leb, Bool.le-ltb, Bool.lt-leb, Bool.lt-ltb, Grind.common_steps, List.append_assoc, List.get_or_past, List.length-map, List.length-replicate, List.map-append, List.take-append-drop, List.take_more, List.Elements.All-append, List.Elements.All-cons, List.Elements.All-nil, Option.slice_get_within}
pub use Rattle.std.specs.Prelude.{All, Contains, IfNone, IfSome, is_some, min, slice_get}
