-- The names of std, of the crates below and of this crate's definitions that the proofs use.
pub use Rattle.nmgc_alloc.specs.{AllocState.nth, Segments.IsBlockAt}
pub use Rattle.nmgc_heap_spec.specs.{Objects.AllMean, Objects.ListMeans, Objects.Means, Objects.Place, Objects.header_of, Objects.size_of, Represents.NoNode, laws.Changes.lies_within, laws.Headers.same_header, laws.Kinds.AreUnset, laws.Kinds.HasFields, laws.Kinds.fields_of_slots, laws.Kinds.item_cases, laws.Kinds.map_item, laws.Meanings.above_zero, laws.Meanings.placed_at, laws.Roots.wide_tracked, laws.Tracking.reached_in}
pub use Rattle.nmgc_io.specs.{Text.tokens_of, Spaced.after_spaces, Text.ended, Text.spaced}
pub use Rattle.nmgc_image.specs.{Image.Begins, Image.IsDeclared, Image.IsFirstBad, Image.IsWritable, Image.AreInOrder, Image.IsEntry, Image.IsHeld, Image.IsImage, Image.IsMade, Image.IsMutator, Image.IsNode, Image.IsOrderly, Image.IsOwned, Image.names_of, Image.values_in, Image.values_of, Image.ListsHeld, Image.Shows, Image.ShowsMutator, Image.shown, Image.Spells, Image.entry_words, Image.image_lines, Image.mutator_lines, Image.mutator_words, Image.node_words, Image.queue_words, Image.register_words, Image.Cut, Image.cut, Image.onto_cut, Results.IsFaultOf, Known.test_of, Left.IsLeftAs, Left.LiesWideAt, Left.ShownIsImage, Left.most_object_words, Names.IsTestOf, Objects.IsNamedAt, Objects.IsObjectAt, Objects.IsReadable, Objects.begins_unset, Objects.fields_at, Objects.is_pointer, Objects.leading, Objects.made_of, Objects.name_in, Objects.node_read, Objects.pointers, Objects.thunk_of, Objects.value_words, Objects.value_words_at, Objects.thunk_words, Objects.weak_words, Objects.value_in, Plain.IsPlain, Printing.printed, Reaching.ArePointers, Reaching.IsMutatorRoot, Reaching.IsOwnRoot, Reaching.IsReadyFor, Reaching.IsRootPlace, Reaching.IsSearch, Reaching.IsWeakBlock, Reaching.IsWeakIn, Reaching.IsWeakRoot, Reaching.PointWithin, Reaching.Reaches, Reaching.ReachesObjects, Reaching.Visits, Reading.AreMentionsIn, Reading.AreRead, Reading.AreTaken, Reading.Fails, Reading.FindsDeclared, Reading.Halts, Reading.HaveSame, Reading.IsAnswer, Reading.IsStep, Reading.IsStuck, Reading.Refuses, Reading.begun, Reading.can_follow, Reading.has_key, Reading.image_of, Reading.is_above, Reading.is_after, Reading.is_before, Reading.is_below, Reading.is_declared, Reading.is_full, Reading.is_nil, Reading.is_object_in, Reading.is_open, Reading.is_own_in, Reading.is_owned, Reading.is_shared, Reading.key_in, Reading.key_of, Reading.keys_beside, Reading.keys_in, Reading.keys_of, Reading.new_own, Reading.object_at, Reading.run, Reading.start, Reading.with_entry, Reading.with_register, Shown.CanShowOwn, Shown.IsKeyed, Shown.IsReadableObject, Shown.IsShownAt, Shown.ListsObjects, Shown.PrintsObjects, Shown.comes_after, Shown.ShowsOwn, Shown.keyed_at, Printing.first_words, Printing.last_words, Printing.own_lines}
pub use Rattle.nmgc_image.specs.declared.{declared.Declared.Declared, fault.ImageFault.ImageFault, fault.LineFault.LineFault, image.Entry.Entry, image.Held.Held, image.Image.Image, image.ImageMutator.ImageMutator, reader.Reader.Reader, search.Search.Search, heap_image.Keyed.Keyed, text.Lines.Lines}
pub use Rattle.nmgc_journal.specs.{Reading.name_at, Reading.number_at, Reading.value_at, Reading.◌>>=◌, Text.IsValue, Text.name_text, Text.value_text, declared.report.MutatorEnd.MutatorEnd, declared.report.Report.Report, laws.Reading.Reads, laws.Reading.bind_some, laws.Reading.guard_some, laws.Reading.name_reads, laws.Reading.number_again, laws.Reading.number_given, laws.Reading.number_takes, laws.Reading.value_reads}
pub use Rattle.nmgc_limits.specs.declared.mutators.TheConstants.{MAKERS, REGISTERS, SHARED_MAKER, SHARED_SLOTS}
pub use Rattle.nmgc_lists.specs.laws.{Items.all_back, Items.all_front, Items.at_some, Items.back_of, Items.contains_at, Items.contains_cases, Items.contains_flat, Items.contains_head, Items.contains_map, Items.contains_tail, Items.count-set as set_counts, Items.flat_contains, Items.front_of, Items.is_some_get, Items.is_some_of, Items.item_has, Items.item_map, Items.nothing_in, Items.place_of, Items.same_first, Items.slice_get-set_other, Items.slice_get-take, Truths.chosen, Truths.cond_true}
pub use Rattle.nmgc_object.specs.{Words.InSegment, Words.IsHeader, Words.IsName, Words.block_size, Words.header_word, Words.name_word, declared.layout.Layout.Layout, declared.layout.TheConstants.SHARED_PLACE, declared.size.TheConstants.HEADER_WORDS, declared.words.Header.Header, declared.words.TheConstants.MAX_FIELDS, declared.words.TheConstants.MAX_THUNK_FIELDS, declared.words.TheConstants.NIL_WORD, declared.words.TheConstants.SERIAL_UNIT, declared.words.TheConstants.TAGS, declared.words.TheConstants.ZERO_WORD}
pub use Rattle.nmgc_segment.specs.Segment.{InUse, Segment, block_count}
pub use Rattle.nmgc_world_laws.specs.{Limits.IsNodeWithin, Limits.IsSmall, Limits.IsWithin, laws.Reached.wide_known}
pub use Rattle.nmgc_world_spec.specs.{World.is_same_name, World.shared_name, World.IsShared, World.World, World.held_by, World.no_mutator, World.node_of, World.state_of, Reach.IsAlive, Reach.IsAliveWeak, Reach.IsBefore, Reach.IsInOrder, Reach.IsRoot, Reach.field, Reach.strong_fields, Reach.IsOfWeak, Reach.IsWide, Pieces.IsWideRoot, Known.AreKnown, Known.IsKnown, Known.IsNodeOf, Known.IsSized, Known.IsWorld, declared.mutator_state.MutatorState.MutatorState, declared.node.Kind.Kind, declared.node.Node.Node, declared.node.Node.TheVariants.Arr, declared.node.Node.TheVariants.Con, declared.node.Node.TheVariants.Stack, declared.node.Node.TheVariants.Thunk, declared.node.Node.TheVariants.Var, declared.node.Node.TheVariants.Weak, declared.node.Parts.Parts, declared.value.Name.Name, declared.value.Value.Value, declared.value.Value.TheVariants.Nil, declared.value.Value.TheVariants.Number, declared.value.Value.TheVariants.Ref, laws.Common.name_itself as same_name_is, laws.Orders.name_cases, laws.Orders.same_name}
pub use Rattle.std.proofs.{Common.Bool, Common.Bor, Common.Err, Common.List, Common.None, Common.Ok, Common.Option, Common.Result, Common.Some, Common.[], Common.add-one, Common.ap, Common.append_assoc, Common.arith, Common.codes, Common.cond, Common.decimal, Common.drop, Common.drop-cons, Common.eqb, Common.false, Common.get_or, Common.inl, Common.inr, Common.leb, Common.length, Common.ltb, Common.map, Common.not, Common.refl, Common.replicate, Common.rules, Common.set, Common.slice_index, Common.subst, Common.suc, Common.sym, Common.take, Common.true, Common.zero, Common.ℕ, Common.◌%◌, Common.◌*◌, Common.◌++◌, Common.◌+◌, Common.◌-◌, Common.◌/◌, Common.◌<◌, Common.◌^◌, Common.◌↔◌, Common.◌∙◌, Common.◌∷◌, Common.◌≡◌, Common.◌≢◌, Common.◌≤◌, Common.◌⊎◌, Math.Bool.and-false, Math.ListN.get_or-eq_default}
pub use Rattle.std.proofs.lemmas.{Bool.and_from, Bool.and_parts, Bool.both_ways, Bool.cases_Bool, Bool.cases_eq, Bool.cases_lt, Bool.eq-eqb, Bool.eqb-true, Bool.false≢true, Bool.le-leb, Bool.le-ltb, Bool.leb-true, Bool.lt-ltb, Bool.ltb-true, Bool.ne_eqb, Bool.or_cases, Bool.Decides.eqb_tells, Fmt.decimal_by_steps, Fmt.decimal_digit, Fmt.decimal_step, Grind.flat_map-append, List.append-nil, List.drop_all, List.drop_more, List.get_or-append-add, List.get_or-take, List.get_or_append_left, List.get_or_default, List.length-append, List.length-drop, List.length-map, List.length-replicate, List.length-set, List.length-take-le, List.length_push, List.map-append, List.map_push, List.nil_from_length, List.same_from_push, List.take-append-drop, List.take_all, List.take_more, List.Elements.All-append, List.Elements.All-cons, List.Elements.All-contains, List.Elements.All-from_recursion, List.Elements.All-get_or, List.Elements.All-head, List.Elements.All-map, List.Elements.All-nil, List.Elements.All-push, List.Elements.All-replicate, List.Elements.All-tail, List.Elements.All-weaker, List.Elements.Contains-append_cases, List.Elements.Contains-append_left, List.Elements.Contains-append_right, List.Elements.Contains-get_or, List.Elements.Contains-push, List.Elements.Contains-push_cases, List.Elements.recursion_from_All, List.Folds.list_any_at, List.Sorted.All-permutation, List.Sorted.Contains-permutation, List.Sorted.IsNonDecreasingBy-from_sort, List.Sorted.IsNonDecreasingBy-from_sort_by_key, List.Sorted.IsPermutation-map, List.Sorted.IsPermutation-sym, List.Sorted.list_any-IsPermutation, List.Sorted.searched, List.Sums.sum_by-cons, Map.Views.Contains-from_any, Option.get_or_from_slice_get, Option.none-some, Option.same_Some, Option.slice_get-get_or, Option.slice_get_within, Result.IfOk-weaker, Result.err_from_is_err_and, Result.on_ok_weaker, Slice.Eq.bytes_eq-Decides}
pub use Rattle.std.specs.{List.AllByRecursion, List.flat_map, List.list_all, List.list_any, List.Sorted.IsNonDecreasing, List.Sorted.IsNonDecreasingBy, List.Sorted.IsPermutation, Option.option_to_list, Prelude.All, Prelude.Contains, Prelude.IfErr, Prelude.IfNone, Prelude.IfOk, Prelude.IfSome, Prelude.IsSome, Prelude.MatchResult, Prelude.OnOk, Prelude.count_by, Prelude.nat_lt, Prelude.slice_get, Prelude.◌&&◌, Result.is_ok, Str.bytes_eq}
unfoldable pub use Rattle.nmgc_image.specs.Reading.{arr_at, con_at, each_at, end_at, entry_at, first_at, free_at, line_at, mutator_at, next_at, node_at, node_line_at, parts_at, queue_at, register_at, result_at, stack_at, thunk_at, var_at, weak_at}
