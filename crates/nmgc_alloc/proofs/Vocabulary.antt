-- Every name of std, of the crates below and of this crate's definitions that the proofs use.
pub use Rattle.nmgc_alloc.specs.{AllocState.HoldsKept, AllocState.prepared_state, AllocState.retired_state, AllocState.begun, AllocState.prepared, AllocState.seen_late, AllocState.HasNumber, AllocState.Segments, AllocState.block_place, AllocState.is, AllocState.nth, Blocks.IsCarried, Blocks.in_snapshot, Blocks.is_carried, Blocks.is_marked, AllocState.carried_in, AllocState.carried_over, CycleSteps.retired, CycleSteps.with_snapshot, Filing.AreFew, Filing.EntersMany, Filing.Files, Filing.IsOutcome, Filing.gained, Halves.AllSwept, Halves.FirstSwept, Halves.SweepsMany, Halves.SweptWaiting, Search.Enters, Search.Is, Search.IsKind, Search.IsTally, Search.Leaves, Search.NoneBelow, Search.is_for, Search.is_in_category, Search.sought_count, Search.tally_from, Search.tally_of, Search.tally_place, Segments.Allocates, Segments.CanTake, Segments.CountsFilled, Segments.HasNoCurrent, Segments.HasNoneIn, Segments.HasRoom, Segments.HaveTallies, Segments.IsBlockAt, Segments.IsChosen, Segments.IsClass, Segments.IsCurrent, Segments.IsLeast, Segments.IsMember, Segments.IsMutator, Segments.IsOpen, Segments.IsOwn, Segments.IsSegments, Segments.IsToMark, Segments.Leads, Segments.SweepsNext, Segments.SweepsSegment, Segments.TakesBlock, Segments.as_current, Segments.filled_count, Segments.marked_if, Segments.table_index}
pub use Rattle.nmgc_alloc.specs.declared.{filing.Filed.Filed, search.Category.Category, search.Category.TheVariants.Sweeping, tables.TheConstants.CLASSES, tables.TheConstants.KINDS, tables.TheConstants.PAIRS, tally.Tally.Tally}
pub use Rattle.nmgc_alloc.specs.laws.{Blocks.carried_marks_turn, Blocks.carried_counted, Blocks.carried_turns, Blocks.carried_within, Blocks.marked_of_marks, Blocks.marked_counted, Blocks.marked_within, Blocks.marks_marked_count, Blocks.marks_snapshot_count, Blocks.placed_at, Blocks.placed_count, Blocks.prepared_marks, Blocks.prepared_snapshot, Blocks.retired_turns, Blocks.snapshot_of_marks, Blocks.snapshot_counted, Blocks.snapshot_within, Blocks.swept_at, Blocks.swept_marked_count, Blocks.turned_at, Blocks.turned_count, Blocks.turned_number, Blocks.used_within, Cells.all_swept, Cells.begun_names, Cells.begun_once, Cells.first_once, Cells.placed_names, Cells.placed_once, Cells.retired_names, Cells.retired_once, Cells.some_count, Cells.sweeps_more, Cells.sweeps_none, Cells.swept_by_names, Cells.swept_names, Cells.swept_once, Common.prepared_current, Common.prepared_in, Common.restated, Counts.few_filled, Counts.filled-set, Counts.filled_map, Counts.filled_rises, Counts.filled_same, Counts.filled_stays, Counts.is_free, Counts.one_counted, Counts.one_filled, Counts.one_if, Counts.one_not, Counts.sweeping_none, Numbers.each_set, Numbers.nth-map, Numbers.nth-set_other, Numbers.nth-set_same, Numbers.nth_free, Numbers.unmarked, Steps.begun_sound, Steps.first_sound, Steps.placed_sound, Steps.retired_sound, Steps.swept_sound}
pub use Rattle.nmgc_limits.specs.{Limits.most_segments, declared.mutators.TheConstants.MAKERS}
pub use Rattle.nmgc_object.specs.{Layouts.IsLayout, Layouts.IsSegmentSize, Words.block_size, Words.segment_place, declared.layout.Layout.Layout, laws.Classes.class_few, laws.Classes.is_whole, laws.Classes.least_block}
pub use Rattle.nmgc_segment.specs.{Marks.IsEpoch, Segment.carried, Marks.swept, Invariant.HasFree, Invariant.InSnapshot, Segment.InUse, Invariant.IsMarked, Invariant.IsSegment, Segment.Segment, Segment.block_count, Segment.free_segment, Segment.mark_of, Segment.segment_words, declared.state.State.State, declared.state.State.TheVariants.Active, declared.state.State.TheVariants.Current, declared.state.State.TheVariants.Filled, declared.state.State.TheVariants.Free, laws.Segments.all_carried}
pub use Rattle.std.proofs.{Common.Bool, Common.List, Common.[], Common.ap, Common.arith, Common.bit_and, Common.count_by, Common.drop, Common.eqb, Common.false, Common.inl, Common.inr, Common.length, Common.map, Common.max, Common.min, Common.refl, Common.replicate, Common.set, Common.slice_index, Common.slice_index_or, Common.subst, Common.suc, Common.sym, Common.take, Common.take-append-drop, Common.true, Common.zero, Common.ℕ, Common.◌%◌, Common.◌&&◌, Common.◌*◌, Common.◌++◌, Common.◌+◌, Common.◌-◌, Common.◌/◌, Common.◌<◌, Common.◌==◌, Common.◌^◌, Common.◌↔◌, Common.◌∙◌, Common.◌∷◌, Common.◌≡◌, Common.◌≢◌, Common.◌≤◌, Common.◌⊎◌, Math.ListN.length-map, Math.ListN.length-replicate, Math.ListN.length-set, Math.Nat.le-div_iff_mul-le, Math.Nat.mul-div_left, Math.Seq.take-add}
pub use Rattle.std.proofs.lemmas.{Bool.agree_below_at, Bool.cases_Bool, Bool.cases_eq, Bool.cases_lt, Bool.eq-eqb, Bool.eqb-true, Bool.false_from_ne_true, List.ext_get_or, List.get_or-append_right, List.get_or-drop, List.get_or-replicate, List.get_or-set_other, List.get_or-set_same, List.get_or-take, List.get_or_append_left, List.get_or_default, List.length-append, List.length-drop, List.set-get_or, List.set-set, List.take_at, List.take_more, List.Edits.map_over_more, List.Folds.sum_by-replicate, List.Sums.count_by-le-length, List.Sums.get_or-le-sum_by, List.Sums.sum_by-append, List.Sums.sum_by-cons, List.Sums.sum_by-set, Nat.and_mask, Nat.div-add-mod', Nat.div-mul-add, Nat.mod-mul-add, Nat.mod_below, Nat.pow-add, Nat.same_from_place}
pub use Rattle.std.specs.Prelude.{Contains, IfNone, IfSome, IsTrue}
pub use lib.Seq.{length-take-le}
unfoldable pub use Rattle.std.specs.Int.Count.{count_trailing_zeros}
