-- Every name of std, of the crates below and of this crate's definitions that the lemmas of these laws use.
pub use Rattle.nmgc_alloc.specs.{AllocState.AllocState, AllocState.AreNames, AllocState.Cells, AllocState.Exists, AllocState.HoldsKept, AllocState.IsEmpty, AllocState.IsFirst, AllocState.IsFirstEmpty, AllocState.IsFull, AllocState.IsIn, AllocState.IsNext, AllocState.IsOf, AllocState.IsPlaced, AllocState.IsSwept, AllocState.IsTarget, AllocState.KeepsBlocks, AllocState.LiesIn, AllocState.NoneIs, AllocState.Opens, AllocState.PlacesName, AllocState.Sweeps, AllocState.SweepsEach, AllocState.SweepsSome, AllocState.all_empty, AllocState.all_retired, AllocState.cells, AllocState.count_in, AllocState.cycle_begun, AllocState.name_in, AllocState.no_cells, AllocState.prepared_state, AllocState.restated, AllocState.retired_state, AllocState.with_cells, AllocState.prepared, AllocState.prepared_snap, AllocState.HasNumber, AllocState.Segments, AllocState.block_place, AllocState.is, AllocState.nth, AllocState.Shows, AllocState.StandsFor, Invariant.HasBlock, Invariant.IsAllocState, Invariant.LieOnce, Invariant.LiesNowhere, Blocks.HasAt, Blocks.IsCarried, Blocks.IsMarkedAt, Blocks.IsSnapshotAt, Blocks.IsUsedAt, Blocks.MarksPlace, Blocks.SameMarked, Blocks.blocks_that, Blocks.in_snapshot, Blocks.is_carried, Blocks.is_marked, Blocks.marked_count, Blocks.snapshot_count, AllocState.carried_in, AllocState.carried_over, CycleSteps.retired, Reserve.HasLeft, Reserve.KeepsReserve, Reserve.free_count, Reserve.pair, Segments.Allocates, Segments.HasNoCurrent, Segments.HasNone, Segments.HasRoom, Segments.IsBlockAt, Segments.IsChosen, Segments.IsCurrent, Segments.IsMember, Segments.IsOwn, Segments.IsSegments, Segments.IsToMark, Segments.MarksBlock, Segments.SweepsNext, Segments.SweepsSegment, Segments.TakesBlock, Segments.all_free, Segments.as_current, Segments.filled_count, Segments.marked_if, Invariant.Writes}
pub use Rattle.nmgc_lists.specs.laws.Truths.{never}
pub use Rattle.nmgc_object.specs.{Words.InSegment, Words.class_count, Words.reserve_count, Words.word_total, Words.IsClassOf, Words.block_size, Words.name_place, Words.IsName, Words.name_word, Layouts.IsSegmentSize, Layouts.left_over, declared.layout.Layout.Layout, declared.layout.TheConstants.FIRST_PLACE, laws.Classes.class_fits, laws.Classes.least_block as large, laws.Classes.object_half}
pub use Rattle.nmgc_segment.specs.{Marks.IsEpoch, Segment.carried, Marks.swept, Invariant.HasFree, Invariant.InSnapshot, Segment.InUse, Invariant.IsFirstUnused, Invariant.IsMarked, Invariant.IsSegment, Segment.Segment, Segment.block_count, Segment.free_segment, Segment.mark_of, Segment.segment_words, declared.state.State.State, declared.state.State.TheVariants.Active, declared.state.State.TheVariants.Current, declared.state.State.TheVariants.Filled, declared.state.State.TheVariants.Free, declared.state.State.TheVariants.Sweeping, laws.Segments.carried_bounds, laws.Segments.carried_is, laws.Segments.few_blocks, laws.Segments.mark-map, laws.Segments.swept_is, laws.Segments.zero_swept}
pub use Rattle.nmgc_world_spec.specs.{declared.value.Name.Name, laws.Orders.name_cases}
pub use Rattle.std.proofs.{Common.Bool, Common.IsSome, Common.IsTrue, Common.List, Common.None, Common.Option, Common.Some, Common.[], Common.ap, Common.arith, Common.cond, Common.count_by, Common.false, Common.get_or, Common.if◌then◌else◌, Common.inl, Common.inr, Common.length, Common.length-append, Common.map, Common.not, Common.refl, Common.replicate, Common.set, Common.slice_index, Common.slice_index_or, Common.subst, Common.suc, Common.sum_by, Common.sym, Common.true, Common.zero, Common.ℕ, Common.◌%◌, Common.◌*◌, Common.◌++◌, Common.◌+◌, Common.◌-◌, Common.◌/◌, Common.◌<◌, Common.◌↔◌, Common.◌∙◌, Common.◌∷◌, Common.◌≡◌, Common.◌≢◌, Common.◌≤◌, Common.◌⊎◌, Math.ListN.get_or-eq_default, Math.ListN.length-map, Math.ListN.length-replicate, Math.ListN.length-set, Math.Nat.le-div_iff_mul-le, Math.Nat.mul-le-mul_left, Math.Nat.mul-le-mul_right}
pub use Rattle.std.proofs.lemmas.{Bool.cases_Bool, Bool.cases_eq, Bool.cases_lt, Bool.cases_order, Bool.eq-eqb, Bool.le-ltb, Bool.lt-ltb, Bool.ne_eqb, Bool.Decides.nat_tests, List.ext_get_or, List.get_or-map, List.get_or-replicate, List.get_or-set_other, List.get_or-set_same, List.Elements.All-get_or, List.Elements.All-replicate, List.Elements.All-set, List.Sums.count_by-le-length, List.Sums.get_or-le-sum_by, List.Sums.sum_by-cons, List.Sums.sum_by-le, List.Sums.sum_by-set, Nat.div-add-mod'}
pub use Rattle.std.specs.{List.range_with_len, Prelude.nat_lt, Prelude.◌&&◌, Prelude.◌==◌, Prelude.◌||◌}
