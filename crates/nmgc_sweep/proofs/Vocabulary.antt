-- Every name of std, of the crates below and of this crate's definitions that the proofs use.
pub use Rattle.nmgc_alloc.specs.{AllocState.AllocState, AllocState.Cells, AllocState.Exists, AllocState.HoldsKept, AllocState.IsIn, AllocState.IsTarget, AllocState.LiesIn, AllocState.NoneIs, AllocState.Sweeps, AllocState.SweepsEach, AllocState.SweepsSome, AllocState.cells, AllocState.cycle_begun, AllocState.name_in, AllocState.no_cells, AllocState.prepared_state, AllocState.HasNumber, AllocState.Segments, AllocState.block_place, AllocState.is, AllocState.nth, AllocState.Shows, AllocState.StandsFor, Invariant.LieOnce, Halves.IsInHalf, Halves.SweepsMany, Segments.IsBlockAt, Segments.IsChosen, Segments.IsSegments, Segments.IsWaiting, Segments.SweepsNext, Settled.IsSettledByte, laws.Apart.lies_in, laws.Cells.begun_cells, laws.Cells.swept_by_names, laws.Cells.swept_other, laws.Cells.swept_state, laws.Counts.sweeping_none, laws.Keeping.counts_stand, laws.Numbers.nth-set_other, laws.Numbers.nth-set_same, laws.Placing.inside, laws.Sound.used_exists, laws.Sweeping.swept_stands}
pub use Rattle.nmgc_stop_spec.specs.{Cycle.Cycle, Cycle.IsFreedIn, Cycle.IsHadIn, Cycle.IsKeptIn, Cycle.IsSweptIn, Waiting.AreAsNoted}
pub use Rattle.nmgc_limits.specs.Limits.{IsSegmentSize}
pub use Rattle.nmgc_lists.specs.laws.Items.{contains_cases, contains_head, contains_tail}
pub use Rattle.nmgc_name_lists.specs.{Room.NameRoom, laws.Order.lists_in_order}
pub use Rattle.nmgc_object.specs.{Words.block_size, Words.segment_place, declared.layout.Layout.Layout, declared.layout.TheConstants.FIRST_PLACE, declared.size.TheConstants.MIN_BLOCK_WORDS, laws.Classes.least_block as large, laws.Classes.none_left}
pub use Rattle.nmgc_round.specs.Gate.{next_turn, passed}
pub use Rattle.nmgc_segment.specs.{Marks.IsEpoch, Marks.epoch_of, Marks.swept, Segment.InUse, Invariant.IsMarked, Segment.Segment, Segment.block_count, Segment.free_segment, Segment.mark_of, declared.state.State.State, declared.state.State.TheVariants.Active, declared.state.State.TheVariants.Current, declared.state.State.TheVariants.Filled, declared.state.State.TheVariants.Free, declared.state.State.TheVariants.Sweeping, laws.Segments.few_blocks, laws.Segments.mark-map, laws.Segments.zero_swept}
pub use Rattle.nmgc_sweep.specs.{Listing.IsLost, Listing.ListsBlocks, NameTable.AreNamed, NameTable.HaveEntries, NameTable.entry_of, NameTable.named_at, Seen.CycleSeen, Statements.ClosingBeginsWork, Statements.EndShowsCensus, Statements.KeepsWaiting, Statements.LeftIsCounted, Statements.LeftStays, Statements.PlacingKeepsWaiting, Statements.StartNotesSegments, Statements.WorkGoesOn, Sweeper.AreLeft, Sweeper.CanList, Sweeper.IsOnPlan, Sweeper.Sweeper, Sweeping.IsWithoutDoubles, Work.AreNamedOnce, Work.GrowsBy, Work.HasJudged, Work.HasListed, Work.HasSwept, Work.HaveListed, Work.IsAtWork, Work.IsNameIn, laws.NameTable.entry_there, laws.NameTable.lies_class, laws.NameTable.named_swept, laws.NameTable.place_above}
pub use Rattle.nmgc_world_spec.specs.{Reach.AreDistinct, Reach.Ascends, Reach.ListsNumbers, declared.value.Name.Name}
pub use Rattle.std.proofs.{Common.Bool, Common.List, Common.None, Common.Option, Common.Some, Common.[], Common.ap, Common.append-nil, Common.append_assoc, Common.arith, Common.cond, Common.drop, Common.false, Common.inl, Common.inr, Common.length, Common.length-append, Common.length-set, Common.mul-le-mul_right, Common.refl, Common.set, Common.slice_get, Common.slice_index_or, Common.subst, Common.suc, Common.sum_by, Common.sym, Common.true, Common.zero, Common.ℕ, Common.◌%◌, Common.◌*◌, Common.◌++◌, Common.◌+◌, Common.◌-◌, Common.◌/◌, Common.◌<◌, Common.◌^◌, Common.◌↔◌, Common.◌∙◌, Common.◌∷◌, Common.◌≡◌, Common.◌≢◌, Common.◌≤◌, Common.◌⊎◌, Math.ListN.get_or-eq_default}
pub use Rattle.std.proofs.lemmas.{Bool.cases_eq, Bool.cases_lt, Bool.eq-eqb, Bool.eqb-true, Bool.Decides.nat_tests, List.get_or-set_other, List.Elements.Contains-append_cases, List.Elements.Contains-append_left, List.Elements.Contains-append_right, List.Elements.Contains-push, List.Elements.Contains-push_cases, List.Sums.sum_by-set, Option.slice_get-get_or}
pub use Rattle.std.specs.Prelude.{Contains, IsSome, count_by, min}
