-- Every name of std, of the crates below and of this crate's definitions that the proofs use.
pub use Rattle.nmgc_object.specs.{Words.block_size, laws.Classes.class_few, laws.Classes.least_block}
pub use Rattle.nmgc_segment.specs.{Kept.ShowsMarked, Marks.IsEpoch, Marks.IsFirstUnmarked, Segment.carried, Marks.swept, Invariant.HasBlocks, Segment.InUse, Invariant.IsMarked, Invariant.IsSegment, Invariant.IsUnused, Segment.Segment, Segment.block_count, Segment.mark_of, Segment.segment_words, declared.lookup.TheConstants.RECIPROCALS, declared.state.State.State, declared.state.State.TheVariants.Current, declared.state.State.TheVariants.Free, laws.Segments.all_carried, laws.Segments.few_blocks, laws.Segments.mark-map, laws.Segments.swept_bounds, laws.Segments.swept_is, laws.Segments.zero_swept}
pub use Rattle.std.proofs.{Common.Bool, Common.IsTrue, Common.List, Common.[], Common.ap, Common.append-nil, Common.append_assoc, Common.arith, Common.cond, Common.div-add-mod', Common.drop, Common.eqb, Common.get_or, Common.inl, Common.inr, Common.leb, Common.length, Common.ltb, Common.map, Common.mul-le-mul_right, Common.not, Common.refl, Common.replicate, Common.slice_index, Common.subst, Common.sym, Common.take, Common.take-append-drop, Common.true, Common.w8, Common.ℕ, Common.◌%◌, Common.◌&&◌, Common.◌*◌, Common.◌++◌, Common.◌+◌, Common.◌-◌, Common.◌/◌, Common.◌<◌, Common.◌↔◌, Common.◌∙◌, Common.◌∷◌, Common.◌≡◌, Common.◌≢◌, Common.◌≤◌, Common.◌⊎◌, Math.Nat.le-div_iff_mul-le, Math.Nat.mul-mod_left, Math.Seq.take-add}
pub use Rattle.std.proofs.lemmas.{Bool.agree_below_at, Bool.and_parts, Bool.cases_eq, Bool.cases_lt, Bool.eqb-false, Bool.eqb-true, Bool.leb-true, Bool.ltb-true, List.drop-drop, List.drop_all, List.drop_at, List.get_or_default, List.length-append, List.length-drop, List.length-map, List.length-take-le, List.map-append, List.take_at, List.take_rest, List.Edits.map_over_more, Nat.div-mul-add, Nat.le-div, Nat.mod-mul-add, Nat.mod_below, Simd.bitmask_splat, Simd.leading_from_mask_l, Simd.length-chunk, Simd.put_chunk_is, Simd.run_in_chunk_fails, Simd.run_in_chunk_le, Simd.run_in_chunk_stops, Simd.tops_compared, Simd.trailing_mask_l, Simd.zip2_splat}
pub use Rattle.std.specs.List.{prefix_len}
pub use borrow.Rule.Slice.PartMut.{mid_of, post_of, put_mid}
pub use lib.{Count.count_trailing_zeros, Lanes.chunk, Lanes.put_chunk, Lanes.sel_l, Lanes.top, Lanes.zip2}
