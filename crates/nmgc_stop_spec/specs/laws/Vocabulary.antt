-- The names of std, of the crates below and of this crate's definitions that the lemmas of these laws use.
pub use Rattle.nmgc_alloc.specs.{AllocState.Segments, AllocState.block_place, AllocState.nth, Segments.Allocates, Segments.IsSegments, laws.Apart.blocks_lie_apart, laws.Numbers.nth-set_other, laws.Placing.fits}
pub use Rattle.nmgc_stop_spec.specs.{Occupied.IsOccupied, Occupied.KeepsMarks, Strong.HasStrong, Strong.strong_part}
pub use Rattle.nmgc_heap_spec.specs.{Objects.HasSlots, Objects.Means, Objects.Place, Objects.Slot, Objects.header_of, Objects.holds, Objects.slots_of, Objects.unset, Represents.IsObject, Represents.Represents, Tracked.IsTracked}
pub use Rattle.nmgc_lists.specs.laws.Items.{at_some}
pub use Rattle.nmgc_object.specs.{Words.InSegment, Words.IsHeader, Words.block_size, Words.header_word, Words.nursery_place, declared.layout.Layout.Layout, declared.layout.TheConstants.FIRST_PLACE, declared.size.TheConstants.HEADER_WORDS, declared.size.TheConstants.MIN_BLOCK_WORDS, declared.words.Header.Header, laws.Classes.least_block as large}
pub use Rattle.nmgc_segment.specs.{Segment.InUse, Segment.Segment, Segment.block_count, Segment.segment_words, declared.state.State.TheVariants.Current, declared.state.State.TheVariants.Filled, declared.state.State.TheVariants.Free}
pub use Rattle.nmgc_world_spec.specs.{Reach.RefersTo, Reach.strong_fields, Known.IsNodeOf, Known.IsSized, Known.IsWorld, World.World, World.node_of, declared.node.Node.Node, declared.node.Node.TheVariants.Arr, declared.node.Node.TheVariants.Con, declared.node.Node.TheVariants.Stack, declared.node.Node.TheVariants.Thunk, declared.node.Node.TheVariants.Var, declared.node.Node.TheVariants.Weak, declared.value.Name.Name, declared.value.Value.Value}
pub use Rattle.std.proofs.{Common.Bool, Common.List, Common.None, Common.Some, Common.[], Common.ap, Common.arith, Common.eq-eqb, Common.eqb, Common.false, Common.get_or, Common.inl, Common.inr, Common.length, Common.map, Common.refl, Common.replicate, Common.subst, Common.suc, Common.sym, Common.true, Common.zero, Common.ℕ, Common.◌*◌, Common.◌++◌, Common.◌+◌, Common.◌-◌, Common.◌/◌, Common.◌<◌, Common.◌∙◌, Common.◌∷◌, Common.◌≡◌, Common.◌≢◌, Common.◌≤◌, Common.◌⊎◌, Math.ListN.length-set, Math.Nat.mul-le-mul_right, lemmas.Bool.cases_eq, lemmas.Bool.cases_lt, lemmas.Bool.ne_eqb, lemmas.List.get_or-map, lemmas.List.get_or-replicate, lemmas.List.length-map, lemmas.List.length-replicate, lemmas.List.Elements.Contains-get_or, lemmas.Option.slice_get-get_or}
pub use Rattle.std.specs.Prelude.{Contains, slice_get, slice_index}
