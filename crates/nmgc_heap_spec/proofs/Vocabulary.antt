-- The names of std, of the crates below and of this crate's definitions that the proofs use.
pub use Rattle.nmgc_heap_spec.specs.{Objects.AllMean, Objects.Fills, Objects.HasSlots, Objects.HasZeros, Objects.LiesInSegment, Objects.LiesWell, Objects.ListMeans, Objects.Place, Objects.Slot, Objects.free_slots, Objects.header_of, Objects.holds, Objects.shared_place, Objects.size_of, Objects.slots_of, Represents.IsNamed, Represents.IsPlaced, Represents.NoNode, Represents.Represents, Roots.RepresentsRoots, Samples.NoSecondPlace, Samples.SnapshotStands, Samples.WordsAreDetermined, Samples.block, Samples.chain_serials, Samples.chain_words, Samples.own, Samples.places_of, Samples.small_layout, Samples.snapshot, Tracked.IsTracked, laws.Changes.agreeing, laws.Changes.field_changed, laws.Changes.places_added, laws.Changes.places_dropped, laws.Kinds.slots_mean, laws.Meanings.above_zero, laws.Meanings.one_at, laws.Meanings.one_value, laws.Meanings.one_world, laws.Meanings.placed_at, laws.Meanings.value_is_set, laws.Moving.represents_moved, laws.NodeChanges.changed_one, laws.Roots.roots_added, laws.Roots.roots_dropped, laws.Roots.roots_moved, laws.Roots.same_reach, laws.Zeros.zeros_first}
pub use Rattle.nmgc_limits.specs.declared.mutators.TheConstants.{REGISTERS, SHARED_MAKER, SHARED_SLOTS}
pub use Rattle.nmgc_lists.specs.laws.Items.{contains_cases, contains_head, contains_map, contains_tail, is_some_get, is_some_of, map_contains}
pub use Rattle.nmgc_object.specs.{Words.InNursery, Words.IsHeader, Words.header_word, Words.word_total, declared.size.TheConstants.HEADER_WORDS, declared.words.TheConstants.SERIAL_UNIT}
pub use Rattle.nmgc_world_spec.specs.{Reach.start, Reach.IsWide, World.shared_name, World.World, World.node_of, World.serial_of, World.state_of, declared.mutator_state.MutatorState.MutatorState, declared.node.Node.Node, declared.node.Node.TheVariants.Arr, declared.node.Node.TheVariants.Var, declared.value.Name.Name, declared.value.Value.Value, declared.value.Value.TheVariants.Nil, declared.value.Value.TheVariants.Ref, laws.Common.shared_or}
pub use Rattle.std.proofs.{Common.List, Common.Some, Common.[], Common.ap, Common.arith, Common.drop, Common.get_or, Common.inl, Common.inr, Common.length, Common.lit<, Common.lit≤, Common.map, Common.refl, Common.replicate, Common.slice_index, Common.subst, Common.suc, Common.sym, Common.zero, Common.ℕ, Common.◌*◌, Common.◌+◌, Common.◌-◌, Common.◌<◌, Common.◌∙◌, Common.◌∷◌, Common.◌≡◌, Common.◌≤◌, Common.◌⊎◌, lemmas.Bool.cases_lt, lemmas.Bool.eqb-true, lemmas.List.get_or-drop, lemmas.Option.slice_get-get_or, lemmas.Option.slice_get_within}
pub use Rattle.std.specs.Prelude.{Contains, IsSome, slice_get, ◌==◌}
