-- The names of std, of the crates below and of this crate's definitions that the proofs use.
pub use Rattle.nmgc_alloc.specs.{AllocState.Segments, Reserve.KeepsReserve, Segments.IsMutator, Segments.IsSegments, Segments.all_free, laws.Reserve.begins, laws.Reserve.placing_keeps, laws.Reserve.reserve_has_room}
pub use Rattle.nmgc_stop_spec.specs.{Nurseries.nursery_at, Occupied.IsOccupied, Room.AllocatesAll, Room.Placing, Room.ReserveSuffices, Samples.HoldsYoung, Samples.OneYoung, Samples.young_nurseries, Samples.young_place, Samples.young_registers, Samples.young_stop, Samples.young_world, Stopped.IsRoundOf, Stopped.IsStopped, laws.Blocks.is_block, laws.Blocks.occupied_apart, laws.Blocks.occupied_in, laws.Fields.field_in, laws.Fields.field_out}
pub use Rattle.nmgc_heap_spec.specs.{Objects.AllMean, Objects.Fills, Objects.HasSlots, Objects.LiesWell, Objects.ListMeans, Objects.Means, Objects.Place, Objects.shared_place, Objects.Slot, Objects.free_slots, Objects.holds, Objects.size_of, Objects.slots_of, Changes.IsEarlier, Represents.IsNamed, Represents.IsObject, Represents.IsPlaced, Represents.NoNode, Represents.Represents, Roots.RepresentsRoots, Samples.own, Samples.small_layout, laws.CommandLaws.step_keeps_earlier, laws.CommandLaws.world_is_earlier, laws.Common.makers_differ as not_shared, laws.Kinds.all_item}
pub use Rattle.nmgc_limits.specs.declared.mutators.TheConstants.{REGISTERS, SHARED_MAKER}
pub use Rattle.nmgc_lists.specs.laws.Items.{contains_cases, contains_head, contains_tail, nothing_in, one_is, place_of}
pub use Rattle.nmgc_object.specs.{Words.class_count, Words.nursery_place, declared.layout.Layout.Layout, laws.Classes.class_counted, laws.Classes.object_class}
pub use Rattle.nmgc_segment.specs.Segment.{Segment, free_segment}
pub use Rattle.nmgc_world_laws.specs.laws.{NewWorlds.new_is_world, WorldSteps.step_keeps_world}
pub use Rattle.nmgc_world_spec.specs.{Known.IsOperand, Reach.RefersTo, Reach.strong_fields, Known.CanApply, World.shared_name, World.step, World.World, World.new_mutator, World.new_world, World.node_of, World.serial_of, World.state_of, Known.IsWorld, declared.command.Operand.Operand, declared.command.Operand.TheVariants.Register, declared.mutator_state.MutatorState.MutatorState, declared.node.Node.Node, declared.node.Node.TheVariants.Arr, declared.node.Node.TheVariants.Con, declared.node.Node.TheVariants.Weak, declared.node.Parts.Parts, declared.value.Name.Name, declared.value.Value.Value, declared.value.Value.TheVariants.Nil, declared.value.Value.TheVariants.Number, declared.value.Value.TheVariants.Ref, laws.Common.shared_or}
pub use Rattle.std.proofs.{Common.List, Common.None, Common.Option, Common.Some, Common.[], Common.ap, Common.arith, Common.false, Common.get_or, Common.inl, Common.inr, Common.lit<, Common.lit≤, Common.refl, Common.replicate, Common.slice_index, Common.subst, Common.suc, Common.sum_by, Common.sym, Common.true, Common.zero, Common.zero-add, Common.ℕ, Common.◌*◌, Common.◌+◌, Common.◌-◌, Common.◌<◌, Common.◌∙◌, Common.◌∷◌, Common.◌≡◌, Common.◌≢◌, Common.◌≤◌, Common.◌⊎◌, lemmas.Bool.eqb-true, lemmas.List.get_or-replicate, lemmas.List.Sums.sum_by-cons}
pub use Rattle.std.specs.Prelude.{Contains, IsSome, slice_get, ◌==◌, ◌↔◌}
