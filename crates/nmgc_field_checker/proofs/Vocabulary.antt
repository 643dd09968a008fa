-- Every name of std, of the crates below and of this crate's definitions that the proofs speak of.
pub use Rattle.nmgc_limits.specs.declared.mutators.TheConstants.{REGISTERS, SHARED_MAKER, SHARED_SLOTS}
pub use Rattle.nmgc_lists.specs.laws.{Items.contains_at, Items.contains_cases, Items.contains_filter, Items.contains_flat, Items.contains_head, Items.contains_map, Items.contains_one, Items.contains_tail, Items.filter_contains, Items.flat_contains, Items.get_is_some, Items.is_some_get, Items.is_some_of, Items.item, Items.item_map, Items.map_contains, Items.nothing_in, Items.of_item, Items.one_is, Items.place_of, Items.slice_get-append, Items.slice_get-append_last, Items.slice_get-set_other, Items.slice_get-set_same, Items.slice_get-take, Options.some_is}
pub use Rattle.nmgc_world_spec.specs.{declared.node.Parts.Parts, declared.node.Node.TheVariants.Weak, Reach.IsAlive, World.no_mutator, declared.mutator_state.MutatorState.MutatorState, declared.node.Node.Node, declared.node.Node.TheVariants.Arr, declared.value.Name.Name, declared.value.Value.Value, Known.AreKnown, Known.IsKnown, Reach.HasStrongField, Reach.IsReached, Reach.RefersTo, Reach.strong_at, Reach.strong_fields, World.World, World.node_of, World.serial_of, World.state_of, laws.Common.same_ref, laws.Orders.same_name}
pub use Rattle.nmgc_world_laws.specs.laws.{NodeLaws.get-append_cases, NodeLaws.next_is_new, Worlds.refill_whole}
pub use Rattle.nmgc_barrier_laws.specs.Stored.{IsStored}
pub use Rattle.nmgc_barrier_laws.specs.declared.debt.Debt.{Debt}
pub use Rattle.nmgc_barrier_laws.specs.{Due.IsBroken, FieldCycle.AreDebts, FieldCycle.AreJoined, FieldCycle.ArePaid, FieldCycle.AreWithout, FieldCycle.FieldCycle, FieldCycle.IsChanged, FieldCycle.IsDueBy, FieldCycle.IsFieldEnd, FieldCycle.IsGone, FieldCycle.IsPushedAt, FieldCycle.IsReported, FieldCycle.IsHanded, FieldCycle.IsOldName, FieldCycle.IsRootOrOpened, FieldCycle.KeepsName, FieldCycle.NeedsName, FieldCycle.IsScannedAt, FieldCycle.IsHandedBy, FieldCycle.IsMade, FieldCycle.IsOldStored, FieldCycle.IsPaid, FieldCycle.IsWritten}
pub use Rattle.nmgc_field_checker.specs.{Fields.AreBroken, Fields.AreStored, declared.accounts.Accounts.Accounts, declared.event.FieldDebt.FieldDebt, declared.event.FieldStore.FieldStore, Fields.AreAt, Fields.IsLost, Fields.IsStore, Fields.IsBrokenAt, Fields.IsStoredAt, Fields.Refers, Heaps.AddsTargets, Heaps.AreFields, Heaps.AreFieldsIf, Heaps.AreFollowed, Heaps.Has, Heaps.HasCount, Heaps.IsBelow, Heaps.IsHeap, Heaps.IsNamed, Heaps.IsWithout, Heaps.filled, Heaps.has_number, Heaps.left_field, Heaps.left_fields, Heaps.named, Heaps.node_with, Heaps.with_rest, Marking.AreHanded, Marking.CountsStore, Marking.CountsObject, Marking.CountsGiving, Marking.IsRaised, Marking.with_heap, Marking.IsEnding, Marking.IsLeft, Marking.IsOldestIf, Marking.IsLostIf, Marking.IsOpening, Marking.IsGiving, Marking.IsScanIf, Marking.actor, Marking.AreOld, Marking.IsChange, Marking.IsCycle, Marking.Begins, Marking.IsNoted, Marking.IsOwed, Marking.IsUnkept, Marking.IsNotedDue, Marking.IsOwnOldest, Marking.IsQuiet, Marking.KeepsStores, Marking.Running, Marking.debt_of, Marking.running_of, Marking.stored_name, Reports.IsBlack, Reports.IsFirstIf, Reports.IsLeastIf, Reports.IsLeftOut, Reports.IsMarked, Reports.IsNotKept, Reports.Left, Reports.MayAllGo, Reports.MayGo, Reports.StandsFirst, Reports.WhyFreed, Reports.WhyNotGo, Heaps.value_in, Heaps.values_in, Heaps.world_of, Sets.AreAdded, Sets.AreFlags, Sets.AreSame, Sets.Grows, Sets.IsLeast, Sets.Joins, Sets.Objects, Sets.no_objects, Stores.AddsDebt, Stores.AddsStores, Stores.AreAccounts, Stores.IsEarlier, Stores.IsEarliestIf, Stores.IsHad, Stores.IsOutside, Stores.IsOwnDebt, Stores.no_stores, Stores.IsNewDebt, Stores.IsSameAccounts, Stores.OwesAll, Stores.OwesObject, Stores.Stored, Stores.debt_line, Stores.is_unpaid, Stores.object_of, Stores.store_line, Stores.unpaid}
pub use Rattle.std.proofs.Common.{Bool, List, max, not, rules, None, Option, Some, [], ap, append_assoc, arith, cond, drop, drop-cons, false, get_or, inl, inr, length, length-append, length-drop, length-set, length-take, map, refl, replicate, set, subst, suc, sym, take, true, zero, ℕ, ◌++◌, ◌+◌, ◌-◌, ◌<◌, ◌^◌, ◌∙◌, ◌∷◌, ◌≡◌, ◌≢◌, ◌≤◌, ◌⊎◌}
pub use Rattle.std.proofs.lemmas.{Bool.cases_Bool, Bool.cases_eq, Bool.cases_lt, Bool.false≢true, Bool.Decides.Decides-ltb, Bool.Decides.eqb_tells, List.append-nil, List.drop-replicate, List.drop-map, List.get_or-set_other, List.get_or-set_same, List.get_or-replicate, List.get_or_past, List.length-map, List.length-replicate, List.length_push, List.map-append, List.map-set, List.map_more, List.take-map, List.take-append-drop, List.take_all, List.take_more, List.Elements.All-append, List.Elements.All-cons, List.Elements.All-drop, List.Elements.All-head, List.Elements.All-nil, List.Elements.All-push, List.Elements.All-replicate, List.Elements.All-set, List.Elements.All-tail, List.Elements.All-take, List.Elements.All-weaker, List.Elements.Contains-append_cases, List.Elements.Contains-append_left, List.Elements.Contains-append_right, List.Elements.All-contains, List.Elements.Contains-get_or, List.Elements.Contains-push, List.Elements.Contains-push_cases, List.Concat.flat_map-append, Option.get_or_from_slice_get, Option.slice_get-get_or, Option.slice_get-map, Option.slice_get_past, Option.slice_get_within}
pub use Rattle.std.specs.Option.{option_map, option_to_list}
pub use Rattle.std.specs.List.{flat_map, list_any, refill}
pub use Rattle.std.specs.Prelude.{All, ◌||◌, Contains, IsSome, slice_get, slice_index_or, slice_set, ◌↔◌, ◌==◌}
pub use Rattle.std.specs.{BTreeMap.is_at, BTreeSet.BTreeSet, BTreeSet.Updates, BTreeSet.contains, Ordering.is_eq, Ordering.nat_cmp, Prelude.IsTrue}
pub use Rattle.std.specs.declared.cmp.Ordering.{Ordering, TheVariants.Equal, TheVariants.Greater, TheVariants.Less}
pub use Rattle.std.proofs.lemmas.{Cmp.nat_cmp_total, Map.Lookups.exact_unsigned, Map.Views.btree_set_contains_iff}
pub use Rattle.nmgc_lists.specs.laws.Truths.{false_of, never, or_first, or_second, same_test, unmarked}
