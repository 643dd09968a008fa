-- Every name of std, of the crates below and of this crate's definitions that the proofs speak of.
pub use Rattle.atomic_table.proofs.Lists.{at_last, at_longer, at_set, set_else, set_here}
pub use Rattle.atomic_table.specs.Table.{Allows, Final, Joins, Me, Seen as SeenIn, Splits, keeps}
pub use Rattle.nmgc_alloc.specs.{AllocState.Segments, AllocState.cells, Blocks.IsMarkedAt, Blocks.IsSnapshotAt, Segments.IsSegments}
pub use Rattle.nmgc_stop_spec.specs.{Occupied.AreBlocks, Occupied.IsOccupied, Strong.HasStrong, Strong.strong_of, laws.Blocks.IsBlock, laws.Blocks.is_block, laws.Blocks.occupied_apart, laws.Fields.field_in, laws.Fields.field_out, laws.Fields.stands}
pub use Rattle.nmgc_heap_spec.specs.{Objects.ListMeans, Objects.Means, Objects.Place, Objects.header_of, Objects.size_of, Represents.NoNode, Represents.Represents, Tracked.IsTracked, laws.Common.flat_registers, laws.Common.list_has as meant, laws.Common.list_of as worded, laws.Common.means_append, laws.Slots.strong_held}
pub use Rattle.nmgc_journal.specs.declared.report.MutatorEnd.{MutatorEnd}
pub use Rattle.nmgc_limits.specs.declared.mutators.TheConstants.{SHARED_MAKER, SHARED_SLOTS}
pub use Rattle.nmgc_lists.specs.{Room.Room, declared.memory.NoMemory.NoMemory, laws.Items.at_some, laws.Items.contains_at as at_contains, laws.Items.contains_cases, laws.Items.contains_flat, laws.Items.contains_head, laws.Items.contains_tail, laws.Items.flat_contains, laws.Items.is_some_of, laws.Items.nothing_in, laws.Items.nothing_in as nothing, laws.Items.one_is, laws.Items.place_of, laws.Items.word_again}
pub use Rattle.nmgc_mark.specs.{Beginning.most_blocks, Beginning.slots_of, Seen.MarkerSeen, Stopped.AreScans}
pub use Rattle.nmgc_object.specs.{Words.IsHeader, Words.IsName, Words.block_size, Words.header_word, Words.name_word, Words.nursery_place, declared.layout.Layout.Layout, declared.layout.TheConstants.FIRST_PLACE, declared.layout.TheConstants.SHARED_PLACE, declared.size.TheConstants.HEADER_WORDS, declared.words.Address.Address, declared.words.Header.Header}
pub use Rattle.nmgc_pmark.specs.{Claims.AreClaims, Claims.IsStopped, Claims.Stopped, Claims.starts_of, Crew.AreMarked, Crew.AreNumbered, Crew.AreSound, Crew.CanAllBegin, Crew.HaveAllMarked, Crew.IsSharedAmong, Crew.found_of, Found.CanMark, Found.IsFound, Found.IsIn, Found.LeadsWithin, Found.block_index, Found.blocks_of, Marker.AreDistinct, Marker.CanBegin, Marker.HasMarked, Marker.HasTried, Marker.IsMarking, Marker.IsOwnStart, Marker.IsSound, Marker.IsTaken, Marker.TakesLast, Marker.part_of, Names.AreAllRead, Names.AreNamed, Names.AreSorted, Names.HasName, Names.IsNamed, Names.NameAll, Names.NameThem, Names.key_of, OneMarker.IsClaimed, OneMarker.IsMarkedAlone, Rule.Agrees, Rule.CanSplit, Rule.HasAll, Rule.IsListed, Rule.IsMarker, Rule.IsShared, Rule.KeepsClaims, Seat.IsAt, Seat.bounds_of, Seat.seen, Stops.IsStoppedAs, Stops.StopsAreStopped, Stops.root_words, Strong.IsStart, Strong.IsStrong, Strong.roots_of, View.ClaimsSeen, View.Part, View.blank, View.blanks, View.but_first, View.claimed_by, View.claimed_in, View.claiming, View.first_alone, View.first_changed, View.gives_first, View.keeps_rest, View.nobody, View.together, View.tried, View.whole}
pub use Rattle.nmgc_pmark.specs.declared.{bounds.Bounds.Bounds, marker.Marker.Marker, table.ClaimTable.ClaimTable}
pub use Rattle.nmgc_round.specs.{Events.Happening, Events.did, Events.replay, Events.scanned, Rule.now, View.Opening}
pub use Rattle.nmgc_run_laws.specs.laws.Places.{block_used, blocks_at_stop}
pub use Rattle.nmgc_run_spec.specs.Heap.{HoldsAtStop, snapshots}
pub use Rattle.nmgc_run_spec.specs.Terms.{queues_of, registers_of}
pub use Rattle.nmgc_snapshot_laws.specs.{Facts.Facts, Machine.after_scan, Scan.field_at, Scan.read_at, State.State, State.mark_name, State.mark_read, State.mark_values, State.names_of, State.newest_first, State.opening_in, State.root_values, State.unmarked, declared.event.Entry.Entry, laws.Lives.refers, laws.Marking.mark_cases, laws.Openings.no_names as none_of, laws.Openings.opening_facts, laws.ScanReads.read_cases, laws.Scans.scan_facts}
pub use Rattle.nmgc_world_laws.specs.Holds.{has_result}
pub use Rattle.nmgc_world_spec.specs.{Reach.IsBefore, Reach.IsInOrder, Reach.IsReached, Reach.IsRoot, Reach.Lists, Reach.RefersTo, Reach.strong_fields, World.shared_name, World.World, World.held_by, World.no_mutator, World.node_of, World.state_of, Known.IsKnown, Known.IsNodeOf, Known.IsWorld, declared.mutator_state.MutatorState.MutatorState, declared.node.Node.Node, declared.node.Node.TheVariants.Arr, declared.node.Node.TheVariants.Con, declared.node.Node.TheVariants.Stack, declared.node.Node.TheVariants.Thunk, declared.node.Node.TheVariants.Var, declared.node.Node.TheVariants.Weak, declared.value.Name.Name, declared.value.Value.Value, laws.Orders.name_cases, laws.Orders.not_before_itself as never_before, laws.Orders.same_name}
pub use Rattle.std.proofs.{Common.Bool, Common.List, Common.None, Common.Ok, Common.Option, Common.Result, Common.Some, Common.[], Common.ap, Common.append-nil, Common.append_assoc, Common.arith, Common.cond, Common.drop, Common.eq-eqb, Common.eqb, Common.false, Common.get_or, Common.get_or-drop, Common.inl, Common.inr, Common.length, Common.length-append, Common.length-drop, Common.length-set, Common.length-take-le, Common.map, Common.ne_eqb, Common.refl, Common.replicate, Common.rules, Common.set, Common.subst, Common.suc, Common.sym, Common.take, Common.true, Common.true≢false, Common.vec_capacity, Common.vec_len, Common.zero, Common.ℕ, Common.⊎_elim, Common.◌%◌, Common.◌*◌, Common.◌++◌, Common.◌+◌, Common.◌-◌, Common.◌<◌, Common.◌↔◌, Common.◌∙◌, Common.◌∷◌, Common.◌≡◌, Common.◌≢◌, Common.◌≤◌, Common.◌⊎◌, Math.Nat.mod-lt, Math.Seq.take-append_seam, Math.Seq.take-suc}
pub use Rattle.std.proofs.lemmas.{Bool.cases_eq, Bool.cases_lt, Cmp.ranked, List.get_or-set_other, List.get_or-set_same, List.get_or-take, List.get_or_default, List.get_or_past, List.length-map, List.length-replicate, List.Edits.Swapped, List.Edits.length-swap, List.Edits.swapped_from_swap, List.Elements.All-contains, List.Elements.Contains-append_cases, List.Elements.Contains-append_left, List.Elements.Contains-append_right, List.Elements.Contains-get_or, List.Elements.Contains-push, List.Elements.Contains-push_cases, List.Sorted.Contains-permutation, List.Sorted.IsPermutation-keeps, List.Sorted.IsPermutation-sym, List.Sorted.IsPermutation-trans, List.Sorted.answers_always, Option.get_or_from_slice_get, Option.slice_get-get_or, Option.slice_get_within, Result.IfOk-weaker, Slice.Zip.AllZip-long, Slice.Zip.all_zipped_more}
pub use Rattle.std.specs.{List.AllZip, List.flat_map, List.swap, List.Sorted.IsPermutation, Ordering.is_lt, Ordering.nat_cmp, Ordering.ordering_then, Prelude.Contains, Prelude.Err, Prelude.IfOk, Prelude.IsSome, Prelude.OnOk, Prelude.is_err, Prelude.slice_get, Prelude.slice_index, Prelude.slice_index_or, Vec.Iter.into_iter_items, declared.cmp.Ordering.Ordering, declared.cmp.Ordering.TheVariants.Equal, declared.cmp.Ordering.TheVariants.Greater, declared.cmp.Ordering.TheVariants.Less}
pub use lib.ListN.{get_elem?}
pub use mathlib.Core.Option.{some, some-injective, some-ne-none}
pub use prog.Atomic.{either}
