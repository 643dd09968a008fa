-- Every name of std, of the crates below and of this crate's definitions that the proofs speak of.
pub use Rattle.nmgc_alloc.specs.{AllocState.Cells, AllocState.HasNumber, AllocState.LiesIn, AllocState.Segments, AllocState.block_place, AllocState.cells, AllocState.name_in, AllocState.nth, Blocks.IsMarkedAt, Blocks.IsSnapshotAt, Blocks.MarksPlace, Segments.IsBlockAt, Segments.IsSegments, Segments.MarksBlock, laws.Apart.lies_in, laws.Blocks.marks_place, laws.Keeping.marked_stands, laws.Placing.inside, laws.Sound.stands_sound, laws.Sound.used_exists}
pub use Rattle.nmgc_heap_spec.specs.{Objects.ListMeans, Objects.Means, Objects.Place, Objects.header_of, Objects.holds, Objects.shared_place, Objects.size_of, Objects.slots_of as slots_in, Tracked.IsTracked, laws.Common.flat_registers, laws.Common.lies_within, laws.Common.list_means, laws.Common.means_append}
pub use Rattle.nmgc_limits.specs.declared.mutators.TheConstants.{SHARED_SLOTS}
pub use Rattle.nmgc_lists.specs.laws.{Items.contains_cases, Items.contains_flat, Items.contains_head, Items.contains_map, Items.contains_tail, Truths.never, Truths.or_second as or_true}
pub use Rattle.nmgc_mark.specs.{Beginning.IsBeginning, Beginning.IsPrepared, Beginning.most_blocks, Beginning.queue_words, Beginning.slots_of, Marker.HasMarked, Marker.HasRoomToMark, Marker.HasScanned, Marker.MarksAt, Marker.StandAsBefore, Marker.blank, Marker.noted, Marker.places, Marker.turned, Seen.MarkerSeen, Stopped.AreScans, Stopped.HasFinished, Stopped.IsAlone, Stopped.IsReady, Stopped.WordsShow, Tie.AreApart, Tie.AreQueued, Tie.IsRightSnapshot, Tie.IsTied, Tie.with_places, Tie.with_queues, Tie.with_words, Work.HasWorked, Work.IsAtField, Work.IsCollector, Work.IsLaterSeat, Work.IsScanning, Work.SeatShows, Work.entry_now, Work.fields_scanned, Work.has_results, Work.is_result, Work.marks_seen, Work.with_first, laws.Common.marked_none, laws.Common.marked_then, laws.Common.places_apart as apart_of, laws.Common.tied_unset}
pub use Rattle.nmgc_object.specs.{FinQueue.FinQueue, Layouts.IsLayout, Words.IsHeader, Words.block_size, Words.header_word, Words.word_total, declared.layout.Layout.Layout, declared.size.TheConstants.HEADER_WORDS, declared.words.Address.Address, declared.words.Header.Header, laws.Classes.least_block}
pub use Rattle.nmgc_round.specs.{Added.AddsScan, Events.Happening, Events.did, Events.replay, Events.scanned, Gate.next_turn, Gate.passed, Marking.Marks, Marking.after_word, Marking.entry_past, Marking.is_last_word, Marking.is_thunk, Marking.marks_after, Marking.marks_of, Marking.name_at, Marking.name_meant, Marking.name_read, Marking.offset_of, Marking.rest_of, Marking.with_name, Objects.IsIn, Objects.Object, Objects.place_of, Ready.CanScan, Ready.first_of, Ready.scanned_by, Rule.AllRead, Rule.IsRead, Rule.Keeps, Rule.now, Seat.IsAt, Seat.Knows, Seat.RoundSeat, Seat.seen, Seat.word_count, Starting.CanOpen, Known.IsSafe, Known.FindsEntry, Known.FindsNode, Known.FindsScan, View.Opening, View.Scan, View.Seen, View.whole}
pub use Rattle.nmgc_round.specs.{declared.table.Round.Round, laws.Common.folded_more, laws.Common.found_at, laws.Common.passed_more, laws.Common.some_at}
pub use Rattle.nmgc_segment.specs.{Marks.IsEpoch, Segment.InUse, declared.state.State.TheVariants.Free}
pub use Rattle.nmgc_snapshot_laws.specs.{Facts.Facts, Facts.IsAhead, Facts.Kept, Facts.marked, Facts.owed, Facts.pushed, Facts.queued, Machine.after_scan, Scan.fields_of, Scan.moved_on, Scan.read_at, State.State, State.entry_of, State.is_listed, State.is_new, State.joined, State.mark_name, State.mark_read, State.mark_value, State.mark_values, State.names_of, State.newest_first, State.opening_in, State.unmarked, State.with_mark, declared.event.Entry.Entry, laws.Listed.contains_listed, laws.Listed.not_listed, laws.Lives.live_there, laws.Lives.stands}
pub use Rattle.nmgc_updrem.specs.{Rings.HavePolled, laws.Polls.polled_all_none, laws.Polls.polled_all_then}
pub use Rattle.nmgc_world_spec.specs.{Reach.IsReached, Reach.IsRoot, Reach.field, Reach.start, Reach.strong_fields, World.IsShared, World.World, World.no_mutator, World.node_of, World.shared_name, declared.mutator_state.MutatorState.MutatorState, declared.node.Kind.Kind, declared.node.Node.Node, declared.node.Node.TheVariants.Arr, declared.node.Node.TheVariants.Con, declared.node.Node.TheVariants.Stack, declared.node.Node.TheVariants.Thunk, declared.node.Node.TheVariants.Var, declared.node.Node.TheVariants.Weak, declared.value.Name.Name, declared.value.Value.Value}
pub use Rattle.std.proofs.{Common.Bool, Common.IsTrue, Common.List, Common.None, Common.Option, Common.Some, Common.[], Common.ap, Common.append_assoc, Common.arith, Common.cond, Common.drop, Common.eq-eqb, Common.eqb, Common.false, Common.get_or, Common.inl, Common.inr, Common.is_some, Common.le-leb, Common.leb, Common.leb-true, Common.length, Common.length-append, Common.length-drop, Common.map, Common.nat_eq, Common.ne_eqb, Common.not, Common.refl, Common.reverse, Common.set, Common.slice_index_or, Common.subst, Common.suc, Common.sym, Common.take, Common.true, Common.zero, Common.ℕ, Common.◌%◌, Common.◌&&◌, Common.◌*◌, Common.◌++◌, Common.◌+◌, Common.◌/◌, Common.◌<◌, Common.◌^◌, Common.◌||◌, Common.◌↔◌, Common.◌∙◌, Common.◌∷◌, Common.◌≡◌, Common.◌≢◌, Common.◌≤◌, Math.Nat.mul-le-mul_left}
pub use Rattle.std.proofs.lemmas.{Bool.cases_eq, Bool.eqb-true, Bool.Decides.eqb_tells, List.append-nil, List.get_or-drop, List.get_or-take, List.length-map, List.length-reverse, List.length-take-le, List.map-append, List.nil_from_length, List.reverse-append, List.take_all, List.take_more, List.Concat.flat_map-append, List.Elements.Contains-append_left, List.Elements.Contains-append_right, List.Elements.Contains-get_or, List.Elements.Contains-push, List.Elements.Contains-push_cases, Nat.div-add-mod', Option.slice_get_within as got_below}
pub use Rattle.std.specs.{List.flat_map, Prelude.Contains, Prelude.IfSome, Prelude.IsSome, Prelude.slice_get, Prelude.slice_index}
pub use lib.ListN.{get_elem?}
pub use mathlib.Core.Option.{some}
