-- Every name of std, of the crates below and of this crate's definitions that the lemmas of these laws use.
pub use Rattle.atomic_table.proofs.Lists.{at_longer}
pub use Rattle.nmgc_heap_spec.specs.Objects.{Place}
pub use Rattle.nmgc_lists.specs.laws.Items.{contains_cases, contains_head, contains_tail}
pub use Rattle.nmgc_object.specs.declared.layout.Layout.{Layout}
pub use Rattle.nmgc_round.specs.{Empty.first_opening, Empty.new_hand, Events.Happening, Events.IsLegal, Events.did, Events.replay, Events.scanned, Finishing.HasAll, Gate.next_turn, Gate.passed, Marking.Marks, Marking.after_word, Marking.folded, Marking.marks_of, Marking.name_at, Own.slots_at, Rule.Answers, Seat.IsAt, Seat.RoundSeat, Seat.seen, Seating.all_together, Seating.alone, Seating.alones, Seating.together, View.Answer, View.DoneRow, View.Hand, View.Opening, View.Part, View.Scan, View.Seen, View.Slots, View.leaves, View.plain, View.rows_leave, View.with_slots, View.word, declared.table.Round.Round}
pub use Rattle.nmgc_snapshot_laws.specs.{Machine.after_command, Machine.after_scan, Scan.read_at, State.State, State.entry_of, State.is_new, State.joined, State.mark_read, State.with_mark, declared.event.Entry.Entry}
pub use Rattle.nmgc_world_laws.specs.laws.Growth.{step_grows}
pub use Rattle.nmgc_world_spec.specs.{World.World, Known.given, World.node_of, declared.command.Reply.Reply, declared.value.Name.Name, declared.value.Value.Value}
pub use Rattle.std.proofs.{Common.All, Common.Bool, Common.List, Common.None, Common.Option, Common.Some, Common.[], Common.ap, Common.arith, Common.cond, Common.eq-eqb, Common.eqb, Common.false, Common.inl, Common.inr, Common.length, Common.map, Common.ne_eqb, Common.refl, Common.subst, Common.suc, Common.sym, Common.true, Common.zero, Common.ℕ, Common.◌++◌, Common.◌+◌, Common.◌<◌, Common.◌||◌, Common.◌∙◌, Common.◌∷◌, Common.◌≡◌, Common.◌≢◌, lemmas.Bool.cases_eq, lemmas.Bool.Decides.eqb_tells, lemmas.List.length-replicate}
pub use Rattle.std.specs.Prelude.{Contains, drop, slice_index_or}
pub use lib.ListN.{get_elem?}
pub use mathlib.Core.Option.{some, some-injective, some-ne-none}
