-- All names of std, of the crates below and of this crate's definitions that the proofs use.
pub use Rattle.nmgc_journal.specs.{Packed.words_of, Packed.reply_in, Reading.name_at, Reading.parts_at, Reading.value_at, Spans.span_lines, Stops.AreEndedFrom, Stops.IsRestAfter, Printing.command_count, Text.IsValue, Text.cycle_text, Text.name_line, Text.name_text, Text.replies_text, Text.rounds_text, Text.stop_at, Text.value_text, Printing.ended_at, Printing.reply_line, Printing.round_text, declared.report.CycleRow.CycleRow, laws.Reading.found_by, laws.Reading.name_reads, laws.Reading.none_by, laws.Reading.parts_none, laws.Reading.parts_some, laws.Reading.value_reads}
pub use Rattle.nmgc_name_lists.specs.{Spans.names_in, Spans.names_of, declared.span.Span.Span}
pub use Rattle.nmgc_object.specs.Words.{IsName}
pub use Rattle.nmgc_world_spec.specs.declared.{command.Reply.Reply, value.Name.Name}
pub use Rattle.std.proofs.{Common.Bool, Common.Bor, Common.List, Common.None, Common.Option, Common.Some, Common.[], Common.add-one, Common.ap, Common.append_assoc, Common.arith, Common.decimal, Common.drop, Common.false, Common.length, Common.length-drop, Common.map, Common.refl, Common.rules, Common.slice_index, Common.subst, Common.suc, Common.sym, Common.take, Common.true, Common.vec_capacity, Common.vec_len, Common.zero, Common.ℕ, Common.◌++◌, Common.◌+◌, Common.◌-◌, Common.◌<◌, Common.◌==◌, Common.◌↔◌, Common.◌∙◌, Common.◌∷◌, Common.◌≡◌, Common.◌≢◌, Common.◌≤◌, Math.Numerals.one-add, Math.Seq.take-suc}
pub use Rattle.std.proofs.lemmas.{Bool.Decides.Decides-eqb, Bool.Decides.nat_tests, Fmt.length-decimal-le, Grind.flat_map-append, Iterator.YieldsList-from_map, Iterator.YieldsList-from_slice, Iterator.Consumers.sum_by_from_yields_List, List.drop-set, List.flat_map_more, List.take_all, List.Folds.length-prefix_len, Option.get_or_from_slice_get, Option.slice_get_within}
pub use Rattle.std.specs.{List.flat_map, List.prefix_len, List.take_while, Prelude.All, Prelude.IfNone, Prelude.IfSome, Prelude.OnOk, Slots.slots_items}
pub use lib.ListN.{get_elem?, set}
pub use mathlib.Core.Option.{some, some-injective, some-ne-none}
