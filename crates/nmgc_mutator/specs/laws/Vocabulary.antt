-- Every name of std, of the crates below and of this crate's definitions that the lemmas of these laws use.
pub use Rattle.nmgc_heap_spec.specs.{Objects.ListMeans, Objects.Means, Objects.Place, laws.Common.lies_within}
pub use Rattle.nmgc_mutator.specs.{Ready.HasHand, Ready.IsNew, Ready.IsReady, Ready.IsUnused, Ready.IsWhole, Ready.Reserves, Ready.hand_in, Ready.part_of, Ready.rows_of, Ready.words_by, Records.is_old, Records.numbers, declared.mutator.Mutator.Mutator, Programs.Follows, Programs.Gives}
pub use Rattle.nmgc_object.specs.{Words.nursery_place, declared.layout.Layout.Layout, declared.layout.TheConstants.FIRST_PLACE, declared.size.TheConstants.HEADER_WORDS, declared.words.Address.Address, declared.words.TheConstants.NIL_WORD}
pub use Rattle.nmgc_round.specs.{Ready.IsMutator, Seat.IsAt, Seat.RoundSeat, Seat.opening_of, Seat.seen, Seating.alone, Starting.CanOpen, Known.IsSafe, View.Opening, View.Seen, View.hand_of, View.word_of, declared.table.Round.Round}
pub use Rattle.nmgc_world_spec.specs.{World.Fits, World.state_of, declared.command.Command.Command, declared.command.Operand.Operand, declared.command.Operand.TheVariants.Register, declared.command.Operand.TheVariants.Shared, declared.command.Reply.Reply, declared.value.Value.Value}
pub use Rattle.std.proofs.{Common.List, Common.None, Common.Option, Common.Some, Common.[], Common.ap, Common.arith, Common.drop, Common.eq-eqb, Common.eqb, Common.false, Common.get_or, Common.le-leb, Common.leb, Common.length, Common.map, Common.ne_eqb, Common.refl, Common.subst, Common.suc, Common.sym, Common.take, Common.true, Common.zero, Common.ℕ, Common.◌%◌, Common.◌&&◌, Common.◌*◌, Common.◌++◌, Common.◌+◌, Common.◌-◌, Common.◌/◌, Common.◌<◌, Common.◌∙◌, Common.◌∷◌, Common.◌≡◌, Common.◌≤◌, Math.Seq.take-append_seam, lemmas.Bool.and_from, lemmas.Option.slice_get_within}
pub use Rattle.std.specs.{List.refill, Prelude.All, Prelude.Contains, Prelude.slice_get}
pub use Rattle.nmgc_lists.specs.laws.Items.{of_item}
