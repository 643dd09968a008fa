-- Every name of std, of the crates below and of this crate's definitions that the proofs use.
pub use Rattle.nmgc_name_lists.specs.{Order.in_order, Room.NameRoom, Order.key_of, Spans.names_in, Spans.names_of, declared.span.Span.Span, laws.Spans.last_longer, laws.Spans.one_more, laws.Spans.same_length, laws.Spans.span_at, laws.Spans.span_length, laws.Spans.spans_in_order}
pub use Rattle.nmgc_world_spec.specs.{Reach.AreDistinct, declared.value.Name.Name}
pub use Rattle.std.proofs.{Common.List, Common.[], Common.ap, Common.arith, Common.length, Common.length-append, Common.rules, Common.subst, Common.sym, Common.◌++◌, Common.◌+◌, Common.◌-◌, Common.◌∙◌, Common.◌∷◌, Common.◌≡◌, lemmas.List.Sorted.answers_always}
pub use Rattle.std.specs.Prelude.{vec_capacity}
