-- Every name of std, of the crates below and of this crate's definitions that the lemmas of these laws use.
pub use Rattle.nmgc_lists.specs.laws.{Items.contains_cases, Items.contains_flat, Items.contains_head, Items.contains_tail, Items.flat_contains, Truths.and_both, Truths.eq_true, Truths.or_first, Truths.or_second}
pub use Rattle.nmgc_name_lists.specs.{Order.in_order, Order.is_before, Order.put, Order.AreSorted, Spans.named, Spans.names_from, Spans.names_in, Spans.names_of, declared.span.Span.Span}
pub use Rattle.nmgc_world_laws.specs.laws.Distinct.{before_cases as which_first, in_order_distinct}
pub use Rattle.nmgc_world_spec.specs.{Reach.AreDistinct, Reach.IsBefore, Reach.IsInOrder, Reach.Lists, declared.value.Name.Name, laws.Orders.before_trans, laws.Orders.in_order_cons, laws.Orders.in_order_first, laws.Orders.in_order_rest, laws.Orders.not_before_itself, laws.Orders.same_name}
pub use Rattle.std.proofs.{Common.Bool, Common.List, Common.Some, Common.[], Common.ap, Common.append-nil, Common.append_assoc, Common.arith, Common.cond, Common.false, Common.get_or, Common.inl, Common.inr, Common.length, Common.refl, Common.set, Common.subst, Common.suc, Common.sum_by, Common.sym, Common.true, Common.zero, Common.ℕ, Common.◌++◌, Common.◌+◌, Common.◌-◌, Common.◌<◌, Common.◌↔◌, Common.◌∙◌, Common.◌∷◌, Common.◌≡◌, Common.◌≤◌, Common.◌⊎◌, lemmas.Bool.cases_Bool, lemmas.Bool.cases_lt, lemmas.Bool.eq-eqb, lemmas.Bool.le-ltb, lemmas.Bool.lt-ltb, lemmas.Cmp.ranked, lemmas.Grind.flat_map-append, lemmas.List.Concat.length-flat_map, lemmas.List.Elements.Contains-append_cases, lemmas.List.Elements.Contains-append_right, lemmas.List.Sorted.sum_by-IsPermutation, lemmas.List.Sums.sum_by-append, lemmas.List.Sums.sum_by-cons, lemmas.Option.get_or_from_slice_get, lemmas.Option.slice_get_within}
pub use Rattle.std.specs.{List.Sorted.IsPermutation, Ordering.is_lt, Ordering.nat_cmp, Ordering.ordering_then, Prelude.Contains, Prelude.nat_lt, Prelude.slice_get, Prelude.slice_index_or, Prelude.◌&&◌, Prelude.◌==◌, Prelude.◌||◌, declared.cmp.Ordering.Ordering, declared.cmp.Ordering.TheVariants.Equal, declared.cmp.Ordering.TheVariants.Greater, declared.cmp.Ordering.TheVariants.Less}
