-- The names of std, of the crates below and of this crate's definitions that the lemmas of these laws use.
pub use Rattle.std.proofs.{Common.Bool, Common.Bor, Common.IsTrue, Common.List, Common.None, Common.Option, Common.Some, Common.[], Common.ap, Common.arith, Common.cond, Common.false, Common.get_or, Common.inl, Common.inr, Common.length, Common.map, Common.not, Common.refl, Common.set, Common.slice_index, Common.subst, Common.suc, Common.sym, Common.take, Common.true, Common.zero, Common.ℕ, Common.◌++◌, Common.◌+◌, Common.◌-◌, Common.◌<◌, Common.◌∙◌, Common.◌∷◌, Common.◌≡◌, Common.◌≢◌, Common.◌≤◌, Common.◌⊎◌, lemmas.Bool.cases_Bool, lemmas.Bool.cases_eq, lemmas.Bool.ne_eqb, lemmas.List.Elements.All-cons, lemmas.List.Elements.All-head, lemmas.List.Elements.All-nil, lemmas.List.Elements.All-tail, lemmas.List.Elements.Contains-append_cases, lemmas.List.Elements.Contains-append_left, lemmas.List.Elements.Contains-append_right, lemmas.List.Elements.Contains-push_cases, lemmas.List.Sums.sum_by-set, lemmas.Option.get_or_from_slice_get, lemmas.Option.slice_get-get_or, lemmas.Option.slice_get_within}
pub use Rattle.std.specs.{List.AllByRecursion, Prelude.All, Prelude.Contains, Prelude.IfSome, Prelude.IsSome, Prelude.count_by, Prelude.filter, Prelude.flat_map, Prelude.is_some, Prelude.option_copied, Prelude.option_to_list, Prelude.slice_get, Prelude.◌&&◌, Prelude.◌==◌, Prelude.◌||◌}
