-- All names of std, of the crates below and of this crate's definitions that these laws use.
pub use Rattle.nmgc_lists.specs.laws.Items.{contains_cases, contains_head, contains_tail, is_some_get}
pub use Rattle.nmgc_world_spec.specs.{World.is_same_name, World.last_of, World.World, World.node_of, Pieces.without_last, Order.IsEarlier, Order.ListsBefore, Reach.IsAlive, Reach.IsBefore, Reach.IsInOrder, Reach.IsKeptBy, Reach.Lists, Reach.IsOfWeak, declared.node.Node.Node, declared.node.Parts.Parts, declared.value.Name.Name, declared.value.Value.Value}
pub use Rattle.std.proofs.{Common.Bool, Common.List, Common.None, Common.Option, Common.Some, Common.[], Common.ap, Common.arith, Common.eq-eqb, Common.eqb, Common.false, Common.get_or, Common.inl, Common.inr, Common.length, Common.length-set, Common.refl, Common.set, Common.subst, Common.suc, Common.sym, Common.take, Common.true, Common.zero, Common.ℕ, Common.◌++◌, Common.◌+◌, Common.◌-◌, Common.◌<◌, Common.◌∙◌, Common.◌∷◌, Common.◌≡◌, Common.◌≢◌, Common.◌⊎◌, lemmas.Bool.and_from, lemmas.Bool.cases_Bool, lemmas.Bool.cases_eq, lemmas.Bool.cases_lt, lemmas.List.get_or-set_same, lemmas.List.Elements.Contains-append_left, lemmas.List.Elements.Contains-get_or, lemmas.List.Elements.Contains-push, lemmas.List.Elements.Contains-push_cases, lemmas.Option.slice_get-get_or}
pub use Rattle.std.specs.Prelude.{Contains, IsSome, filter, if◌then◌else◌, slice_get}
