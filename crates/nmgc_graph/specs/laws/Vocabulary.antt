-- Every name of std, of the crates below and of this crate's definitions that the lemmas of these laws speak of.
pub use Rattle.nmgc_graph.specs.{Marks.HasPlace, Marks.HasPlaces, Marks.IsMarked, Marks.mark_of, Marks.row_of, Marks.unmarked_count, Marks.with_mark, Search.parts_in, Search.parts_of}
pub use Rattle.nmgc_limits.specs.declared.mutators.TheConstants.{SHARED_MAKER}
pub use Rattle.nmgc_lists.specs.laws.Items.{count-set, get_is_some}
pub use Rattle.nmgc_world_spec.specs.{Order.ListsBefore, Reach.IsAlive, World.World, World.node_of, World.state_of, declared.node.Node.Node, declared.node.Node.TheVariants.Arr, declared.node.Node.TheVariants.Con, declared.node.Node.TheVariants.Stack, declared.node.Node.TheVariants.Thunk, declared.node.Node.TheVariants.Var, declared.node.Node.TheVariants.Weak, declared.node.Parts.Parts, declared.value.Name.Name, laws.Orders.lists_maker, laws.Orders.same_name}
pub use Rattle.std.proofs.{Common.Bool, Common.List, Common.None, Common.Option, Common.Some, Common.[], Common.ap, Common.arith, Common.false, Common.inl, Common.inr, Common.length, Common.not, Common.refl, Common.set, Common.sym, Common.true, Common.ℕ, Common.◌+◌, Common.◌<◌, Common.◌∙◌, Common.◌≡◌, Common.◌≢◌, Common.◌≤◌, lemmas.Bool.cases_eq, lemmas.Bool.cases_lt, lemmas.Bool.false≢true, lemmas.Bool.Decides.eqb_tells, lemmas.List.get_or-set_other, lemmas.List.get_or-set_same, lemmas.List.get_or_past, lemmas.List.length-set, lemmas.List.Sums.sum_by-set}
pub use Rattle.std.specs.Prelude.{IsSome, count_by, option_and_then}
