-- The names of std, of the crates below and of this crate's definitions that the proofs use.
pub use Rattle.nmgc_image.specs.{Image.HasNode, Image.IsImage, Image.IsNode, Image.names_of, Image.values_in, Image.values_of, Results.IsSpelledWithin, declared.image.Entry.Entry, declared.image.Held.Held, declared.image.Image.Image, declared.image.ImageMutator.ImageMutator, laws.Sizes.nodes_within, laws.Sizes.queue_within}
pub use Rattle.nmgc_lists.specs.laws.Items.{contains_at, contains_flat, contains_map as map_has, item_map as at_map, nothing_in, of_item as all_at, place_of, slice_get-set_other, slice_get-set_same}
pub use Rattle.nmgc_retain.specs.{Judging.AreHopsWithin, Judging.AreRootsWithin, Judging.IsHeldWithin, Judging.IsOwnWithin, Judging.IsValueWithin, Levels.AreSound, Levels.HasLevel, Levels.IsCertified, Paths.IsRight, Paths.IsHop, Paths.IsPath, Paths.Lead, Paths.RefersTo, Paths.first_strong, Paths.strong_field, Paths.hop_lines, Levels.IsWithin, Search.Advances, Search.AreRootsMet, Search.Grows, Search.IsComplete, Search.IsFound, Search.IsGrowing, Search.IsKnown, Search.IsListed, Search.IsMet, Search.IsOwnMet, Search.IsSearchable, Search.IsTraced, Search.IsWay, Search.ListsBelow, Search.Puts, Search.Reaches, Search.StandsAt, Search.hidden, Search.level_in, declared.path.Hop.Hop, declared.path.Level.Level, declared.path.Levels.Levels, declared.path.Path.Path, declared.path.Retained.Retained, declared.path.Retained.TheVariants.Loose, declared.path.Root.Root, declared.path.Root.TheVariants.Queue, declared.path.Root.TheVariants.Register, declared.path.Root.TheVariants.Shared, declared.search.Found.Found, declared.search.Way.Way}
pub use Rattle.nmgc_world_spec.specs.{Reach.IsBefore, Reach.IsInOrder, Reach.strong_fields, World.shared_name, World.held_by, declared.node.Node.Node, declared.node.Node.TheVariants.Arr, declared.node.Node.TheVariants.Con, declared.node.Node.TheVariants.Stack, declared.node.Node.TheVariants.Thunk, declared.node.Node.TheVariants.Var, declared.node.Node.TheVariants.Weak, declared.value.Name.Name, declared.value.Value.Value, declared.value.Value.TheVariants.Nil, declared.value.Value.TheVariants.Number, declared.value.Value.TheVariants.Ref, laws.Orders.before_trans, laws.Orders.in_order_first, laws.Orders.in_order_push, laws.Orders.in_order_rest, laws.Orders.not_before_itself, laws.Orders.same_name}
pub use Rattle.std.proofs.Common.{Bool, List, None, Option, Some, [], ap, arith, cond, drop, false, get_or, inl, inr, length, ltb, map, not, refl, replicate, reverse, set, slice_index, subst, suc, sym, take, true, zero, ℕ, ◌++◌, ◌+◌, ◌-◌, ◌/◌, ◌<◌, ◌^◌, ◌↔◌, ◌∙◌, ◌∷◌, ◌≡◌, ◌≤◌, ◌⊎◌}
pub use Rattle.std.proofs.lemmas.{Bool.cases_lt, Bool.cases_order, Bool.eq-eqb, Bool.eqb-true, Bool.false≢true, Bool.iff_false, Bool.le-leb, Bool.le-ltb, Bool.leb-true, List.append-nil, List.drop_all, List.drop_more, List.length-append, List.length-map, List.length-replicate, List.length-reverse, List.length-set, List.map_push, List.nil_from_length, List.reverse-append, List.take_all, List.Elements.All-contains, List.Elements.All-more, List.Elements.Contains-append_left, List.Elements.Contains-append_right, List.Elements.Contains-push, List.Elements.Contains-push_cases, List.Sums.sum_by-cons, List.Sums.sum_by-set, Option.get_or_from_slice_get, Option.none-some, Option.same_Some, Option.slice_get-get_or, Option.slice_get_within, Result.IfOk-weaker, Result.on_ok_weaker}
pub use Rattle.std.specs.Prelude.{All, Contains, IfNone, IfSome, flat_map, is_none, is_some, slice_get}
