-- Every name of std, of the crates below and of this crate's definitions that the lemmas of these laws speak of.
pub use Rattle.nmgc_heap_spec.specs.Objects.{Place}
pub use Rattle.nmgc_lists.specs.laws.{Items.contains_cases, Items.contains_head, Items.contains_tail, Items.filter_contains, Items.nothing_in, Truths.same_test}
pub use Rattle.nmgc_weak.specs.{Rows.leaves_at, Rows.left_of, Weaks.alive_of, Weaks.finaliser_place, Weaks.is_alive, Weaks.names_of, Weaks.place_of as place_at, Weaks.places_of, Weaks.value_place, declared.weaks.OldWeak.OldWeak}
pub use Rattle.nmgc_world_spec.specs.declared.value.Name.{Name}
pub use Rattle.std.proofs.{Common.Bool, Common.List, Common.[], Common.ap, Common.arith, Common.cond, Common.eq-eqb, Common.false, Common.inl, Common.inr, Common.map, Common.ne_eqb, Common.refl, Common.sym, Common.true, Common.ℕ, Common.◌++◌, Common.◌+◌, Common.◌∙◌, Common.◌∷◌, Common.◌≡◌, lemmas.Bool.cases_eq}
pub use Rattle.std.specs.Prelude.{Contains, filter, not, slice_index, ◌&&◌, ◌==◌}
