-- Every name of std, of the crates below and of this crate's definitions that the lemmas of these laws use.
pub use Rattle.nmgc_object.specs.{Words.InSegment, Words.class_count, Words.nursery_place, Words.IsClassOf, Words.block_size, Words.HasFields, Words.IsHeader, Layouts.IsLayout, Layouts.IsSegmentSize, declared.layout.Layout.Layout, declared.words.Header.Header}
pub use Rattle.nmgc_world_spec.specs.declared.{node.Kind.Kind, node.Kind.TheVariants.Arr, node.Kind.TheVariants.Con, node.Kind.TheVariants.Stack, node.Kind.TheVariants.Thunk, node.Kind.TheVariants.Var, node.Kind.TheVariants.Weak}
pub use Rattle.std.proofs.{Common.IsTrue, Common.ap, Common.arith, Common.count_by, Common.count_ones, Common.inl, Common.inr, Common.lit≤, Common.mul-le-mul_right, Common.nat_le, Common.refl, Common.rules, Common.subst, Common.suc, Common.sym, Common.tests, Common.zero, Common.ℕ, Common.◌%◌, Common.◌*◌, Common.◌+◌, Common.◌-◌, Common.◌/◌, Common.◌<◌, Common.◌^◌, Common.◌↔◌, Common.◌∙◌, Common.◌≡◌, Common.◌≤◌, Common.◌⊎◌, Math.Nat.pow-le-pow_right, lemmas.Bool.cases_eq, lemmas.Bool.cases_lt, lemmas.Bool.cases_order, lemmas.Bool.le-leb, lemmas.Bool.lt-leb, lemmas.Nat.mod-mul-add, lemmas.Nat.mod_below, lemmas.Nat.ones_cat, lemmas.Nat.pow-add, lemmas.Nat.pow_below, lemmas.Nat.zero_from_ones}
pub use Rattle.std.specs.{Int.IsPowerOfTwo, Int.is_power_of_two, List.range_with_len}
unfoldable pub use lib.Count.{ones}
