-- Every name of std, of the crates below and of this crate's definitions that the proofs use.
pub use Rattle.nmgc_lists.specs.laws.Items.{contains_cases, contains_head, contains_tail}
pub use Rattle.nmgc_object.specs.{FinQueue.ArePointersBelow, FinQueue.HavePointersUpTo, Words.block_size, laws.Classes.class_counted, laws.Classes.count_at, laws.Classes.count_to, laws.Classes.dense_block, laws.Classes.fitting, laws.Classes.is_whole, laws.Classes.last_class, laws.Classes.object_class, laws.Classes.object_half, laws.Classes.wide_block, laws.Headers.few_fields}
pub use Rattle.std.proofs.{Common.List, Common.[], Common.arith, Common.drop, Common.inl, Common.inr, Common.length, Common.refl, Common.set, Common.subst, Common.suc, Common.sym, Common.zero, Common.ℕ, Common.◌%◌, Common.◌*◌, Common.◌++◌, Common.◌+◌, Common.◌-◌, Common.◌/◌, Common.◌<◌, Common.◌^◌, Common.◌↔◌, Common.◌∷◌, Common.◌≡◌, Common.◌≤◌, Common.◌⊎◌, Math.Nat.pow-le-pow_right, lemmas.Bool.cases_lt, lemmas.List.drop-append-le, lemmas.List.drop-set-add, lemmas.List.Elements.Contains-push_cases, lemmas.Nat.leading_length, lemmas.Nat.pow-add}
pub use Rattle.std.specs.{Int.Count.count_leading_zeros, Prelude.Contains}
