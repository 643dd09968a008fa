-- The names of std, of the crates below and of this crate's definitions that the proofs use.
pub use Rattle.nmgc_arguments.specs.{Buffer.IsPassedAt, Output.passed_as}
pub use Rattle.nmgc_lists.specs.laws.Truths.{false_of}
pub use Rattle.std.proofs.{Common.Global, Common.List, Common.None, Common.Option, Common.Some, Common.[], Common.add-one, Common.arith, Common.drop, Common.false, Common.get_or, Common.inl, Common.inr, Common.length, Common.length-take, Common.map, Common.refl, Common.suc, Common.take, Common.true, Common.ℕ, Common.◌++◌, Common.◌+◌, Common.◌<◌, Common.◌∷◌, Common.◌≡◌, Common.◌≤◌, Math.Seq.take-suc, lemmas.List.drop-append-le, lemmas.List.map-append, lemmas.Option.slice_get_cases, lemmas.Str.IsUtf8-from_is_utf8, lemmas.Str.is_utf8-from_IsUtf8}
pub use Rattle.std.specs.{Prelude.string_bytes, Str.IsUtf8, Str.is_utf8}
