-- The names of std, of the crates below and of this crate's definitions that the proofs use.
pub use Rattle.std.proofs.{Common.List, Common.None, Common.Option, Common.Some, Common.[], Common.ap, Common.append_assoc, Common.arith, Common.decimal, Common.drop, Common.drop-cons, Common.eqb, Common.get_or, Common.inl, Common.inr, Common.length, Common.length-append, Common.length-drop, Common.length-take, Common.not, Common.refl, Common.rules, Common.slice_index, Common.subst, Common.suc, Common.sym, Common.take, Common.true, Common.vec_len, Common.w8, Common.zero, Common.ℕ, Common.◌*◌, Common.◌++◌, Common.◌+◌, Common.◌-◌, Common.◌<◌, Common.◌^◌, Common.◌∙◌, Common.◌∷◌, Common.◌≡◌, Common.◌≢◌, Common.◌≤◌, Math.Seq.take-add}
pub use Rattle.std.proofs.lemmas.{Bool.cases_lt, Bool.eqb-false, Bool.eqb-true, Fmt.decimal-digits_value, Fmt.decimal_digit, Fmt.decimal_nonempty, Fmt.digits_decimal, Fmt.digits_value-decimal, Fmt.first_decimal, List.drop-drop, List.drop_all, List.drop_more, List.get_or-drop, List.get_or-take, List.length-take-le, List.take-append-drop, List.take-append-le, List.take_all, List.take_rest, List.Elements.All-from_get_or, Simd.bitmask_splat, Simd.leading_from_mask_l, Simd.length-chunk, Simd.run_in_chunk_fails, Simd.run_in_chunk_le, Simd.run_in_chunk_stops, Simd.trailing_mask_l, Str.Parse.IsDigitsTest, Str.Parse.IsNumeralModel, Str.Parse.numerals_by_fold}
pub use Rattle.std.specs.{Int.IsInRange, Io.KnownBytes.Appends, Io.KnownBytes.Consumes, List.prefix_len, Prelude.All, Prelude.IfNone, Prelude.IfSome, Str.all_ascii_digits}
pub use lib.{Count.count_trailing_zeros, Lanes.chunk}
