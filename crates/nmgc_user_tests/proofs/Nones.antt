-- Facts of an end that isn't there.
use Rattle.std.proofs.Common.{◌≡◌}
use Rattle.std.specs.Prelude.{Option, None, Some, IfNone}

pub of_none : {A : Type 0} (o : Option A) (P : Type 0) → o ≡ None → IfNone o P → P
of_none None P e h = h
of_none (Some x) P e h = absurd cc
