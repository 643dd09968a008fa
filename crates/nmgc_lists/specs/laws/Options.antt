-- Options: their value, and that `None` is no `Some`.
use Rattle.std.specs.Prelude.{◌≡◌}
use Rattle.nmgc_lists.specs.laws.Vocabulary.{ap, Option, Some, None, Bor, option_copied, is_some, IsSome}

-- an option of references has a value exactly if the option of the values has one
pub copied_is_some : {A : Type 0} (r : Option (Bor A)) (o : Option A) → option_copied r ≡ o → is_some r ≡ is_some o
copied_is_some None o e = ap is_some e
copied_is_some (Some x) o e = ap is_some e

-- an option has one value
pub some_is : {A : Type 0} (a b : A) → Some a ≡ Some b → a ≡ b
some_is {A} a b e = ap (λ (o : Option A). or_first o) e
  where
    or_first : Option A → A
    or_first (Some x) = x
    or_first None = a

pub not_none : {A : Type 0} (o : Option A) → o ≡ None → IsSome o → ⊥
not_none None e some = cc
not_none (Some x) e some = cc
