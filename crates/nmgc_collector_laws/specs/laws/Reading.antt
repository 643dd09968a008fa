-- Items of lists: the two ways to read an item agree.
use Rattle.std.specs.Prelude.{◌≡◌, ◌∷◌}
use Rattle.nmgc_collector_laws.specs.laws.Vocabulary.{ℕ, zero, suc, List, [], ap, Some, slice_get, some, get_elem?}

-- an item found in one way is found in the other
pub item_found : {A : Type 0} (xs : List A) (k : ℕ) (x : A) → slice_get xs k ≡ Some x → get_elem? xs k ≡ some x
item_found [] k x e = absurd cc
item_found (y ∷ xs) zero x e = let same : y ≡ x = cc in ap (λ z. some z) same
item_found (y ∷ xs) (suc k) x e = item_found xs k x e
