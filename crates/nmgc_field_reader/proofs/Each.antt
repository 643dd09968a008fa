-- Reading items one after the other, as a loop does.
use Rattle.std.proofs.Common.{◌≡◌, ℕ, ◌+◌, ◌<◌, ◌≤◌, List, [], ◌∷◌, ◌++◌, map, length, drop, get_or, Option, Some, None, refl, sym, ap, ◌∙◌, append_assoc, add-one, drop-cons}
use Rattle.std.proofs.lemmas.List.{append-nil, drop_all}
use Rattle.nmgc_field_reader.specs.FieldReading.{◌>>=◌, each_at}

-- the items read before, and the items still to be read
abbrev pub with_front : {B : Type 0} → List B → Option (List B) → Option (List B)
with_front front read = read >>= λ ys. Some (front ++ ys)

pub regroup : {B : Type 0} (front : List B) (y : B) (read : Option (List B)) →
    with_front front (read >>= λ ys. Some (y ∷ ys)) ≡ with_front (front ++ y ∷ []) read
regroup front y (Some ys) = ap Some (sym (append_assoc front (y ∷ []) ys))
regroup front y None = refl

module _ {V A B : Type 0} (view : V → A) (f : A → Option B) (xs : List V) (i : ℕ) (front : List B) (total : Option (List B)) where
  pub goes_on : (d : V) (y : B) → i < length xs → f (view (get_or xs i d)) ≡ Some y → with_front front (each_at f (map view (drop i xs))) ≡ total →
      with_front (front ++ y ∷ []) (each_at f (map view (drop (i + 1) xs))) ≡ total
  unfolding each_at
  goes_on d y lt h so_far =
      let split : drop i xs ≡ get_or xs i d ∷ drop (i + 1) xs = rw add-one (drop-cons xs i d lt) in
      sym (regroup front y (each_at f (map view (drop (i + 1) xs)))) ∙ (rw (split, h) at so_far)

  pub ends : (d : V) → i < length xs → f (view (get_or xs i d)) ≡ None → with_front front (each_at f (map view (drop i xs))) ≡ total → None ≡ total
  unfolding each_at
  ends d lt h so_far =
      let split : drop i xs ≡ get_or xs i d ∷ drop (i + 1) xs = rw add-one (drop-cons xs i d lt) in
      rw (split, h) at so_far

  pub is_done : length xs ≤ i → with_front front (each_at f (map view (drop i xs))) ≡ total → Some front ≡ total
  unfolding each_at
  is_done le so_far = rw (drop_all i xs le, append-nil) at so_far
