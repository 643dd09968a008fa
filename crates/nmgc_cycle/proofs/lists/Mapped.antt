-- Lists made from other lists, item by item.
use Rattle.nmgc_cycle.proofs.Vocabulary.{ℕ, suc, ◌≡◌, List, [], ◌∷◌, length, map, refl, arith, Some, slice_get}

-- two lists with the same results, item by item
pub same_maps : {A B C : Type 0} (f : A → C) (g : B → C) (xs : List A) (ys : List B) → length xs ≡ length ys →
    ((k : ℕ) (x : A) (y : B) → slice_get xs k ≡ Some x → slice_get ys k ≡ Some y → f x ≡ g y) → map f xs ≡ map g ys
same_maps f g [] [] e h = refl
same_maps f g [] (y ∷ ys) e h = absurd (omega arith)
same_maps f g (x ∷ xs) [] e h = absurd (omega arith)
same_maps {A} {B} {C} f g (x ∷ xs) (y ∷ ys) e h = cc (h 0 x y refl refl, same_maps f g xs ys (omega arith) (λ k a b d i. h (suc k) a b d i))
