-- Items of lists.
use Rattle.nmgc_cycle.proofs.Vocabulary.{ℕ, zero, suc, ◌≡◌, List, [], ◌∷◌, length, refl, ap, subst, Some, slice_get}

-- if each item has a fitting partner, there is a list of partners
pub chosen : {A B : Type 0} (P : ℕ → A → B → Type 0) (xs : List A) → ((k : ℕ) (x : A) → slice_get xs k ≡ Some x → (y : B) × P k x y) →
    (ys : List B) × (length ys ≡ length xs) × ((k : ℕ) (x : A) (y : B) → slice_get xs k ≡ Some x → slice_get ys k ≡ Some y → P k x y)
chosen {A} {B} P [] h = ([], refl, λ k x y e f. absurd (none_here k x e))
  where
    none_here : (k : ℕ) (x : A) → slice_get {X = A} [] k ≡ Some x → ⊥
    none_here k x e = cc
chosen {A} {B} P (x ∷ xs) h =
    let first = h 0 x refl in
    let rest = chosen (λ k. P (suc k)) xs (λ k y e. h (suc k) y e) in
    (first.0 ∷ rest.0, ap suc rest.1, each first.0 first.1 rest.0 rest.2)
  where
    each : (b : B) → P 0 x b → (ys : List B) → ((k : ℕ) (z : A) (y : B) → slice_get xs k ≡ Some z → slice_get ys k ≡ Some y → P (suc k) z y) →
        (k : ℕ) (z : A) (y : B) → slice_get (x ∷ xs) k ≡ Some z → slice_get (b ∷ ys) k ≡ Some y → P k z y
    each b p ys rest zero z y e f = let same : x ≡ z = cc in let also : b ≡ y = cc in subst (λ v. P 0 v y) same (subst (λ v. P 0 x v) also p)
    each b p ys rest (suc k) z y e f = rest k z y e f
