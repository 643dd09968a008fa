-- A list without a front, and then without its first items.
use Rattle.std.proofs.Common.{◌≡◌, ◌+◌, ℕ, zero, suc, List, [], ◌∷◌, drop, take, refl, arith}

take_nothing : {A : Type 0} (k : ℕ) → ◌≡◌ {A = List A} [] (take k [])
take_nothing zero = refl
take_nothing (suc k) = refl

pub drop-take : {A : Type 0} (n k : ℕ) (xs : List A) → drop n (take (n + k) xs) ≡ take k (drop n xs)
drop-take zero k xs = let e : 0 + k ≡ k = omega arith in rw e refl
drop-take (suc n) k [] = let e : suc n + k ≡ suc (n + k) = omega arith in rw e (take_nothing k)
drop-take (suc n) k (x ∷ xs) = let e : suc n + k ≡ suc (n + k) = omega arith in rw e (drop-take n k xs)
