-- Reading items in order, as a loop does.
use Rattle.nmgc_script.proofs.Vocabulary.{◌≡◌, ℕ, ◌+◌, ◌<◌, ◌≤◌, List, [], ◌∷◌, ◌++◌, map, length, drop, get_or, Result, Ok, Err, refl, sym, ap, ◌∙◌, append_assoc, add-one, drop-cons, append-nil, drop_all, ◌>>=◌, each_at, Fails, Cause, LineFault}
use Rattle.nmgc_script.specs.declared.fault.LineFault.TheVariants as fault

-- the items read before, and the items still to read
abbrev pub with_front : {B E : Type 0} → List B → Result (List B) E → Result (List B) E
with_front front read = read >>= λ ys. Ok (front ++ ys)

pub regroup : {B E : Type 0} (front : List B) (y : B) (read : Result (List B) E) →
    with_front front (read >>= λ ys. Ok (y ∷ ys)) ≡ with_front (front ++ y ∷ []) read
regroup front y (Ok ys) = ap Ok (sym (append_assoc front (y ∷ []) ys))
regroup front y (Err e) = refl

module _ {V A B E : Type 0} (view : V → A) (f : A → Result B E) (xs : List V) (i : ℕ) (front : List B) (total : Result (List B) E) where
  pub goes_on : (d : V) (y : B) → i < length xs → f (view (get_or xs i d)) ≡ Ok y → with_front front (each_at f (map view (drop i xs))) ≡ total →
      with_front (front ++ y ∷ []) (each_at f (map view (drop (i + 1) xs))) ≡ total
  unfolding each_at
  goes_on d y lt h so_far =
      let split : drop i xs ≡ get_or xs i d ∷ drop (i + 1) xs = rw add-one (drop-cons xs i d lt) in
      sym (regroup front y (each_at f (map view (drop (i + 1) xs)))) ∙ (rw (split, h) at so_far)

  pub ends : (d : V) (e : E) → i < length xs → f (view (get_or xs i d)) ≡ Err e → with_front front (each_at f (map view (drop i xs))) ≡ total → total ≡ Err e
  unfolding each_at
  ends d e lt h so_far =
      let split : drop i xs ≡ get_or xs i d ∷ drop (i + 1) xs = rw add-one (drop-cons xs i d lt) in
      sym (rw (split, h) at so_far)

  pub is_done : length xs ≤ i → with_front front (each_at f (map view (drop i xs))) ≡ total → total ≡ Ok front
  unfolding each_at
  is_done le so_far = sym (rw (drop_all i xs le, append-nil) at so_far)

-- the same at a fault of a line, which may be that memory ran out
pub fails : {V A B : Type 0} (view : V → A) (f : A →
    Result B Cause) (xs : List V) (i : ℕ) (front : List B) (total : Result (List B) Cause) (d : V) (e : LineFault) → i < length xs →
    Fails e (f (view (get_or xs i d))) → with_front front (each_at f (map view (drop i xs))) ≡ total → Fails e total
fails view f xs i front total d fault.NoMemory lt h so_far = tt
fails view f xs i front total d (fault.Bad c) lt h so_far = ends view f xs i front total d c lt h so_far

-- a fault of the first step is a fault of both steps
pub fails_bind : {A B : Type 0} (r : Result A Cause) (f : A → Result B Cause) (e : LineFault) → Fails e r → Fails e (r >>= f)
fails_bind r f fault.NoMemory h = tt
fails_bind r f (fault.Bad c) h = rw h refl

-- two items are read in sequence
module _ {A B : Type 0} (f : A → Result B Cause) (x y : A) where
  pub both_read : (a b : B) → f x ≡ Ok a → f y ≡ Ok b → each_at f (x ∷ y ∷ []) ≡ Ok (a ∷ b ∷ [])
  unfolding each_at
  both_read a b p q = rw (p, q) refl

  pub first_fails : (e : LineFault) → Fails e (f x) → Fails e (each_at f (x ∷ y ∷ []))
  unfolding each_at
  first_fails fault.NoMemory h = tt
  first_fails (fault.Bad c) h = rw h refl

  pub second_fails : (a : B) (e : LineFault) → f x ≡ Ok a → Fails e (f y) → Fails e (each_at f (x ∷ y ∷ []))
  unfolding each_at
  second_fails a fault.NoMemory p h = tt
  second_fails a (fault.Bad c) p h = rw (p, h) refl
