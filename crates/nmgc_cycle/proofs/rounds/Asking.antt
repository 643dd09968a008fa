-- A cycle, or a full one, is asked for exactly if a slice did the command for it.
use Rattle.nmgc_cycle.proofs.Vocabulary.{ℕ, zero, suc, ◌≡◌, ◌<◌, List, [], ◌∷◌, length, map, take, refl, sym, ap, ◌∙◌, inl, inr, arith, Bool, true, false, Some, slice_get, ◌||◌, list_any, cases_lt, Command, Yield, Collect, Full, Mutator, SliceEnd, IsYield, GoesOn, IsLast, Ended, is_collect, is_full, or_true, is_asking, is_asking_full}
use Rattle.nmgc_mutator.specs.declared.mutator.SliceEnd.TheVariants as ending

-- a command that ends no slice makes no request

no_yield : (c : Command) → (IsYield c → ⊥) → is_collect c ≡ false
no_yield Collect h = absurd (h tt)
no_yield c h = refl

no_yield_full : (c : Command) → (IsYield c → ⊥) → is_full c ≡ false
no_yield_full Full h = absurd (h tt)
no_yield_full c h = refl

module _ (such : Command → Bool) (plain : (c : Command) → (IsYield c → ⊥) → such c ≡ false) where
  -- no earlier command asks
  none_asks : (program : List Command) (n : ℕ) → ((i : ℕ) (c : Command) → i < n → slice_get program i ≡ Some c → such c ≡ false) →
      list_any such (take n program) ≡ false
  none_asks program zero h = refl
  none_asks [] (suc n) h = refl
  none_asks (c ∷ program) (suc n) h = cc (h 0 c (omega arith) refl, none_asks program n (λ i d lt e. h (suc i) d (omega arith) e))

  none_goes : (program : List Command) (n : ℕ) → GoesOn program n → list_any such (take n program) ≡ false
  none_goes program n on = none_asks program n (λ i c lt e. plain c (on i c lt e))

  -- the last command asks
  one_asks : (program : List Command) (i : ℕ) (last : Command) → such last ≡ true → slice_get program i ≡ Some last →
      list_any such (take (suc i) program) ≡ true
  one_asks [] i last asks e = absurd cc
  one_asks (c ∷ program) zero last asks e = let same : c ≡ last = cc in ap (λ (b : Bool). b || false) (ap such same ∙ asks)
  one_asks (c ∷ program) (suc i) last asks e = or_true (such c) (list_any such (take (suc i) program)) (one_asks program i last asks e)

  last_asks : (program : List Command) (done : ℕ) (last : Command) → such last ≡ true → IsLast program done last → list_any such (take done program) ≡ true
  last_asks program done last asks h = let count : done ≡ suc h.0 = (let n = h.1 in omega (arith, n)) in
      ap (λ (m : ℕ). list_any such (take m program)) count ∙ one_asks program h.0 last asks h.3

  -- neither an earlier command nor the last asks
  last_asks_not : (program : List Command) (done : ℕ) (c : Command) → IsLast program done c → such c ≡ false → list_any such (take done program) ≡ false
  last_asks_not program done c last not =
      let count = last.1 in
      none_asks program done (λ j d lt e. elim (cases_lt j last.0) [
        | inl before ↦ plain d (last.2 j d before e)
        | inr past ↦
            let at : j ≡ last.0 = omega (arith, count, lt, past) in
            let here : slice_get program j ≡ Some c = ap (λ (n : ℕ). slice_get program n) at ∙ last.3 in
            let same : c ≡ d = cc (here, e) in
            ap such (sym same) ∙ not
      ])

-- the request of a slice, by its end

pub asks_by_end : (program : List Command) (most done : ℕ) (n : Mutator) (end : SliceEnd) → Ended program most done n end →
    is_asking end ≡ list_any is_collect (take done program)
asks_by_end program most done n ending.Slice h = sym (none_goes is_collect no_yield program done h.0)
asks_by_end program most done n ending.Program h = sym (none_goes is_collect no_yield program done h.0)
asks_by_end program most done n ending.Yield h = sym (last_asks_not is_collect no_yield program done Yield h refl)
asks_by_end program most done n ending.Collect h = sym (last_asks is_collect no_yield program done Collect refl h)
asks_by_end program most done n ending.Full h = sym (last_asks_not is_collect no_yield program done Full h refl)
asks_by_end program most done n (ending.Nursery need left) h = sym (none_goes is_collect no_yield program done h.0)

pub full_by_end : (program : List Command) (most done : ℕ) (n : Mutator) (end : SliceEnd) → Ended program most done n end →
    is_asking_full end ≡ list_any is_full (take done program)
full_by_end program most done n ending.Slice h = sym (none_goes is_full no_yield_full program done h.0)
full_by_end program most done n ending.Program h = sym (none_goes is_full no_yield_full program done h.0)
full_by_end program most done n ending.Yield h = sym (last_asks_not is_full no_yield_full program done Yield h refl)
full_by_end program most done n ending.Collect h = sym (last_asks_not is_full no_yield_full program done Collect h refl)
full_by_end program most done n ending.Full h = sym (last_asks is_full no_yield_full program done Full refl h)
full_by_end program most done n (ending.Nursery need left) h = sym (none_goes is_full no_yield_full program done h.0)

-- two lists with equal tests of their items
pub same_any : {A B : Type 0} (f : A → Bool) (g : B → Bool) (xs : List A) (ys : List B) → length xs ≡ length ys →
    ((k : ℕ) (x : A) (y : B) → slice_get xs k ≡ Some x → slice_get ys k ≡ Some y → f x ≡ g y) → list_any f xs ≡ list_any g ys
same_any f g [] [] e h = refl
same_any f g [] (y ∷ ys) e h = absurd (omega arith)
same_any f g (x ∷ xs) [] e h = absurd (omega arith)
same_any {A} {B} f g (x ∷ xs) (y ∷ ys) e h = cc (h 0 x y refl refl, same_any f g xs ys (omega arith) (λ k a b i j. h (suc k) a b i j))

-- and so for a mapped list
pub any_mapped : {A B : Type 0} (f : B → Bool) (g : A → B) (xs : List A) → list_any f (map g xs) ≡ list_any (λ (x : A). f (g x)) xs
any_mapped f g [] = refl
any_mapped f g (x ∷ xs) = ap (λ (b : Bool). f (g x) || b) (any_mapped f g xs)
