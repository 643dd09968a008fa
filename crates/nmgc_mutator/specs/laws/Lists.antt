-- A list of commands as a program: it gave the first commands of the list, and the rest may follow.
use Rattle.std.specs.Prelude.{◌≡◌, ◌+◌, ◌∷◌, ◌-◌, ◌<◌}
use Rattle.nmgc_mutator.specs.laws.Vocabulary.{ℕ, zero, suc, ◌∙◌, List, [], map, take, drop, length, slice_get, Option, None, Some, refl, sym, subst, ap, arith, Command, Reply, Gives, Follows, All, Fits, slice_get_within, of_item}

is_there : {A : Type 0} → Option A → Type 0
is_there None = ⊥
is_there (Some x) = Unit {0}

first_or : {A : Type 0} → A → Option A → A
first_or d None = d
first_or d (Some x) = x

drop_at : {A : Type 0} (l : List A) (i : ℕ) (x : A) → slice_get l i ≡ Some x → drop i l ≡ x ∷ drop (suc i) l
unfolding is_there first_or
drop_at [] i x e = absurd (subst (λ o. is_there o) (sym e) tt)
drop_at (y ∷ l) zero x e = ap (λ z. z ∷ l) (ap (λ o. first_or x o) e)
drop_at (y ∷ l) (suc i) x e = drop_at l i x e

pub follows_at : (l : List Command) (i : ℕ) → Follows (slice_get l i) (drop i l)
follows_at [] zero = refl
follows_at [] (suc i) = refl
follows_at (y ∷ l) zero = (l, refl)
follows_at (y ∷ l) (suc i) = follows_at l i

-- the command at a position fits if all commands fit, and it is one of the commands left
pub listed_waits : (commands : List Command) (position words : ℕ) (c : Command) → All (Fits words) commands → slice_get commands position ≡ Some c →
    Fits words c × (0 < length commands - position)
listed_waits commands position words c all e =
    let within = slice_get_within commands position c e in
    (of_item (Fits words) commands position c all e, omega (arith, within))

-- a program that reads a list at a position. Each reply moves the position by one
module _ {P : Type 0} (next : P → Option Command) (steps : P → Reply → P → Type 0) (commands : P → List Command) (position : P → ℕ) (reads : (p : P) →
    next p ≡ slice_get (commands p) (position p)) (moves : (p q : P) (r : Reply) → steps p r q → (commands q ≡ commands p) × (position q ≡ position p + 1)) where
  pub listed : (p q : P) (done : List (Command × Reply)) → Gives next steps p done q →
      (map (λ d. d.0) done ≡ take (length done) (drop (position p) (commands p))) × (commands q ≡ commands p) × (position q ≡ position p + length done)
  listed p q [] h = (refl, ap commands (sym h), (let e = ap position h in omega (arith, e)))
  listed p q ((c, r) ∷ done) h =
      let m : P = h.0 in
      let went = moves p m r h.2 in
      let rest = listed m q done h.3 in
      let at : slice_get (commands p) (position p) ≡ Some c = sym (reads p) ∙ h.1 in
      let on : position m ≡ suc (position p) = (let e = went.1 in omega (arith, e)) in
      let here : drop (position p) (commands p) ≡ c ∷ drop (suc (position p)) (commands p) = drop_at (commands p) (position p) c at in
      let there : drop (position m) (commands m) ≡ drop (suc (position p)) (commands p) =
      ap (λ (l : List Command). drop (position m) l) went.0 ∙ ap (λ k. drop k (commands p)) on in (
        ap (λ (l : List Command). c ∷ l) (rest.0 ∙ ap (λ (l : List Command). take (length done) l) there)
            ∙ sym (ap (λ (l : List Command). take (suc (length done)) l) here),
        rest.1 ∙ went.0,
        (let e = rest.2 in let f = went.1 in omega (arith, e, f)),
      )

  -- the commands that it gave from the first one on
  pub listed_first : (p q : P) (done : List (Command × Reply)) (count : ℕ) → position p ≡ 0 → length done ≡ count → Gives next steps p done q →
      (map (λ d. d.0) done ≡ take count (commands p)) × Follows (next q) (drop count (commands p))
  listed_first p q done count first many h =
      let l = listed p q done h in
      let at : position q ≡ count = (let e = l.2 in omega (arith, first, many, e)) in
      let from : drop (position p) (commands p) ≡ commands p = ap (λ k. drop k (commands p)) first in (
        l.0 ∙ ap (λ (c : List Command). take (length done) c) from ∙ ap (λ k. take k (commands p)) many,
        subst (λ (o : Option Command). Follows o (drop count (commands p))) (sym (reads q ∙ ap (λ (c : List Command). slice_get c (position q)) l.1 ∙
            ap (λ k. slice_get (commands p) k) at)) (follows_at (commands p) count),
      )
