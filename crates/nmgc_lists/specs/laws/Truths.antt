-- Tests: the conclusions from a test that passes, and from two tests together.
use Rattle.std.specs.Prelude.{◌≡◌, ◌⊎◌, ◌&&◌, ◌||◌, ◌==◌}
use Rattle.nmgc_lists.specs.laws.Vocabulary.{true, false, IsTrue, refl, Bool, sym, cond, inl, inr, ℕ, ◌∙◌, not, cases_eq, ne_eqb}

-- a failed test hasn't passed
pub never : {A : Type 0} → IsTrue false → A
never t = let e : false ≡ true = t in absurd cc

-- a test that doesn't pass fails
pub false_of : (b : Bool) → (b ≡ true → ⊥) → b ≡ false
false_of true none = absurd (none refl)
false_of false none = refl

-- two tests that pass together are the same
pub same_test : (a b : Bool) → (a ≡ true → b ≡ true) → (b ≡ true → a ≡ true) → a ≡ b
same_test true b f g = sym (f refl)
same_test false true f g = g refl
same_test false false f g = refl

pub cond_true : (a b : Bool) → cond a b false ≡ true → (a ≡ true) × (b ≡ true)
cond_true true b e = (refl, e)
cond_true false b e = absurd cc

-- a choice, with the test's answer
pub chosen : {A : Type 0} (b : Bool) (x y z : A) → cond b x y ≡ z → ((b ≡ true) × (x ≡ z)) ⊎ ((b ≡ false) × (y ≡ z))
chosen true x y z e = inl (refl, e)
chosen false x y z e = inr (refl, e)

pub and_both : (x y : Bool) → (x && y) ≡ true → (x ≡ true) × (y ≡ true)
and_both true true e = (refl, refl)
and_both true false e = absurd (cc)
and_both false y e = absurd (cc)

pub or_first : (x y : Bool) → x ≡ true → (x || y) ≡ true
or_first true y e = refl
or_first false y e = absurd (cc)

pub or_second : (x y : Bool) → y ≡ true → (x || y) ≡ true
or_second true y e = refl
or_second false true e = refl
or_second false false e = absurd (cc)

pub eq_true : (x y : ℕ) → (x == y) ≡ true → x ≡ y
eq_true x y e = elim (cases_eq x y) [
  | inl same ↦ same
  | inr other ↦ absurd (let f : (x == y) ≡ false = ne_eqb x y other in
      let g : true ≡ false = sym e ∙ f in cc)
]

pub unmarked : (b : Bool) → not b ≡ true → b ≡ false
unmarked true h = absurd cc
unmarked false h = refl
