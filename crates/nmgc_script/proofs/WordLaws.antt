-- A token is read exactly from its spelling.
use Rattle.nmgc_script.proofs.Vocabulary.{◌≡◌, ◌≤◌, ◌<◌, ◌-◌, ◌^◌, ℕ, List, [], ◌∷◌, map, refl, subst, arith, inl, inr, Bool, true, false, cond, decimal, codes, Result, Ok, Err, ◌&&◌, leb, eqb, AllByRecursion, decimal_is_IsNumeral, bytes_eq-Decides, le-leb, leb-true, eqb-true, bytes_eq, digits_value, Operand, Register, Shared, Cause, Version, IsUsable, IsRegisterBelow, IsOperandBelow, register_word, operand_word, ◌>>=◌, number_at, register_at, operand_at, each_at, both_true, chosen}
use Rattle.nmgc_script.specs.declared.fault.Cause.TheVariants as cause

-- f reads exactly what g writes for the values with P
pub record Reads {A B E : Type 0} (f : A → Result B E) (g : B → A) (P : B → Type 0) : Type 0 where
  pub takes : (x : A) (y : B) → f x ≡ Ok y → (x ≡ g y) × P y
  pub again : (y : B) → P y → f (g y) ≡ Ok y

-- the value of a step that didn't fail
pub bind_ok : {A B E : Type 0} (r : Result A E) (f : A → Result B E) (y : B) → (r >>= f) ≡ Ok y → (x : A) × (r ≡ Ok x) × (f x ≡ Ok y)
bind_ok (Ok x) f y e = (x, refl, e)
bind_ok (Err d) f y e = absurd cc

-- a test that didn't fail
pub guard_ok : {A E : Type 0} (b : Bool) (d : E) (x y : A) → cond b (Ok x) (Err d) ≡ Ok y → (b ≡ true) × (x ≡ y)
guard_ok true d x y e = (refl, cc)
guard_ok false d x y e = absurd cc

-- reading fails only with this cause
abbrev pub FailsBy : {A : Type 0} → Cause → Result A Cause → Type 0
FailsBy c (Ok x) = Unit {0}
FailsBy c (Err e) = e ≡ c

pub fails_choose : {A : Type 0} (c : Cause) (b : Bool) (r s : Result A Cause) → FailsBy c r → FailsBy c s → FailsBy c (cond b r s)
fails_choose c true r s h k = h
fails_choose c false r s h k = k

abbrev done : {A E : Type 0} → A → Result A E
done x = Ok x

pub ok_is : {A E : Type 0} (x y : A) → ◌≡◌ {A = Result A E} (Ok x) (Ok y) → x ≡ y
ok_is x y e = cc

pub number_again : (limit n : ℕ) → n ≤ limit → n < 2 ^ 64 → number_at limit (decimal n) ≡ Ok n
unfolding number_at
number_again limit n le fits = rw ((decimal_is_IsNumeral n fits).1, (bytes_eq-Decides (decimal n) (decimal n)).1 refl, le-leb n limit le) refl

pub number_takes : (limit : ℕ) (word : List ℕ) (n : ℕ) → number_at limit word ≡ Ok n → (word ≡ decimal n) × (n ≤ limit)
unfolding number_at
number_takes limit word n e =
    let v = digits_value 10 word in
    let g = guard_ok (bytes_eq word (decimal v) && leb v limit) cause.Operand v n e in
    let b = both_true (bytes_eq word (decimal v)) (leb v limit) g.0 in
    let same : word ≡ decimal v = (bytes_eq-Decides word (decimal v)).0 b.0 in
    let le : v ≤ limit = leb-true v limit b.1 in
    subst (λ (k : ℕ). (word ≡ decimal k) × (k ≤ limit)) g.1 (same, le)

pub number_reads : (limit : ℕ) → limit < 2 ^ 64 → Reads (number_at limit) decimal (λ n. n ≤ limit)
number_reads limit small = record { takes = number_takes limit; again = λ n le. number_again limit n le (omega arith) }

pub register_reads : (ver : Version) (usable : IsUsable ver) → Reads (register_at ver) register_word (IsRegisterBelow ver.registers)
unfolding register_at
register_reads ver usable = record { takes = takes; again = again }
  where
    takes : (x : List ℕ) (r : ℕ) → register_at ver x ≡ Ok r → (x ≡ register_word r) × IsRegisterBelow ver.registers r
    takes [] r e = absurd cc
    takes (b ∷ digits) r e =
        elim (chosen (eqb b 114) (number_at (ver.registers - 1) digits) (Err cause.Operand) (Ok r) e) [
          | inl p ↦ let t = number_takes (ver.registers - 1) digits r p.1 in let first : b ≡ 114 = eqb-true b 114 p.0 in
              (cc (first, t.0), omega (arith, t.1, usable.some_register))
          | inr p ↦ absurd (let never : Err cause.Operand ≡ Ok r = p.1 in cc)
        ]

    again : (r : ℕ) → IsRegisterBelow ver.registers r → register_at ver (register_word r) ≡ Ok r
    again r le = number_again (ver.registers - 1) r (omega arith) (omega (arith, usable.registers))

pub operand_reads : (ver : Version) (usable : IsUsable ver) → Reads (operand_at ver) operand_word (IsOperandBelow ver.registers)
unfolding operand_at
operand_reads ver usable = record { takes = takes; again = again }
  where
    takes : (x : List ℕ) (o : Operand) → operand_at ver x ≡ Ok o → (x ≡ operand_word o) × IsOperandBelow ver.registers o
    takes x o e =
        elim (chosen (bytes_eq x (codes "g")) (Ok Shared) (register_at ver x >>= λ r. Ok (Register r)) (Ok o) e) [
          | inl p ↦ subst (λ (k : Operand). (x ≡ operand_word k) ×
              IsOperandBelow ver.registers k) (ok_is {E = Cause} Shared o p.1) ((bytes_eq-Decides x (codes "g")).0 p.0, tt)
          | inr p ↦
              let b = bind_ok (register_at ver x) (λ r. Ok (Register r)) o p.1 in
              let t = (register_reads ver usable).takes x b.0 b.1 in
              subst (λ (k : Operand). (x ≡ operand_word k) × IsOperandBelow ver.registers k) (ok_is {E = Cause} (Register b.0) o b.2) t
        ]

    again : (o : Operand) → IsOperandBelow ver.registers o → operand_at ver (operand_word o) ≡ Ok o
    again Shared h = refl
    again (Register r) h = rw ((register_reads ver usable).again r h) refl

pub each_reads : {A B E : Type 0} (f : A → Result B E) (g : B → A) (P : B → Type 0) → Reads f g P → Reads (each_at f) (map g) (AllByRecursion P)
unfolding each_at
each_reads {A} {B} {E} f g P reads = record { takes = takes; again = again }
  where
    takes : (xs : List A) (ys : List B) → each_at f xs ≡ Ok ys → (xs ≡ map g ys) × AllByRecursion P ys
    takes [] ys e = subst (λ (l : List B). ([] ≡ map g l) × AllByRecursion P l) (ok_is {E = E} [] ys e) (refl, tt)
    takes (x ∷ xs) ys e =
        let b = bind_ok (f x) (λ first. each_at f xs >>= λ others. Ok (first ∷ others)) ys e in
        let c = bind_ok (each_at f xs) (λ others. Ok (b.0 ∷ others)) ys b.2 in
        let t = reads.takes x b.0 b.1 in
        let ts = takes xs c.0 c.1 in
        subst (λ (l : List B). (x ∷ xs ≡ map g l) × AllByRecursion P l) (ok_is {E = E} (b.0 ∷ c.0) ys c.2) (cc (t.0, ts.0), (t.1, ts.1))

    again : (ys : List B) → AllByRecursion P ys → each_at f (map g ys) ≡ Ok ys
    again [] h = refl
    again (y ∷ ys) h = rw (reads.again y h.0, again ys h.1) refl
