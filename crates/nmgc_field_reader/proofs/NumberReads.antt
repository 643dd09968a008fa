-- Numbers are read as they are spelled, and in no other way.
use Rattle.std.proofs.Common.{◌≡◌, ◌≢◌, ◌≤◌, ◌<◌, ◌^◌, ℕ, List, refl, sym, ap, subst, ◌∙◌, arith, Bool, true, false, cond, leb, decimal, Option, Some, None, ◌&&◌}
use Rattle.std.proofs.lemmas.{Bool.and_parts, Bool.le-leb, Bool.leb-true, Fmt.decimal_is_IsNumeral, Option.same_Some, Slice.Eq.bytes_eq-Decides}
use Rattle.std.specs.{Prelude.IfNone, Prelude.IfSome, Str.bytes_eq, Str.Parse.digits_value}
use Rattle.nmgc_field_reader.specs.FieldReading.{◌>>=◌, number_at}

-- if two readings in a row give a value, the first gives a value from which the second gives it
pub bind_some : {A B : Type 0} (r : Option A) (f : A → Option B) (y : B) → (r >>= f) ≡ Some y → (x : A) × (r ≡ Some x) × (f x ≡ Some y)
bind_some (Some x) f y e = (x, refl, e)
bind_some None f y e = absurd cc

-- if a tested option gives a value, the test is true and the option gives it
pub guard_some : {A : Type 0} (b : Bool) (o : Option A) (y : A) → cond b o None ≡ Some y → (b ≡ true) × (o ≡ Some y)
guard_some true o y e = (refl, e)
guard_some false o y e = absurd cc

pub number_again : (limit n : ℕ) → n ≤ limit → n < 2 ^ 64 → number_at limit (decimal n) ≡ Some n
unfolding number_at
number_again limit n le fits = rw ((decimal_is_IsNumeral n fits).1, (bytes_eq-Decides (decimal n) (decimal n)).1 refl, le-leb n limit le) refl

pub number_takes : (limit : ℕ) (word : List ℕ) (n : ℕ) → number_at limit word ≡ Some n → (word ≡ decimal n) × (n ≤ limit)
unfolding number_at
number_takes limit word n e =
    let v = digits_value 10 word in
    let g = guard_some (bytes_eq word (decimal v) && leb v limit) (Some v) n e in
    let b = and_parts (bytes_eq word (decimal v)) (leb v limit) g.0 in
    let same : word ≡ decimal v = (bytes_eq-Decides word (decimal v)).0 b.0 in
    let le : v ≤ limit = leb-true v limit b.1 in
    subst (λ (k : ℕ). (word ≡ decimal k) × (k ≤ limit)) (same_Some v n g.1) (same, le)

no_number_at : (limit : ℕ) (word : List ℕ) (o : Option ℕ) → number_at limit word ≡ o → ((n : ℕ) → n ≤ limit → word ≢ decimal n) → o ≡ None
no_number_at limit word None e none = refl
no_number_at limit word (Some n) e none = absurd (let t = number_takes limit word n e in none n t.1 t.0)

-- a reader that finds exactly the numbers up to a limit gives the result of `number_at`
pub number_given : (limit : ℕ) (word : List ℕ) (o : Option ℕ) → limit < 2 ^ 64 → IfSome o (λ n. (word ≡ decimal n) × (n ≤ limit)) →
    IfNone o ((n : ℕ) → n ≤ limit → word ≢ decimal n) → o ≡ number_at limit word
number_given limit word None small found none = sym (no_number_at limit word (number_at limit word) refl none)
number_given limit word (Some n) small found none = sym (ap (number_at limit) found.0 ∙ number_again limit n found.1 (let le = found.1 in omega arith))
