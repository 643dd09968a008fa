-- Which cause reading gives if it fails.
use Rattle.nmgc_script.proofs.Vocabulary.{◌≡◌, ◌≤◌, ◌+◌, ◌-◌, ◌^◌, ◌⊎◌, ℕ, suc, List, [], ◌∷◌, length, refl, sym, ◌∙◌, arith, inl, inr, Bool, true, false, cond, codes, leb, eqb, Result, Ok, Err, bytes_eq, digits_value, le-leb, leb-true, Command, Num, Nil, Mov, Con, Var, Arr, Rec, Thunk, Weak, Stack, Get, Tag, Set, Cas, Update, Force, Push, Pop, Deref, Finalise, NextFin, Show, Same, Yield, Collect, Full, Cause, Verb, Version, IsUsable, ◌>>=◌, number_at, register_at, operand_at, long_at, short_at, each_at, none_at, one_at, two_at, three_at, four_at, con_at, values_at, operands_at}
use Rattle.nmgc_script.specs.declared.fault.Cause.TheVariants as cause
use Rattle.nmgc_script.specs.declared.verbs.Verb.TheVariants as verb
use Rattle.nmgc_script.proofs.WordLaws.{FailsBy, fails_choose}

pub result_cases : {A E : Type 0} (r : Result A E) → ((a : A) × (r ≡ Ok a)) ⊎ ((e : E) × (r ≡ Err e))
result_cases (Ok a) = inl (a, refl)
result_cases (Err e) = inr (e, refl)

pub fails_then : {A B : Type 0} (c : Cause) (r : Result A Cause) (f : A → Result B Cause) → FailsBy c r → ((a : A) → FailsBy c (f a)) → FailsBy c (r >>= f)
fails_then c (Ok a) f h k = k a
fails_then c (Err e) f h k = h

pub fails_is : {A : Type 0} (c e : Cause) (r : Result A Cause) → FailsBy c r → r ≡ Err e → e ≡ c
fails_is c e (Ok a) h is = absurd cc
fails_is c e (Err d) h is = let same : d ≡ e = cc in sym same ∙ h

number_fails : (limit : ℕ) (word : List ℕ) → FailsBy cause.Operand (number_at limit word)
unfolding number_at
number_fails limit word = fails_choose cause.Operand _ (Ok (digits_value 10 word)) (Err cause.Operand) tt refl

register_fails : (ver : Version) (usable : IsUsable ver) (word : List ℕ) → FailsBy cause.Operand (register_at ver word)
unfolding register_at
register_fails ver usable [] = refl
register_fails ver usable (b ∷ digits) = fails_choose cause.Operand (eqb b 114) (number_at _ digits) (Err cause.Operand) (number_fails _ digits) refl

operand_fails : (ver : Version) (usable : IsUsable ver) (word : List ℕ) → FailsBy cause.Operand (operand_at ver word)
unfolding operand_at
operand_fails ver usable word = fails_choose cause.Operand (bytes_eq word (codes "g")) _ (register_at ver word >>= λ r.
    _) tt (fails_then cause.Operand (register_at ver word) _ (register_fails ver usable word) (λ a. tt))

each_fails : (ver : Version) (usable : IsUsable ver) (words : List (List ℕ)) → FailsBy cause.Operand (each_at (operand_at ver) words)
unfolding each_at
each_fails ver usable [] = tt
each_fails ver usable (w ∷ ws) = fails_then cause.Operand (operand_at ver w) _ (operand_fails ver usable w) (λ a.
    fails_then cause.Operand (each_at (operand_at ver) ws) _ (each_fails ver usable ws) (λ b. tt))

-- the cause is the number of tokens if that is wrong, and a token otherwise
abbrev pub CausesArity : {A : Type 0} → Result A Cause → Type 0 → Type 0
CausesArity (Ok a) P = P
CausesArity (Err e) P = ((e ≡ cause.Arity) × (P → ⊥)) ⊎ ((e ≡ cause.Operand) × P)

token_cause : {A : Type 0} (r : Result A Cause) (P : Type 0) → P → FailsBy cause.Operand r → CausesArity r P
token_cause (Ok a) P p h = p
token_cause (Err e) P p h = inr (h, p)

word_then : {A B : Type 0} (r : Result A Cause) (k : A → Result B Cause) (P : Type 0) → P → FailsBy cause.Operand r →
    ((a : A) → CausesArity (k a) P) → CausesArity (r >>= k) P
word_then (Ok a) k P p h t = t a
word_then (Err e) k P p h t = inr (h, p)

-- making a command from the fields that were read never fails
made_cause : {A : Type 0} (r : Result A Cause) (make : A → Command) (P : Type 0) → CausesArity r P → CausesArity (r >>= λ p. Ok (make p)) P
made_cause (Ok a) make P h = h
made_cause (Err e) make P h = h

none_cause : (c : Command) (words : List (List ℕ)) → CausesArity (none_at c words) (suc (length words) ≡ 1)
unfolding none_at
none_cause c [] = refl
none_cause c (x ∷ xs) = inl (refl, λ e. absurd (omega arith))

one_cause : {A : Type 0} (f : List ℕ → Result A Cause) (rf : (word : List ℕ) → FailsBy cause.Operand (f word)) (words : List (List ℕ)) →
    CausesArity (one_at f words) (suc (length words) ≡ 2)
unfolding one_at
one_cause f rf [] = inl (refl, λ e. absurd (omega arith))
one_cause f rf (x ∷ other ∷ others) = inl (refl, λ e. absurd (omega arith))
one_cause f rf (x ∷ []) = token_cause (f x) _ refl (rf x)

two_cause : {A B : Type 0} (f : List ℕ → Result A Cause) (rf : (word : List ℕ) → FailsBy cause.Operand (f word)) (g : List ℕ →
    Result B Cause) (rg : (word : List ℕ) → FailsBy cause.Operand (g word)) (words : List (List ℕ)) → CausesArity (two_at f g words) (suc (length words) ≡ 3)
unfolding two_at
two_cause f rf g rg [] = inl (refl, λ e. absurd (omega arith))
two_cause f rf g rg (x ∷ []) = inl (refl, λ e. absurd (omega arith))
two_cause f rf g rg (x ∷ y ∷ other ∷ others) = inl (refl, λ e. absurd (omega arith))
two_cause f rf g rg (x ∷ y ∷ []) = word_then (f x) _ _ refl (rf x) (λ a. word_then (g y) _ _ refl (rg y) (λ b. refl))

three_cause : {A B C : Type 0} (f : List ℕ → Result A Cause) (rf : (word : List ℕ) → FailsBy cause.Operand (f word)) (g : List ℕ →
    Result B Cause) (rg : (word : List ℕ) → FailsBy cause.Operand (g word)) (h : List ℕ → Result C Cause) (rh : (word : List ℕ) →
    FailsBy cause.Operand (h word)) (words : List (List ℕ)) → CausesArity (three_at f g h words) (suc (length words) ≡ 4)
unfolding three_at
three_cause f rf g rg h rh [] = inl (refl, λ e. absurd (omega arith))
three_cause f rf g rg h rh (x ∷ []) = inl (refl, λ e. absurd (omega arith))
three_cause f rf g rg h rh (x ∷ y ∷ []) = inl (refl, λ e. absurd (omega arith))
three_cause f rf g rg h rh (x ∷ y ∷ z ∷ other ∷ others) = inl (refl, λ e. absurd (omega arith))
three_cause f rf g rg h rh (x ∷ y ∷ z ∷ []) = word_then (f x) _ _ refl (rf x) (λ a.
    word_then (g y) _ _ refl (rg y) (λ b. word_then (h z) _ _ refl (rh z) (λ c. refl)))

two_fail : {A B : Type 0} (f : List ℕ → Result A Cause) (rf : (word : List ℕ) → FailsBy cause.Operand (f word)) (g : List ℕ →
    Result B Cause) (rg : (word : List ℕ) → FailsBy cause.Operand (g word)) (x y : List ℕ) → FailsBy cause.Operand (two_at f g (x ∷ y ∷ []))
unfolding two_at
two_fail f rf g rg x y = fails_then cause.Operand (f x) _ (rf x) (λ a. fails_then cause.Operand (g y) _ (rg y) (λ b. tt))

four_cause : {A B C D : Type 0} (f : List ℕ → Result A Cause) (rf : (word : List ℕ) → FailsBy cause.Operand (f word)) (g : List ℕ →
    Result B Cause) (rg : (word : List ℕ) → FailsBy cause.Operand (g word)) (h : List ℕ → Result C Cause) (rh : (word : List ℕ) →
    FailsBy cause.Operand (h word)) (i : List ℕ → Result D Cause) (ri : (word : List ℕ) → FailsBy cause.Operand (i word)) (words : List (List ℕ)) →
    CausesArity (four_at f g h i words) (suc (length words) ≡ 5)
unfolding four_at
four_cause f rf g rg h rh i ri [] = inl (refl, λ e. absurd (omega arith))
four_cause f rf g rg h rh i ri (x ∷ []) = inl (refl, λ e. absurd (omega arith))
four_cause f rf g rg h rh i ri (x ∷ y ∷ []) = inl (refl, λ e. absurd (omega arith))
four_cause f rf g rg h rh i ri (x ∷ y ∷ z ∷ []) = inl (refl, λ e. absurd (omega arith))
four_cause f rf g rg h rh i ri (x ∷ y ∷ z ∷ t ∷ other ∷ others) = inl (refl, λ e. absurd (omega arith))
four_cause f rf g rg h rh i ri (x ∷ y ∷ z ∷ t ∷ []) = word_then (two_at f g (x ∷ y ∷ [])) _ _ refl (two_fail f rf g rg x y) (λ a.
    word_then (two_at h i (z ∷ t ∷ [])) _ _ refl (two_fail h rh i ri z t) (λ b. refl))

con_cause : (ver : Version) (usable : IsUsable ver) (words : List (List ℕ)) → CausesArity (con_at ver words) (3 ≤ suc (length words))
unfolding con_at
con_cause ver usable [] = inl (refl, λ e. absurd (omega arith))
con_cause ver usable (dest ∷ []) = inl (refl, λ e. absurd (omega arith))
con_cause ver usable (dest ∷ tag ∷ fields) =
    let right : 3 ≤ suc (suc (suc (length fields))) = omega arith in
    word_then (register_at ver dest) _ _ right (register_fails ver usable dest) (λ d.
    word_then (number_at 255 tag) _ _ right (number_fails 255 tag) (λ t.
    word_then (each_at (operand_at ver) fields) _ _ right (each_fails ver usable fields) (λ fs. right)))

arity_choose : {A : Type 0} (b : Bool) (r : Result A Cause) (P : Type 0) → (b ≡ true → CausesArity r P) → (b ≡ false → P → ⊥) →
    CausesArity (cond b r (Err cause.Arity)) P
arity_choose true r P h k = h refl
arity_choose false r P h k = inl (refl, k refl)

values_cause : (ver : Version) (usable : IsUsable ver) (most : ℕ) (words : List (List ℕ)) →
    CausesArity (values_at ver most words) ((2 ≤ suc (length words)) × (suc (length words) ≤ most + 2))
unfolding values_at
values_cause ver usable most [] = inl (refl, λ e. absurd (omega (arith, e.0)))
values_cause ver usable most (dest ∷ values) =
    arity_choose (leb (length values) most) _ _
    (λ e. let right : (2 ≤ suc (suc (length values))) × (suc (suc (length values)) ≤ most + 2) = (omega arith, omega (arith, leb-true (length values) most e)) in
    word_then (register_at ver dest) _ _ right (register_fails ver usable dest) (λ d.
    word_then (each_at (operand_at ver) values) _ _ right (each_fails ver usable values) (λ vs. right)))
    (λ e p. let le : length values ≤ most = omega (arith, p.1) in absurd (let never : false ≡ true = sym e ∙ le-leb (length values) most le in cc))

-- the verb is read with this number of tokens, its name included
abbrev pub HasCount : Verb → ℕ → Type 0
HasCount verb.Num n = n ≡ 3
HasCount verb.Nil n = n ≡ 2
HasCount verb.Mov n = n ≡ 3
HasCount verb.Con n = 3 ≤ n
HasCount verb.Var n = n ≡ 3
HasCount verb.Arr n = n ≡ 4
HasCount verb.Rec n = (2 ≤ n) × (n ≤ 65537)
HasCount verb.Thunk n = (2 ≤ n) × (n ≤ 10)
HasCount verb.Weak n = n ≡ 5
HasCount verb.Stack n = n ≡ 3
HasCount verb.Get n = n ≡ 4
HasCount verb.Tag n = n ≡ 3
HasCount verb.Set n = n ≡ 4
HasCount verb.Cas n = n ≡ 5
HasCount verb.Update n = n ≡ 3
HasCount verb.Force n = n ≡ 3
HasCount verb.Push n = n ≡ 3
HasCount verb.Pop n = n ≡ 3
HasCount verb.Deref n = n ≡ 3
HasCount verb.Finalise n = n ≡ 3
HasCount verb.NextFin n = n ≡ 2
HasCount verb.Show n = n ≡ 2
HasCount verb.Same n = n ≡ 3
HasCount verb.Yield n = n ≡ 1
HasCount verb.Collect n = n ≡ 1
HasCount verb.Full n = n ≡ 1

pub operands_cause : (ver : Version) (usable : IsUsable ver) (v : Verb) (name : List ℕ) (words : List (List ℕ)) →
    CausesArity (operands_at ver v words) (HasCount v (length (name ∷ words)))
operands_cause ver usable verb.Num name words = made_cause (two_at (register_at ver) long_at words) (λ p.
    Num p.0 p.1) _ (two_cause (register_at ver) (register_fails ver usable) long_at (number_fails (2 ^ 62 - 1)) words)
operands_cause ver usable verb.Nil name words = made_cause (one_at (register_at ver) words) (λ p.
    Nil p) _ (one_cause (register_at ver) (register_fails ver usable) words)
operands_cause ver usable verb.Mov name words = made_cause (two_at (register_at ver) (operand_at ver) words) (λ p.
    Mov p.0 p.1) _ (two_cause (register_at ver) (register_fails ver usable) (operand_at ver) (operand_fails ver usable) words)
operands_cause ver usable verb.Con name words = made_cause (con_at ver words) (λ p. Con p.0 p.1 p.2) _ (con_cause ver usable words)
operands_cause ver usable verb.Var name words = made_cause (two_at (register_at ver) (operand_at ver) words) (λ p.
    Var p.0 p.1) _ (two_cause (register_at ver) (register_fails ver usable) (operand_at ver) (operand_fails ver usable) words)
operands_cause ver usable verb.Arr name words = made_cause (three_at (register_at ver) short_at (operand_at ver) words) (λ p.
    Arr p.0 p.1 p.2) _ (three_cause (register_at ver) (register_fails ver usable) short_at (number_fails 65535) (operand_at ver)
    (operand_fails ver usable) words)
operands_cause ver usable verb.Rec name words = made_cause (values_at ver 65535 words) (λ p. Rec p.0 p.1) _ (values_cause ver usable 65535 words)
operands_cause ver usable verb.Thunk name words = made_cause (values_at ver 8 words) (λ p. Thunk p.0 p.1) _ (values_cause ver usable 8 words)
operands_cause ver usable verb.Weak name words =
    made_cause (four_at (register_at ver) (operand_at ver) (operand_at ver) (operand_at ver) words) (λ p.
    Weak p.0 p.1 p.2 p.3) _ (four_cause (register_at ver) (register_fails ver usable) (operand_at ver) (operand_fails ver usable) (operand_at ver)
    (operand_fails ver usable) (operand_at ver) (operand_fails ver usable) words)
operands_cause ver usable verb.Stack name words = made_cause (two_at (register_at ver) short_at words) (λ p.
    Stack p.0 p.1) _ (two_cause (register_at ver) (register_fails ver usable) short_at (number_fails 65535) words)
operands_cause ver usable verb.Get name words = made_cause (three_at (register_at ver) (operand_at ver) short_at words) (λ p.
    Get p.0 p.1 p.2) _ (three_cause (register_at ver) (register_fails ver usable) (operand_at ver) (operand_fails ver usable) short_at
    (number_fails 65535) words)
operands_cause ver usable verb.Tag name words = made_cause (two_at (register_at ver) (operand_at ver) words) (λ p.
    Tag p.0 p.1) _ (two_cause (register_at ver) (register_fails ver usable) (operand_at ver) (operand_fails ver usable) words)
operands_cause ver usable verb.Set name words = made_cause (three_at (operand_at ver) short_at (operand_at ver) words) (λ p.
    Set p.0 p.1 p.2) _ (three_cause (operand_at ver) (operand_fails ver usable) short_at (number_fails 65535) (operand_at ver) (operand_fails ver usable) words)
operands_cause ver usable verb.Cas name words = made_cause (four_at (operand_at ver) short_at (operand_at ver) (operand_at ver) words) (λ p.
    Cas p.0 p.1 p.2 p.3) _ (four_cause (operand_at ver) (operand_fails ver usable) short_at (number_fails 65535) (operand_at ver)
    (operand_fails ver usable) (operand_at ver) (operand_fails ver usable) words)
operands_cause ver usable verb.Update name words = made_cause (two_at (operand_at ver) (operand_at ver) words) (λ p.
    Update p.0 p.1) _ (two_cause (operand_at ver) (operand_fails ver usable) (operand_at ver) (operand_fails ver usable) words)
operands_cause ver usable verb.Force name words = made_cause (two_at (register_at ver) (operand_at ver) words) (λ p.
    Force p.0 p.1) _ (two_cause (register_at ver) (register_fails ver usable) (operand_at ver) (operand_fails ver usable) words)
operands_cause ver usable verb.Push name words = made_cause (two_at (operand_at ver) (operand_at ver) words) (λ p.
    Push p.0 p.1) _ (two_cause (operand_at ver) (operand_fails ver usable) (operand_at ver) (operand_fails ver usable) words)
operands_cause ver usable verb.Pop name words = made_cause (two_at (register_at ver) (operand_at ver) words) (λ p.
    Pop p.0 p.1) _ (two_cause (register_at ver) (register_fails ver usable) (operand_at ver) (operand_fails ver usable) words)
operands_cause ver usable verb.Deref name words = made_cause (two_at (register_at ver) (operand_at ver) words) (λ p.
    Deref p.0 p.1) _ (two_cause (register_at ver) (register_fails ver usable) (operand_at ver) (operand_fails ver usable) words)
operands_cause ver usable verb.Finalise name words = made_cause (two_at (register_at ver) (operand_at ver) words) (λ p.
    Finalise p.0 p.1) _ (two_cause (register_at ver) (register_fails ver usable) (operand_at ver) (operand_fails ver usable) words)
operands_cause ver usable verb.NextFin name words = made_cause (one_at (register_at ver) words) (λ p.
    NextFin p) _ (one_cause (register_at ver) (register_fails ver usable) words)
operands_cause ver usable verb.Show name words = made_cause (one_at (operand_at ver) words) (λ p.
    Show p) _ (one_cause (operand_at ver) (operand_fails ver usable) words)
operands_cause ver usable verb.Same name words = made_cause (two_at (operand_at ver) (operand_at ver) words) (λ p.
    Same p.0 p.1) _ (two_cause (operand_at ver) (operand_fails ver usable) (operand_at ver) (operand_fails ver usable) words)
operands_cause ver usable verb.Yield name words = none_cause Yield words
operands_cause ver usable verb.Collect name words = none_cause Collect words
operands_cause ver usable verb.Full name words = none_cause Full words
