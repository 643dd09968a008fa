-- Arguments ask for one task, or for none.
use Rattle.nmgc_cli.proofs.Vocabulary.{◌≡◌, ◌≤◌, ◌<◌, ◌∙◌, ℕ, List, [], ◌∷◌, length, get_or, refl, sym, ap, subst, arith, Option, codes, decimal, IfSome, IfNone, decimal_injective, same_Some, Name, name_at, name_text, IsName, Asks, IsWrong, Task, Run, Bench, Upgrade, Image, Retain, Marks, name_again}

-- arguments that ask for none of the tasks are wrong
pub none_asked : (arguments : List (List ℕ)) → (arguments ≡ codes "run" ∷ [] → ⊥) → (arguments ≡ codes "upgrade" ∷ [] → ⊥) → (arguments ≡ codes "image" ∷ [] → ⊥) →
    ((name : Name) → Asks arguments (Retain name) → ⊥) → ((markers : ℕ) → Asks arguments (Marks markers) → ⊥) →
    ((batches : ℕ) → Asks arguments (Bench batches) → ⊥) → IsWrong arguments
none_asked arguments no_run no_upgrade no_image no_retain no_marks no_bench = by
  where
    by : (task : Task) → Asks arguments task → ⊥
    by Run asks = no_run asks
    by (Bench batches) asks = no_bench batches asks
    by Upgrade asks = no_upgrade asks
    by Image asks = no_image asks
    by (Retain name) asks = no_retain name asks
    by (Marks markers) asks = no_marks markers asks

-- the subcommand of a task, the first argument
abbrev first : Task → List ℕ
first Run = codes "run"
first (Bench batches) = codes "bench"
first Upgrade = codes "upgrade"
first Image = codes "image"
first (Retain name) = codes "retain"
first (Marks markers) = codes "marks"

abbrev head : List (List ℕ) → List ℕ
head [] = []
head (argument ∷ arguments) = argument

asks_first : (arguments : List (List ℕ)) (task : Task) → Asks arguments task → head arguments ≡ first task
asks_first arguments Run asks = ap head asks
asks_first arguments (Bench batches) asks = ap head asks.0
asks_first arguments Upgrade asks = ap head asks
asks_first arguments Image asks = ap head asks
asks_first arguments (Retain name) asks = ap head asks.0
asks_first arguments (Marks markers) asks = ap head asks.0

-- letters of the first argument
letter : (a b : List ℕ) (i : ℕ) → a ≡ b → get_or a i 0 ≡ get_or b i 0
letter a b i e = ap (λ (l : List ℕ). get_or l i 0) e

one_name : (a b : Name) → IsName a → IsName b → name_text a ≡ name_text b → a ≡ b
one_name a b va vb e = same_Some a b (sym (name_again a va) ∙ ap name_at e ∙ name_again b vb)

-- arguments ask for at most one task
pub one_task : (arguments : List (List ℕ)) (a b : Task) → Asks arguments a → Asks arguments b → a ≡ b
one_task arguments a b p q = by a b p q (sym (asks_first arguments a p) ∙ asks_first arguments b q)
  where
    by : (a b : Task) → Asks arguments a → Asks arguments b → first a ≡ first b → a ≡ b
    by Run Run p q e = refl
    by (Bench m) (Bench n) p q e =
        let both : codes "bench" ∷ decimal m ∷ [] ≡ codes "bench" ∷ decimal n ∷ [] = sym p.0 ∙ q.0 in
        let same : decimal m ≡ decimal n = cc in
        ap Bench (decimal_injective m n (omega (arith, p.1.1)) (omega (arith, q.1.1)) same)
    by Upgrade Upgrade p q e = refl
    by Image Image p q e = refl
    by (Retain m) (Retain n) p q e =
        let both : codes "retain" ∷ name_text m ∷ [] ≡ codes "retain" ∷ name_text n ∷ [] = sym p.0 ∙ q.0 in
        let same : name_text m ≡ name_text n = cc in
        ap Retain (one_name m n p.1 q.1 same)
    by (Marks m) (Marks n) p q e =
        let both : codes "marks" ∷ decimal m ∷ [] ≡ codes "marks" ∷ decimal n ∷ [] = sym p.0 ∙ q.0 in
        let same : decimal m ≡ decimal n = cc in
        ap Marks (decimal_injective m n (omega (arith, p.1.1)) (omega (arith, q.1.1)) same)
    by Run (Bench n) p q e = absurd (let h : 114 ≡ 98 = letter (codes "run") (codes "bench") 0 e in omega arith)
    by Run Upgrade p q e = absurd (let h : 114 ≡ 117 = letter (codes "run") (codes "upgrade") 0 e in omega arith)
    by Run Image p q e = absurd (let h : 114 ≡ 105 = letter (codes "run") (codes "image") 0 e in omega arith)
    by Run (Retain n) p q e = absurd (let h : 117 ≡ 101 = letter (codes "run") (codes "retain") 1 e in omega arith)
    by Run (Marks n) p q e = absurd (let h : 114 ≡ 109 = letter (codes "run") (codes "marks") 0 e in omega arith)
    by (Bench m) Run p q e = absurd (let h : 98 ≡ 114 = letter (codes "bench") (codes "run") 0 e in omega arith)
    by (Bench m) Upgrade p q e = absurd (let h : 98 ≡ 117 = letter (codes "bench") (codes "upgrade") 0 e in omega arith)
    by (Bench m) Image p q e = absurd (let h : 98 ≡ 105 = letter (codes "bench") (codes "image") 0 e in omega arith)
    by (Bench m) (Retain n) p q e = absurd (let h : 98 ≡ 114 = letter (codes "bench") (codes "retain") 0 e in omega arith)
    by (Bench m) (Marks n) p q e = absurd (let h : 98 ≡ 109 = letter (codes "bench") (codes "marks") 0 e in omega arith)
    by Upgrade Run p q e = absurd (let h : 117 ≡ 114 = letter (codes "upgrade") (codes "run") 0 e in omega arith)
    by Upgrade (Bench n) p q e = absurd (let h : 117 ≡ 98 = letter (codes "upgrade") (codes "bench") 0 e in omega arith)
    by Upgrade Image p q e = absurd (let h : 117 ≡ 105 = letter (codes "upgrade") (codes "image") 0 e in omega arith)
    by Upgrade (Retain n) p q e = absurd (let h : 117 ≡ 114 = letter (codes "upgrade") (codes "retain") 0 e in omega arith)
    by Upgrade (Marks n) p q e = absurd (let h : 117 ≡ 109 = letter (codes "upgrade") (codes "marks") 0 e in omega arith)
    by Image Run p q e = absurd (let h : 105 ≡ 114 = letter (codes "image") (codes "run") 0 e in omega arith)
    by Image (Bench n) p q e = absurd (let h : 105 ≡ 98 = letter (codes "image") (codes "bench") 0 e in omega arith)
    by Image Upgrade p q e = absurd (let h : 105 ≡ 117 = letter (codes "image") (codes "upgrade") 0 e in omega arith)
    by Image (Retain n) p q e = absurd (let h : 105 ≡ 114 = letter (codes "image") (codes "retain") 0 e in omega arith)
    by Image (Marks n) p q e = absurd (let h : 105 ≡ 109 = letter (codes "image") (codes "marks") 0 e in omega arith)
    by (Retain m) Run p q e = absurd (let h : 101 ≡ 117 = letter (codes "retain") (codes "run") 1 e in omega arith)
    by (Retain m) (Bench n) p q e = absurd (let h : 114 ≡ 98 = letter (codes "retain") (codes "bench") 0 e in omega arith)
    by (Retain m) Upgrade p q e = absurd (let h : 114 ≡ 117 = letter (codes "retain") (codes "upgrade") 0 e in omega arith)
    by (Retain m) Image p q e = absurd (let h : 114 ≡ 105 = letter (codes "retain") (codes "image") 0 e in omega arith)
    by (Retain m) (Marks n) p q e = absurd (let h : 114 ≡ 109 = letter (codes "retain") (codes "marks") 0 e in omega arith)
    by (Marks m) Run p q e = absurd (let h : 109 ≡ 114 = letter (codes "marks") (codes "run") 0 e in omega arith)
    by (Marks m) (Bench n) p q e = absurd (let h : 109 ≡ 98 = letter (codes "marks") (codes "bench") 0 e in omega arith)
    by (Marks m) Upgrade p q e = absurd (let h : 109 ≡ 117 = letter (codes "marks") (codes "upgrade") 0 e in omega arith)
    by (Marks m) Image p q e = absurd (let h : 109 ≡ 105 = letter (codes "marks") (codes "image") 0 e in omega arith)
    by (Marks m) (Retain n) p q e = absurd (let h : 109 ≡ 114 = letter (codes "marks") (codes "retain") 0 e in omega arith)

-- no bench has 0 batches, and no marking has 0 markers
pub one_number : (argument : List ℕ) (number n most : ℕ) → number ≡ 0 → argument ≡ decimal number → most ≤ 256 → (1 ≤ n) × (n ≤ most) → argument ≡ decimal n → ⊥
one_number argument number n most nothing spells small within same =
    let most_is = within.1 in
    let e : number ≡ n = decimal_injective number n (omega arith) (omega (arith, most_is, small)) (sym spells ∙ same) in
    let some = within.0 in
    omega (arith, e, some)

-- lists of two equal arguments are equal
two : (a b x y : List ℕ) → x ≡ a → y ≡ b → x ∷ y ∷ [] ≡ a ∷ b ∷ []
two a b x y e f = cc

pub asked_in : (T : ℕ → Task) (a b x y : List ℕ) (found : Option ℕ) → x ≡ a → y ≡ b → IfSome found (λ n. Asks (x ∷ y ∷ []) (T n)) →
    IfSome found (λ n. Asks (a ∷ b ∷ []) (T n))
asked_in T a b x y found e f h = let P : List (List ℕ) → Type 0 = λ arguments. IfSome found (λ n. Asks arguments (T n)) in subst P (two a b x y e f) h

pub none_in : (T : ℕ → Task) (a b x y : List ℕ) (found : Option ℕ) → x ≡ a → y ≡ b → IfNone found ((n : ℕ) → Asks (x ∷ y ∷ []) (T n) → ⊥) →
    IfNone found ((n : ℕ) → Asks (a ∷ b ∷ []) (T n) → ⊥)
none_in T a b x y found e f h = let P : List (List ℕ) → Type 0 = λ arguments. IfNone found ((n : ℕ) → Asks arguments (T n) → ⊥) in subst P (two a b x y e f) h

-- a list of two items is these two alone
pub pair : {A : Type 0} (xs : List A) (x y : A) → 2 ≤ length xs → length xs < 3 → x ≡ get_or xs 0 x → y ≡ get_or xs 1 y → xs ≡ x ∷ y ∷ []
pair [] x y some few e f = absurd (omega arith)
pair (a ∷ []) x y some few e f = absurd (omega arith)
pair (a ∷ b ∷ []) x y some few e f = cc
pair (a ∷ b ∷ c ∷ xs) x y some few e f = absurd (omega arith)

-- the same of two arguments that ask for a path
pub name_in : (a b x y : List ℕ) (found : Option Name) → x ≡ a → y ≡ b → IfSome found (λ name. Asks (x ∷ y ∷ []) (Retain name)) →
    IfSome found (λ name. Asks (a ∷ b ∷ []) (Retain name))
name_in a b x y found e f h = let P : List (List ℕ) → Type 0 = λ arguments. IfSome found (λ name. Asks arguments (Retain name)) in subst P (two a b x y e f) h

pub no_name_in : (a b x y : List ℕ) (found : Option Name) → x ≡ a → y ≡ b → IfNone found ((name : Name) → Asks (x ∷ y ∷ []) (Retain name) → ⊥) →
    IfNone found ((name : Name) → Asks (a ∷ b ∷ []) (Retain name) → ⊥)
no_name_in a b x y found e f h = let P : List (List ℕ) → Type 0 = λ arguments. IfNone found ((name : Name) → Asks arguments (Retain name) → ⊥) in
    subst P (two a b x y e f) h
