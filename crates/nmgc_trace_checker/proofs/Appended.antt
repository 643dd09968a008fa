-- Known bytes that grow, one write after another, and counts of faults.
use Rattle.std.proofs.lemmas.List.{take_at}
use Rattle.nmgc_trace_checker.proofs.Vocabulary.{AppendsFront, Rose, take-add, List, None, Option, Some, [], ap, append_assoc, arith, drop, length, min, refl, subst, sym, take, ℕ, ◌++◌, ◌+◌, ◌-◌, ◌<◌, ◌^◌, ◌∙◌, ◌≡◌, ◌≤◌, append-nil, drop_at, length-append, take-append-le, Appends}

pub appends_nothing : (a : Option (List ℕ)) → Appends a a []
appends_nothing None = tt
appends_nothing (Some xs) = sym (append-nil xs)

pub appends_on : (a b c : Option (List ℕ)) (xs ys : List ℕ) → Appends a b xs → Appends b c ys → Appends a c (xs ++ ys)
appends_on None b c xs ys p q = tt
appends_on (Some u) None c xs ys p q = absurd p
appends_on (Some u) (Some v) None xs ys p q = absurd q
appends_on (Some u) (Some v) (Some w) xs ys p q = q ∙ ap (λ (l : List ℕ). l ++ ys) p ∙ append_assoc u xs ys

take_past : (xs ys : List ℕ) (n : ℕ) → take (length xs + n) (xs ++ ys) ≡ xs ++ take n ys
take_past xs ys n =
    take-add (length xs) n (xs ++ ys) ∙ ap (λ (l : List ℕ). l ++ take n (drop (length xs) (xs ++ ys))) (take_at xs ys (length xs) refl) ∙
    ap (λ (l : List ℕ). xs ++ take n l) (drop_at xs ys (length xs) refl)

-- a front of the first bytes is a front of all bytes
pub front_first : (a b : Option (List ℕ)) (xs ys : List ℕ) → AppendsFront a b xs → AppendsFront a b (xs ++ ys)
front_first a b xs ys p =
    let count : length (xs ++ ys) ≡ length xs + length ys = length-append xs ys in
    let less : p.0 < length xs = p.1 in
    let same : take p.0 (xs ++ ys) ≡ take p.0 xs = take-append-le p.0 xs ys (omega (arith, less)) in
    (p.0, omega (arith, less, count), subst (Appends a b) (sym same) p.2)

-- the first bytes and a front of the rest are a front of all bytes
pub front_then : (a b c : Option (List ℕ)) (xs ys : List ℕ) → Appends a b xs → AppendsFront b c ys → AppendsFront a c (xs ++ ys)
front_then a b c xs ys p q =
    let count : length (xs ++ ys) ≡ length xs + length ys = length-append xs ys in
    let less : q.0 < length ys = q.1 in
    (length xs + q.0, omega (arith, less, count), subst (Appends a c) (sym (take_past xs ys q.0)) (appends_on a b c xs (take q.0 ys) p q.2))

-- a count that rose later rose since before
pub rose_since : (a b c : ℕ) → a ≤ b → Rose b c → Rose a c
rose_since a b c le r =
    let later : min (b + 1) (2 ^ 64 - 1) ≤ c = r in
    let sooner : min (a + 1) (2 ^ 64 - 1) ≤ c = omega (arith, le, later) in
    sooner

-- bytes after two, three, four and six pushes
pub pushed_two : (o a b p q : List ℕ) → p ≡ o ++ a → q ≡ p ++ b → q ≡ o ++ (a ++ b)
pushed_two o a b p q e f = f ∙ ap (λ (l : List ℕ). l ++ b) e ∙ append_assoc o a b

pub pushed_three : (o a b c p q r : List ℕ) → p ≡ o ++ a → q ≡ p ++ b → r ≡ q ++ c → r ≡ o ++ (a ++ (b ++ c))
pushed_three o a b c p q r e f g = pushed_two o a (b ++ c) p r e (pushed_two p b c q r f g)

pub pushed_four : (o a b c d p q r s : List ℕ) → p ≡ o ++ a → q ≡ p ++ b → r ≡ q ++ c → s ≡ r ++ d → s ≡ o ++ (((a ++ b) ++ c) ++ d)
pushed_four o a b c d p q r s e f g h = pushed_two o ((a ++ b) ++ c) d r s (pushed_two o (a ++ b) c q r (pushed_two o a b p q e f) g) h

pub pushed_six : (o a b c d u v p q r s t w : List ℕ) → p ≡ o ++ a → q ≡ p ++ b → r ≡ q ++ c → s ≡ r ++ d → t ≡ s ++ u → w ≡ t ++ v →
    w ≡ o ++ (((((a ++ b) ++ c) ++ d) ++ u) ++ v)
pushed_six o a b c d u v p q r s t w e f g h i j =
    pushed_two o ((((a ++ b) ++ c) ++ d) ++ u) v t w (pushed_two o (((a ++ b) ++ c) ++ d) u s t (pushed_four o a b c d p q r s e f g h) i) j
