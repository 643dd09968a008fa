-- Names in order: which names they are, each is before the next, and there is only one such list.
use Rattle.std.specs.Prelude.{◌≡◌, ◌⊎◌, ◌↔◌, ◌+◌, ◌<◌, ◌≤◌, ◌∷◌, ◌==◌, ◌||◌, ◌&&◌}
use Rattle.nmgc_name_lists.specs.laws.Vocabulary.{ℕ, ◌∙◌, inl, inr, refl, sym, ap, subst, arith, List, [], cond, Bool, true, false, sum_by, Contains, nat_lt, cases_Bool, cases_lt, lt-ltb, le-ltb, eq-eqb, sum_by-cons, Name, IsBefore, IsInOrder, Lists, same_name, before_trans, not_before_itself, in_order_cons, in_order_first, in_order_rest, contains_head, contains_tail, contains_cases, AreDistinct, is_before, put, in_order, and_both, eq_true, or_first, or_second, in_order_distinct, which_first}

-- consequences of the test
and_true : (x y : Bool) → x ≡ true → y ≡ true → (x && y) ≡ true
and_true true true e f = refl
and_true true false e f = absurd (cc)
and_true false y e f = absurd (cc)

or_cases : (x y : Bool) → (x || y) ≡ true → (x ≡ true) ⊎ (y ≡ true)
or_cases true y e = inl refl
or_cases false true e = inr refl
or_cases false false e = absurd (cc)

pub lt_true : (x y : ℕ) → nat_lt x y ≡ true → x < y
lt_true x y e = elim (cases_lt x y) [ inl lt ↦ lt | inr ge ↦ absurd (let f : nat_lt x y ≡ false = le-ltb x y ge in let g : true ≡ false = sym e ∙ f in cc) ]

pub known_before : (a b : Name) → is_before a b ≡ true → IsBefore a b
known_before a b e = elim (or_cases (nat_lt a.maker b.maker) ((a.maker == b.maker) && nat_lt a.serial b.serial) e) [
  | inl first ↦ inl (lt_true a.maker b.maker first)
  | inr both ↦ let p = and_both (a.maker == b.maker) (nat_lt a.serial b.serial) both in inr (eq_true a.maker b.maker p.0, lt_true a.serial b.serial p.1)
]

pub before_known : (a b : Name) → IsBefore a b → is_before a b ≡ true
before_known a b (inl lt) = or_first (nat_lt a.maker b.maker) ((a.maker == b.maker) && nat_lt a.serial b.serial) (lt-ltb a.maker b.maker lt)
before_known a b (inr p) =
    or_second (nat_lt a.maker b.maker) ((a.maker == b.maker) && nat_lt a.serial b.serial)
    (and_true (a.maker == b.maker) (nat_lt a.serial b.serial) (eq-eqb a.maker b.maker p.0) (lt-ltb a.serial b.serial p.1))

not_known : (a b : Name) → is_before a b ≡ false → IsBefore a b → ⊥
not_known a b e h = let t = before_known a b h in let f : true ≡ false = sym t ∙ e in cc

-- the names in a list into which a name was inserted

pub put_has : (x : Name) (ys : List Name) (n : Name) → Contains (put x ys) n → (x ≡ n) ⊎ Contains ys n
put_has x [] n c = contains_cases x [] n c
put_has x (y ∷ ys) n c = elim (cases_Bool (is_before y x)) [
  | inl first ↦
      let d : Contains (y ∷ put x ys) n = subst (λ (b : Bool). Contains (cond b (y ∷ put x ys) (x ∷ y ∷ ys)) n) first c in
      elim (contains_cases y (put x ys) n d) [
        | inl e ↦ inr (subst (λ (m : Name). Contains (y ∷ ys) m) e (contains_head y ys))
        | inr r ↦ elim (put_has x ys n r) [ inl e ↦ inl e | inr old ↦ inr (contains_tail y ys n old) ]
      ]
  | inr last ↦
      let d : Contains (x ∷ y ∷ ys) n = subst (λ (b : Bool). Contains (cond b (y ∷ put x ys) (x ∷ y ∷ ys)) n) last c in
      contains_cases x (y ∷ ys) n d
]

pub put_all : (x : Name) (ys : List Name) (n : Name) → (x ≡ n) ⊎ Contains ys n → Contains (put x ys) n
put_all x [] n (inl e) = subst (λ (m : Name). Contains (x ∷ []) m) e (contains_head x [])
put_all x [] n (inr c) = absurd (omega (arith, c.1))
put_all x (y ∷ ys) n h = elim (cases_Bool (is_before y x)) [
  | inl first ↦
      let d : Contains (y ∷ put x ys) n = elim h [
        | inl e ↦ contains_tail y (put x ys) n (put_all x ys n (inl e))
        | inr c ↦ elim (contains_cases y ys n c) [
          | inl e ↦ subst (λ (m : Name). Contains (y ∷ put x ys) m) e (contains_head y (put x ys))
          | inr r ↦ contains_tail y (put x ys) n (put_all x ys n (inr r))
        ]
      ] in
      subst (λ (b : Bool). Contains (cond b (y ∷ put x ys) (x ∷ y ∷ ys)) n) (sym first) d
  | inr last ↦
      let d : Contains (x ∷ y ∷ ys) n = elim h [
        | inl e ↦ subst (λ (m : Name). Contains (x ∷ y ∷ ys) m) e (contains_head x (y ∷ ys))
        | inr c ↦ contains_tail x (y ∷ ys) n c
      ] in
      subst (λ (b : Bool). Contains (cond b (y ∷ put x ys) (x ∷ y ∷ ys)) n) (sym last) d
]

pub in_order_has : (xs : List Name) (n : Name) → Contains (in_order xs) n ↔ Contains xs n
in_order_has [] n = ((λ c. c), (λ c. c))
in_order_has (x ∷ xs) n = (
  (λ c. elim (put_has x (in_order xs) n c) [
    | inl e ↦ subst (λ (m : Name). Contains (x ∷ xs) m) e (contains_head x xs)
    | inr r ↦ contains_tail x xs n ((in_order_has xs n).0 r)
  ]),
  (λ c. put_all x (in_order xs) n (elim (contains_cases x xs n c) [ inl e ↦ inl e | inr r ↦ inr ((in_order_has xs n).1 r) ])),
)

-- distinct names are in order after they are put in order

put_ordered : (x : Name) (ys : List Name) → IsInOrder ys → (Contains ys x → ⊥) → IsInOrder (put x ys)
put_ordered x [] o new = tt
put_ordered x (y ∷ ys) o new = elim (cases_Bool (is_before y x)) [
  | inl first ↦
      let rest = put_ordered x ys (in_order_rest y ys o) (λ c. new (contains_tail y ys x c)) in
      subst (λ (b : Bool). IsInOrder (cond b (y ∷ put x ys) (x ∷ y ∷ ys))) (sym first)
      (in_order_cons y (put x ys) rest (λ n c. elim (put_has x ys n c) [
        | inl e ↦ let P : Name → Type 0 = IsBefore y in subst P e (known_before y x first)
        | inr r ↦ in_order_first y ys o n r
      ]))
  | inr last ↦
      let ahead : IsBefore x y = elim (which_first x y) [
        | inl b ↦ b
        | inr (inl e) ↦ absurd (new (subst (λ (m : Name). Contains (y ∷ ys) m) (sym e) (contains_head y ys)))
        | inr (inr b) ↦ absurd (not_known y x last b)
      ] in
      subst (λ (b : Bool). IsInOrder (cond b (y ∷ put x ys) (x ∷ y ∷ ys))) (sym last) (ahead, o)
]

pub distinct_ordered : (xs : List Name) → AreDistinct xs → IsInOrder (in_order xs)
distinct_ordered [] d = tt
distinct_ordered (x ∷ xs) d = put_ordered x (in_order xs) (distinct_ordered xs d.1) (λ c. d.0 ((in_order_has xs x).0 c))

-- a list of exactly the names with P, each once, lists them in order after it is put in order
pub lists_in_order : (P : Name → Type 0) (xs : List Name) → AreDistinct xs → ((n : Name) → Contains xs n ↔ P n) → Lists P (in_order xs)
lists_in_order P xs d h = record {
  ordered = distinct_ordered xs d;
  sound = λ n c. (h n).0 ((in_order_has xs n).0 c);
  complete = λ n p. (in_order_has xs n).1 ((h n).1 p);
}

-- names in order, with duplicates or without, have only one list with the same number of each name

-- no name is before an earlier name of the list
abbrev pub IsSteady : List Name → Type 0
IsSteady [] = Unit {0}
IsSteady (x ∷ xs) = ((n : Name) → Contains xs n → IsBefore n x → ⊥) × IsSteady xs

-- if n isn't before y and y isn't before x, n isn't before x
pub still_not : (n x y : Name) → (IsBefore n y → ⊥) → (IsBefore y x → ⊥) → IsBefore n x → ⊥
still_not n x y low high h = elim (which_first n y) [
  | inl b ↦ low b
  | inr (inl e) ↦ high (let P : Name → Type 0 = λ m. IsBefore m x in subst P e h)
  | inr (inr b) ↦ high (before_trans y n x b h)
]

steady_put : (x : Name) (ys : List Name) → IsSteady ys → IsSteady (put x ys)
steady_put x [] s = ((λ n c. absurd (omega (arith, c.1))), tt)
steady_put x (y ∷ ys) s = elim (cases_Bool (is_before y x)) [
  | inl first ↦
      subst (λ (b : Bool). IsSteady (cond b (y ∷ put x ys) (x ∷ y ∷ ys))) (sym first) (
        (λ n c b. elim (put_has x ys n c) [
          | inl e ↦ not_before_itself y (before_trans y n y (let P : Name → Type 0 = IsBefore y in subst P e (known_before y x first)) b)
          | inr r ↦ s.0 n r b
        ]),
        steady_put x ys s.1,
      )
  | inr last ↦
      subst (λ (b : Bool). IsSteady (cond b (y ∷ put x ys) (x ∷ y ∷ ys))) (sym last) (
        (λ n c b. elim (contains_cases y ys n c) [
          | inl e ↦ not_known y x last (let P : Name → Type 0 = λ m. IsBefore m x in subst P (sym e) b)
          | inr r ↦ still_not n x y (s.0 n r) (not_known y x last) b
        ]),
        s,
      )
]

pub steady_in_order : (xs : List Name) → IsSteady (in_order xs)
steady_in_order [] = tt
steady_in_order (x ∷ xs) = steady_put x (in_order xs) (steady_in_order xs)

-- the number of occurrences of a name
abbrev pub one_if : Name → Name → ℕ
one_if n m = cond ((n.maker == m.maker) && (n.serial == m.serial)) 1 0

abbrev pub many : Name → List Name → ℕ
many n xs = sum_by (one_if n) xs

pub one_same : (n : Name) → one_if n n ≡ 1
one_same n = ap (λ (b : Bool). let k : ℕ = cond b 1 0 in
    k) (and_true (n.maker == n.maker) (n.serial == n.serial) (eq-eqb n.maker n.maker refl) (eq-eqb n.serial n.serial refl))

one_some : (n m : Name) → 1 ≤ one_if n m → n ≡ m
one_some n m some = elim (cases_Bool ((n.maker == m.maker) && (n.serial == m.serial))) [
  | inl both ↦ let p = and_both (n.maker == m.maker) (n.serial == m.serial) both in same_name n m (eq_true n.maker m.maker p.0) (eq_true n.serial m.serial p.1)
  | inr not ↦ absurd (let e : one_if n m ≡ 0 = ap (λ (b : Bool). let k : ℕ = cond b 1 0 in k) not in omega (arith, some, e))
]

many_has : (n : Name) (xs : List Name) → 1 ≤ many n xs → Contains xs n
many_has n [] some = absurd (omega (arith, some))
many_has n (x ∷ xs) some =
    let all = sum_by-cons (one_if n) x xs in
    elim (cases_lt 0 (one_if n x)) [
      | inl here ↦ subst (λ (m : Name). Contains (x ∷ xs) m) (sym (one_some n x (omega (arith, here)))) (contains_head x xs)
      | inr none ↦ contains_tail x xs n (many_has n xs (omega (arith, some, all, none)))
    ]

many_put : (n x : Name) (ys : List Name) → many n (put x ys) ≡ one_if n x + many n ys
many_put n x [] = sum_by-cons (one_if n) x []
many_put n x (y ∷ ys) = elim (cases_Bool (is_before y x)) [
  | inl first ↦
      subst (λ (b : Bool). many n (cond b (y ∷ put x ys) (x ∷ y ∷ ys)) ≡ one_if n x + many n (y ∷ ys)) (sym first)
      (let a = sum_by-cons (one_if n) y (put x ys) in let b = many_put n x ys in let c = sum_by-cons (one_if n) y ys in omega (arith, a, b, c))
  | inr last ↦
      subst (λ (b : Bool). many n (cond b (y ∷ put x ys) (x ∷ y ∷ ys)) ≡ one_if n x + many n (y ∷ ys)) (sym last)
      (sum_by-cons (one_if n) x (y ∷ ys))
]

pub many_in_order : (n : Name) (xs : List Name) → many n (in_order xs) ≡ many n xs
many_in_order n [] = refl
many_in_order n (x ∷ xs) = let a = many_put n x (in_order xs) in let b = many_in_order n xs in let c = sum_by-cons (one_if n) x xs in omega (arith, a, b, c)

-- the first name of a list is in every list with the same number of each name
first_in : (x : Name) (xs ys : List Name) → many x (x ∷ xs) ≡ many x ys → Contains ys x
first_in x xs ys e = many_has x ys (let a = sum_by-cons (one_if x) x xs in let b = one_same x in omega (arith, e, a, b))

same_first : (x y : Name) (xs ys : List Name) → IsSteady (x ∷ xs) → IsSteady (y ∷ ys) → Contains (y ∷ ys) x → Contains (x ∷ xs) y → x ≡ y
same_first x y xs ys s t c d = elim (contains_cases y ys x c) [
  | inl e ↦ sym e
  | inr in_ys ↦ elim (contains_cases x xs y d) [
    | inl e ↦ e
    | inr in_xs ↦ elim (which_first x y) [
      | inl b ↦ absurd (t.0 x in_ys b)
      | inr (inl e) ↦ e
      | inr (inr b) ↦ absurd (s.0 y in_xs b)
    ]
  ]
]

pub one_steady : (xs ys : List Name) → IsSteady xs → IsSteady ys → ((n : Name) → many n xs ≡ many n ys) → xs ≡ ys
one_steady [] [] s t e = refl
one_steady [] (y ∷ ys) s t e = absurd (let c = first_in y ys [] (sym (e y)) in omega (arith, c.1))
one_steady (x ∷ xs) [] s t e = absurd (let c = first_in x xs [] (e x) in omega (arith, c.1))
one_steady (x ∷ xs) (y ∷ ys) s t e =
    let first : x ≡ y = same_first x y xs ys s t (first_in x xs (y ∷ ys) (e x)) (first_in y ys (x ∷ xs) (sym (e y))) in
    let rest : xs ≡ ys = one_steady xs ys s.1 t.1 (λ n.
    let a = sum_by-cons (one_if n) x xs in
    let b = sum_by-cons (one_if n) y ys in
    let one : one_if n x ≡ one_if n y = ap (one_if n) first in
    let all = e n in
    omega (arith, a, b, one, all)) in
    ap (λ (z : Name). z ∷ xs) first ∙ ap (λ (l : List Name). y ∷ l) rest

-- a list has no duplicate exactly if it has each name at most once

one_most : (n m : Name) → one_if n m ≤ 1
one_most n m = elim (cases_Bool ((n.maker == m.maker) && (n.serial == m.serial))) [
  | inl both ↦ let e : one_if n m ≡ 1 = ap (λ (b : Bool). let k : ℕ = cond b 1 0 in k) both in omega (arith, e)
  | inr not ↦ let e : one_if n m ≡ 0 = ap (λ (b : Bool). let k : ℕ = cond b 1 0 in k) not in omega (arith, e)
]

has_many : (n : Name) (xs : List Name) → Contains xs n → 1 ≤ many n xs
has_many n [] c = absurd (omega (arith, c.1))
has_many n (x ∷ xs) c =
    let all = sum_by-cons (one_if n) x xs in
    elim (contains_cases x xs n c) [
      | inl e ↦ let one : one_if n x ≡ 1 = subst (λ (m : Name). one_if n m ≡ 1) (sym e) (one_same n) in omega (arith, all, one)
      | inr r ↦ let some = has_many n xs r in omega (arith, all, some)
    ]

pub once_many : (n : Name) (xs : List Name) → AreDistinct xs → many n xs ≤ 1
once_many n [] d = omega arith
once_many n (x ∷ xs) d =
    let all = sum_by-cons (one_if n) x xs in
    elim (cases_lt 0 (one_if n x)) [
      | inl here ↦
          let same : n ≡ x = one_some n x (omega (arith, here)) in
          let one = one_most n x in
          let none : many n xs ≤ 0 = elim (cases_lt 0 (many n xs)) [
            | inl some ↦ absurd (d.0 (subst (λ (m : Name). Contains xs m) same (many_has n xs (omega (arith, some)))))
            | inr none ↦ none
          ] in
          omega (arith, all, one, none)
      | inr none ↦ let rest = once_many n xs d.1 in omega (arith, all, none, rest)
    ]

pub many_once : (xs : List Name) → ((n : Name) → many n xs ≤ 1) → AreDistinct xs
many_once [] h = tt
many_once (x ∷ xs) h = (
  (λ c.
      let all = sum_by-cons (one_if x) x xs in
      let one = one_same x in
      let some = has_many x xs c in
      let most = h x in
      omega (arith, all, one, some, most)),
  many_once xs (λ n. let all = sum_by-cons (one_if n) x xs in let most = h n in omega (arith, all, most)),
)

-- names whose ordered list is strictly ordered have no duplicate
pub ordered_once : (xs : List Name) → IsInOrder (in_order xs) → AreDistinct xs
ordered_once xs o = many_once xs (λ n.
    let same = many_in_order n xs in
    let most = once_many n (in_order xs) (in_order_distinct (in_order xs) o) in
    omega (arith, same, most))
