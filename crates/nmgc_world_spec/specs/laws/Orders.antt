-- Lists of names in order, as they grow, and with some names left out.
use Rattle.std.specs.Prelude.{◌≡◌, ◌<◌, ◌+◌, ◌∷◌, ◌++◌, ◌⊎◌, ◌≢◌}
use Rattle.nmgc_world_spec.specs.laws.Vocabulary.{ℕ, zero, suc, List, [], length, take, get_or, inl, inr, refl, sym, ap, subst, ◌∙◌, arith, Bool, true, Contains, filter, cases_lt, cases_Bool, cases_eq, Contains-append_left, Contains-push, Contains-push_cases, Contains-get_or, Name, IsBefore, IsInOrder, Lists, IsEarlier, ListsBefore, contains_head, contains_tail, contains_cases}

pub same_name : (a b : Name) → a.maker ≡ b.maker → a.serial ≡ b.serial → a ≡ b
same_name a b e f =
    let first : a ≡ record { maker = b.maker; serial = a.serial } = ap (λ (k : ℕ). let n : Name = record { maker = k; serial = a.serial } in n) e in
    let second : ◌≡◌ {A = Name} (record { maker = b.maker; serial = a.serial }) b =
    ap (λ (k : ℕ). let n : Name = record { maker = b.maker; serial = k } in n) f in
    first ∙ second

pub before_trans : (a b c : Name) → IsBefore a b → IsBefore b c → IsBefore a c
before_trans a b c (inl p) (inl q) = inl (omega arith)
before_trans a b c (inl p) (inr q) = inl (omega arith)
before_trans a b c (inr p) (inl q) = inl (omega arith)
before_trans a b c (inr p) (inr q) = inr (p.0 ∙ q.0, omega arith)

pub not_before_itself : (a : Name) → IsBefore a a → ⊥
not_before_itself a (inl p) = omega arith
not_before_itself a (inr p) = omega arith

-- a name that is after all names of a list in order can join it at the end
pub in_order_push : (xs : List Name) (y : Name) → IsInOrder xs → ((n : Name) → Contains xs n → IsBefore n y) → IsInOrder (xs ++ y ∷ [])
in_order_push [] y o b = tt
in_order_push (x ∷ []) y o b = (b x (contains_head x []), tt)
in_order_push (x ∷ z ∷ zs) y o b = (o.0, in_order_push (z ∷ zs) y o.1 (λ n c. b n (contains_tail x (z ∷ zs) n c)))

-- the first name of a list in order is before all later names
pub in_order_first : (x : Name) (xs : List Name) → IsInOrder (x ∷ xs) → (n : Name) → Contains xs n → IsBefore x n
in_order_first x [] o n c = absurd (omega (arith, c.1))
in_order_first x (y ∷ ys) o n c = elim (contains_cases y ys n c) [
  | inl e ↦ let P : Name → Type 0 = IsBefore x in subst P e o.0
  | inr d ↦ before_trans x y n o.0 (in_order_first y ys o.1 n d)
]

pub in_order_rest : (x : Name) (xs : List Name) → IsInOrder (x ∷ xs) → IsInOrder xs
in_order_rest x [] o = tt
in_order_rest x (y ∷ ys) o = o.1

-- a name that is before all names of a list in order can join it at the front
pub in_order_cons : (x : Name) (xs : List Name) → IsInOrder xs → ((n : Name) → Contains xs n → IsBefore x n) → IsInOrder (x ∷ xs)
in_order_cons x [] o b = tt
in_order_cons x (y ∷ ys) o b = (b y (contains_head y ys), o)

pub contains_take : (i : ℕ) (xs : List Name) (x : Name) → Contains (take i xs) x → Contains xs x
contains_take zero xs x c = absurd (omega (arith, c.1))
contains_take (suc i) [] x c = absurd (omega (arith, c.1))
contains_take (suc i) (y ∷ ys) x c = elim (contains_cases y (take i ys) x c) [
  | inl e ↦ let P : Name → Type 0 = Contains (y ∷ ys) in subst P e (contains_head y ys)
  | inr d ↦ contains_tail y ys x (contains_take i ys x d)
]

pub in_order_take : (i : ℕ) (xs : List Name) → IsInOrder xs → IsInOrder (take i xs)
in_order_take zero xs o = tt
in_order_take (suc i) [] o = tt
in_order_take (suc i) (x ∷ xs) o = in_order_cons x (take i xs) (in_order_take i xs (in_order_rest x xs o)) (λ n c.
    in_order_first x xs o n (contains_take i xs n c))

-- a name of a list in order isn't among the names before it
pub in_order_apart : (i : ℕ) (xs : List Name) (d : Name) → IsInOrder xs → i < length xs → Contains (take i xs) (get_or xs i d) → ⊥
in_order_apart zero xs d o lt c = omega (arith, c.1)
in_order_apart (suc i) [] d o lt c = omega arith
in_order_apart (suc i) (x ∷ xs) d o lt c = elim (contains_cases x (take i xs) (get_or xs i d) c) [
  | inl e ↦
      let P : Name → Type 0 = IsBefore x in
      not_before_itself x (subst P (sym e) (in_order_first x xs o (get_or xs i d) (Contains-get_or xs i d (omega arith))))
  | inr k ↦ in_order_apart i xs d (in_order_rest x xs o) (omega arith) k
]

-- the list of names with property P before a position, as the position moves on
module _ (P : Name → Type 0) where
  place_cases : (n : Name) (maker serial : ℕ) → IsBefore n (record { maker = maker; serial = serial + 1 }) →
      (n ≡ record { maker = maker; serial = serial }) ⊎ IsBefore n (record { maker = maker; serial = serial })
  place_cases n maker serial (inl p) = inr (inl p)
  place_cases n maker serial (inr p) = elim (cases_lt n.serial serial) [
    | inl lt ↦ inr (inr (p.0, lt))
    | inr le ↦ inl (same_name n (record { maker = maker; serial = serial }) p.0 (omega arith))
  ]

  later : (n : Name) (maker serial : ℕ) → IsBefore n (record { maker = maker; serial = serial }) → IsBefore n (record { maker = maker; serial = serial + 1 })
  later n maker serial (inl p) = inl p
  later n maker serial (inr p) = inr (p.0, omega arith)

  pub lists_none : ListsBefore P 0 0 []
  lists_none = record {
    ordered = tt;
    sound = λ n c. absurd (omega (arith, c.1));
    complete = λ n h. elim h.1 [ inl p ↦ absurd (omega arith) | inr p ↦ absurd (omega arith) ];
  }

  -- the name at the position has P, and is listed
  pub lists_more : (maker serial : ℕ) (names : List Name) → P (record { maker = maker; serial = serial }) → ListsBefore P maker serial names →
      ListsBefore P maker (serial + 1) (names ++ record { maker = maker; serial = serial } ∷ [])
  lists_more maker serial names p l =
      let place : Name = record { maker = maker; serial = serial } in
      record {
        ordered = in_order_push names place l.ordered (λ n c. (l.sound n c).1);
        sound = λ n c. elim (Contains-push_cases names place n c) [
          | inl old ↦ ((l.sound n old).0, later n maker serial (l.sound n old).1)
          | inr e ↦ let Q : Name → Type 0 = IsEarlier P maker (serial + 1) in subst Q e (p, inr (refl, omega arith))
        ];
        complete = λ n h. elim (place_cases n maker serial h.1) [
          | inl e ↦ let Q : Name → Type 0 = Contains (names ++ place ∷ []) in subst Q (sym e) (Contains-push names place)
          | inr b ↦ Contains-append_left names (place ∷ []) n (l.complete n (h.0, b))
        ];
      }

  -- the name at the position doesn't have P, and is left out
  pub lists_same : (maker serial : ℕ) (names : List Name) → (P (record { maker = maker; serial = serial }) → ⊥) → ListsBefore P maker serial names →
      ListsBefore P maker (serial + 1) names
  lists_same maker serial names lacks l = record {
    ordered = l.ordered;
    sound = λ n c. ((l.sound n c).0, later n maker serial (l.sound n c).1);
    complete = λ n h. elim (place_cases n maker serial h.1) [
      | inl e ↦ absurd (lacks (subst P e h.0))
      | inr b ↦ l.complete n (h.0, b)
    ];
  }

  -- no further name of the maker has P
  pub lists_maker : (maker serial : ℕ) (names : List Name) → ((n : Name) → P n → n.maker ≡ maker → n.serial < serial) →
      ListsBefore P maker serial names → ListsBefore P (maker + 1) 0 names
  lists_maker maker serial names few l = record {
    ordered = l.ordered;
    sound = λ n c. ((l.sound n c).0, elim (l.sound n c).1 [ inl p ↦ inl (omega arith) | inr p ↦ inl (omega arith) ]);
    complete = λ n h. l.complete n (
      h.0,
      elim h.1 [
        | inl p ↦ elim (cases_lt n.maker maker) [
          | inl lt ↦ inl lt
          | inr le ↦ let same : n.maker ≡ maker = omega arith in inr (same, few n h.0 same)
        ]
        | inr p ↦ absurd (omega arith)
      ],
    );
  }

  -- no further maker has a name with P
  pub lists_all : (maker : ℕ) (names : List Name) → ((n : Name) → P n → n.maker < maker) → ListsBefore P maker 0 names → Lists P names
  lists_all maker names few l = record {
    ordered = l.ordered;
    sound = λ n c. (l.sound n c).0;
    complete = λ n p. l.complete n (p, inl (few n p));
  }

-- names in order that pass a test
module _ (test : Name → Bool) where
  pub contains_filter : (xs : List Name) (n : Name) → Contains xs n → test n ≡ true → Contains (filter test xs) n
  contains_filter [] n c t = absurd (omega (arith, c.1))
  contains_filter (x ∷ xs) n c t = elim (contains_cases x xs n c) [
    | inl e ↦ rw (e, t) (contains_head n (filter test xs))
    | inr d ↦ elim (cases_Bool (test x)) [
      | inl y ↦ rw y (contains_tail x (filter test xs) n (contains_filter xs n d t))
      | inr fails ↦ rw fails (contains_filter xs n d t)
    ]
  ]

  pub filter_contains : (xs : List Name) (n : Name) → Contains (filter test xs) n → Contains xs n × (test n ≡ true)
  filter_contains [] n c = absurd (omega (arith, c.1))
  filter_contains (x ∷ xs) n c = elim (cases_Bool (test x)) [
    | inl y ↦ elim (contains_cases x (filter test xs) n (rw y at c)) [
      | inl e ↦ let Q : Name → Type 0 = λ m. Contains (x ∷ xs) m × (test m ≡ true) in subst Q e (contains_head x xs, y)
      | inr d ↦ (contains_tail x xs n (filter_contains xs n d).0, (filter_contains xs n d).1)
    ]
    | inr fails ↦ let d = filter_contains xs n (rw fails at c) in (contains_tail x xs n d.0, d.1)
  ]

  pub in_order_filter : (xs : List Name) → IsInOrder xs → IsInOrder (filter test xs)
  in_order_filter [] o = tt
  in_order_filter (x ∷ xs) o = elim (cases_Bool (test x)) [
    | inl y ↦ rw y (in_order_cons x (filter test xs) (in_order_filter xs (in_order_rest x xs o)) (λ n c. in_order_first x xs o n (filter_contains xs n c).0))
    | inr fails ↦ rw fails (in_order_filter xs (in_order_rest x xs o))
  ]

pub name_cases : (a b : Name) → (a ≡ b) ⊎ (a ≢ b)
name_cases a b = elim (cases_eq a.maker b.maker) [
  | inl e ↦ elim (cases_eq a.serial b.serial) [
    | inl f ↦ inl (same_name a b e f)
    | inr g ↦ inr (λ s. g (ap (λ (n : Name). n.serial) s))
  ]
  | inr g ↦ inr (λ s. g (ap (λ (n : Name). n.maker) s))
]
