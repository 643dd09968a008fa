-- The content of lists, by parts, and their items by position.
use Rattle.std.specs.Prelude.{◌≡◌, ◌∷◌, ◌≢◌, ◌≤◌, ◌+◌, ◌++◌, ◌-◌, ◌⊎◌, ◌<◌}
use Rattle.nmgc_lists.specs.laws.Vocabulary.{List, [], refl, None, ℕ, subst, Some, length, arith, zero, suc, inl, inr, get_or, set, Bool, true, false, cond, not, Option, ap, map, sym, slice_index, ◌∙◌, take, slice_get, All, IfSome, Contains, count_by, IsSome, filter, option_to_list, flat_map, get_or_from_slice_get, slice_get_within, slice_get-get_or, All-cons, All-nil, All-head, All-tail, Contains-append_left, Contains-append_right, Contains-append_cases, Contains-push_cases, sum_by-set, cases_Bool, cases_eq, AllByRecursion}

-- a list without a first item is empty
pub none_first : {A : Type 0} (xs : List A) → slice_get xs 0 ≡ None → xs ≡ []
none_first [] h = refl
none_first (x ∷ xs) h = absurd cc

-- a property of all items holds of each
pub of_item : {A : Type 0} (P : A → Type 0) (xs : List A) (k : ℕ) (x : A) → All P xs → slice_get xs k ≡ Some x → P x
of_item P xs k x all e = subst P (get_or_from_slice_get xs k x x e) (all k x (slice_get_within xs k x e))

-- a list that isn't empty has an item
pub some_wait : (queue : List ℕ) → queue ≢ [] → 1 ≤ length queue
some_wait [] some = absurd (some refl)
some_wait (at ∷ queue) some = omega arith

-- a property of all items of two lists together holds of the items of each
pub all_front : {A : Type 0} (P : A → Type 0) (xs ys : List A) → All P (xs ++ ys) → All P xs
all_front P [] ys all = All-nil P
all_front P (x ∷ xs) ys all = All-cons P x xs (All-head P x (xs ++ ys) all) (all_front P xs ys (All-tail P x (xs ++ ys) all))

pub all_back : {A : Type 0} (P : A → Type 0) (xs ys : List A) → All P (xs ++ ys) → All P ys
all_back P [] ys all = all
all_back P (x ∷ xs) ys all = all_back P xs ys (All-tail P x (xs ++ ys) all)

-- an item of a list whose items have P has P
pub item_has : {A : Type 0} (P : A → Type 0) (xs : List A) (i : ℕ) → All P xs → IfSome (slice_get xs i) P
item_has P [] i h = tt
item_has P (x ∷ xs) zero h = All-head P x xs h
item_has P (x ∷ xs) (suc i) h = item_has P xs i (All-tail P x xs h)

pub one_has : {A : Type 0} (P : A → Type 0) (x : A) → P x → All P (x ∷ [])
one_has P x p = All-cons P x [] p (All-nil P)

-- the content of a list, by its first item and the rest
pub contains_head : {A : Type 0} (x : A) (xs : List A) → Contains (x ∷ xs) x
contains_head x xs = Contains-append_left (x ∷ []) xs x (0, omega arith, refl)

pub contains_tail : {A : Type 0} (x : A) (xs : List A) (y : A) → Contains xs y → Contains (x ∷ xs) y
contains_tail x xs y h = Contains-append_right (x ∷ []) xs y h

pub contains_cases : {A : Type 0} (x : A) (xs : List A) (y : A) → Contains (x ∷ xs) y → (x ≡ y) ⊎ Contains xs y
contains_cases x xs y h = elim (Contains-append_cases (x ∷ []) xs y h) [
  | inl c ↦ elim (Contains-push_cases [] x y c) [ inl none ↦ absurd (omega (arith, none.1)) | inr e ↦ inl e ]
  | inr c ↦ inr c
]

pub count-set : (row : List Bool) (serial : ℕ) → serial < length row → get_or row serial false ≡ false → count_by not (set row serial true) + 1 ≡ count_by not row
count-set row serial lt e =
    let h = sum_by-set (λ (x : Bool). cond (not x) 1 0) row serial true false lt in
    let k = rw e at h in
    omega arith

-- a list has an item exactly at each position below its length
pub is_some_get : {A : Type 0} (xs : List A) (i : ℕ) → i < length xs → IsSome (slice_get xs i)
is_some_get [] i lt = absurd (omega arith)
is_some_get (x ∷ xs) zero lt = refl
is_some_get (x ∷ xs) (suc i) lt = is_some_get xs i (omega arith)

pub get_is_some : {A : Type 0} (xs : List A) (i : ℕ) → IsSome (slice_get xs i) → i < length xs
get_is_some [] i h = absurd cc
get_is_some (x ∷ xs) zero h = omega arith
get_is_some (x ∷ xs) (suc i) h = let r = get_is_some xs i h in omega arith

-- the value of an option, and a property of it
pub is_some_of : {A : Type 0} (o : Option A) → IsSome o → (x : A) × (o ≡ Some x)
is_some_of None h = absurd cc
is_some_of (Some x) h = (x, refl)

pub at_some : {A : Type 0} (o : Option A) (x : A) (P : A → Type 0) → o ≡ Some x → IfSome o P → P x
at_some None x P e h = absurd cc
at_some (Some y) x P e h = let same : y ≡ x = cc in subst P same h

-- the written item, and the other items
pub slice_get-set_same : {A : Type 0} (xs : List A) (i : ℕ) (x : A) → i < length xs → slice_get (set xs i x) i ≡ Some x
slice_get-set_same [] i x lt = absurd (omega arith)
slice_get-set_same (y ∷ xs) zero x lt = refl
slice_get-set_same (y ∷ xs) (suc i) x lt = slice_get-set_same xs i x (omega arith)

pub slice_get-set_other : {A : Type 0} (xs : List A) (i j : ℕ) (x : A) → j ≢ i → slice_get (set xs i x) j ≡ slice_get xs j
slice_get-set_other [] i j x ne = refl
slice_get-set_other (y ∷ xs) zero zero x ne = absurd (ne refl)
slice_get-set_other (y ∷ xs) zero (suc j) x ne = refl
slice_get-set_other (y ∷ xs) (suc i) zero x ne = refl
slice_get-set_other (y ∷ xs) (suc i) (suc j) x ne = slice_get-set_other xs i j x (λ e. ne (ap suc e))

pub slice_get-append_last : {A : Type 0} (xs : List A) (x : A) → slice_get (xs ++ x ∷ []) (length xs) ≡ Some x
slice_get-append_last [] x = refl
slice_get-append_last (y ∷ xs) x = slice_get-append_last xs x

-- an item of the mapped list is a mapped item
pub item_map : {A B : Type 0} (f : A → B) (xs : List A) (i : ℕ) (x : A) → slice_get xs i ≡ Some x → slice_get (map f xs) i ≡ Some (f x)
item_map f [] i x e = absurd cc
item_map {A} {B} f (y ∷ xs) zero x e = let same : y ≡ x = cc in ap (λ (z : A). Some (f z)) same
item_map f (y ∷ xs) (suc i) x e = item_map f xs i x e

-- the content of a mapped list and of a filtered list
pub contains_map : {A B : Type 0} (f : A → B) (xs : List A) (x : A) → Contains xs x → Contains (map f xs) (f x)
contains_map f [] x c = absurd (omega (arith, c.1))
contains_map {A} {B} f (y ∷ xs) x c = elim (contains_cases y xs x c) [
  | inl e ↦ subst (λ (z : A). Contains (f y ∷ map f xs) (f z)) e (contains_head (f y) (map f xs))
  | inr d ↦ contains_tail (f y) (map f xs) (f x) (contains_map f xs x d)
]

pub map_contains : {A B : Type 0} (f : A → B) (xs : List A) (y : B) → Contains (map f xs) y → (x : A) × Contains xs x × (y ≡ f x)
map_contains f [] y c = absurd (omega (arith, c.1))
map_contains f (x ∷ xs) y c = elim (contains_cases (f x) (map f xs) y c) [
  | inl e ↦ (x, contains_head x xs, sym e)
  | inr d ↦ let r = map_contains f xs y d in (r.0, contains_tail x xs r.0 r.1, r.2)
]

pub contains_filter : {A : Type 0} (test : A → Bool) (xs : List A) (x : A) → Contains xs x → test x ≡ true → Contains (filter test xs) x
contains_filter test [] x c e = absurd (omega (arith, c.1))
contains_filter {A} test (y ∷ xs) x c e = elim (contains_cases y xs x c) [
  | inl s ↦ let p : test y ≡ true = cc in rw p (subst (λ (z : A). Contains (y ∷ filter test xs) z) s (contains_head y (filter test xs)))
  | inr d ↦ elim (cases_Bool (test y)) [
    | inl p ↦ rw p (contains_tail y (filter test xs) x (contains_filter test xs x d e))
    | inr p ↦ rw p (contains_filter test xs x d e)
  ]
]

pub filter_contains : {A : Type 0} (test : A → Bool) (xs : List A) (x : A) → Contains (filter test xs) x → Contains xs x × (test x ≡ true)
filter_contains test [] x c = absurd (omega (arith, c.1))
filter_contains {A} test (y ∷ xs) x c = elim (cases_Bool (test y)) [
  | inl p ↦ elim (contains_cases y (filter test xs) x (rw p at c)) [
    | inl s ↦ (subst (λ (z : A). Contains (y ∷ xs) z) s (contains_head y xs), (let q : test x ≡ true = cc in q))
    | inr d ↦ let r = filter_contains test xs x d in (contains_tail y xs x r.0, r.1)
  ]
  | inr p ↦ let r = filter_contains test xs x (rw p at c) in (contains_tail y xs x r.0, r.1)
]

pub front_of : {A : Type 0} (P : A → Type 0) (xs ys : List A) → AllByRecursion P (xs ++ ys) → AllByRecursion P xs
front_of P [] ys h = tt
front_of P (x ∷ xs) ys h = (h.0, front_of P xs ys h.1)

pub back_of : {A : Type 0} (P : A → Type 0) (xs ys : List A) → AllByRecursion P (xs ++ ys) → AllByRecursion P ys
back_of P [] ys h = h
back_of P (x ∷ xs) ys h = back_of P xs ys h.1

-- lists that begin with the same item, and a write of the item that is already at its position

pub same_first : (line other : List ℕ) (lines others : List (List ℕ)) → line ∷ lines ≡ other ∷ others → line ≡ other
same_first line other lines others e = cc

pub word_again : (ws : List ℕ) (i : ℕ) → set ws i (slice_index ws i) ≡ ws
word_again [] i = refl
word_again (w ∷ ws) zero = refl
word_again (w ∷ ws) (suc i) = ap (λ (xs : List ℕ). w ∷ xs) (word_again ws i)

-- an item at a position is contained
pub contains_at : {A : Type 0} (xs : List A) (i : ℕ) (x : A) → slice_get xs i ≡ Some x → Contains xs x
contains_at xs i x h = (i, slice_get_within xs i x h, get_or_from_slice_get xs i x x h)

-- a contained item has a position
pub place_of : {A : Type 0} (xs : List A) (x : A) → Contains xs x → (i : ℕ) × (slice_get xs i ≡ Some x)
place_of xs x h = (h.0, slice_get-get_or xs h.0 x h.1 ∙ ap (λ y. Some y) h.2)

-- an empty list contains nothing, and a list of one item only this item
pub nothing_in : {A : Type 0} (x : A) → Contains [] x → ⊥
nothing_in x (i, lt, e) = omega arith

pub contains_one : {A : Type 0} (x : A) → Contains (x ∷ []) x
contains_one x = (0, omega arith, refl)

pub one_is : {A : Type 0} (x y : A) → Contains (x ∷ []) y → x ≡ y
one_is x y (zero, lt, e) = e
one_is x y (suc i, lt, e) = absurd (omega arith)

pub contains_option : {A : Type 0} (o : Option A) (x : A) → o ≡ Some x → Contains (option_to_list o) x
contains_option None x e = absurd cc
contains_option (Some y) x e = let same : y ≡ x = cc in subst (λ z. Contains (z ∷ []) x) (sym same) (contains_one x)

-- items of a list to which other items were appended, and of its front
pub slice_get-append : {A : Type 0} (xs ys : List A) (i : ℕ) (x : A) → slice_get xs i ≡ Some x → slice_get (xs ++ ys) i ≡ Some x
slice_get-append [] ys i x h = absurd cc
slice_get-append (y ∷ xs) ys zero x h = h
slice_get-append (y ∷ xs) ys (suc i) x h = slice_get-append xs ys i x h

pub slice_get-take : {A : Type 0} (n : ℕ) (xs : List A) (i : ℕ) → i < n → slice_get (take n xs) i ≡ slice_get xs i
slice_get-take zero xs i lt = absurd (omega arith)
slice_get-take (suc n) [] i lt = refl
slice_get-take (suc n) (x ∷ xs) zero lt = refl
slice_get-take (suc n) (x ∷ xs) (suc i) lt = slice_get-take n xs i (omega arith)

-- an item is still in the list after a write, or was at the position of the write
pub kept_or_held : {A : Type 0} (xs : List A) (index : ℕ) (v : A) (i : ℕ) (x : A) → slice_get xs i ≡ Some x →
    (slice_get (set xs index v) i ≡ Some x) ⊎ (slice_get xs index ≡ Some x)
kept_or_held xs index v i x h = elim (cases_eq i index) [
  | inl e ↦ inr (subst (λ j. slice_get xs j ≡ Some x) e h)
  | inr ne ↦ inl (slice_get-set_other xs index i v ne ∙ h)
]

-- an item is still in the list after the last is removed, or was the last
pub kept_or_last : {A : Type 0} (xs : List A) (i : ℕ) (x : A) → slice_get xs i ≡ Some x → (slice_get (take (length xs - 1) xs) i ≡ Some x) ⊎
    (slice_get xs (length xs - 1) ≡ Some x)
kept_or_last xs i x h =
    let lt : i < length xs = slice_get_within xs i x h in
    elim (cases_eq i (length xs - 1)) [
      | inl e ↦ inr (subst (λ j. slice_get xs j ≡ Some x) e h)
      | inr ne ↦ inl (slice_get-take (length xs - 1) xs i (omega (arith, ne)) ∙ h)
    ]

-- an item of one part is an item of all parts together
pub contains_flat : {A B : Type 0} (f : A → List B) (xs : List A) (x : A) (y : B) → Contains xs x → Contains (f x) y → Contains (flat_map f xs) y
contains_flat f [] x y h k = absurd (nothing_in x h)
contains_flat f (z ∷ xs) x y h k = elim (contains_cases z xs x h) [
  | inl e ↦ Contains-append_left (f z) (flat_map f xs) y (subst (λ w. Contains (f w) y) (sym e) k)
  | inr r ↦ Contains-append_right (f z) (flat_map f xs) y (contains_flat f xs x y r k)
]

-- an item of all parts together is an item of one part
pub flat_contains : {A B : Type 0} (f : A → List B) (xs : List A) (y : B) → Contains (flat_map f xs) y → (x : A) × Contains xs x × Contains (f x) y
flat_contains f [] y h = absurd (nothing_in y h)
flat_contains f (z ∷ xs) y h = elim (Contains-append_cases (f z) (flat_map f xs) y h) [
  | inl l ↦ (z, contains_head z xs, l)
  | inr r ↦ let rest : (x : _) × Contains xs x × Contains (f x) y = flat_contains f xs y r in (rest.0, contains_tail z xs rest.0 rest.1, rest.2)
]

-- a position within the list has an item
pub item : {A : Type 0} (xs : List A) (k : ℕ) → k < length xs → (x : A) × (slice_get xs k ≡ Some x)
item xs k lt = is_some_of (slice_get xs k) (is_some_get xs k lt)
