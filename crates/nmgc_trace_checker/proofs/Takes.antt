-- The name that a take marks, found by the marked names before it and after it.
use Rattle.nmgc_trace_checker.proofs.Vocabulary.{◌≡◌, ◌≤◌, ◌↔◌, ◌⊎◌, ◌∙◌, inl, inr, refl, sym, ap, subst, arith, List, [], ◌∷◌, length, Bool, true, false, Contains, IsTrue, slice_set, if◌then◌else◌, Contains-append_left, Contains-append_cases, Name, shared_name, IsBefore, IsInOrder, Lists, before_trans, not_before_itself, in_order_first, in_order_rest, contains_head, contains_tail, contains_cases, nothing, State, names_of, is_new, with_mark, Passes, after_take, MarksJust, IsTakeIf, ℕ}
use Rattle.nmgc_snapshot_laws.specs.declared.event.Event.TheVariants as event

-- TWO LISTS IN ORDER WITH THE SAME NAMES ARE THE SAME

same_first : (x y : Name) (xs ys : List Name) → IsInOrder (x ∷ xs) → IsInOrder (y ∷ ys) → Contains (y ∷ ys) x → Contains (x ∷ xs) y → x ≡ y
same_first x y xs ys o p c d = elim (contains_cases y ys x c) [
  | inl e ↦ sym e
  | inr later ↦ elim (contains_cases x xs y d) [
    | inl e ↦ e
    | inr after ↦ absurd (not_before_itself x (before_trans x y x (in_order_first x xs o y after) (in_order_first y ys p x later)))
  ]
]

same_rest : (x : Name) (xs ys : List Name) → IsInOrder (x ∷ xs) → ((n : Name) → Contains (x ∷ xs) n → Contains (x ∷ ys) n) → (n : Name) →
    Contains xs n → Contains ys n
same_rest x xs ys o f n c = elim (contains_cases x ys n (f n (contains_tail x xs n c))) [
  | inl e ↦ let P : Name → Type 0 = IsBefore x in absurd (not_before_itself x (subst P (sym e) (in_order_first x xs o n c)))
  | inr d ↦ d
]

same_names : (xs ys : List Name) → IsInOrder xs → IsInOrder ys → ((n : Name) → Contains xs n → Contains ys n) →
    ((n : Name) → Contains ys n → Contains xs n) → xs ≡ ys
same_names [] [] o p f g = refl
same_names [] (y ∷ ys) o p f g = absurd (nothing y (g y (contains_head y ys)))
same_names (x ∷ xs) [] o p f g = absurd (nothing x (f x (contains_head x xs)))
same_names (x ∷ xs) (y ∷ ys) o p f g =
    let e : y ≡ x = sym (same_first x y xs ys o p (f x (contains_head x xs)) (g y (contains_head y ys))) in
    let O : Name → Type 0 = λ z. IsInOrder (z ∷ ys) in
    let F : Name → Type 0 = λ z. (n : Name) → Contains (x ∷ xs) n → Contains (z ∷ ys) n in
    let G : Name → Type 0 = λ z. (n : Name) → Contains (z ∷ ys) n → Contains (x ∷ xs) n in
    cc (same_names xs ys (in_order_rest x xs o) (in_order_rest y ys p) (same_rest x xs ys o (subst F e f)) (same_rest x ys xs (subst O e p) (subst G e g)), e)

-- if the first of some names comes after the first of other names, they all come after it
after_first : (x y : Name) (xs ys : List Name) → IsInOrder (x ∷ xs) → IsInOrder (y ∷ ys) → Contains ys x →
    ((n : Name) → Contains (x ∷ xs) n → Contains (y ∷ ys) n) → (n : Name) → Contains (x ∷ xs) n → Contains ys n
after_first x y xs ys o p later f n c = elim (contains_cases y ys n (f n c)) [
  | inl e ↦
      let first : IsBefore y x = in_order_first y ys p x later in
      let B : Name → Type 0 = IsBefore y in
      elim (contains_cases x xs n c) [
        | inl same ↦ absurd (not_before_itself y (subst B (same ∙ sym e) first))
        | inr d ↦ absurd (not_before_itself y (subst B (sym e) (before_trans y x n first (in_order_first x xs o n d))))
      ]
  | inr d ↦ d
]

-- names out of an ordered list are at most the length of the list
no_more : (xs ys : List Name) → IsInOrder xs → IsInOrder ys → ((n : Name) → Contains xs n → Contains ys n) → length xs ≤ length ys
no_more [] ys o p f = omega arith
no_more (x ∷ xs) [] o p f = absurd (nothing x (f x (contains_head x xs)))
no_more (x ∷ xs) (y ∷ ys) o p f = elim (contains_cases y ys x (f x (contains_head x xs))) [
  | inl e ↦
      let F : Name → Type 0 = λ z. (n : Name) → Contains (x ∷ xs) n → Contains (z ∷ ys) n in
      let rest : length xs ≤ length ys = no_more xs ys (in_order_rest x xs o) (in_order_rest y ys p) (same_rest x xs ys o (subst F e f)) in
      omega (arith, rest)
  | inr later ↦
      let rest : length (x ∷ xs) ≤ length ys = no_more (x ∷ xs) ys o (in_order_rest y ys p) (after_first x y xs ys o p later f) in
      omega (arith, rest)
]

-- names out of an ordered list that are as long as the list are all its names
same_count : (xs ys : List Name) → IsInOrder xs → IsInOrder ys → ((n : Name) → Contains xs n → Contains ys n) → length ys ≡ length xs → (n : Name) →
    Contains ys n → Contains xs n
same_count [] [] o p f e n c = c
same_count [] (y ∷ ys) o p f e n c = absurd (omega (arith, e))
same_count (x ∷ xs) [] o p f e n c = absurd (nothing n c)
same_count (x ∷ xs) (y ∷ ys) o p f e n c = elim (contains_cases y ys x (f x (contains_head x xs))) [
  | inl same ↦
      let F : Name → Type 0 = λ z. (m : Name) → Contains (x ∷ xs) m → Contains (z ∷ ys) m in
      let count : length ys ≡ length xs = omega (arith, e) in
      elim (contains_cases y ys n c) [
        | inl here ↦ let P : Name → Type 0 = λ m. Contains (x ∷ xs) m in subst P (sym same ∙ here) (contains_head x xs)
        | inr d ↦ contains_tail x xs n (same_count xs ys (in_order_rest x xs o) (in_order_rest y ys p) (same_rest x xs ys o (subst F same f)) count n d)
      ]
  | inr later ↦
      let rest : length (x ∷ xs) ≤ length ys = no_more (x ∷ xs) ys o (in_order_rest y ys p) (after_first x y xs ys o p later f) in
      absurd (omega (arith, rest, e))
]

-- A TAKE MARKS AT MOST ONE NAME

-- no name was unmarked, and at most this name was marked
record Grew (before after : List Name) : Type 0 where
  name : Name
  some : (other : Name) → Contains after other → Contains before other ⊎ (other ≡ name)
  all : (other : Name) → Contains before other → Contains after other

grew_if : (s : State) (name : Name) (new : Bool) → Grew s.marked (if new then with_mark s name else s).marked
grew_if s name true = record {
  name = name;
  some = λ other c. elim (Contains-append_cases s.marked (name ∷ []) other c) [
    | inl d ↦ inl d
    | inr d ↦ elim (contains_cases name [] other d) [ inl e ↦ inr (sym e) | inr none ↦ absurd (nothing other none) ]
  ];
  all = λ other c. Contains-append_left s.marked (name ∷ []) other c;
}
grew_if s name false = record { name = name; some = λ other c. inl c; all = λ other c. c }

grew_take : (s : State) (m : ℕ) (names : List Name) → Grew s.marked (after_take s m names).marked
grew_take s m [] = record { name = shared_name; some = λ other c. inl c; all = λ other c. c }
grew_take s m (name ∷ rest) =
    let popped : State = record s { pushed = slice_set s.pushed m rest } in
    grew_if popped name (is_new popped name)

-- THE TEST

abbrev Test : Name → List Name → List Name → Type 0
Test name before after = Contains after name × (Contains before name → length after ≡ length before)

module _ (s next : State) (name : Name) (before after : List Name) (old : Lists (Contains s.marked) before) (new : Lists (Contains next.marked) after) where
  just_marked : Grew s.marked next.marked → Test name before after → MarksJust s name next
  just_marked g test other = (
    λ c. elim (g.some other c) [
      | inl d ↦ inl d
      | inr e ↦ elim (g.some name (new.sound name test.0)) [
        | inl d ↦ inl (old.sound other (same_count before after old.ordered new.ordered (λ n h.
            new.complete n (g.all n (old.sound n h))) (test.1 (old.complete name d)) other (new.complete other c)))
        | inr f ↦ inr (e ∙ sym f)
      ]
    ],
    λ c. elim c [
      | inl d ↦ g.all other d
      | inr e ↦ let P : Name → Type 0 = λ n. Contains next.marked n in subst P (sym e) (new.sound name test.0)
    ],
  )

  tested : MarksJust s name next → Test name before after
  tested just = (
    new.complete name ((just name).1 (inr refl)),
    λ had. ap (λ (l : List Name). length l) (same_names after before new.ordered old.ordered
        (λ n c. elim ((just n).0 (new.sound n c)) [
          | inl d ↦ old.complete n d
          | inr e ↦ let P : Name → Type 0 = λ k. Contains before k in subst P (sym e) had
        ])
        (λ n c. new.complete n ((just n).1 (inl (old.sound n c))))),
  )

pub take_known : (s next : State) (m : ℕ) (name : Name) (before after : List Name) → Lists (Contains s.marked) before →
    Lists (Contains next.marked) after → Passes s (event.Take m) true next → (b : Bool) → IsTrue b ↔
    (Contains after name × (Contains before name → length after ≡ length before)) → IsTakeIf s m name b next
take_known s next m name before after old new passes true test =
    let P : State → Type 0 = λ t. Grew s.marked t.marked in
    let g : Grew s.marked next.marked = subst P (sym passes.1) (grew_take s m (names_of s.pushed m)) in
    (passes, just_marked s next name before after old new g (test.0 refl))
take_known s next m name before after old new passes false test =
    λ other take.
    let e : other ≡ next = take.0.1 ∙ sym passes.1 in
    let P : State → Type 0 = λ t. MarksJust s name t in
    let no : ◌≡◌ {A = Bool} false true = test.1 (tested s next name before after old new (subst P e take.1)) in
    cc
