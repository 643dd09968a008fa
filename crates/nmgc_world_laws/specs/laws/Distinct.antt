-- Distinct names, put in order: the same names, and the same number.
use Rattle.std.specs.Prelude.{◌≡◌, ◌≢◌, ◌⊎◌, ◌+◌, ◌≤◌, ◌∷◌, ◌++◌}
use Rattle.nmgc_world_laws.specs.laws.Vocabulary.{ℕ, List, [], length, refl, sym, subst, ◌∙◌, arith, inl, inr, Contains, cases_order, Contains-append_cases, Name, IsBefore, IsInOrder, same_name, in_order_first, in_order_rest, in_order_cons, not_before_itself, name_cases, contains_head, contains_tail, contains_cases, nothing_in, one_is, AreDistinct, Counts}

-- names in order are distinct
pub in_order_distinct : (xs : List Name) → IsInOrder xs → AreDistinct xs
in_order_distinct [] order = tt
in_order_distinct (x ∷ xs) order = (
  λ c. not_before_itself x (in_order_first x xs order x c),
  in_order_distinct xs (in_order_rest x xs order),
)

-- a list of distinct names with one new name at its end is distinct
pub distinct_push : (xs : List Name) (x : Name) → AreDistinct xs → (Contains xs x → ⊥) → AreDistinct (xs ++ x ∷ [])
distinct_push [] x once not = (nothing_in x, tt)
distinct_push (y ∷ xs) x once not = (
  λ c. elim (Contains-append_cases xs (x ∷ []) y c) [
    | inl d ↦ once.0 d
    | inr d ↦ not (subst (λ (n : Name). Contains (y ∷ xs) n) (sym (one_is x y d)) (contains_head y xs))
  ],
  distinct_push xs x once.1 (λ c. not (contains_tail y xs x c)),
)

-- sorting by insertion

pub before_cases : (a b : Name) → IsBefore a b ⊎ ((a ≡ b) ⊎ IsBefore b a)
before_cases a b = elim (cases_order a.maker b.maker) [
  | inl same ↦ elim (cases_order a.serial b.serial) [
    | inl is ↦ inr (inl (same_name a b same is))
    | inr (inl lt) ↦ inl (inr (same, lt))
    | inr (inr gt) ↦ inr (inr (inr (sym same, gt)))
  ]
  | inr (inl lt) ↦ inl (inl lt)
  | inr (inr gt) ↦ inr (inr (inl gt))
]

-- the list with one more name, inserted in order
record IsWith (x : Name) (xs ys : List Name) : Type 0 where
  ordered : IsInOrder ys
  long : length ys ≡ length xs + 1
  old : (n : Name) → Contains xs n → Contains ys n
  new : Contains ys x
  only : (n : Name) → Contains ys n → (n ≡ x) ⊎ Contains xs n

with_first : (x : Name) (xs : List Name) → IsInOrder (x ∷ xs) → IsWith x xs (x ∷ xs)
with_first x xs order = record {
  ordered = order;
  long = omega arith;
  old = contains_tail x xs;
  new = contains_head x xs;
  only = λ n c. elim (contains_cases x xs n c) [ inl e ↦ inl (sym e) | inr d ↦ inr d ];
}

insert : (x : Name) (xs : List Name) → IsInOrder xs → (Contains xs x → ⊥) → (ys : List Name) × IsWith x xs ys
insert x [] order not = (x ∷ [], with_first x [] tt)
insert x (y ∷ xs) order not = elim (before_cases x y) [
  | inl first ↦ (x ∷ y ∷ xs, with_first x (y ∷ xs) (first, order))
  | inr (inl same) ↦ absurd (not (subst (λ (n : Name). Contains (y ∷ xs) n) (sym same) (contains_head y xs)))
  | inr (inr later) ↦
      let rest : (ys : List Name) × IsWith x xs ys = insert x xs (in_order_rest y xs order) (λ c. not (contains_tail y xs x c)) in
      let r : IsWith x xs rest.0 = rest.1 in
      let long = r.long in (
        y ∷ rest.0,
        record {
          ordered = in_order_cons y rest.0 r.ordered (λ n c. elim (r.only n c) [
            | inl is ↦ subst (λ (k : Name). IsBefore y k) (sym is) later
            | inr d ↦ in_order_first y xs order n d
          ]);
          long = omega arith;
          old = λ n c. elim (contains_cases y xs n c) [
            | inl e ↦ subst (λ (k : Name). Contains (y ∷ rest.0) k) e (contains_head y rest.0)
            | inr d ↦ contains_tail y rest.0 n (r.old n d)
          ];
          new = contains_tail y rest.0 x r.new;
          only = λ n c. elim (contains_cases y rest.0 n c) [
            | inl e ↦ inr (subst (λ (k : Name). Contains (y ∷ xs) k) e (contains_head y xs))
            | inr d ↦ elim (r.only n d) [ inl is ↦ inl is | inr k ↦ inr (contains_tail y xs n k) ]
          ];
        },
      )
]

-- all names of the list, in order
record IsSorted (xs ys : List Name) : Type 0 where
  ordered : IsInOrder ys
  long : length ys ≡ length xs
  to : (n : Name) → Contains xs n → Contains ys n
  from : (n : Name) → Contains ys n → Contains xs n

sort : (xs : List Name) → AreDistinct xs → (ys : List Name) × IsSorted xs ys
sort [] once = ([], record { ordered = tt; long = refl; to = λ n c. c; from = λ n c. c })
sort (x ∷ xs) once =
    let rest : (ys : List Name) × IsSorted xs ys = sort xs once.1 in
    let s : IsSorted xs rest.0 = rest.1 in
    let more : (zs : List Name) × IsWith x rest.0 zs = insert x rest.0 s.ordered (λ c. once.0 (s.from x c)) in
    let m : IsWith x rest.0 more.0 = more.1 in
    let a = s.long in let b = m.long in (
      more.0,
      record {
        ordered = m.ordered;
        long = omega arith;
        to = λ n c. elim (contains_cases x xs n c) [ inl e ↦ subst (λ (k : Name). Contains more.0 k) e m.new | inr d ↦ m.old n (s.to n d) ];
        from = λ n c. elim (m.only n c) [
          | inl is ↦ subst (λ (k : Name). Contains (x ∷ xs) k) (sym is) (contains_head x xs)
          | inr d ↦
              contains_tail x xs n (s.from n d)
        ];
      },
    )

-- a list that has each name with P once has as its length the count of names with P
pub counted : (P : Name → Type 0) (names : List Name) → AreDistinct names → ((n : Name) → Contains names n → P n) →
    ((n : Name) → P n → Contains names n) → Counts P (length names)
counted P names once sound complete =
    let s : (ys : List Name) × IsSorted names ys = sort names once in
    (s.0, record { ordered = s.1.ordered; sound = λ n c. sound n (s.1.from n c); complete = λ n p. s.1.to n (complete n p) }, sym s.1.long)

-- a list without one of its names; if the names are distinct, the name is no longer in it
record IsWithout (x : Name) (xs ys : List Name) : Type 0 where
  long : length xs ≡ length ys + 1
  kept : (n : Name) → Contains xs n → n ≢ x → Contains ys n
  from : (n : Name) → Contains ys n → Contains xs n
  once : AreDistinct xs → AreDistinct ys × (Contains ys x → ⊥)

remove : (x : Name) (xs : List Name) → Contains xs x → (ys : List Name) × IsWithout x xs ys
remove x [] c = absurd (nothing_in x c)
remove x (y ∷ xs) c = elim (name_cases y x) [
  | inl same ↦ (
    xs,
    record {
      long = omega arith;
      kept = λ n d ne. elim (contains_cases y xs n d) [ inl e ↦ absurd (ne (sym e ∙ same)) | inr k ↦ k ];
      from = contains_tail y xs;
      once = λ distinct. (distinct.1, λ d. distinct.0 (subst (λ (n : Name). Contains xs n) (sym same) d));
    },
  )
  | inr other ↦ elim (contains_cases y xs x c) [
    | inl same ↦ absurd (other same)
    | inr later ↦
        let rest : (ys : List Name) × IsWithout x xs ys = remove x xs later in
        let r : IsWithout x xs rest.0 = rest.1 in
        let long = r.long in (
          y ∷ rest.0,
          record {
            long = omega arith;
            kept = λ n d ne. elim (contains_cases y xs n d) [
              | inl e ↦ subst (λ (k : Name). Contains (y ∷ rest.0) k) e (contains_head y rest.0)
              | inr k ↦ contains_tail y rest.0 n (r.kept n k ne)
            ];
            from = λ n d. elim (contains_cases y rest.0 n d) [
              | inl e ↦ subst (λ (k : Name). Contains (y ∷ xs) k) e (contains_head y xs)
              | inr k ↦ contains_tail y xs n (r.from n k)
            ];
            once = λ distinct. (
              (λ d. distinct.0 (r.from y d), (r.once distinct.1).0),
              λ d. elim (contains_cases y rest.0 x d) [ inl e ↦ other e | inr k ↦ (r.once distinct.1).1 k ],
            );
          },
        )
  ]
]

-- the same for all names with P except one: the count is lower by 1
pub others_counted : (P : Name → Type 0) (x : Name) (names : List Name) → AreDistinct names → Contains names x →
    ((n : Name) → Contains names n → P n) → ((n : Name) → P n → Contains names n) → (count : ℕ) → count + 1 ≡ length names →
    Counts (λ n. P n × (n ≡ x → ⊥)) count
others_counted P x names once there sound complete count long =
    let w : (ys : List Name) × IsWithout x names ys = remove x names there in
    let r : IsWithout x names w.0 = w.1 in
    let l = r.long in
    let all : Counts (λ n. P n × (n ≡ x → ⊥)) (length w.0) = counted (λ n. P n × (n ≡ x → ⊥)) w.0 (r.once once).0
    (λ n c. (sound n (r.from n c), λ e. (r.once once).1 (subst (λ (k : Name). Contains w.0 k) e c)))
    (λ n p. r.kept n (complete n p.0) p.1)
    in
    let same : length w.0 ≡ count = omega arith in
    subst (λ (k : ℕ). Counts (λ n. P n × (n ≡ x → ⊥)) k) same all

-- distinct names that are all in a list are no more than the list's names
pub no_more : (xs ys : List Name) → AreDistinct xs → ((n : Name) → Contains xs n → Contains ys n) → length xs ≤ length ys
no_more [] ys once among = omega arith
no_more (x ∷ xs) ys once among =
    let less : (zs : List Name) × IsWithout x ys zs = remove x ys (among x (contains_head x xs)) in
    let long = less.1.long in
    let rest = no_more xs less.0 once.1 (λ n c. less.1.kept n (among n (contains_tail x xs n c)) (λ e. once.0 (subst (λ (k : Name). Contains xs k) e c))) in
    omega arith

-- the count of names with P is unique
pub one_count : (P : Name → Type 0) (a b : ℕ) → Counts P a → Counts P b → a ≡ b
one_count P a b (xs, lists, is) (ys, others, same) =
    let to = no_more xs ys (in_order_distinct xs lists.ordered) (λ n c. others.complete n (lists.sound n c)) in
    let from = no_more ys xs (in_order_distinct ys others.ordered) (λ n c. lists.complete n (others.sound n c)) in
    omega arith
