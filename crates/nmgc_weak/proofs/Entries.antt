-- Entries of a row: their order, binary search, the entries that left, and the entries in the list.
use Rattle.nmgc_weak.proofs.Vocabulary.{◌≡◌, ◌≢◌, ◌⊎◌, ◌↔◌, ◌+◌, ◌-◌, ◌/◌, ◌<◌, ◌≤◌, ℕ, zero, suc, Bool, true, false, cond, eqb, eq-eqb, ne_eqb, get_or, List, [], ◌∷◌, ◌++◌, append-nil, length, length-append, take, drop, map, set, refl, sym, ap, subst, ◌∙◌, arith, Some, inl, inr, Contains, filter, slice_get, not, ◌&&◌, drop_all, get_or_default, take-append-drop, take_all, take_more, map_over_more, and_from, cases_lt, cases_order, none-some, same_Some, slice_get-get_or, slice_get_within, Contains-append_left, Contains-append_right, Contains-append_cases, Name, IsBefore, IsInOrder, same_name, before_trans, not_before_itself, in_order_first, in_order_rest, in_order_cons, Address, contains_head, contains_tail, contains_cases, contains_at, contains_map, map_contains, contains_filter, filter_contains, item_map, nothing_in, eq_true, and_both, false_of, unmarked, Entry, OldWeak, Row, listed, entry_names, IsEntryAt, is_same, without, names_of, is_alive, alive_of, value_place, filter_all, filter_cond, filter_same, filter_twice, slice_index}
use Rattle.nmgc_lists.specs.laws.Items.{place_of}

-- of two names in an ordered list, the one at the earlier position is before the other
pub before_at : (ns : List Name) (i j : ℕ) (a b : Name) → IsInOrder ns → slice_get ns i ≡ Some a → slice_get ns j ≡ Some b → i < j → IsBefore a b
before_at [] i j a b o e f lt = absurd (none-some a e)
before_at (x ∷ xs) zero zero a b o e f lt = absurd (omega arith)
before_at (x ∷ xs) zero (suc j) a b o e f lt = subst (λ (n : Name). IsBefore n b) (same_Some x a e) (in_order_first x xs o b (contains_at xs j b f))
before_at (x ∷ xs) (suc i) zero a b o e f lt = absurd (omega arith)
before_at (x ∷ xs) (suc i) (suc j) a b o e f lt = before_at xs i j a b (in_order_rest x xs o) e f (omega arith)

-- the name of the entry at a position
pub name_at : (es : List Entry) (i : ℕ) (e : Entry) → slice_get es i ≡ Some e → slice_get (entry_names es) i ≡ Some e.weak.weak
name_at es i e there = item_map (λ (x : Entry). x.weak.weak) es i e there

-- the progress of a binary search for a name: entries before `low` come before it, and entries from `high` on after it
pub record IsBetween (es : List Entry) (weak : Name) (low high : ℕ) : Type 0 where
  pub ordered : low ≤ high
  pub within : high ≤ length es
  pub before : (j : ℕ) (e : Entry) → slice_get es j ≡ Some e → j < low → IsBefore e.weak.weak weak
  pub after : (j : ℕ) (e : Entry) → slice_get es j ≡ Some e → high ≤ j → IsBefore weak e.weak.weak

pub between_first : (es : List Entry) (weak : Name) → IsBetween es weak 0 (length es)
between_first es weak = record {
  ordered = omega arith;
  within = omega arith;
  before = λ j e there lt. absurd (omega (arith, lt));
  after = λ j e there le. absurd (let within = slice_get_within es j e there in omega (arith, within, le));
}

module _ (es : List Entry) (weak : Name) (low high middle : ℕ) (o : IsInOrder (entry_names es)) (h : IsBetween es weak low high) (x : Entry)
    (there : slice_get es middle ≡ Some x) (above : low ≤ middle) (below : middle < high) where
  -- the entry in the middle comes before the name
  pub between_low : IsBefore x.weak.weak weak → IsBetween es weak (middle + 1) high
  between_low b = record {
    ordered = omega (arith, below);
    within = h.within;
    before = λ j e at lt. elim (cases_lt j middle) [
      | inl less ↦ before_trans e.weak.weak x.weak.weak weak (before_at (entry_names es) j middle e.weak.weak x.weak.weak o (name_at es j e at) (name_at es middle x
          there) less) b
      | inr le ↦
          let same : j ≡ middle = omega (arith, lt, le) in
          let one : e ≡ x = same_Some e x (sym at ∙ ap (λ k. slice_get es k) same ∙ there) in
          subst (λ (y : Entry). IsBefore y.weak.weak weak) (sym one) b
    ];
    after = h.after;
  }

  -- or after it
  pub between_high : IsBefore weak x.weak.weak → IsBetween es weak low middle
  between_high b = record {
    ordered = above;
    within = let w = h.within in omega (arith, w, below);
    before = h.before;
    after = λ j e at le. elim (cases_lt middle j) [
      | inl less ↦ before_trans weak x.weak.weak e.weak.weak b (before_at (entry_names es) middle j x.weak.weak e.weak.weak o (name_at es middle x
          there) (name_at es j e at) less)
      | inr more ↦
          let same : j ≡ middle = omega (arith, le, more) in
          let one : e ≡ x = same_Some e x (sym at ∙ ap (λ k. slice_get es k) same ∙ there) in
          subst (λ (y : Entry). IsBefore weak y.weak.weak) (sym one) b
    ];
  }

-- the entry that is read at a position
abbrev pub no_entry : Entry
no_entry = record { weak = record { weak = record { maker = 0; serial = 0 }; at = record { 0 = 0 } }; left = false }

abbrev pub nth_entry : List Entry → ℕ → Entry
nth_entry es i = get_or es i no_entry

pub entry_there : (es : List Entry) (i : ℕ) → i < length es → slice_get es i ≡ Some (nth_entry es i)
entry_there es i lt = slice_get-get_or es i no_entry lt

-- an entry is read at its position
pub read_entry : (es : List Entry) (i : ℕ) (x : Entry) → i < length es → x ≡ get_or es i x → slice_get es i ≡ Some x
read_entry es i x lt is = slice_get-get_or es i x lt ∙ ap (λ (y : Entry). Some y) (sym is)

pub read_row : (rows : List Row) (i : ℕ) (x : Row) → i < length rows → x ≡ get_or rows i x → slice_get rows i ≡ Some x
read_row rows i x lt is = slice_get-get_or rows i x lt ∙ ap (λ (y : Row). Some y) (sym is)

-- once no entry is between, no entry has the name
pub between_none : (es : List Entry) (weak : Name) (low high : ℕ) → IsBetween es weak low high → high ≤ low → (e : Entry) → Contains es e →
    e.weak.weak ≢ weak
between_none es weak low high h past e c same =
    let at = place_of es e c in
    elim (cases_lt at.0 low) [
      | inl less ↦ not_before_itself weak (subst (λ (n : Name). IsBefore n weak) same (h.before at.0 e at.1 less))
      | inr le ↦ not_before_itself weak (subst (λ (n : Name). IsBefore weak n) same (h.after at.0 e at.1 (omega (arith, past, le))))
    ]

-- the position halfway
pub halfway : (low high : ℕ) → low < high → (low ≤ low + (high - low) / 2) × (low + (high - low) / 2 < high)
halfway low high lt = (omega arith, omega arith)

-- two names are the same if neither is before the other
pub neither_before : (a b : Name) → (IsBefore a b → ⊥) → (IsBefore b a → ⊥) → a ≡ b
neither_before a b p q = elim (cases_order a.maker b.maker) [
  | inl maker ↦ elim (cases_order a.serial b.serial) [
    | inl serial ↦ same_name a b maker serial
    | inr apart ↦ elim apart [ inl lt ↦ absurd (p (inr (maker, lt))) | inr lt ↦ absurd (q (inr (sym maker, lt))) ]
  ]
  | inr apart ↦ elim apart [ inl lt ↦ absurd (p (inl lt)) | inr lt ↦ absurd (q (inl lt)) ]
]

-- from a position on all come after a name
pub record ComeAfter (es : List Entry) (weak : Name) (place : ℕ) : Type 0 where
  pub within : place ≤ length es
  pub after : (j : ℕ) (e : Entry) → slice_get es j ≡ Some e → place ≤ j → IsBefore weak e.weak.weak

pub none_after : (es : List Entry) (weak : Name) → ComeAfter es weak (length es)
none_after es weak = record {
  within = omega arith;
  after = λ j e there le. absurd (let within = slice_get_within es j e there in omega (arith, within, le));
}

-- so also from the position before it on
pub one_before : (es : List Entry) (weak : Name) (place : ℕ) (x : Entry) → ComeAfter es weak (place + 1) → slice_get es place ≡ Some x →
    IsBefore weak x.weak.weak → ComeAfter es weak place
one_before es weak place x h there b = record {
  within = let w = h.within in omega (arith, w);
  after = λ j e at le. elim (cases_lt place j) [
    | inl less ↦ h.after j e at (omega (arith, less))
    | inr more ↦
        let same : j ≡ place = omega (arith, le, more) in
        let one : e ≡ x = same_Some e x (sym at ∙ ap (λ k. slice_get es k) same ∙ there) in
        subst (λ (y : Entry). IsBefore weak y.weak.weak) (sym one) b
  ];
}

-- the entries in the list, one by one
pub listed_cons : (e : Entry) (es : List Entry) → listed (e ∷ es) ≡ cond (not e.left) (e.weak ∷ listed es) (listed es)
listed_cons e es = by_test (not e.left)
  where
    by_test : (b : Bool) → map (λ (x : Entry). x.weak) (cond b (e ∷ filter (λ (x : Entry). not x.left) es) (filter (λ (x : Entry). not x.left) es)) ≡
        cond b (e.weak ∷ listed es) (listed es)
    by_test true = refl
    by_test false = refl

pub listed_append : (xs ys : List Entry) → listed (xs ++ ys) ≡ listed xs ++ listed ys
listed_append [] ys = refl
listed_append (x ∷ xs) ys =
    listed_cons x (xs ++ ys) ∙ by_test (not x.left) (listed_append xs ys) ∙ ap (λ (l : List OldWeak). l ++ listed ys) (sym (listed_cons x xs))
  where
    by_test : (b : Bool) → listed (xs ++ ys) ≡ listed xs ++ listed ys →
        cond b (x.weak ∷ listed (xs ++ ys)) (listed (xs ++ ys)) ≡ cond b (x.weak ∷ listed xs) (listed xs) ++ listed ys
    by_test true rest = ap (λ (l : List OldWeak). x.weak ∷ l) rest
    by_test false rest = rest

pub listed_in : (es : List Entry) (w : OldWeak) → Contains (listed es) w → (e : Entry) × Contains es e × (e.weak ≡ w) × (e.left ≡ false)
listed_in es w c =
    let m = map_contains (λ (x : Entry). x.weak) (filter (λ (x : Entry). not x.left) es) w c in
    let f = filter_contains (λ (x : Entry). not x.left) es m.0 m.1 in
    (m.0, f.0, sym m.2, unmarked m.0.left f.1)

pub listed_has : (es : List Entry) (e : Entry) → Contains es e → e.left ≡ false → Contains (listed es) e.weak
listed_has es e c in_ = contains_map (λ (x : Entry). x.weak) (filter (λ (x : Entry). not x.left) es) e
    (contains_filter (λ (x : Entry). not x.left) es e c (ap not in_))

listed_names : (es : List Entry) (n : Name) → Contains (names_of (listed es)) n → Contains (entry_names es) n
listed_names es n c =
    let m = map_contains (λ (w : OldWeak). w.weak) (listed es) n c in
    let e = listed_in es m.0 m.1 in
    subst (λ (k : Name). Contains (entry_names es) k) (ap (λ (w : OldWeak). w.weak) e.2 ∙ sym m.2) (contains_map (λ (x : Entry). x.weak.weak) es e.0 e.1)

pub listed_ordered : (es : List Entry) → IsInOrder (entry_names es) → IsInOrder (names_of (listed es))
listed_ordered [] o = tt
listed_ordered (e ∷ es) o =
    rw (listed_cons e es) (by_test (not e.left) (listed_ordered es (in_order_rest e.weak.weak (entry_names es) o)))
  where
    by_test : (b : Bool) → IsInOrder (names_of (listed es)) → IsInOrder (names_of (cond b (e.weak ∷ listed es) (listed es)))
    by_test true rest = in_order_cons e.weak.weak (names_of (listed es)) rest (λ n c. in_order_first e.weak.weak (entry_names es) o n (listed_names es n c))
    by_test false rest = rest

-- the names of entries with a further entry are its name and theirs
inserted_names : (es : List Entry) (k : ℕ) (x : Entry) (n : Name) → Contains (entry_names (take k es ++ x ∷ drop k es)) n →
    (x.weak.weak ≡ n) ⊎ Contains (entry_names es) n
inserted_names [] zero x n c = contains_cases x.weak.weak [] n c
inserted_names [] (suc k) x n c = contains_cases x.weak.weak [] n c
inserted_names (y ∷ ys) zero x n c = contains_cases x.weak.weak (entry_names (y ∷ ys)) n c
inserted_names (y ∷ ys) (suc k) x n c = elim (contains_cases y.weak.weak (entry_names (take k ys ++ x ∷ drop k ys)) n c) [
  | inl e ↦ inr (subst (λ (m : Name). Contains (entry_names (y ∷ ys)) m) e (contains_head y.weak.weak (entry_names ys)))
  | inr d ↦ elim (inserted_names ys k x n d) [
    | inl e ↦ inl e
    | inr more ↦ inr (contains_tail y.weak.weak (entry_names ys) n more)
  ]
]

-- an entry of a name, and its position
entry_of : (es : List Entry) (n : Name) → Contains (entry_names es) n → (j : ℕ) × (e : Entry) × (slice_get es j ≡ Some e) × (e.weak.weak ≡ n)
entry_of es n c =
    let r = map_contains (λ (e : Entry). e.weak.weak) es n c in
    let at = place_of es r.0 r.1 in
    (at.0, r.0, at.1, sym r.2)

-- with an entry inserted at its position they stay in order
pub inserted_ordered : (es : List Entry) (k : ℕ) (x : Entry) → IsInOrder (entry_names es) →
    ((j : ℕ) (e : Entry) → slice_get es j ≡ Some e → k ≤ j → IsBefore x.weak.weak e.weak.weak) →
    ((j : ℕ) (e : Entry) → slice_get es j ≡ Some e → j < k → IsBefore e.weak.weak x.weak.weak) → IsInOrder (entry_names (take k es ++ x ∷ drop k es))
inserted_ordered [] zero x o after before = in_order_cons x.weak.weak [] o (λ n c. absurd (nothing_in n c))
inserted_ordered [] (suc k) x o after before = in_order_cons x.weak.weak [] o (λ n c. absurd (nothing_in n c))
inserted_ordered (y ∷ ys) zero x o after before = in_order_cons x.weak.weak (entry_names (y ∷ ys)) o (λ n c.
    let r = entry_of (y ∷ ys) n c in
    subst (λ (m : Name). IsBefore x.weak.weak m) r.3 (after r.0 r.1 r.2 (omega arith)))
inserted_ordered (y ∷ ys) (suc k) x o after before =
    in_order_cons y.weak.weak (entry_names (take k ys ++ x ∷ drop k ys))
    (inserted_ordered ys k x (in_order_rest y.weak.weak (entry_names ys) o) (λ j e at le. after (suc j) e at (omega (arith, le)))
    (λ j e at lt. before (suc j) e at (omega (arith, lt)))) (λ n c. elim (inserted_names ys k x n c) [
      | inl e ↦ subst (λ (m : Name). IsBefore y.weak.weak m) e (before 0 y refl (omega arith))
      | inr more ↦ in_order_first y.weak.weak (entry_names ys) o n more
    ])

-- and it joins the list
pub inserted_list : (es : List Entry) (k : ℕ) (x : Entry) → x.left ≡ false →
    listed (take k es ++ x ∷ drop k es) ≡ listed (take k es) ++ x.weak ∷ listed (drop k es)
inserted_list es k x in_ =
    listed_append (take k es) (x ∷ drop k es) ∙ ap (λ (l : List OldWeak). listed (take k es) ++ l)
    (listed_cons x (drop k es) ∙ ap (λ (b : Bool). cond (not b) (x.weak ∷ listed (drop k es)) (listed (drop k es))) in_)

listed_parts : (es : List Entry) (k : ℕ) → listed (take k es) ++ listed (drop k es) ≡ listed es
listed_parts es k = sym (listed_append (take k es) (drop k es)) ∙ ap listed (take-append-drop k es)

pub inserted_has : (es : List Entry) (k : ℕ) (x : Entry) (w : OldWeak) → x.left ≡ false →
    Contains (listed (take k es ++ x ∷ drop k es)) w ↔ (Contains (listed es) w ⊎ (w ≡ x.weak))
inserted_has es k x w in_ =
    let first : List OldWeak = listed (take k es) in
    let second : List OldWeak = listed (drop k es) in (
      λ c. elim (Contains-append_cases first (x.weak ∷ second) w (subst (λ (l : List OldWeak). Contains l w) (inserted_list es k x in_) c)) [
        | inl a ↦ inl (subst (λ (l : List OldWeak). Contains l w) (listed_parts es k) (Contains-append_left first second w a))
        | inr b ↦ elim (contains_cases x.weak second w b) [
          | inl e ↦ inr (sym e)
          | inr d ↦ inl (subst (λ (l : List OldWeak). Contains l w) (listed_parts es k) (Contains-append_right first second w d))
        ]
      ],
      λ h. rw (inserted_list es k x in_) (elim h [
        | inl c ↦ elim (Contains-append_cases first second w (subst (λ (l : List OldWeak). Contains l w) (sym (listed_parts es k)) c)) [
          | inl a ↦ Contains-append_left first (x.weak ∷ second) w a
          | inr b ↦ Contains-append_right first (x.weak ∷ second) w (contains_tail x.weak second w b)
        ]
        | inr e ↦ Contains-append_right first (x.weak ∷ second) w
            (rw e (contains_head x.weak second))
      ]),
    )

pub inserted_count : (es : List Entry) (k : ℕ) (x : Entry) → x.left ≡ false → length (listed (take k es ++ x ∷ drop k es)) ≡ length (listed es) + 1
inserted_count es k x in_ =
    let more = ap length (inserted_list es k x in_) ∙ length-append (listed (take k es)) (x.weak ∷ listed (drop k es)) in
    let all = ap length (sym (listed_parts es k)) ∙ length-append (listed (take k es)) (listed (drop k es)) in
    omega (arith, more, all)

-- the first entries with the next one
pub listed_more : (es : List Entry) (i : ℕ) (d : Entry) → i < length es →
    listed (take (i + 1) es) ≡ listed (take i es) ++ cond (not (get_or es i d).left) ((get_or es i d).weak ∷ []) []
listed_more es i d lt =
    cc (take_more es i d lt, listed_append (take i es) (get_or es i d ∷ []), listed_cons (get_or es i d) [])

-- an entry that left is used again
pub reused_has : (es : List Entry) (i : ℕ) (old x : Entry) (w : OldWeak) → slice_get es i ≡ Some old → old.left ≡ true → x.left ≡ false →
    Contains (listed (set es i x)) w ↔ (Contains (listed es) w ⊎ (w ≡ x.weak))
reused_has [] i old x w there out in_ = absurd (none-some old there)
reused_has (y ∷ ys) zero old x w there out in_ =
    let left : y.left ≡ true = ap (λ (e : Entry). e.left) (same_Some y old there) ∙ out in
    let was : listed (y ∷ ys) ≡ listed ys = listed_cons y ys ∙ ap (λ (b : Bool). cond (not b) (y.weak ∷ listed ys) (listed ys)) left in
    let now : listed (x ∷ ys) ≡ x.weak ∷ listed ys = listed_cons x ys ∙ ap (λ (b : Bool). cond (not b) (x.weak ∷ listed ys) (listed ys)) in_ in (
      λ c. elim (contains_cases x.weak (listed ys) w (subst (λ (l : List OldWeak). Contains l w) now c)) [
        | inl e ↦ inr (sym e)
        | inr d ↦ inl (subst (λ (l : List OldWeak). Contains l w) (sym was) d)
      ],
      λ h. rw now (elim h [
        | inl c ↦ contains_tail x.weak (listed ys) w (subst (λ (l : List OldWeak). Contains l w) was c)
        | inr e ↦ subst (λ (z : OldWeak). Contains (x.weak ∷ listed ys) z) (sym e) (contains_head x.weak (listed ys))
      ]),
    )
reused_has (y ∷ ys) (suc i) old x w there out in_ =
    let rest = reused_has ys i old x w there out in_ in
    rw (listed_cons y (set ys i x), listed_cons y ys) (by_test (not y.left) rest)
  where
    by_test : (b : Bool) → Contains (listed (set ys i x)) w ↔ (Contains (listed ys) w ⊎ (w ≡ x.weak)) →
        Contains (cond b (y.weak ∷ listed (set ys i x)) (listed (set ys i x))) w ↔ (Contains (cond b (y.weak ∷ listed ys) (listed ys)) w ⊎ (w ≡ x.weak))
    by_test true rest = (
      λ c. elim (contains_cases y.weak (listed (set ys i x)) w c) [
        | inl e ↦ inl (subst (λ (z : OldWeak). Contains (y.weak ∷ listed ys) z) e (contains_head y.weak (listed ys)))
        | inr d ↦ elim (rest.0 d) [ inl a ↦ inl (contains_tail y.weak (listed ys) w a) | inr e ↦ inr e ]
      ],
      λ h. elim h [
        | inl c ↦ elim (contains_cases y.weak (listed ys) w c) [
          | inl e ↦ subst (λ (z : OldWeak). Contains (y.weak ∷ listed (set ys i x)) z) e (contains_head y.weak (listed (set ys i x)))
          | inr d ↦ contains_tail y.weak (listed (set ys i x)) w (rest.1 (inl d))
        ]
        | inr e ↦ contains_tail y.weak (listed (set ys i x)) w (rest.1 (inr e))
      ],
    )
    by_test false rest = rest

-- the list stays when entries move together
and_same : (b : Bool) → (b && b) ≡ b
and_same true = refl
and_same false = refl

pub together_list : (es : List Entry) → listed (filter (λ (e : Entry). not e.left) es) ≡ listed es
together_list es = ap (λ (l : List Entry). map (λ (e : Entry). e.weak) l)
    (filter_twice (λ (e : Entry). not e.left) (λ (e : Entry). not e.left) es ∙
    filter_same (λ (e : Entry). not e.left && not e.left) (λ (e : Entry). not e.left) es (λ e c. and_same (not e.left)))

-- and their order
pub together_ordered : (es : List Entry) → IsInOrder (entry_names es) → IsInOrder (entry_names (filter (λ (e : Entry). not e.left) es))
together_ordered [] o = o
together_ordered (e ∷ es) o = by_test (not e.left) (together_ordered es (in_order_rest e.weak.weak (entry_names es) o))
  where
    by_test : (b : Bool) → IsInOrder (entry_names (filter (λ (x : Entry). not x.left) es)) →
        IsInOrder (entry_names (cond b (e ∷ filter (λ (x : Entry). not x.left) es) (filter (λ (x : Entry). not x.left) es)))
    by_test true rest = in_order_cons e.weak.weak (entry_names (filter (λ (x : Entry). not x.left) es)) rest (λ n c.
        let r = map_contains (λ (x : Entry). x.weak.weak) (filter (λ (x : Entry). not x.left) es) n c in
        let was = (filter_contains (λ (x : Entry). not x.left) es r.0 r.1).0 in
        in_order_first e.weak.weak (entry_names es) o n (rw r.2 (contains_map (λ (x : Entry). x.weak.weak) es r.0 was)))
    by_test false rest = rest

-- two weak pointers of the same name at the same address
pub same_old : (a b : OldWeak) → a.weak ≡ b.weak → a.at.0 ≡ b.at.0 → a ≡ b
same_old a b e f =
    let first : a ≡ record { weak = b.weak; at = a.at } = ap (λ (n : Name). let w : OldWeak = record { weak = n; at = a.at } in w) e in
    let at : a.at ≡ b.at = ap (λ (k : ℕ). let x : Address = record { 0 = k } in x) f in
    let second : ◌≡◌ {A = OldWeak} (record { weak = b.weak; at = a.at }) b = ap (λ (x : Address). let w : OldWeak = record { weak = b.weak; at = x } in w) at in
    first ∙ second

pub is_same_true : (a b : OldWeak) → is_same a b ≡ true → a ≡ b
is_same_true a b t =
    let one = and_both (eqb a.weak.maker b.weak.maker) (eqb a.weak.serial b.weak.serial && eqb a.at.0 b.at.0) t in
    let two = and_both (eqb a.weak.serial b.weak.serial) (eqb a.at.0 b.at.0) one.1 in
    same_old a b (same_name a.weak b.weak (eq_true a.weak.maker b.weak.maker one.0) (eq_true a.weak.serial b.weak.serial two.0)) (eq_true a.at.0 b.at.0 two.1)

pub is_same_itself : (a : OldWeak) → is_same a a ≡ true
is_same_itself a =
    and_from (eqb a.weak.maker a.weak.maker) (eqb a.weak.serial a.weak.serial && eqb a.at.0 a.at.0) (eq-eqb a.weak.maker a.weak.maker refl)
    (and_from (eqb a.weak.serial a.weak.serial) (eqb a.at.0 a.at.0) (eq-eqb a.weak.serial a.weak.serial refl) (eq-eqb a.at.0 a.at.0 refl))

-- the list without a weak pointer that it doesn't have
pub without_none : (w : OldWeak) (l : List OldWeak) → ((x : OldWeak) → Contains l x → x ≢ w) → without w l ≡ l
without_none w l h = filter_all (λ (x : OldWeak). not (is_same x w)) l (λ x c. ap not (false_of (is_same x w) (λ t. h x c (is_same_true x w t))))

-- the entry at a position has left: the list is without it
pub left_list : (es : List Entry) (i : ℕ) (e : Entry) → IsInOrder (entry_names es) → slice_get es i ≡ Some e →
    listed (set es i (record e { left = true })) ≡ without e.weak (listed es)
left_list [] i e o there = absurd (none-some e there)
left_list (x ∷ xs) zero e o there =
    let one : x ≡ e = same_Some x e there in
    let gone : listed (record e { left = true } ∷ xs) ≡ listed xs = listed_cons (record e { left = true }) xs in
    let others : without x.weak (listed xs) ≡ listed xs = without_none x.weak (listed xs) (λ y c same.
    let in_ = listed_in xs y c in
    not_before_itself x.weak.weak (subst (λ (n : Name). IsBefore x.weak.weak n) (ap (λ (w : OldWeak). w.weak) (in_.2 ∙ same))
    (in_order_first x.weak.weak (entry_names xs) o in_.0.weak.weak (contains_map (λ (z : Entry). z.weak.weak) xs in_.0 in_.1)))) in
    gone ∙ sym others ∙ sym (by_test (not x.left)) ∙ ap (λ (l : List OldWeak). without x.weak l) (sym (listed_cons x xs)) ∙
    ap (λ (y : Entry). without y.weak (listed (x ∷ xs))) one
  where
    by_test : (b : Bool) → without x.weak (cond b (x.weak ∷ listed xs) (listed xs)) ≡ without x.weak (listed xs)
    by_test true = ap (λ (b : Bool). cond (not b) (x.weak ∷ without x.weak (listed xs)) (without x.weak (listed xs))) (is_same_itself x.weak)
    by_test false = refl
left_list (x ∷ xs) (suc i) e o there =
    let rest = left_list xs i e (in_order_rest x.weak.weak (entry_names xs) o) there in
    let other : is_same x.weak e.weak ≡ false = false_of (is_same x.weak e.weak) (λ t.
    not_before_itself x.weak.weak (subst (λ (n : Name). IsBefore x.weak.weak n) (sym (ap (λ (w : OldWeak). w.weak) (is_same_true x.weak e.weak t)))
    (in_order_first x.weak.weak (entry_names xs) o e.weak.weak (contains_map (λ (z : Entry). z.weak.weak) xs e (contains_at xs i e there))))) in
    listed_cons x (set xs i (record e { left = true })) ∙ ap (λ (l : List OldWeak). cond (not x.left) (x.weak ∷ l) l) rest ∙ by_test (not x.left) other ∙
    ap (λ (l : List OldWeak). without e.weak l) (sym (listed_cons x xs))
  where
    by_test : (b : Bool) → is_same x.weak e.weak ≡ false → cond b (x.weak ∷ without e.weak (listed xs)) (without e.weak (listed xs)) ≡
        without e.weak (cond b (x.weak ∷ listed xs) (listed xs))
    by_test true other = sym (ap (λ (b : Bool). cond (not b) (x.weak ∷ without e.weak (listed xs)) (without e.weak (listed xs))) other)
    by_test false other = refl

-- another entry of the same name keeps the names
pub set_names : (es : List Entry) (i : ℕ) (e x : Entry) → slice_get es i ≡ Some e → x.weak.weak ≡ e.weak.weak → entry_names (set es i x) ≡ entry_names es
set_names [] i e x there same = refl
set_names (y ∷ ys) zero e x there same =
    ap (λ (n : Name). n ∷ entry_names ys) (same ∙ sym (ap (λ (z : Entry). z.weak.weak) (same_Some y e there)))
set_names (y ∷ ys) (suc i) e x there same = ap (λ (l : List Name). y.weak.weak ∷ l) (set_names ys i e x there same)

-- a name has only one entry
pub only_entry : (es : List Entry) (i : ℕ) (e b : Entry) → IsInOrder (entry_names es) → slice_get es i ≡ Some e → Contains es b →
    b.weak.weak ≡ e.weak.weak → b ≡ e
only_entry es i e b o there c same =
    let at = place_of es b c in
    elim (cases_order at.0 i) [
      | inl is ↦ same_Some b e (sym at.1 ∙ ap (λ k. slice_get es k) is ∙ there)
      | inr apart ↦ absurd (elim apart [
        | inl lt ↦ not_before_itself e.weak.weak (rw same at (before_at (entry_names es) at.0 i b.weak.weak e.weak.weak o (name_at es at.0 b at.1) (name_at es i e there) lt))
        | inr lt ↦ not_before_itself e.weak.weak (rw same at (before_at (entry_names es) i at.0 e.weak.weak b.weak.weak o (name_at es i e there) (name_at es at.0 b at.1) lt))
      ])
    ]

-- so a weak pointer of its name at another address isn't in the list
pub without_other : (es : List Entry) (i : ℕ) (e : Entry) (w : OldWeak) → IsInOrder (entry_names es) → slice_get es i ≡ Some e →
    e.weak.weak ≡ w.weak → e.weak.at.0 ≢ w.at.0 → without w (listed es) ≡ listed es
without_other es i e w o there named apart = without_none w (listed es) (λ x c same.
    let r = listed_in es x c in
    let is : r.0.weak ≡ w = r.2 ∙ same in
    let one = only_entry es i e r.0 o there r.1 (ap (λ (y : OldWeak). y.weak) is ∙ sym named) in
    apart (ap (λ (y : Entry). y.weak.at.0) (sym one) ∙ ap (λ (y : OldWeak). y.at.0) is))

-- and a weak pointer whose name no entry has isn't either
pub without_name : (es : List Entry) (w : OldWeak) → ((e : Entry) → Contains es e → e.weak.weak ≢ w.weak) → without w (listed es) ≡ listed es
without_name es w none = without_none w (listed es) (λ x c same.
    let r = listed_in es x c in
    none r.0 r.1 (ap (λ (y : OldWeak). y.weak) (r.2 ∙ same)))

-- the list is no longer than the entries
pub listed_few : (es : List Entry) → length (listed es) ≤ length es
listed_few [] = omega arith
listed_few (e ∷ es) = rw (listed_cons e es) (by_test (not e.left) (listed_few es))
  where
    by_test : (b : Bool) → length (listed es) ≤ length es → length (cond b (e.weak ∷ listed es) (listed es)) ≤ length (e ∷ es)
    by_test true rest = omega (arith, rest)
    by_test false rest = omega (arith, rest)

-- another entry at a position adds at most one
pub set_count : (es : List Entry) (i : ℕ) (x : Entry) → length (listed (set es i x)) ≤ length (listed es) + 1
set_count [] i x = omega arith
set_count (y ∷ ys) zero x = rw (listed_cons x ys, listed_cons y ys) (by_tests (not x.left) (not y.left))
  where
    by_tests : (b d : Bool) → length (cond b (x.weak ∷ listed ys) (listed ys)) ≤ length (cond d (y.weak ∷ listed ys) (listed ys)) + 1
    by_tests true true = omega arith
    by_tests true false = omega arith
    by_tests false true = omega arith
    by_tests false false = omega arith
set_count (y ∷ ys) (suc i) x = rw (listed_cons y (set ys i x), listed_cons y ys) (by_test (not y.left) (set_count ys i x))
  where
    by_test : (b : Bool) → length (listed (set ys i x)) ≤ length (listed ys) + 1 →
        length (cond b (y.weak ∷ listed (set ys i x)) (listed (set ys i x))) ≤ length (cond b (y.weak ∷ listed ys) (listed ys)) + 1
    by_test true rest = omega (arith, rest)
    by_test false rest = omega (arith, rest)

-- an entry of the list has room after the entries before it
pub listed_below : (es : List Entry) (i : ℕ) (d : Entry) → i < length es → (get_or es i d).left ≡ false →
    length (listed (take i es)) + 1 ≤ length (listed es)
listed_below es i d lt in_ =
    let more = ap length (listed_more es i d lt ∙ ap (λ (b : Bool). listed (take i es) ++ cond (not b) ((get_or es i d).weak ∷ []) []) in_) ∙
    length-append (listed (take i es)) ((get_or es i d).weak ∷ []) in
    let all = ap length (sym (listed_parts es (i + 1))) ∙ length-append (listed (take (i + 1) es)) (listed (drop (i + 1) es)) in
    omega (arith, more, all)

-- an entry once the dead have left
abbrev pub marked : List ℕ → Entry → Entry
marked words e = record { weak = e.weak; left = cond (is_alive words e.weak) e.left true }

pub marked_names : (words : List ℕ) (es : List Entry) → entry_names (map (marked words) es) ≡ entry_names es
marked_names words [] = refl
marked_names words (e ∷ es) = ap (λ (l : List Name). e.weak.weak ∷ l) (marked_names words es)

in_and_alive : (alive left : Bool) → not (cond alive left true) ≡ (not left && alive)
in_and_alive true true = refl
in_and_alive true false = refl
in_and_alive false true = refl
in_and_alive false false = refl

pub marked_listed : (words : List ℕ) (es : List Entry) → listed (map (marked words) es) ≡ alive_of words (listed es)
marked_listed words [] = refl
marked_listed words (e ∷ es) =
    let rest = marked_listed words es in
    let l : List OldWeak = alive_of words (listed es) in
    cc (listed_cons (marked words e) (map (marked words) es), rest, in_and_alive (is_alive words e.weak) e.left, filter_cond (not e.left) (is_alive words) e.weak (listed es), listed_cons e es)

pub marked_dead : (words : List ℕ) (x : Entry) → slice_index words (value_place x.weak.at.0) ≡ 0 → marked words x ≡ record { weak = x.weak; left = true }
marked_dead words x e =
    ap (λ (b : Bool). let y : Entry = record { weak = x.weak; left = cond (not b) x.left true } in y) (eq-eqb (slice_index words (value_place x.weak.at.0)) 0 e)

pub marked_alive : (words : List ℕ) (x : Entry) → slice_index words (value_place x.weak.at.0) ≢ 0 → marked words x ≡ x
marked_alive words x ne =
    ap (λ (b : Bool). let y : Entry = record { weak = x.weak; left = cond (not b) x.left true } in y) (ne_eqb (slice_index words (value_place x.weak.at.0)) 0 ne)

pub marked_left : (words : List ℕ) (x : Entry) → x.left ≡ true → marked words x ≡ x
marked_left words x e = ap (λ (b : Bool). let y : Entry = record { weak = x.weak; left = b } in y) (either (is_alive words x.weak) x.left e)
  where
    either : (b d : Bool) → d ≡ true → cond b d true ≡ d
    either true d e = refl
    either false d e = sym e

-- a further entry, in a pass over them: the rest are as before
rest_read : (f : Entry → Entry) (was : List Entry) (i : ℕ) (d : Entry) → get_or (map f (take i was) ++ drop i was) i d ≡ get_or was i d
rest_read f [] zero d = refl
rest_read f [] (suc i) d = refl
rest_read f (x ∷ xs) zero d = refl
rest_read f (x ∷ xs) (suc i) d = rest_read f xs i d

module _ (words : List ℕ) (was es : List Entry) (i : ℕ) (lt : i < length was) (size : length es ≡ length was)
    (done : es ≡ map (marked words) (take i was) ++ drop i was) where
  pub next_read : nth_entry es i ≡ nth_entry was i
  next_read = ap (λ (l : List Entry). nth_entry l i) done ∙ rest_read (marked words) was i no_entry

  -- the words of an entry in the list are read at its address
  pub next_listed : (nth_entry es i).left ≡ false → Contains (listed was) (nth_entry es i).weak
  next_listed in_ =
      rw next_read (listed_has was (nth_entry was i) (contains_at was i (nth_entry was i) (entry_there was i lt)) (ap (λ (e : Entry). e.left) (sym next_read) ∙ in_))

  pub marked_more : (y : Entry) → marked words (nth_entry es i) ≡ y → set es i y ≡ map (marked words) (take (i + 1) was) ++ drop (i + 1) was
  marked_more y is = rw is at (map_over_more (marked words) was es i (nth_entry es i) lt done (get_or_default es i no_entry (nth_entry es i) (omega (arith, lt, size))))

pub marked_all : (words : List ℕ) (was es : List Entry) (i : ℕ) → length was ≤ i → es ≡ map (marked words) (take i was) ++ drop i was →
    es ≡ map (marked words) was
marked_all words was es i le done =
    cc (done, take_all i was le, drop_all i was le, append-nil (map (marked words) was))

-- the entries before a position, if the entry just before it comes before a name
pub before_last : (es : List Entry) (place : ℕ) (x : Entry) (weak : Name) → IsInOrder (entry_names es) → slice_get es place ≡ Some x →
    IsBefore x.weak.weak weak → (j : ℕ) (e : Entry) → slice_get es j ≡ Some e → j < place + 1 → IsBefore e.weak.weak weak
before_last es place x weak o there b j e at lt = elim (cases_lt j place) [
  | inl less ↦ before_trans e.weak.weak x.weak.weak weak (before_at (entry_names es) j place e.weak.weak x.weak.weak o (name_at es j e at)
      (name_at es place x there) less) b
  | inr more ↦
      let same : j ≡ place = omega (arith, lt, more) in
      let here : e ≡ x = same_Some e x (sym at ∙ ap (λ k. slice_get es k) same ∙ there) in
      subst (λ (y : Entry). IsBefore y.weak.weak weak) (sym here) b
]

-- the entry of a name was found
module _ (es : List Entry) (i : ℕ) (weak : Name) (o : IsInOrder (entry_names es)) (f : IsEntryAt es i weak) where
  pub found_within : i < length es
  found_within = slice_get_within es i f.entry f.there

  pub found_is : (x : Entry) → x ≡ get_or es i x → x ≡ f.entry
  found_is x is = same_Some x f.entry (sym (read_entry es i x found_within is) ∙ f.there)

  found_named : (x : Entry) → x ≡ get_or es i x → x.weak.weak ≡ weak
  found_named x is = ap (λ (e : Entry). e.weak.weak) (found_is x is) ∙ f.named

  -- it lies at another address: the list is as before
  pub found_other : (x : Entry) (at : Address) → x ≡ get_or es i x → x.weak.at.0 ≢ at.0 →
      without (record { weak = weak; at = at }) (listed es) ≡ listed es
  found_other x at is apart =
      without_other es i x (record { weak = weak; at = at }) o (read_entry es i x found_within is) (found_named x is) apart

  -- it leaves: the names stay
  pub found_ordered : (m : Entry) → m ≡ get_or es i m → IsInOrder (entry_names (set es i (record { weak = m.weak; left = true })))
  found_ordered m is = subst IsInOrder (sym (set_names es i m (record { weak = m.weak; left = true }) (read_entry es i m found_within is) refl)) o

  -- and the list is without it
  pub found_leaves : (x m : Entry) (at : Address) → x ≡ get_or es i x → x.weak.at.0 ≡ at.0 → m ≡ get_or es i m →
      listed (set es i (record { weak = m.weak; left = true })) ≡ without (record { weak = weak; at = at }) (listed es)
  found_leaves x m at is here own =
      let w : OldWeak = record { weak = weak; at = at } in
      let one : m ≡ x = found_is m own ∙ sym (found_is x is) in
      let same : m.weak ≡ w = same_old m.weak w (found_named m own) (ap (λ (e : Entry). e.weak.at.0) one ∙ here) in
      left_list es i m o (read_entry es i m found_within own) ∙ ap (λ (y : OldWeak). without y (listed es)) same

-- the entry before a position has the name, and left: it is used again
module _ (es : List Entry) (k : ℕ) (weak : Name) (at : Address) (x : Entry) (o : IsInOrder (entry_names es)) (there : slice_get es k ≡ Some x)
    (named : x.weak.weak ≡ weak) (absent : (w : OldWeak) → Contains (listed es) w → w.weak ≢ weak) where
  reused_left : x.left ≡ true
  reused_left = by_left x.left refl
    where
      by_left : (b : Bool) → x.left ≡ b → x.left ≡ true
      by_left true e = e
      by_left false e = absurd (absent x.weak (listed_has es x (contains_at es k x there) e) named)

  pub reused_ordered : IsInOrder (entry_names (set es k (record { weak = record { weak = weak; at = at }; left = false })))
  reused_ordered = subst IsInOrder (sym (set_names es k x (record { weak = record { weak = weak; at = at }; left = false }) there (sym named))) o

  pub reused_list : (w : OldWeak) → Contains (listed (set es k (record { weak = record { weak = weak; at = at }; left = false }))) w ↔
      (Contains (listed es) w ⊎ (w ≡ record { weak = weak; at = at }))
  reused_list w = reused_has es k x (record { weak = record { weak = weak; at = at }; left = false }) w there reused_left refl
