-- Rows of the list in order: the effects of joining and leaving.
use Rattle.std.proofs.{Common.◌≡◌, Common.◌≢◌, Common.◌⊎◌, Common.◌↔◌, Common.◌+◌, Common.◌<◌, Common.◌≤◌, Common.ℕ, Common.zero, Common.suc, Common.Bool, Common.true, Common.false, Common.cond, Common.eqb, Common.eq-eqb, Common.ne_eqb, Common.slice_index, Common.List, Common.[], Common.◌∷◌, Common.◌++◌, Common.length, Common.length-append, Common.length-set, Common.take, Common.drop, Common.get_or, Common.append-nil, Common.set, Common.refl, Common.sym, Common.ap, Common.subst, Common.◌∙◌, Common.arith, Common.Some, Common.inl, Common.inr, lemmas.Grind.flat_map-append, lemmas.List.take_at, lemmas.List.Sums.count_by-le-length, lemmas.List.Sums.length-filter, lemmas.List.Sums.sum_by-append, lemmas.List.Sums.sum_by-cons, lemmas.Bool.and_from, lemmas.Bool.cases_eq, lemmas.Bool.cases_lt, lemmas.Option.none-some, lemmas.Option.same_Some, lemmas.Option.slice_get_within, lemmas.List.Elements.Contains-append_left, lemmas.List.Elements.Contains-append_right, lemmas.List.Elements.Contains-append_cases, lemmas.List.Elements.filter-append}
use Rattle.std.specs.{Prelude.Contains, Prelude.filter, Prelude.slice_get, Prelude.not, List.count_by}
use Rattle.nmgc_limits.specs.declared.mutators.TheConstants.{MAKERS}
use Rattle.nmgc_world_spec.specs.{declared.value.Name.Name, Reach.IsBefore, Reach.IsInOrder, laws.Orders.in_order_first, laws.Orders.in_order_rest, laws.Orders.in_order_cons}
use Rattle.nmgc_lists.specs.{laws.Items.contains_head, laws.Items.contains_tail, laws.Items.map_contains, laws.Items.filter_contains, laws.Items.item, laws.Items.nothing_in, laws.Items.slice_get-set_same, laws.Items.slice_get-set_other, laws.Truths.eq_true, laws.Truths.and_both, laws.Truths.false_of, laws.Truths.same_test, laws.Truths.unmarked}
use Rattle.nmgc_weak.specs.{declared.weaks.OldWeak.OldWeak, Weaks.names_of, Weaks.is_alive, Weaks.value_place, laws.Left.filter_all, laws.Left.filter_same, Rows.Row, Rows.is_same, Rows.without, Rows.list_of, Rows.row_of, Rows.AreRows, Rows.leaves_at, Rows.left_at}
use Rattle.nmgc_weak.proofs.{Finding.names_append, Entries.is_same_itself, Entries.is_same_true, Entries.same_old}

-- rows in order: names of an earlier row come before names of a later row
rows_before : (a b : Name) → row_of a < row_of b → IsBefore a b
rows_before a b lt =
    let less : a.maker < b.maker = omega (arith, lt) in
    inl less

in_order_append : (xs ys : List Name) → IsInOrder xs → IsInOrder ys → ((a b : Name) → Contains xs a → Contains ys b → IsBefore a b) → IsInOrder (xs ++ ys)
in_order_append [] ys o p before = p
in_order_append (x ∷ xs) ys o p before =
    in_order_cons x (xs ++ ys) (in_order_append xs ys (in_order_rest x xs o) p (λ a b c d. before a b (contains_tail x xs a c) d)) (λ n c.
    elim (Contains-append_cases xs ys n c) [
      | inl k ↦ in_order_first x xs o n k
      | inr k ↦ before x n (contains_head x xs) k
    ])

-- the row of a weak pointer of the list
pub in_row : (rows : List Row) (w : OldWeak) → Contains (list_of rows) w → (k : ℕ) × (row : Row) × (slice_get rows k ≡ Some row) × Contains row.list w
in_row [] w c = absurd (nothing_in w c)
in_row (r ∷ rows) w c = elim (Contains-append_cases r.list (list_of rows) w c) [
  | inl k ↦ (0, r, refl, k)
  | inr k ↦ let t = in_row rows w k in (suc t.0, t.1, t.2, t.3)
]

pub of_row : (rows : List Row) (k : ℕ) (row : Row) (w : OldWeak) → slice_get rows k ≡ Some row → Contains row.list w → Contains (list_of rows) w
of_row [] k row w there c = absurd (none-some row there)
of_row (r ∷ rows) zero row w there c = Contains-append_left r.list (list_of rows) w (subst (λ (x : Row). Contains x.list w) (sym (same_Some r row there)) c)
of_row (r ∷ rows) (suc k) row w there c = Contains-append_right r.list (list_of rows) w (of_row rows k row w there c)

-- each row from a number on has names of its own, in order
abbrev OwnFrom : ℕ → List Row → Type 0
OwnFrom n rows = (k : ℕ) (row : Row) → slice_get rows k ≡ Some row → IsInOrder (names_of row.list) ×
    ((w : OldWeak) → Contains row.list w → row_of w.weak ≡ n + k)

ordered_from : (n : ℕ) (rows : List Row) → OwnFrom n rows → IsInOrder (names_of (list_of rows))
ordered_from n [] h = tt
ordered_from n (r ∷ rows) h =
    subst IsInOrder (sym (names_append r.list (list_of rows)))
    (in_order_append (names_of r.list) (names_of (list_of rows)) (h 0 r refl).0
    (ordered_from (n + 1) rows (λ k row there. let t = h (suc k) row there in (t.0, λ w c. t.1 w c ∙ omega arith)))
    (λ a b c d.
    let x = map_contains (λ (w : OldWeak). w.weak) r.list a c in
    let y = map_contains (λ (w : OldWeak). w.weak) (list_of rows) b d in
    let t = in_row rows y.0 y.1 in
    let first : row_of x.0.weak ≡ n + 0 = (h 0 r refl).1 x.0 x.1 in
    let later : row_of y.0.weak ≡ n + suc t.0 = (h (suc t.0) t.1 t.2).1 y.0 t.3 in
    let less = rows_before x.0.weak y.0.weak (omega (arith, first, later)) in
    subst (λ (p : Name × Name). IsBefore p.0 p.1) (λ i. (sym x.2 i, sym y.2 i)) less))

pub rows_ordered : (rows : List Row) (room : ℕ) → AreRows rows room → IsInOrder (names_of (list_of rows))
rows_ordered rows room h = ordered_from 0 rows (λ k row there. (h.ordered k row there, λ w c. h.own k row w there c ∙ omega arith))

pub list_ordered : (rows : List Row) (room : ℕ) (list : List OldWeak) → AreRows rows room → list_of rows ≡ list → IsInOrder (names_of list)
list_ordered rows room list h is = subst (λ (l : List OldWeak). IsInOrder (names_of l)) is (rows_ordered rows room h)

-- a row changed: weak pointers that joined it joined the list
pub row_joined : (rows : List Row) (k : ℕ) (old new : Row) (x w : OldWeak) → slice_get rows k ≡ Some old →
    ((y : OldWeak) → Contains new.list y ↔ (Contains old.list y ⊎ (y ≡ x))) →
    Contains (list_of (set rows k new)) w ↔ (Contains (list_of rows) w ⊎ (w ≡ x))
row_joined [] k old new x w there h = absurd (none-some old there)
row_joined (r ∷ rows) zero old new x w there h =
    let is : r ≡ old = same_Some r old there in (
      λ c. elim (Contains-append_cases new.list (list_of rows) w c) [
        | inl a ↦ elim ((h w).0 a) [
          | inl b ↦ inl (Contains-append_left r.list (list_of rows) w (subst (λ (y : Row). Contains y.list w) (sym is) b))
          | inr e ↦ inr e
        ]
        | inr b ↦ inl (Contains-append_right r.list (list_of rows) w b)
      ],
      λ c. elim c [
        | inl a ↦ elim (Contains-append_cases r.list (list_of rows) w a) [
          | inl b ↦ Contains-append_left new.list (list_of rows) w ((h w).1 (inl (subst (λ (y : Row). Contains y.list w) is b)))
          | inr b ↦ Contains-append_right new.list (list_of rows) w b
        ]
        | inr e ↦ Contains-append_left new.list (list_of rows) w ((h w).1 (inr e))
      ],
    )
row_joined (r ∷ rows) (suc k) old new x w there h =
    let t = row_joined rows k old new x w there h in (
      λ c. elim (Contains-append_cases r.list (list_of (set rows k new)) w c) [
        | inl a ↦ inl (Contains-append_left r.list (list_of rows) w a)
        | inr b ↦ elim (t.0 b) [
          | inl d ↦ inl (Contains-append_right r.list (list_of rows) w d)
          | inr e ↦ inr e
        ]
      ],
      λ c. elim c [
        | inl a ↦ elim (Contains-append_cases r.list (list_of rows) w a) [
          | inl b ↦ Contains-append_left r.list (list_of (set rows k new)) w b
          | inr b ↦ Contains-append_right r.list (list_of (set rows k new)) w (t.1 (inl b))
        ]
        | inr e ↦ Contains-append_right r.list (list_of (set rows k new)) w (t.1 (inr e))
      ],
    )

-- one row is filtered, and all items of the other rows pass
pub row_filtered : (p : OldWeak → Bool) (rows : List Row) (k : ℕ) (old new : Row) → slice_get rows k ≡ Some old → new.list ≡ filter p old.list →
    ((j : ℕ) (row : Row) (w : OldWeak) → slice_get rows j ≡ Some row → j ≢ k → Contains row.list w → p w ≡ true) →
    list_of (set rows k new) ≡ filter p (list_of rows)
row_filtered p [] k old new there is pass = absurd (none-some old there)
row_filtered p (r ∷ rows) zero old new there is pass =
    let one : r ≡ old = same_Some r old there in
    let rest : filter p (list_of rows) ≡ list_of rows = filter_all p (list_of rows) (λ w c.
    let t = in_row rows w c in pass (suc t.0) t.1 w t.2 (λ e. absurd (omega (arith, e))) t.3) in
    ap (λ (l : List OldWeak). l ++ list_of rows) (is ∙ ap (λ (y : Row). filter p y.list) (sym one)) ∙
    ap (λ (l : List OldWeak). filter p r.list ++ l) (sym rest) ∙ sym (filter-append p r.list (list_of rows))
row_filtered p (r ∷ rows) (suc k) old new there is pass =
    let own : filter p r.list ≡ r.list = filter_all p r.list (λ w c. pass 0 r w refl (λ e. absurd (omega (arith, e))) c) in
    let rest = row_filtered p rows k old new there is (λ j row w at ne c. pass (suc j) row w at (λ e. ne (omega (arith, e))) c) in
    ap (λ (l : List OldWeak). r.list ++ l) rest ∙ ap (λ (l : List OldWeak). l ++ filter p (list_of rows)) (sym own) ∙
    sym (filter-append p r.list (list_of rows))

-- each row is filtered
pub rows_filtered : (p : OldWeak → Bool) (rows later : List Row) → length later ≡ length rows →
    ((k : ℕ) (old new : Row) → slice_get rows k ≡ Some old → slice_get later k ≡ Some new → new.list ≡ filter p old.list) →
    list_of later ≡ filter p (list_of rows)
rows_filtered p [] [] same h = refl
rows_filtered p [] (n ∷ later) same h = absurd (omega (arith, same))
rows_filtered p (r ∷ rows) [] same h = absurd (omega (arith, same))
rows_filtered p (r ∷ rows) (n ∷ later) same h =
    ap (λ (l : List OldWeak). l ++ list_of later) (h 0 r n refl refl) ∙
    ap (λ (l : List OldWeak). filter p r.list ++ l) (rows_filtered p rows later (omega (arith, same)) (λ k. h (suc k))) ∙
    sym (filter-append p r.list (list_of rows))

-- a row was replaced: the number in the list
pub row_lengths : (rows : List Row) (k : ℕ) (old new : Row) → slice_get rows k ≡ Some old →
    length (list_of (set rows k new)) + length old.list ≡ length (list_of rows) + length new.list
row_lengths [] k old new there = absurd (none-some old there)
row_lengths (r ∷ rows) zero old new there =
    let same : length r.list ≡ length old.list = ap (λ (y : Row). length y.list) (same_Some r old there) in
    let after = length-append new.list (list_of rows) in
    let before = length-append r.list (list_of rows) in
    omega (arith, same, after, before)
row_lengths (r ∷ rows) (suc k) old new there =
    let rest = row_lengths rows k old new there in
    let after = length-append r.list (list_of (set rows k new)) in
    let before = length-append r.list (list_of rows) in
    omega (arith, rest, after, before)

-- and the rows are still rows, with the same room or less
pub set_rows : (rows : List Row) (room less k : ℕ) (old new : Row) → AreRows rows room → slice_get rows k ≡ Some old → less ≤ room →
    ((w : OldWeak) → Contains new.list w → row_of w.weak ≡ k) → IsInOrder (names_of new.list) → less ≤ new.spare → AreRows (set rows k new) less
set_rows rows room less k old new h there le own ordered spare = record {
  own = λ j row w at c. elim (at_or_other j row at) [
    | inl e ↦ own w (subst (λ (y : Row). Contains y.list w) e.1 c) ∙ sym e.0
    | inr other ↦ h.own j row w other c
  ];
  ordered = λ j row at. elim (at_or_other j row at) [
    | inl e ↦ subst (λ (y : Row). IsInOrder (names_of y.list)) (sym e.1) ordered
    | inr other ↦ h.ordered j row other
  ];
  spare = λ j row at. elim (at_or_other j row at) [
    | inl e ↦ subst (λ (y : Row). less ≤ y.spare) (sym e.1) spare
    | inr other ↦ let most = h.spare j row other in omega (arith, most, le)
  ];
  all = λ some.
      let count = length-set rows k new in
      let all = h.all (omega (arith, some, le)) in
      omega (arith, count, all);
}
  where
    at_or_other : (j : ℕ) (row : Row) → slice_get (set rows k new) j ≡ Some row → ((j ≡ k) × (row ≡ new)) ⊎ (slice_get rows j ≡ Some row)
    at_or_other j row at = elim (cases_eq j k) [
      | inl same ↦ inl (
        same,
        same_Some row new (sym at ∙ ap (λ i. slice_get (set rows k new) i) same ∙ slice_get-set_same rows k new (slice_get_within rows k old there)),
      )
      | inr other ↦ inr (sym (slice_get-set_other rows k j new other) ∙ at)
    ]

-- a weak pointer joins its row
pub joined_rows : (rows : List Row) (room k : ℕ) (old new : Row) (x : OldWeak) → AreRows rows (room + 1) → slice_get rows k ≡ Some old → row_of x.weak ≡ k →
    ((y : OldWeak) → Contains new.list y ↔ (Contains old.list y ⊎ (y ≡ x))) → IsInOrder (names_of new.list) → old.spare ≤ new.spare + 1 →
    AreRows (set rows k new) room
joined_rows rows room k old new x h there number joins ordered spare =
    set_rows rows (room + 1) room k old new h there (omega arith) (λ w c. elim ((joins w).0 c) [
      | inl was ↦ h.own k old w there was
      | inr e ↦ ap (λ (y : OldWeak). row_of y.weak) e ∙ number
    ]) ordered (let most = h.spare k old there in omega (arith, most, spare))

-- a weak pointer leaves its row
pub left_rows : (p : OldWeak → Bool) (rows : List Row) (room k : ℕ) (old new : Row) → AreRows rows room → slice_get rows k ≡ Some old →
    new.list ≡ filter p old.list → IsInOrder (names_of new.list) → old.spare ≤ new.spare → AreRows (set rows k new) room
left_rows p rows room k old new h there is ordered spare =
    set_rows rows room room k old new h there (omega arith) (λ w c. h.own k old w there (filter_contains p old.list w
    (subst (λ (l : List OldWeak). Contains l w) is c)).0) ordered (let most = h.spare k old there in omega (arith, most, spare))

-- some leave each row
pub all_left : (p : OldWeak → Bool) (rows later : List Row) (room : ℕ) → AreRows rows room → length later ≡ length rows →
    ((k : ℕ) (old new : Row) → slice_get rows k ≡ Some old → slice_get later k ≡ Some new →
    (new.list ≡ filter p old.list) × IsInOrder (names_of new.list) × (old.spare ≤ new.spare)) → AreRows later room
all_left p rows later room h same each = record {
  own = λ k row w at c.
      let old = row_there k row at in
      h.own k old.0 w old.1 (filter_contains p old.0.list w (subst (λ (l : List OldWeak). Contains l w) (each k old.0 row old.1 at).0 c)).0;
  ordered = λ k row at. let old = row_there k row at in (each k old.0 row old.1 at).1;
  spare = λ k row at.
      let old = row_there k row at in
      let most = h.spare k old.0 old.1 in
      let more = (each k old.0 row old.1 at).2 in
      omega (arith, most, more);
  all = λ some.
      let all = h.all some in
      omega (arith, same, all);
}
  where
    row_there : (k : ℕ) (row : Row) → slice_get later k ≡ Some row → (old : Row) × (slice_get rows k ≡ Some old)
    row_there k row at = item rows k (let within = slice_get_within later k row at in omega (arith, within, same))

-- a filtered list is no longer
pub filtered_few : (p : OldWeak → Bool) (l : List OldWeak) → length (filter p l) ≤ length l
filtered_few p l =
    let counted : length (filter p l) ≡ count_by p l = length-filter p l in
    let most : count_by p l ≤ length l = count_by-le-length p l in
    omega (arith, counted, most)

-- only a weak pointer with value word 0 leaves at an address
pub none_leaves : (words : List ℕ) (at : ℕ) (list : List OldWeak) →
    ((w : OldWeak) → Contains list w → w.at.0 ≡ at → is_alive words w ≡ false → ⊥) → left_at words at list ≡ list
none_leaves words at list none = filter_all (λ (w : OldWeak). not (leaves_at words at w)) list (λ w c. ap not (false_of (leaves_at words at w) (λ t.
    let both = and_both (eqb w.at.0 at) (not (is_alive words w)) t in
    none w c (eq_true w.at.0 at both.0) (unmarked (is_alive words w) both.1))))

-- if the value word isn't 0, the weak pointer there is alive
pub alive_at : (words : List ℕ) (at : ℕ) (w : OldWeak) → slice_index words (value_place at) ≢ 0 → w.at.0 ≡ at → is_alive words w ≡ false → ⊥
alive_at words at w some is dead =
    let alive : is_alive words w ≡ true = ap not (ne_eqb (slice_index words (value_place w.at.0)) 0 (λ e. some (ap (λ k. slice_index words (value_place k)) (sym is) ∙ e))) in
    let bad : true ≡ false = sym alive ∙ dead in
    cc

-- if it is 0, the weak pointer of the name there leaves
pub leaves_is : (words : List ℕ) (at : ℕ) (n : Name) (w : OldWeak) → slice_index words (value_place at) ≡ 0 → (w.at.0 ≡ at → w.weak ≡ n) →
    leaves_at words at w ≡ is_same w (record { weak = n; at = record { 0 = at } })
leaves_is words at n w zero_ named =
    let x : OldWeak = record { weak = n; at = record { 0 = at } } in
    same_test (leaves_at words at w) (is_same w x) (λ t.
    let here : w.at.0 ≡ at = eq_true w.at.0 at (and_both (eqb w.at.0 at) (not (is_alive words w)) t).0 in
    let same : w ≡ x = same_old w x (named here) here in
    ap (λ (y : OldWeak). is_same y x) same ∙ is_same_itself x) (λ t.
    let here : w.at.0 ≡ at = ap (λ (y : OldWeak). y.at.0) (is_same_true w x t) in
    let dead : is_alive words w ≡ false = ap not (eq-eqb (slice_index words (value_place w.at.0)) 0 (ap (λ k. slice_index words (value_place k)) here ∙ zero_)) in
    and_from (eqb w.at.0 at) (not (is_alive words w)) (eq-eqb w.at.0 at here) (ap not dead))

module _ (words : List ℕ) (at : ℕ) (n : Name) (rows : List Row) (room : ℕ) (h : AreRows rows room) (zero_ : slice_index words (value_place at) ≡ 0)
    (named : (w : OldWeak) → Contains (list_of rows) w → w.at.0 ≡ at → w.weak ≡ n) where
  -- it leaves its row, and so the list
  pub left_row : (old new : Row) → slice_get rows (row_of n) ≡ Some old → new.list ≡ without (record { weak = n; at = record { 0 = at } }) old.list →
      list_of (set rows (row_of n) new) ≡ left_at words at (list_of rows)
  left_row old new there is = row_filtered (λ (w : OldWeak). not (leaves_at words at w)) rows (row_of n) old new there
      (is ∙ sym (filter_same (λ (w : OldWeak). not (leaves_at words at w)) (λ (w : OldWeak). not (is_same w (record { weak = n; at = record { 0 = at } }))) old.list
      (λ w c. ap not (leaves_is words at n w zero_ (named w (of_row rows (row_of n) old w there c))))))
      (λ j row w got other c. ap not (false_of (leaves_at words at w) (λ t.
      let here : w.at.0 ≡ at = eq_true w.at.0 at (and_both (eqb w.at.0 at) (not (is_alive words w)) t).0 in
      other (sym (h.own j row w got c) ∙ ap row_of (named w (of_row rows j row w got c) here)))))

  -- if there is no such row, no weak pointer has that name
  pub no_row : length rows ≤ row_of n → left_at words at (list_of rows) ≡ list_of rows
  no_row past = none_leaves words at (list_of rows) (λ w c here dead.
      let r = in_row rows w c in
      let number : row_of n ≡ r.0 = ap row_of (sym (named w c here)) ∙ h.own r.0 r.1 w r.2 r.3 in
      let within = slice_get_within rows r.0 r.1 r.2 in
      omega (arith, past, number, within))

-- all of a maker's are in one row
none_counted : (p : OldWeak → Bool) (l : List OldWeak) → ((w : OldWeak) → Contains l w → p w ≡ true → ⊥) → count_by p l ≡ 0
none_counted p [] none = refl
none_counted p (x ∷ xs) none =
    let out : p x ≡ false = false_of (p x) (λ t. none x (contains_head x xs) t) in
    let rest = none_counted p xs (λ w c. none w (contains_tail x xs w c)) in
    let sum : count_by p (x ∷ xs) ≡ cond (p x) 1 0 + count_by p xs = sum_by-cons (λ (y : OldWeak). cond (p y) 1 0) x xs in
    let none_of : ◌≡◌ {A = ℕ} (cond (p x) 1 0) 0 = ap (λ (b : Bool). cond {A = ℕ} b 1 0) out in
    omega (arith, sum, none_of, rest)

pub counted_in : (p : OldWeak → Bool) (rows : List Row) (k : ℕ) (row : Row) → slice_get rows k ≡ Some row →
    ((j : ℕ) (r : Row) (w : OldWeak) → slice_get rows j ≡ Some r → Contains r.list w → p w ≡ true → j ≡ k) →
    count_by p (list_of rows) ≤ length row.list
counted_in p [] k row there own = absurd (none-some row there)
counted_in p (r ∷ rows) zero row there own =
    let sum : count_by p (r.list ++ list_of rows) ≡ count_by p r.list + count_by p (list_of rows) =
    sum_by-append (λ (y : OldWeak). cond (p y) 1 0) r.list (list_of rows) in
    let rest = none_counted p (list_of rows) (λ w c t. let x = in_row rows w c in let bad = own (suc x.0) x.1 w x.2 x.3 t in omega (arith, bad)) in
    let most = count_by-le-length p r.list in
    let same : length r.list ≡ length row.list = ap (λ (y : Row). length y.list) (same_Some r row there) in
    omega (arith, sum, rest, most, same)
counted_in p (r ∷ rows) (suc k) row there own =
    let sum : count_by p (r.list ++ list_of rows) ≡ count_by p r.list + count_by p (list_of rows) =
    sum_by-append (λ (y : OldWeak). cond (p y) 1 0) r.list (list_of rows) in
    let first = none_counted p r.list (λ w c t. let bad = own 0 r w refl c t in omega (arith, bad)) in
    let rest = counted_in p rows k row there (λ j x w at c t. let is = own (suc j) x w at c t in omega (arith, is)) in
    omega (arith, sum, first, rest)

-- if there is no such row, no weak pointer has that maker
pub counted_none : (p : OldWeak → Bool) (rows : List Row) (k : ℕ) → length rows ≤ k →
    ((j : ℕ) (r : Row) (w : OldWeak) → slice_get rows j ≡ Some r → Contains r.list w → p w ≡ true → j ≡ k) → count_by p (list_of rows) ≡ 0
counted_none p rows k past own = none_counted p (list_of rows) (λ w c t.
    let x = in_row rows w c in
    let is = own x.0 x.1 w x.2 x.3 t in
    let within = slice_get_within rows x.0 x.1 x.2 in
    omega (arith, past, is, within))

-- a further row was changed, in a pass over them
pub one_done : (P : Row → Row → Type 0) (was now : List Row) (n : ℕ) (m next : Row) → n < length now → slice_get was n ≡ Some m → P m next →
    ((k : ℕ) (old new : Row) → k < n → slice_get was k ≡ Some old → slice_get now k ≡ Some new → P old new) → (k : ℕ) (old new : Row) → k < n + 1 →
    slice_get was k ≡ Some old → slice_get (set now n next) k ≡ Some new → P old new
one_done P was now n m next lt there own before k old new less a b = elim (cases_eq k n) [
  | inl same ↦
      let first : old ≡ m = same_Some old m (sym a ∙ ap (λ i. slice_get was i) same ∙ there) in
      let second : new ≡ next = same_Some new next (sym b ∙ ap (λ i. slice_get (set now n next) i) same ∙ slice_get-set_same now n next lt) in
      subst (λ (y : Row). P y new) (sym first) (subst (λ (y : Row). P m y) (sym second) own)
  | inr other ↦ before k old new (omega (arith, less, other)) a (sym (slice_get-set_other now n k next other) ∙ b)
]

pub rest_stays : (was now : List Row) (n : ℕ) (next : Row) → ((k : ℕ) → n ≤ k → slice_get now k ≡ slice_get was k) → (k : ℕ) → n + 1 ≤ k →
    slice_get (set now n next) k ≡ slice_get was k
rest_stays was now n next before k le = slice_get-set_other now n k next (λ e. absurd (omega (arith, le, e))) ∙ before k (omega (arith, le))

-- an empty row joins
pub empty_joins : (rows : List Row) (r : Row) → r.list ≡ [] → list_of (rows ++ r ∷ []) ≡ list_of rows
empty_joins rows r none =
    flat_map-append (λ (x : Row). x.list) rows (r ∷ []) ∙ ap (λ (l : List OldWeak). list_of rows ++ l) (append-nil r.list ∙ none) ∙ append-nil (list_of rows)

-- a row among some and a further one
pub last_or_before : (rows : List Row) (last : Row) (k : ℕ) (row : Row) → slice_get (rows ++ last ∷ []) k ≡ Some row →
    (slice_get rows k ≡ Some row) ⊎ (row ≡ last)
last_or_before [] last zero row at = inr (sym (same_Some last row at))
last_or_before [] last (suc k) row at = absurd (none-some row at)
last_or_before (r ∷ rows) last zero row at = inl at
last_or_before (r ∷ rows) last (suc k) row at = last_or_before rows last k row at

-- the first rows and the next one have at most the whole list
pub rows_part : (rows : List Row) (i : ℕ) (d : Row) → i < length rows →
    length (list_of (take i rows)) + length (get_or rows i d).list ≤ length (list_of rows)
rows_part [] i d lt = absurd (omega arith)
rows_part (r ∷ rows) zero d lt =
    let all = length-append r.list (list_of rows) in
    omega (arith, all)
rows_part (r ∷ rows) (suc i) d lt =
    let rest = rows_part rows i d (omega arith) in
    let first = length-append r.list (list_of (take i rows)) in
    let all = length-append r.list (list_of rows) in
    omega (arith, rest, first, all)

-- with further empty rows they are still rows
pub made_rows : (old new : List Row) (room : ℕ) → AreRows old room → length old ≤ length new →
    ((k : ℕ) (row : Row) → slice_get new k ≡ Some row → (slice_get old k ≡ Some row) ⊎ ((row.list ≡ []) × (length old < MAKERS + 1))) →
    AreRows new room
made_rows old new room h more each = record {
  own = λ k row w at c. elim (each k row at) [
    | inl was ↦ h.own k row w was c
    | inr fresh ↦ absurd (nothing_in w (subst (λ (l : List OldWeak). Contains l w) fresh.0 c))
  ];
  ordered = λ k row at. elim (each k row at) [
    | inl was ↦ h.ordered k row was
    | inr fresh ↦ subst (λ (l : List OldWeak). IsInOrder (names_of l)) (sym fresh.0) tt
  ];
  spare = λ k row at. elim (each k row at) [
    | inl was ↦ h.spare k row was
    | inr fresh ↦
        let few = fresh.1 in
        elim (cases_lt 0 room) [
          | inl some_ ↦ absurd (let all = h.all some_ in omega (arith, all, few))
          | inr none ↦ omega (arith, none)
        ]
  ];
  all = λ some_.
      let all = h.all some_ in
      omega (arith, all, more);
}

-- rows that were written back, after some weak pointers left
pub record AreWritten (p : OldWeak → Bool) (old new : List Row) (room : ℕ) : Type 0 where
  pub rows : AreRows new room
  pub list : list_of new ≡ filter p (list_of old)

module _ (rows slice new : List Row) (len room : ℕ) (h : AreRows rows room) (same : slice ≡ rows) (all : length slice ≡ len) (count : length new ≡ length slice) where
  -- the rows have the contents that were written to a slice of them
  pub written : take len (new ++ drop (length new) rows) ≡ new
  written = take_at new (drop (length new) rows) len (count ∙ all)

  pub rows_left : (p : OldWeak → Bool) → ((k : ℕ) (old now : Row) → slice_get slice k ≡ Some old → slice_get new k ≡ Some now →
      (now.list ≡ filter p old.list) × IsInOrder (names_of now.list) × (old.spare ≤ now.spare)) →
      AreWritten p rows (take len (new ++ drop (length new) rows)) room
  rows_left p each =
      let there : length new ≡ length rows = count ∙ ap length same in
      let one = λ (k : ℕ) (old now : Row) (e : slice_get rows k ≡ Some old) (f : slice_get new k ≡ Some now).
      each k old now (ap (λ (l : List Row). slice_get l k) same ∙ e) f in
      subst (λ (l : List Row). AreWritten p rows l room) (sym written) (record {
        rows = all_left p rows new room h there one;
        list = rows_filtered p rows new there (λ k old now e f. (one k old now e f).0);
      })

  -- each got room, and none left
  pub rows_reserved : ((k : ℕ) (old now : Row) → slice_get slice k ≡ Some old → slice_get new k ≡ Some now →
      (now.list ≡ old.list) × (old.spare ≤ now.spare)) → AreRows (take len (new ++ drop (length new) rows)) room ×
      (list_of (take len (new ++ drop (length new) rows)) ≡ list_of rows)
  rows_reserved each =
      let all_stay = rows_left (λ (w : OldWeak). true) (λ k old now e f.
      let own = each k old now e f in
      let was : slice_get rows k ≡ Some old = ap (λ (l : List Row). slice_get l k) (sym same) ∙ e in (
        own.0 ∙ sym (filter_all (λ (w : OldWeak). true) old.list (λ w c. refl)),
        subst (λ (l : List OldWeak). IsInOrder (names_of l)) (sym own.0) (h.ordered k old was),
        own.1,
      )) in
      (all_stay.rows, all_stay.list ∙ filter_all (λ (w : OldWeak). true) (list_of rows) (λ w c. refl))

  -- with room for `more` in each
  pub rows_roomy : (more : ℕ) → ((k : ℕ) (old now : Row) → slice_get slice k ≡ Some old → slice_get new k ≡ Some now →
      (now.list ≡ old.list) × (old.spare ≤ now.spare)) → ((k : ℕ) (row : Row) → slice_get new k ≡ Some row → more ≤ row.spare) →
      MAKERS + 1 ≤ len → AreRows (take len (new ++ drop (length new) rows)) more
  rows_roomy more each spare enough =
      let w = (rows_reserved each).0 in
      subst (λ (l : List Row). AreRows l more) (sym written) (record {
        own = λ k row x at c. w.own k row x (ap (λ (l : List Row). slice_get l k) written ∙ at) c;
        ordered = λ k row at. w.ordered k row (ap (λ (l : List Row). slice_get l k) written ∙ at);
        spare = spare;
        all = λ some_. let long = count ∙ all in omega (arith, long, enough);
      })
