-- The debts of a cycle, as lines make objects due and as the collector gets them.
use Rattle.nmgc_field_checker.proofs.Vocabulary.{Accounts, AddsDebt, All, AreAccounts, Contains, Contains-append_cases, Contains-append_left, Contains-append_right, Contains-push, Contains-push_cases, FieldDebt, IsHad, IsNewDebt, IsSameAccounts, List, None, Option, OwesAll, OwesObject, Some, [], ap, cases_Bool, cases_eq, contains_filter, contains_one, false, false_of, filter_contains, get_or-set_other, get_or-set_same, has_number, inl, inr, is_unpaid, length, length-set, not, nothing_in, one_is, or_first, or_second, refl, slice_index_or, slice_set, some_is, subst, sym, true, unmarked, unpaid, ℕ, ◌++◌, ◌<◌, ◌||◌, ◌∙◌, ◌∷◌, ◌≡◌, ◌⊎◌}
use Rattle.nmgc_field_checker.specs.Stores as stores
use Rattle.nmgc_field_checker.proofs.GoneLaws.{contains_has, has_contains}

-- the same debts and actors are accounts too
pub same_accounts : (IsPaid : ℕ → Type 0) (bound : ℕ) (a b : Accounts) → IsSameAccounts a b → AreAccounts IsPaid bound a → AreAccounts IsPaid bound b
same_accounts IsPaid bound a b same are = record {
  count = ap (λ (l : List (Option ℕ)). length l) same.latest ∙ are.count;
  below = λ d c. are.below d (subst (λ (l : List FieldDebt). Contains l d) same.debts c);
  owes = λ object number e.
      subst (λ (l : List FieldDebt). IsPaid object ⊎ ((x : FieldDebt) × Contains l x × (x.object ≡ object) × (x.number ≡ number))) (sym same.debts)
      (are.owes object number (subst (λ (l : List (Option ℕ)). slice_index_or l object None ≡ Some number) same.latest e));
}

-- more objects are paid
pub more_paid : (P Q : ℕ → Type 0) (bound : ℕ) (a : Accounts) → ((object : ℕ) → P object → Q object) → AreAccounts P bound a → AreAccounts Q bound a
more_paid P Q bound a more are = record {
  count = are.count;
  below = are.below;
  owes = λ object number e. elim (are.owes object number e) [ inl paid ↦ inl (more object paid) | inr o ↦ inr o ];
}

-- a debt is added, or its actor owes the object already
module _ (IsPaid : ℕ → Type 0) (bound : ℕ) (a b : Accounts) (d : FieldDebt) (lt : d.object < bound) (are : AreAccounts IsPaid bound a) where
  owing : b.debts.items ≡ a.debts.items ++ d ∷ [] → b.latest ≡ slice_set a.latest d.object (Some d.number) → (object number : ℕ) →
      slice_index_or b.latest object None ≡ Some number → IsPaid object ⊎ OwesObject b object number
  owing items latest object number e =
      let f : slice_index_or (slice_set a.latest d.object (Some d.number)) object None ≡ Some number =
      subst (λ (l : List (Option ℕ)). slice_index_or l object None ≡ Some number) latest e in
      elim (cases_eq object d.object) [
        | inl same ↦
            let g : slice_index_or (slice_set a.latest d.object (Some d.number)) d.object None ≡ Some number =
            subst (λ (k : ℕ). slice_index_or (slice_set a.latest d.object (Some d.number)) k None ≡ Some number) same f in
            let within : d.object < length a.latest = subst (λ (n : ℕ). d.object < n) (sym are.count) lt in
            inr (
              d,
              subst (λ (l : List FieldDebt). Contains l d) (sym items) (Contains-push a.debts.items d),
              sym same,
              some_is d.number number (sym (get_or-set_same a.latest d.object (Some d.number) None within) ∙ g),
            )
        | inr ne ↦ elim (are.owes object number (sym (get_or-set_other a.latest d.object object (Some d.number) None ne) ∙ f)) [
          | inl paid ↦ inl paid
          | inr o ↦ inr (
            o.0,
            subst (λ (l : List FieldDebt). Contains l o.0) (sym items) (Contains-append_left a.debts.items (d ∷ []) o.0 o.1),
            o.2,
            o.3,
          )
        ]
      ]

  pub still_accounts : AddsDebt d a b → AreAccounts IsPaid bound b
  still_accounts (stores.owed o same) = same_accounts IsPaid bound a b same are
  still_accounts (stores.added items latest) = record {
    count = ap (λ (l : List (Option ℕ)). length l) latest ∙ length-set a.latest d.object (Some d.number) ∙ are.count;
    below = λ other c. elim (Contains-push_cases a.debts.items d other (subst (λ (l : List FieldDebt). Contains l other) items c)) [
      | inl old ↦ are.below other old
      | inr same ↦ subst (λ (x : FieldDebt). x.object < bound) same lt
    ];
    owes = owing items latest;
  }

  pub owes_now : AddsDebt d a b → IsPaid d.object ⊎ OwesObject b d.object d.number
  owes_now (stores.owed o same) = subst (λ (l : List FieldDebt). IsPaid d.object ⊎ ((x : FieldDebt) × Contains l x × (x.object ≡ d.object) × (x.number ≡ d.number)))
      (sym same.debts) (are.owes d.object d.number o)
  owes_now (stores.added items latest) =
      inr (d, subst (λ (l : List FieldDebt). Contains l d) (sym items) (Contains-push a.debts.items d), refl, refl)

old_debts : (a b : Accounts) (d : FieldDebt) → AddsDebt d a b → (other : FieldDebt) → Contains a.debts.items other → Contains b.debts.items other
old_debts a b d (stores.owed o same) other c = subst (λ (l : List FieldDebt). Contains l other) (sym same.debts) c
old_debts a b d (stores.added items latest) other c =
    subst (λ (l : List FieldDebt). Contains l other) (sym items) (Contains-append_left a.debts.items (d ∷ []) other c)

new_debts : (a b : Accounts) (d : FieldDebt) → AddsDebt d a b → (other : FieldDebt) → Contains b.debts.items other →
    Contains a.debts.items other ⊎ (other ≡ d)
new_debts a b d (stores.owed o same) other c = inl (subst (λ (l : List FieldDebt). Contains l other) same.debts c)
new_debts a b d (stores.added items latest) other c =
    elim (Contains-push_cases a.debts.items d other (subst (λ (l : List FieldDebt). Contains l other) items c)) [
      | inl old ↦ inl old
      | inr e ↦ inr (sym e)
    ]

-- the accounts after more and more objects of a line came due
module _ (IsPaid : ℕ → Type 0) (line number : ℕ) (a : Accounts) where
  pub owes_none : AreAccounts IsPaid (length a.latest) a → OwesAll IsPaid line number [] a a
  owes_none are = record {
    are = are;
    old = λ d c. c;
    new = λ d c. inl c;
    due = λ object c. absurd (nothing_in object c);
  }

  more_new : (objects : List ℕ) (x : ℕ) (d : FieldDebt) → IsNewDebt IsPaid line number objects d → IsNewDebt IsPaid line number (objects ++ x ∷ []) d
  more_new objects x d n = record {
    line_is = n.line_is;
    number_is = n.number_is;
    among = Contains-append_left objects (x ∷ []) d.object n.among;
    not_paid = n.not_paid;
  }

  pub owes_paid : (objects : List ℕ) (x : ℕ) (b : Accounts) → OwesAll IsPaid line number objects a b → IsPaid x →
      OwesAll IsPaid line number (objects ++ x ∷ []) a b
  owes_paid objects x b o paid = record {
    are = o.are;
    old = o.old;
    new = λ d c. elim (o.new d c) [ inl old ↦ inl old | inr n ↦ inr (more_new objects x d n) ];
    due = λ object c. elim (Contains-push_cases objects x object c) [
      | inl old ↦ o.due object old
      | inr e ↦ inl (subst IsPaid e paid)
    ];
  }

  pub owes_more : (objects : List ℕ) (b next : Accounts) (d : FieldDebt) → OwesAll IsPaid line number objects a b → d.line ≡ line → d.number ≡ number →
      (IsPaid d.object → ⊥) → d.object < length a.latest → AddsDebt d b next → OwesAll IsPaid line number (objects ++ d.object ∷ []) a next
  owes_more objects b next d o line_is number_is not_paid lt adds = record {
    are = still_accounts IsPaid (length a.latest) b next d lt o.are adds;
    old = λ other c. old_debts b next d adds other (o.old other c);
    new = λ other c. elim (new_debts b next d adds other c) [
      | inl was ↦ elim (o.new other was) [ inl old ↦ inl old | inr n ↦ inr (more_new objects d.object other n) ]
      | inr e ↦ inr (subst (λ (x : FieldDebt). IsNewDebt IsPaid line number (objects ++ d.object ∷ []) x) (sym e) (record {
        line_is = line_is;
        number_is = number_is;
        among = Contains-push objects d.object;
        not_paid = not_paid;
      }))
    ];
    due = λ object c. elim (Contains-push_cases objects d.object object c) [
      | inl old ↦ elim (o.due object old) [
        | inl paid ↦ inl paid
        | inr p ↦ inr (p.0, old_debts b next d adds p.0 p.1, p.2, p.3)
      ]
      | inr e ↦ subst (λ (k : ℕ). IsPaid k ⊎ OwesObject next k number) e
          (subst (λ (n : ℕ). IsPaid d.object ⊎ OwesObject next d.object n) number_is (owes_now IsPaid (length a.latest) b next d lt o.are adds))
    ];
  }

-- a debt is unpaid exactly if the collector doesn't have its object
module _ (roots remembered : List ℕ) where
  pub paid_or : (d : FieldDebt) → (is_unpaid roots remembered d ≡ true) ⊎ IsHad roots remembered d.object
  paid_or d = elim (cases_Bool (has_number roots d.object)) [
    | inl r ↦ inr (inl (has_contains roots d.object r))
    | inr r ↦ elim (cases_Bool (has_number remembered d.object)) [
      | inl m ↦ inr (inr (has_contains remembered d.object m))
      | inr m ↦ inl (rw (r, m) refl)
    ]
  ]

  pub unpaid_not : (d : FieldDebt) → is_unpaid roots remembered d ≡ true → IsHad roots remembered d.object → ⊥
  unpaid_not d e (inl r) =
      let had : (has_number roots d.object || has_number remembered d.object) ≡ true =
      or_first (has_number roots d.object) (has_number remembered d.object) (contains_has roots d.object r) in
      let bad : not true ≡ true = rw had at e in absurd cc
  unpaid_not d e (inr m) =
      let had : (has_number roots d.object || has_number remembered d.object) ≡ true =
      or_second (has_number roots d.object) (has_number remembered d.object) (contains_has remembered d.object m) in
      let bad : not true ≡ true = rw had at e in absurd cc

  -- the accounts without paid debts
  pub forgotten : (bound : ℕ) (a b : Accounts) → b.debts.items ≡ unpaid roots remembered a.debts.items → b.latest ≡ a.latest →
      AreAccounts (IsHad roots remembered) bound a → AreAccounts (IsHad roots remembered) bound b
  forgotten bound a b items latest are = record {
    count = ap (λ (l : List (Option ℕ)). length l) latest ∙ are.count;
    below = λ d c. are.below d (filter_contains (is_unpaid roots remembered) a.debts.items d
        (subst (λ (l : List FieldDebt). Contains l d) items c)).0;
    owes = λ object number e.
        elim (are.owes object number (subst (λ (l : List (Option ℕ)). slice_index_or l object None ≡ Some number) latest e)) [
          | inl paid ↦ inl paid
          | inr o ↦ elim (paid_or o.0) [
            | inl left ↦ inr (
              o.0,
              subst (λ (l : List FieldDebt). Contains l o.0) (sym items) (contains_filter (is_unpaid roots remembered) a.debts.items o.0 o.1 left),
              o.2,
              o.3,
            )
            | inr had ↦ inl (subst (λ (n : ℕ). IsHad roots remembered n) o.2 had)
          ]
        ];
  }

  -- no unpaid debt is forgotten twice
  pub unpaid_again : (debts : List FieldDebt) → unpaid roots remembered (unpaid roots remembered debts) ≡ unpaid roots remembered debts
  unpaid_again [] = refl
  unpaid_again (d ∷ debts) = elim (cases_Bool (is_unpaid roots remembered d)) [
    | inl p ↦ rw (p, p) (ap (λ (l : List FieldDebt). d ∷ l) (unpaid_again debts))
    | inr p ↦ rw p (unpaid_again debts)
  ]
