-- The beginning of a cycle, and the reasons against its end.
use Rattle.nmgc_field_checker.proofs.Vocabulary.{Accounts, AreAccounts, AreSame, Begins, Contains, Debt, FieldCycle, FieldDebt, FieldStore, Has, IsCycle, IsEarliestIf, IsEnding, IsFieldEnd, IsHad, IsLeast, IsLeft, IsLostIf, IsOldestIf, IsOutside, Joins, KeepsName, Left, List, Name, NeedsName, None, Objects, Option, Running, Some, Stored, World, [], actor, ap, arith, cases_lt, contains_head, contains_map, debt_line, debt_of, get_or-replicate, get_or_past, inl, inr, length, length-replicate, map, map_contains, named, no_objects, no_stores, nothing_in, object_of, refl, replicate, running_of, serial_of, slice_index_or, store_line, stored_name, subst, sym, unpaid, ℕ, ◌<◌, ◌∙◌, ◌∷◌, ◌≡◌, ◌≤◌, ◌⊎◌, ◌↔◌}
use Rattle.std.specs.Prelude.{Err, Ok}
use Rattle.nmgc_field_checker.specs.{Marking.IsLost, Reports.left_of}
use Rattle.nmgc_field_checker.specs.declared.event.FieldWhy.TheVariants as why
use Rattle.nmgc_field_checker.proofs.{FirstLaws.contains_or, NoteLaws.from_named, NoteLaws.has_below, NoteLaws.to_named, NoteLaws.to_stored}

-- a list without items is empty
pub none_in : {X : Type 0} (xs : List X) → ((x : X) → Contains xs x → ⊥) → xs ≡ []
none_in [] none = refl
none_in (x ∷ xs) none = absurd (none x (contains_head x xs))

-- the beginning
module _ (heap : World) (count : ℕ) (here : count ≡ serial_of heap 0) (there unscanned objects : List ℕ) (roots : Objects) (a : Accounts)
    (j : Joins (no_objects count) objects roots) (none : a.debts.items ≡ []) (latest : a.latest ≡ replicate count None) where
  no_latest : (object number : ℕ) → slice_index_or (replicate {A = Option ℕ} count None) object None ≡ Some number → ⊥
  no_latest object number e = elim (cases_lt object count) [
    | inl lt ↦ let bad : None ≡ Some number = sym (get_or-replicate count object None None lt) ∙ e in cc
    | inr le ↦
        let past : length (replicate {A = Option ℕ} count None) ≤ object = omega (arith, length-replicate {A = Option ℕ} count None) in
        let bad : None ≡ Some number = sym (get_or_past (replicate {A = Option ℕ} count None) object None past) ∙ e in
        cc
  ]

  pub cycle_new : IsCycle heap roots (no_objects count) a (no_objects count) (no_stores count)
  cycle_new = record {
    roots_bound = j.bound ∙ here;
    remembered_bound = here;
    opened_bound = here;
    stores_bound = here;
    accounts_are = record {
      count = ap (λ (l : List (Option ℕ)). length l) latest ∙ length-replicate count None ∙ here;
      below = λ d c. absurd (nothing_in d (subst (λ (l : List FieldDebt). Contains l d) none c));
      owes = λ object number e.
          absurd (no_latest object number (subst (λ (l : List (Option ℕ)). slice_index_or l object None ≡ Some number) latest e));
    };
  }

  abbrev with_debts : List FieldDebt → Running
  with_debts debts = record {
    cycle = record {
      world = heap;
      snapshot = heap;
      unscanned = unscanned;
      roots = map named roots.items;
      remembered = [];
      debts = map debt_of (unpaid roots.items [] debts);
      opened = [];
      stored = [];
    };
    stores = [];
  }

  pub begins_is : AreSame there unscanned → ((n : ℕ) → Contains objects n → Has heap n) →
      Begins heap there objects (running_of heap heap unscanned roots (no_objects count) a (no_objects count) (no_stores count))
  begins_is same has = record {
    mutators = unscanned;
    mutators_are = same;
    names = map named roots.items;
    names_are = λ name. (
      λ c. let r = to_named roots.items name c in elim ((j.items r.0).0 r.1) [
        | inl old ↦ absurd (nothing_in r.0 old)
        | inr p ↦ (r.0, p.0, r.2)
      ],
      λ c. from_named roots.items name (c.0, (j.items c.0).1 (inr (c.1, subst (λ (n : ℕ). c.0 < n) (sym here) (has_below heap c.0 (has c.0 c.1)))), c.2),
    );
    is = ap with_debts none;
  }

-- the end
module _ (world snapshot : World) (unscanned : List ℕ) (roots remembered : Objects) (a : Accounts) (opened : Objects) (stores : Stored) where
  abbrev cycle : Running
  cycle = running_of world snapshot unscanned roots remembered a opened stores

  -- the oldest debt, or none
  pub oldest_is : (debts : List FieldDebt) (o : Option FieldDebt) → debts ≡ unpaid roots.items remembered.items a.debts.items →
      IsEarliestIf debt_line (Contains debts) o → IsOldestIf cycle.cycle o
  oldest_is debts None items e = ap (λ (l : List FieldDebt). map debt_of l) (sym items ∙ none_in debts e)
  oldest_is debts (Some d) items e = (
    contains_map debt_of (unpaid roots.items remembered.items a.debts.items) d (subst (λ (l : List FieldDebt). Contains l d) items e.0),
    λ other c.
        let r = map_contains debt_of (unpaid roots.items remembered.items a.debts.items) other c in
        subst (λ (n : ℕ). d.line ≤ n) (sym (ap (λ (y : Debt). y.line) r.2)) (e.1 r.0 (subst (λ (l : List FieldDebt). Contains l r.0) (sym items) r.1)),
  )

  -- the objects that the cycle keeps
  module _ (kept : Objects) (is : (object : ℕ) → Contains kept.items object ↔ KeepsName cycle.cycle (named object)) where
    pub lost_is : (o : Option FieldStore) → IsEarliestIf store_line (IsOutside stores.items kept.items) o → IsLostIf cycle o
    lost_is None none = λ name c.
        let r = map_contains stored_name stores.items name c in
        elim (contains_or kept.items r.0.object) [
          | inl k ↦ subst (λ (x : Name). KeepsName cycle.cycle x) (sym r.2) ((is r.0.object).0 k)
          | inr out ↦ absurd (none r.0 (r.1, out))
        ]
    lost_is (Some s) e = record {
      stored = e.0.0;
      listed = contains_map stored_name stores.items s e.0.0;
      lost = λ keeps. e.0.1 ((is s.object).1 keeps);
      first = λ other c lost. e.1 other (c, λ k. lost ((is other.object).0 k));
    }

-- the result of a close
pub left_is : (h : FieldCycle) (heap : World) (kept needed : Objects) (old : ℕ) (left : Left) → heap ≡ h.world → old ≡ serial_of h.snapshot 0 →
    ((object : ℕ) → Contains kept.items object ↔ KeepsName h (named object)) →
    ((object : ℕ) → Contains needed.items object ↔ NeedsName h (named object)) → left ≡ left_of heap kept needed old → IsLeft h left
left_is h heap kept needed old left heap_is old_is are_kept are_needed is = subst (λ (l : Left). IsLeft h l) (sym is) (record {
  heap = heap_is;
  kept = are_kept;
  needed = are_needed;
  gone = refl;
  bound = refl;
  first_new = old_is;
  freed = refl;
})

-- the outcomes of a request to end a cycle
module _ (p : Running) where
  pub unscanned_against : (m : ℕ) → IsLeast p.cycle.unscanned (Some m) → IsEnding p (Err (why.Unscanned (actor m)))
  unscanned_against m least = inl (m, refl, least.0, least.1)

  module _ (scanned : IsLeast p.cycle.unscanned None) where
    pub debt_against : (d : FieldDebt) → IsOldestIf p.cycle (Some d) → IsEnding p (Err (why.Due d))
    debt_against d oldest = inr (inl (scanned, (d, refl, oldest)))

    module _ (paid : IsOldestIf p.cycle None) (q : Running) (same : q ≡ p) where
      pub store_against : (s : FieldStore) → IsLostIf q (Some s) → IsEnding p (Err (why.Unkept s))
      store_against s lost = inr (inr (scanned, paid, (s, refl, subst (λ (x : Running). IsLost x s) same lost)))

      pub ending_is : (left : Left) → IsLostIf q None → IsLeft q.cycle left → IsEnding p (Ok left)
      ending_is left held is = (
        record { debts = paid; scanned = scanned; held = subst (λ (x : Running). IsLostIf x None) same held },
        subst (λ (x : Running). IsLeft x.cycle left) same is,
      )
