-- The objects of a line, noted in a cycle.
use Rattle.nmgc_field_checker.proofs.Vocabulary.{Accounts, AddsStores, AreAccounts, AreDebts, AreOld, Contains, Debt, FieldCycle, FieldDebt, FieldStore, Has, IsCycle, IsHad, IsNamed, IsNewDebt, IsNoted, IsNotedDue, IsPaid, Joins, KeepsStores, List, Name, Node, Objects, OwesAll, Running, Stored, World, ap, contains_filter, contains_map, debt_of, filter_contains, get_is_some, inl, inr, is_unpaid, map, map_contains, named, object_of, refl, running_of, serial_of, state_of, stored_name, subst, sym, true, unpaid, ℕ, ◌<◌, ◌∙◌, ◌≡◌, ◌⊎◌, ◌↔◌}
use Rattle.nmgc_field_checker.proofs.AccountLaws.{paid_or, unpaid_not}

-- a list of objects, and of their names
pub to_named : (objects : List ℕ) (name : Name) → Contains (map named objects) name → IsNamed objects name
to_named objects name c = let r = map_contains named objects name c in (r.0, r.1, r.2)

pub from_named : (objects : List ℕ) (name : Name) → IsNamed objects name → Contains (map named objects) name
from_named objects name (n, c, e) = subst (λ (x : Name). Contains (map named objects) x) (sym e) (contains_map named objects n c)

pub number_in : (objects : List ℕ) (n : ℕ) → IsNamed objects (named n) → Contains objects n
number_in objects n (k, c, e) = subst (λ (x : ℕ). Contains objects x) (sym (ap (λ (y : Name). y.serial) e)) c

-- an object of a world is below its count
pub has_below : (w : World) (n : ℕ) → Has w n → n < serial_of w 0
has_below w n h = get_is_some (state_of w 0).nodes n h

-- stored names are the names of stored objects
pub to_stored : (stores : List FieldStore) (name : Name) → Contains (map stored_name stores) name → IsNamed (map object_of stores) name
to_stored stores name c = let r = map_contains stored_name stores name c in (object_of r.0, contains_map object_of stores r.0 r.1, r.2)

pub from_stored : (stores : List FieldStore) (name : Name) → IsNamed (map object_of stores) name → Contains (map stored_name stores) name
from_stored stores name (n, c, e) =
    let r = map_contains object_of stores n c in
    subst (λ (x : Name). Contains (map stored_name stores) x) (sym (e ∙ ap named r.2)) (contains_map stored_name stores r.0 r.1)

module _ (world snapshot : World) (unscanned : List ℕ) (roots remembered : Objects) (a b d : Accounts) (opened more : Objects) (stores next : Stored)
    (k : IsCycle snapshot roots remembered a opened stores) (line m : ℕ) (broken handed stored : List ℕ) where
  abbrev before : Running
  before = running_of world snapshot unscanned roots remembered a opened stores

  abbrev after : Running
  after = running_of world snapshot unscanned roots remembered d more next

  -- the collector has a name exactly if it has the object
  paid_is : (n : ℕ) → IsPaid before.cycle (named n) → IsHad roots.items remembered.items n
  paid_is n (inl r) = inl (number_in roots.items n (to_named roots.items (named n) r))
  paid_is n (inr r) = inr (number_in remembered.items n (to_named remembered.items (named n) r))

  is_paid : (n : ℕ) → IsHad roots.items remembered.items n → IsPaid before.cycle (named n)
  is_paid n (inl r) = inl (contains_map named roots.items n r)
  is_paid n (inr r) = inr (contains_map named remembered.items n r)

  module _ (first : OwesAll (IsHad roots.items remembered.items) line m broken a b) (second : OwesAll (IsHad roots.items remembered.items) line m handed b d) where
    debt_in : (accounts : Accounts) (x : FieldDebt) → Contains accounts.debts.items x → is_unpaid roots.items remembered.items x ≡ true →
        Contains (map debt_of (unpaid roots.items remembered.items accounts.debts.items)) (debt_of x)
    debt_in accounts x c left = contains_map debt_of (unpaid roots.items remembered.items accounts.debts.items) x
        (contains_filter (is_unpaid roots.items remembered.items) accounts.debts.items x c left)

    old_debt : (debt : Debt) → Contains before.cycle.debts debt → Contains after.cycle.debts debt
    old_debt debt c =
        let r = map_contains debt_of (unpaid roots.items remembered.items a.debts.items) debt c in
        let f = filter_contains (is_unpaid roots.items remembered.items) a.debts.items r.0 r.1 in
        subst (λ (x : Debt). Contains after.cycle.debts x) (sym r.2) (debt_in d r.0 (second.old r.0 (first.old r.0 f.0)) f.1)

    new_one : (objects : List ℕ) (x : FieldDebt) (debt : Debt) → debt ≡ debt_of x → (IsNamed objects (named x.object) → IsNotedDue broken handed (named x.object)) →
        IsNewDebt (IsHad roots.items remembered.items) line m objects x →
        (debt.line ≡ line) × (debt.mutator ≡ m) × IsNotedDue broken handed debt.name × (IsPaid before.cycle debt.name → ⊥)
    new_one objects x debt is due n = (
      ap (λ (y : Debt). y.line) is ∙ n.line_is,
      ap (λ (y : Debt). y.mutator) is ∙ n.number_is,
      subst (λ (y : Debt). IsNotedDue broken handed y.name) (sym is) (due (x.object, n.among, refl)),
      λ paid. n.not_paid (paid_is x.object (subst (λ (y : Debt). IsPaid before.cycle y.name) is paid)),
    )

    new_debt : (debt : Debt) → Contains after.cycle.debts debt → Contains before.cycle.debts debt ⊎
        ((debt.line ≡ line) × (debt.mutator ≡ m) × IsNotedDue broken handed debt.name × (IsPaid before.cycle debt.name → ⊥))
    new_debt debt c =
        let r = map_contains debt_of (unpaid roots.items remembered.items d.debts.items) debt c in
        let f = filter_contains (is_unpaid roots.items remembered.items) d.debts.items r.0 r.1 in
        elim (second.new r.0 f.0) [
          | inl was ↦ elim (first.new r.0 was) [
            | inl old ↦ inl (subst (λ (x : Debt). Contains before.cycle.debts x) (sym r.2) (debt_in a r.0 old f.1))
            | inr n ↦ inr (new_one broken r.0 debt r.2 (λ x. inl x) n)
          ]
          | inr n ↦ inr (new_one handed r.0 debt r.2 (λ x. inr x) n)
        ]

    owed_name : (n : ℕ) (name : Name) → name ≡ named n →
        (IsHad roots.items remembered.items n ⊎ ((x : FieldDebt) × Contains d.debts.items x × (x.object ≡ n) × (x.number ≡ m))) →
        IsPaid before.cycle name ⊎ ((debt : Debt) × Contains after.cycle.debts debt × (debt.name ≡ name) × (debt.mutator ≡ m))
    owed_name n name e (inl had) = inl (subst (λ (x : Name). IsPaid before.cycle x) (sym e) (is_paid n had))
    owed_name n name e (inr (x, c, object_is, number_is)) = elim (paid_or roots.items remembered.items x) [
      | inl left ↦ inr (debt_of x, debt_in d x c left, ap named object_is ∙ sym e, number_is)
      | inr had ↦ inl (subst (λ (y : Name). IsPaid before.cycle y) (sym e) (is_paid n (subst (λ (k : ℕ). IsHad roots.items remembered.items k) object_is had)))
    ]

    due_name : (name : Name) → IsNotedDue broken handed name →
        IsPaid before.cycle name ⊎ ((debt : Debt) × Contains after.cycle.debts debt × (debt.name ≡ name) × (debt.mutator ≡ m))
    due_name name (inl (n, c, e)) = owed_name n name e (elim (first.due n c) [ inl had ↦ inl had | inr o ↦ inr (o.0, second.old o.0 o.1, o.2, o.3) ])
    due_name name (inr (n, c, e)) = owed_name n name e (second.due n c)

    pub noted_debts : AreDebts before.cycle line m (IsNotedDue broken handed) after.cycle.debts
    noted_debts = record { old = old_debt; new = new_debt; due = due_name }

    module _ (j : Joins opened handed more) (s : AddsStores line stored stores next) (old_handed : AreOld before.cycle handed) where
      opened_is : (name : Name) → Contains after.cycle.opened name ↔ (Contains before.cycle.opened name ⊎ IsNamed handed name)
      opened_is name = (
        λ c. let r = to_named more.items name c in elim ((j.items r.0).0 r.1) [
          | inl old ↦ inl (from_named opened.items name (r.0, old, r.2))
          | inr p ↦ inr (r.0, p.0, r.2)
        ],
        λ c. elim c [
          | inl old ↦ let r = to_named opened.items name old in from_named more.items name (r.0, (j.items r.0).1 (inl r.1), r.2)
          | inr own ↦ from_named more.items name (
            own.0,
            (j.items own.0).1 (inr (own.1, subst (λ (n : ℕ). own.0 < n) (sym k.opened_bound) (has_below snapshot own.0 (old_handed own.0 own.1)))),
            own.2,
          )
        ],
      )

      stored_is : (name : Name) → Contains after.cycle.stored name ↔ (Contains before.cycle.stored name ⊎ IsNamed stored name)
      stored_is name = (
        λ c. let r = to_stored next.items name c in elim ((s.objects_are r.0).0 r.1) [
          | inl old ↦ inl (from_stored stores.items name (r.0, old, r.2))
          | inr own ↦ inr (r.0, own, r.2)
        ],
        λ c. elim c [
          | inl old ↦ let r = to_stored stores.items name old in from_stored next.items name (r.0, (s.objects_are r.0).1 (inl r.1), r.2)
          | inr own ↦ from_stored next.items name (own.0, (s.objects_are own.0).1 (inr own.1), own.2)
        ],
      )

      pub noted_is : IsNoted line m broken handed stored before after
      noted_is = record {
        rest = refl;
        opened = opened_is;
        stored_are = stored_is;
        debts = noted_debts;
        stores = record { old = s.old; new = s.new };
      }
