-- Lines of a cycle that leave its heap as it is: an end, a scan and a push.
use Rattle.nmgc_field_checker.proofs.Vocabulary.{Accounts, AreJoined, ArePaid, AreWithout, Contains, Debt, FieldDebt, Has, IsGone, IsHad, IsNamed, IsPushedAt, IsQuiet, IsScannedAt, IsSome, Joins, List, Name, Objects, Running, Stored, World, [], ap, arith, cases_lt, contains_filter, contains_map, contains_one, debt_of, filter_contains, inl, inr, is_some_get, is_unpaid, map, map_contains, named, node_of, one_is, refl, running_of, serial_of, state_of, subst, sym, true, unpaid, ℕ, ◌<◌, ◌∙◌, ◌∷◌, ◌≡◌, ◌≤◌, ◌⊎◌}
use Rattle.nmgc_field_checker.proofs.{AccountLaws.paid_or, AccountLaws.unpaid_not, NoteLaws.from_named, NoteLaws.has_below, NoteLaws.number_in, NoteLaws.to_named}

-- a world has the objects below its count
pub below_has : (w : World) (n : ℕ) → n < serial_of w 0 → Has w n
below_has w n lt = is_some_get (state_of w 0).nodes n lt

-- a world has an object, or it doesn't
pub has_or : (w : World) (n : ℕ) → Has w n ⊎ (Has w n → ⊥)
has_or w n = elim (cases_lt n (serial_of w 0)) [
  | inl lt ↦ inl (below_has w n lt)
  | inr le ↦ inr (λ h. let lt : n < serial_of w 0 = has_below w n h in omega arith)
]

-- the names of a set that objects joined
pub joined_names : (snapshot : World) (objects : List ℕ) (before after : Objects) → before.bound ≡ serial_of snapshot 0 → Joins before objects after →
    (name : Name) → Contains (map named after.items) name → Contains (map named before.items) name ⊎
    (Contains (map named objects) name × IsSome (node_of snapshot name))
joined_names snapshot objects before after bound j name c =
    let r = to_named after.items name c in
    elim ((j.items r.0).0 r.1) [
      | inl old ↦ inl (from_named before.items name (r.0, old, r.2))
      | inr p ↦ inr (
        from_named objects name (r.0, p.0, r.2),
        subst (λ (x : Name). IsSome (node_of snapshot x)) (sym r.2) (below_has snapshot r.0 (subst (λ (n : ℕ). r.0 < n) bound p.1)),
      )
    ]

pub names_joined : (snapshot : World) (objects : List ℕ) (before after : Objects) → before.bound ≡ serial_of snapshot 0 → Joins before objects after →
    (name : Name) → Contains (map named before.items) name ⊎ (Contains (map named objects) name × IsSome (node_of snapshot name)) →
    Contains (map named after.items) name
names_joined snapshot objects before after bound j name (inl old) =
    let r = to_named before.items name old in from_named after.items name (r.0, (j.items r.0).1 (inl r.1), r.2)
names_joined snapshot objects before after bound j name (inr (c, there)) =
    let r = to_named objects name c in
    let has : Has snapshot r.0 = subst (λ (x : Name). IsSome (node_of snapshot x)) r.2 there in
    from_named after.items name (r.0, (j.items r.0).1 (inr (r.1, subst (λ (n : ℕ). r.0 < n) (sym bound) (has_below snapshot r.0 has))), r.2)

-- the debts of objects that the collector doesn't have, after it got more objects
module _ (roots remembered more others objects : List ℕ) (debts : List FieldDebt) (bound : ℕ)
    (below : (d : FieldDebt) → Contains debts d → d.object < bound)
    (grew : (n : ℕ) → IsHad more others n → IsHad roots remembered n ⊎ Contains objects n)
    (kept : (n : ℕ) → IsHad roots remembered n → IsHad more others n) (got : (n : ℕ) → n < bound → Contains objects n → IsHad more others n) where
  pub paid_debts : ArePaid (map named objects) (map debt_of (unpaid roots remembered debts)) (map debt_of (unpaid more others debts))
  paid_debts = record {
    kept = λ debt c.
        let r = map_contains debt_of (unpaid roots remembered debts) debt c in
        let f = filter_contains (is_unpaid roots remembered) debts r.0 r.1 in
        elim (paid_or more others r.0) [
          | inl left ↦ inl (subst (λ (x : Debt). Contains (map debt_of (unpaid more others debts)) x) (sym r.2)
              (contains_map debt_of (unpaid more others debts) r.0 (contains_filter (is_unpaid more others) debts r.0 f.0 left)))
          | inr had ↦ elim (grew r.0.object had) [
            | inl old ↦ absurd (unpaid_not roots remembered r.0 f.1 old)
            | inr own ↦ inr (subst (λ (x : Debt). Contains (map named objects) x.name) (sym r.2) (contains_map named objects r.0.object own))
          ]
        ];
    left = λ debt c.
        let r = map_contains debt_of (unpaid more others debts) debt c in
        let f = filter_contains (is_unpaid more others) debts r.0 r.1 in (
          elim (paid_or roots remembered r.0) [
            | inl left ↦ subst (λ (x : Debt). Contains (map debt_of (unpaid roots remembered debts)) x) (sym r.2)
                (contains_map debt_of (unpaid roots remembered debts) r.0 (contains_filter (is_unpaid roots remembered) debts r.0 f.0 left))
            | inr had ↦ absurd (unpaid_not more others r.0 f.1 (kept r.0.object had))
          ],
          λ own. unpaid_not more others r.0 f.1 (got r.0.object (below r.0 f.0)
              (number_in objects r.0.object (to_named objects (named r.0.object) (subst (λ (x : Debt). Contains (map named objects) x.name) r.2 own)))),
        );
  }
