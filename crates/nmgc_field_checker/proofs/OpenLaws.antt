-- Objects that are handed out past all fields.
use Rattle.nmgc_field_checker.proofs.Vocabulary.{Accounts, AreAccounts, AreDebts, Contains, Has, IsCycle, IsHad, IsNotedDue, IsOldName, IsOpening, IsQuiet, IsSome, Joins, List, Name, Objects, OwesAll, Running, Stored, World, [], ap, contains_one, inl, inr, length, named, node_of, nothing_in, one_is, refl, running_of, serial_of, subst, sym, ℕ, ◌<◌, ◌∙◌, ◌∷◌, ◌≡◌, ◌⊎◌}
use Rattle.nmgc_field_checker.proofs.{AccountLaws.owes_none, CycleLaws.accounts_here, NoteLaws.from_named, NoteLaws.has_below, NoteLaws.noted_debts, NoteLaws.to_named}

-- an object that the snapshot has
module _ (world snapshot : World) (unscanned : List ℕ) (roots remembered : Objects) (a d : Accounts) (opened more : Objects) (stores : Stored)
    (k : IsCycle snapshot roots remembered a opened stores) (line m object : ℕ) (there : Has world object) (old : Has snapshot object)
    (o : OwesAll (IsHad roots.items remembered.items) line m (object ∷ []) a d) (j : Joins opened (object ∷ []) more) where
  abbrev before : Running
  before = running_of world snapshot unscanned roots remembered a opened stores

  abbrev after : Running
  after = running_of world snapshot unscanned roots remembered d more stores

  to_opened : (name : Name) → IsNotedDue [] (object ∷ []) name → IsOldName before.cycle (named object) name
  to_opened name (inl (n, c, e)) = absurd (nothing_in n c)
  to_opened name (inr (n, c, e)) =
      let same : name ≡ named object = e ∙ ap named (sym (one_is object n c)) in
      (same, subst (λ (x : Name). IsSome (node_of snapshot x)) (sym same) old)

  from_opened : (name : Name) → IsOldName before.cycle (named object) name → IsNotedDue [] (object ∷ []) name
  from_opened name x = inr (object, contains_one object, x.0)

  here : AreAccounts (IsHad roots.items remembered.items) (length a.latest) a
  here = accounts_here (IsHad roots.items remembered.items) (serial_of snapshot 0) a k.accounts_are

  noted : AreDebts before.cycle line m (IsNotedDue [] (object ∷ [])) after.cycle.debts
  noted = noted_debts world snapshot unscanned roots remembered a a d opened more stores stores k line m [] (object ∷ []) []
      (owes_none (IsHad roots.items remembered.items) line m a here) o

  pub opened_is : IsQuiet (IsOpening line m object) before after
  opened_is = record {
    line = record {
      there = there;
      rest = refl;
      opened = λ name. (
        λ c. let r = to_named more.items name c in elim ((j.items r.0).0 r.1) [
          | inl was ↦ inl (from_named opened.items name (r.0, was, r.2))
          | inr p ↦ inr (to_opened name (inr (r.0, p.0, r.2)))
        ],
        λ c. elim c [
          | inl was ↦ let r = to_named opened.items name was in from_named more.items name (r.0, (j.items r.0).1 (inl r.1), r.2)
          | inr x ↦ from_named more.items name (
            object,
            (j.items object).1 (inr (contains_one object, subst (λ (n : ℕ). object < n) (sym k.opened_bound) (has_below snapshot object old))),
            x.0,
          )
        ],
      );
      debts = record {
        old = noted.old;
        new = λ debt c. elim (noted.new debt c) [ inl was ↦ inl was | inr x ↦ inr (x.0, x.1, to_opened debt.name x.2, x.3) ];
        due = λ name x. noted.due name (from_opened name x);
      };
    };
    stores = refl;
  }
