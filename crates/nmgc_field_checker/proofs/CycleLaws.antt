-- The invariant of a cycle, and the lines that change its sets and debts alone.
use Rattle.nmgc_field_checker.proofs.Vocabulary.{Accounts, All, AreAccounts, AreWithout, Contains, Contains-append_left, Contains-get_or, Debt, FieldDebt, Grows, Has, IsCycle, IsEarliestIf, IsGone, IsHad, IsOwnDebt, IsOwnOldest, IsPushedAt, IsQuiet, IsScannedAt, IsSome, Joins, List, Name, None, Objects, Option, Running, Some, Stored, World, [], ap, contains_map, debt_line, debt_of, get_or, inl, inr, length, map, map_contains, named, node_of, refl, running_of, serial_of, subst, sym, unpaid, ℕ, ◌<◌, ◌∙◌, ◌∷◌, ◌≡◌, ◌≤◌, ◌⊎◌}
use Rattle.nmgc_field_checker.proofs.{AccountLaws.forgotten, AccountLaws.more_paid, AccountLaws.unpaid_again, LineLaws.joined_names, LineLaws.names_joined, LineLaws.paid_debts, NoteLaws.has_below, NoteLaws.to_named}

-- objects of the snapshot are below a bound for it
pub all_old : (snapshot : World) (bound : ℕ) (objects : List ℕ) → bound ≡ serial_of snapshot 0 → ((n : ℕ) → Contains objects n → Has snapshot n) →
    All (λ (n : ℕ). n < bound) objects
all_old snapshot bound objects e old = λ k d lt.
    subst (λ (m : ℕ). get_or objects k d < m) (sym e) (has_below snapshot (get_or objects k d) (old (get_or objects k d) (Contains-get_or objects k d lt)))

-- the bound of accounts is the number of their latest actors
pub accounts_here : (P : ℕ → Type 0) (bound : ℕ) (a : Accounts) → AreAccounts P bound a → AreAccounts P (length a.latest) a
accounts_here P bound a are = subst (λ (n : ℕ). AreAccounts P n a) (sym are.count) are

-- the accounts after a line
pub accounts_after : (P : ℕ → Type 0) (bound : ℕ) (a b : Accounts) → AreAccounts P bound a → AreAccounts P (length a.latest) b → AreAccounts P bound b
accounts_after P bound a b are then = subst (λ (n : ℕ). AreAccounts P n b) are.count then

module _ (snapshot : World) (roots remembered : Objects) (a : Accounts) (opened : Objects) (stores : Stored)
    (k : IsCycle snapshot roots remembered a opened stores) where
  -- other accounts, handed objects and stores with the same bounds
  pub cycle_with : (b : Accounts) (more : Objects) (next : Stored) → AreAccounts (IsHad roots.items remembered.items) (length a.latest) b →
      more.bound ≡ opened.bound → next.bound ≡ stores.bound → IsCycle snapshot roots remembered b more next
  cycle_with b more next are opened_is stores_are = record {
    roots_bound = k.roots_bound;
    remembered_bound = k.remembered_bound;
    opened_bound = opened_is ∙ k.opened_bound;
    stores_bound = stores_are ∙ k.stores_bound;
    accounts_are = accounts_after (IsHad roots.items remembered.items) (serial_of snapshot 0) a b k.accounts_are are;
  }

  grown : (before after : List ℕ) → Grows before after → (n : ℕ) → Contains before n → Contains after n
  grown before after g n c = subst (λ (l : List ℕ). Contains l n) (sym g.1) (Contains-append_left before g.0 n c)

  -- more roots, or more remembered objects
  pub cycle_roots : (more : Objects) → more.bound ≡ roots.bound → Grows roots.items more.items → IsCycle snapshot more remembered a opened stores
  cycle_roots more bound g = record {
    roots_bound = bound ∙ k.roots_bound;
    remembered_bound = k.remembered_bound;
    opened_bound = k.opened_bound;
    stores_bound = k.stores_bound;
    accounts_are = more_paid (IsHad roots.items remembered.items) (IsHad more.items remembered.items) (serial_of snapshot 0) a
        (λ n h. elim h [ inl r ↦ inl (grown roots.items more.items g n r) | inr m ↦ inr m ]) k.accounts_are;
  }

  pub cycle_remembered : (more : Objects) → more.bound ≡ remembered.bound → Grows remembered.items more.items → IsCycle snapshot roots more a opened stores
  cycle_remembered more bound g = record {
    roots_bound = k.roots_bound;
    remembered_bound = bound ∙ k.remembered_bound;
    opened_bound = k.opened_bound;
    stores_bound = k.stores_bound;
    accounts_are = more_paid (IsHad roots.items remembered.items) (IsHad roots.items more.items) (serial_of snapshot 0) a
        (λ n h. elim h [ inl r ↦ inl r | inr m ↦ inr (grown remembered.items more.items g n m) ]) k.accounts_are;
  }

  -- accounts without paid debts
  module _ (b : Accounts) (items : b.debts.items ≡ unpaid roots.items remembered.items a.debts.items) (latest : b.latest ≡ a.latest) where
    pub cycle_forgotten : IsCycle snapshot roots remembered b opened stores
    cycle_forgotten = record {
      roots_bound = k.roots_bound;
      remembered_bound = k.remembered_bound;
      opened_bound = k.opened_bound;
      stores_bound = k.stores_bound;
      accounts_are = forgotten roots.items remembered.items (serial_of snapshot 0) a b items latest k.accounts_are;
    }

    pub same_debts : unpaid roots.items remembered.items b.debts.items ≡ unpaid roots.items remembered.items a.debts.items
    same_debts = ap (λ (l : List FieldDebt). unpaid roots.items remembered.items l) items ∙ unpaid_again roots.items remembered.items a.debts.items

  module _ (world : World) (unscanned : List ℕ) where
    abbrev before : Running
    before = running_of world snapshot unscanned roots remembered a opened stores

    abbrev with_debts : List Debt → Running
    with_debts debts = record before { cycle = record (before.cycle) { debts = debts } }

    -- the same cycle, with accounts of the same unpaid debts
    pub running_same : (b : Accounts) → unpaid roots.items remembered.items b.debts.items ≡ unpaid roots.items remembered.items a.debts.items →
        running_of world snapshot unscanned roots remembered b opened stores ≡ before
    running_same b e = ap (λ (l : List FieldDebt). with_debts (map debt_of l)) e

    -- the oldest debt of an actor
    pub own_oldest : (m : ℕ) (debts : List FieldDebt) (o : Option FieldDebt) → debts ≡ unpaid roots.items remembered.items a.debts.items →
        IsEarliestIf debt_line (IsOwnDebt debts m) o → IsOwnOldest before.cycle m o
    own_oldest m debts None items e = λ debt c same.
        let r = map_contains debt_of (unpaid roots.items remembered.items a.debts.items) debt c in
        e r.0 (subst (λ (l : List FieldDebt). Contains l r.0) (sym items) r.1, sym (ap (λ (y : Debt). y.mutator) r.2) ∙ same)
    own_oldest m debts (Some d) items e = (
      contains_map debt_of (unpaid roots.items remembered.items a.debts.items) d (subst (λ (l : List FieldDebt). Contains l d) items e.0.0),
      e.0.1,
      λ other c same.
          let r = map_contains debt_of (unpaid roots.items remembered.items a.debts.items) other c in
          subst (λ (n : ℕ). d.line ≤ n) (sym (ap (λ (y : Debt). y.line) r.2))
          (e.1 r.0 (subst (λ (l : List FieldDebt). Contains l r.0) (sym items) r.1, sym (ap (λ (y : Debt). y.mutator) r.2) ∙ same)),
    )

    -- a mutator ends
    pub gone_is : (m : ℕ) (rest : List ℕ) → AreWithout unscanned m rest →
        IsQuiet (λ h after. IsGone h m after) before (running_of world snapshot rest roots remembered a opened stores)
    gone_is m rest w = record { line = record { rest = refl; unscanned = w }; stores = refl }

    -- a push
    pub pushed_is : (object : ℕ) (more : Objects) → Has world object → Joins remembered (object ∷ []) more →
        IsQuiet (λ h after. IsPushedAt h (named object) after) before (running_of world snapshot unscanned roots more a opened stores)
    pushed_is object more there j = record {
      line = record {
        there = there;
        rest = refl;
        remembered = λ name. (
          joined_names snapshot (object ∷ []) remembered more k.remembered_bound j name,
          names_joined snapshot (object ∷ []) remembered more k.remembered_bound j name,
        );
        debts = paid_debts roots.items remembered.items roots.items more.items (object ∷ []) a.debts.items (serial_of snapshot 0) k.accounts_are.below
            (λ n h. elim h [
              | inl r ↦ inl (inl r)
              | inr c ↦ elim ((j.items n).0 c) [ inl old ↦ inl (inr old) | inr p ↦ inr p.0 ]
            ])
            (λ n h. elim h [ inl r ↦ inl r | inr c ↦ inr ((j.items n).1 (inl c)) ])
            (λ n lt c. inr ((j.items n).1 (inr (c, subst (λ (b : ℕ). n < b) (sym k.remembered_bound) lt))));
      };
      stores = refl;
    }

    -- a scan
    pub scanned_is : (m : ℕ) (objects rest : List ℕ) (more : Objects) → Contains unscanned m → ((n : ℕ) → Contains objects n → Has world n) →
        AreWithout unscanned m rest → Joins roots objects more →
        IsQuiet (λ h after. IsScannedAt h m (map named objects) after) before (running_of world snapshot rest more remembered a opened stores)
    scanned_is m objects rest more first there w j = record {
      line = record {
        first = first;
        there = λ name c.
            let r = to_named objects name c in
            subst (λ (x : Name). IsSome (node_of world x)) (sym r.2) (there r.0 r.1);
        rest = refl;
        unscanned = w;
        roots = λ name. (
          joined_names snapshot objects roots more k.roots_bound j name,
          names_joined snapshot objects roots more k.roots_bound j name,
        );
        debts = paid_debts roots.items remembered.items more.items remembered.items objects a.debts.items (serial_of snapshot 0) k.accounts_are.below
            (λ n h. elim h [
              | inl c ↦ elim ((j.items n).0 c) [ inl old ↦ inl (inl old) | inr p ↦ inr p.0 ]
              | inr r ↦ inl (inr r)
            ])
            (λ n h. elim h [ inl c ↦ inl ((j.items n).1 (inl c)) | inr r ↦ inr r ])
            (λ n lt c. inl ((j.items n).1 (inr (c, subst (λ (b : ℕ). n < b) (sym k.roots_bound) lt))));
      };
      stores = refl;
    }
