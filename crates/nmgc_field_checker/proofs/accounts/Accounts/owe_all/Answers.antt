use Rattle.nmgc_field_checker.proofs.{Vocabulary.Accounts, Vocabulary.FieldDebt, Vocabulary.IsHad, Vocabulary.List, Vocabulary.OwesAll, Vocabulary.get_or, Vocabulary.inl, Vocabulary.inr, Vocabulary.never, Vocabulary.refl, Vocabulary.subst, Vocabulary.sym, Vocabulary.take, Vocabulary.take_all, Vocabulary.take_more, Vocabulary.ℕ, Vocabulary.◌+◌, AccountLaws.owes_more, AccountLaws.owes_none, AccountLaws.owes_paid, AccountLaws.same_accounts}
use Rattle.nmgc_field_checker.proofs.accounts.Accounts.owe_all.Goals.{else-not-has, else-not-has-via-else-not-has, else-not-has-via-then-not-has+else-not-has-2, then-not-has+then-not-has-2+in_ok-owe}
use Rattle.nmgc_field_checker.proofs.accounts.Accounts.owe_all.Goals as goal

pub loop-object-init : goal.loop-object-init
loop-object-init c = owes_none (IsHad c.args.roots.now.items c.args.remembered.now.items) c.args.line c.args.number c.args.self.now c.requires.are

pub returns-in_err-owe-clause-are : goal.returns-in_err-owe-clause-are
returns-in_err-owe-clause-are c =
    same_accounts (IsHad c.args.roots.now.items c.args.remembered.now.items) _ c.loop-object.self c.owe.new.self c.in_err-owe.ensures.err
    c.loop-object.invariant.are

pub loop-object-preserved : goal.loop-object-preserved
loop-object-preserved c =
    let objects = c.args.objects.now in
    let i = c.loop-object.object-index in
    let a = c.args.self.now in
    let next = take_more objects i 0 c.loop-object-test.true in
    elim c.if-not-has.branch [
      | then-not-has+then-not-has-2+in_ok-owe w ↦
          subst (λ (x : Accounts).
          OwesAll (IsHad c.args.roots.now.items c.args.remembered.now.items) c.args.line c.args.number (take (i + 1) objects) a x) (sym w.self-is)
          (subst (λ (l : List ℕ). OwesAll (IsHad c.args.roots.now.items c.args.remembered.now.items) c.args.line c.args.number l a w.owe.new.self) (sym next)
          (owes_more (IsHad c.args.roots.now.items c.args.remembered.now.items) c.args.line c.args.number a (take i objects) c.loop-object.self
          w.owe.new.self (record { object = get_or objects i 0; line = c.args.line; number = c.args.number }) c.loop-object.invariant refl refl
          (λ h. elim h [ inl r ↦ never (w.if-not-has.ensures.contains.1 r) | inr m ↦ never (w.if-not-has-2.ensures.contains.1 m) ])
          (c.requires.below i 0 c.loop-object-test.true) w.in_ok-owe.ensures.ok))
      | else-not-has w ↦
          let paid : IsHad c.args.roots.now.items c.args.remembered.now.items (get_or objects i 0) = elim w.else-not-has.branch [
            | else-not-has-via-then-not-has+else-not-has-2 v ↦ inr (v.if-not-has-2.ensures.contains.0 refl)
            | else-not-has-via-else-not-has v ↦ inl (v.if-not-has.ensures.contains.0 refl)
          ] in
          subst (λ (x : Accounts).
          OwesAll (IsHad c.args.roots.now.items c.args.remembered.now.items) c.args.line c.args.number (take (i + 1) objects) a x) (sym w.self-is)
          (subst (λ (l : List ℕ). OwesAll (IsHad c.args.roots.now.items c.args.remembered.now.items) c.args.line c.args.number l a c.loop-object.self)
          (sym next) (owes_paid (IsHad c.args.roots.now.items c.args.remembered.now.items) c.args.line c.args.number a (take i objects) (get_or objects i 0)
          c.loop-object.self c.loop-object.invariant paid))
    ]

pub returns-clause-owed : goal.returns-clause-owed
returns-clause-owed c =
    subst (λ (l : List ℕ).
    OwesAll (IsHad c.args.roots.now.items c.args.remembered.now.items) c.args.line c.args.number l c.args.self.now c.loop-object.self)
    (take_all c.loop-object.object-index c.args.objects.now c.loop-object-test.false) c.loop-object.invariant
