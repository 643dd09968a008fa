use Rattle.nmgc_barrier_checker.proofs.{Vocabulary.◌<◌, Vocabulary.◌∙◌, Vocabulary.ℕ, Vocabulary.refl, Vocabulary.sym, Vocabulary.ap, Vocabulary.subst, Vocabulary.List, Vocabulary.Name, Vocabulary.Reply, Vocabulary.World, Vocabulary.Joins, CycleLaws.with_opened, CycleLaws.with_accounts, CycleLaws.cycle_ended, CycleLaws.cycle_stepped, CycleLaws.taken_then, CycleLaws.counts_due}
use Rattle.nmgc_barrier_checker.proofs.cycle.Cycle.give.Goals as goal

pub invariant_of-self : goal.invariant_of-self
invariant_of-self c =
    with_opened c.self.inside.world c.self.inside.snapshot c.self.inside.remembered c.self.inside.accounts c.self.inside.opened c.self.inside.taken
    c.self.inside.finalised c.self.invariant c.extend.new.self c.extend.ensures.listed

pub invariant_of-self-in_err-extend-2 : goal.invariant_of-self-in_err-extend-2
invariant_of-self-in_err-extend-2 c =
    rw c.in_err-extend-2.ensures.err (with_opened c.self.inside.world c.self.inside.snapshot c.self.inside.remembered c.self.inside.accounts
    c.self.inside.opened c.self.inside.taken c.self.inside.finalised c.self.invariant c.extend.new.self c.extend.ensures.listed)

pub invariant_of-self-in_err-apply : goal.invariant_of-self-in_err-apply
invariant_of-self-in_err-apply c =
    rw c.in_err-apply.ensures.err (cycle_ended c.self.inside.world c.self.inside.snapshot c.self.inside.remembered c.self.inside.accounts
    c.extend.new.self c.self.inside.taken c.self.inside.finalised
    (with_opened c.self.inside.world c.self.inside.snapshot c.self.inside.remembered c.self.inside.accounts c.self.inside.opened c.self.inside.taken
    c.self.inside.finalised c.self.invariant c.extend.new.self c.extend.ensures.listed) c.as_slice-3.result.now c.extend-2.new.self c.in_ok-extend-2.ensures.ok)

pub invariant_of-self-in_err-lost : goal.invariant_of-self-in_err-lost
invariant_of-self-in_err-lost c =
    cycle_stepped c.self.inside.world c.self.inside.snapshot c.self.inside.remembered c.self.inside.accounts c.extend.new.self c.self.inside.taken
    c.self.inside.finalised (with_opened c.self.inside.world c.self.inside.snapshot c.self.inside.remembered c.self.inside.accounts
    c.self.inside.opened c.self.inside.taken c.self.inside.finalised c.self.invariant c.extend.new.self c.extend.ensures.listed) c.args.mutator
    c.args.command.now c.apply.new.self c.extend-2.new.self (rw (← c.self.view_is) at c.requires).mutator (ap (λ (p : World × Reply).
    p.0) (sym c.in_ok-apply.ensures.step)) c.in_ok-apply.ensures.closed c.in_ok-apply.ensures.grows.mutators (c.in_ok-extend-2.ensures.ok ∙
    rw (c.as_slice-3.ensures.value, c.in_ok-ends.ensures) refl)

pub invariant_of-self-in_err-handed : goal.invariant_of-self-in_err-handed
invariant_of-self-in_err-handed c =
    cycle_stepped c.self.inside.world c.self.inside.snapshot c.self.inside.remembered c.self.inside.accounts c.extend.new.self c.self.inside.taken
    c.self.inside.finalised (with_opened c.self.inside.world c.self.inside.snapshot c.self.inside.remembered c.self.inside.accounts
    c.self.inside.opened c.self.inside.taken c.self.inside.finalised c.self.invariant c.extend.new.self c.extend.ensures.listed) c.args.mutator
    c.args.command.now c.apply.new.self c.extend-2.new.self (rw (← c.self.view_is) at c.requires).mutator (ap (λ (p : World × Reply).
    p.0) (sym c.in_ok-apply.ensures.step)) c.in_ok-apply.ensures.closed c.in_ok-apply.ensures.grows.mutators (c.in_ok-extend-2.ensures.ok ∙
    rw (c.as_slice-3.ensures.value, c.in_ok-ends.ensures) refl)

pub invariant_of-self-in_err-extend-3 : goal.invariant_of-self-in_err-extend-3
invariant_of-self-in_err-extend-3 c =
    with_opened c.apply.new.self c.self.inside.snapshot c.self.inside.remembered c.self.inside.accounts c.extend.new.self
    c.self.inside.taken c.extend-2.new.self (cycle_stepped c.self.inside.world c.self.inside.snapshot c.self.inside.remembered c.self.inside.accounts c.extend.new.self
    c.self.inside.taken c.self.inside.finalised (with_opened c.self.inside.world c.self.inside.snapshot c.self.inside.remembered
    c.self.inside.accounts c.self.inside.opened c.self.inside.taken c.self.inside.finalised c.self.invariant c.extend.new.self
    c.extend.ensures.listed) c.args.mutator c.args.command.now c.apply.new.self c.extend-2.new.self (rw (← c.self.view_is) at c.requires).mutator
    (ap (λ (p : World × Reply).
    p.0) (sym c.in_ok-apply.ensures.step)) c.in_ok-apply.ensures.closed c.in_ok-apply.ensures.grows.mutators (c.in_ok-extend-2.ensures.ok ∙
    rw (c.as_slice-3.ensures.value, c.in_ok-ends.ensures) refl)) c.extend-3.new.self c.extend-3.ensures.listed

pub invariant_of-self-in_err-names : goal.invariant_of-self-in_err-names
invariant_of-self-in_err-names c =
    with_opened c.apply.new.self c.self.inside.snapshot c.self.inside.remembered c.self.inside.accounts c.extend.new.self
    c.self.inside.taken c.extend-2.new.self (cycle_stepped c.self.inside.world c.self.inside.snapshot c.self.inside.remembered c.self.inside.accounts c.extend.new.self
    c.self.inside.taken c.self.inside.finalised (with_opened c.self.inside.world c.self.inside.snapshot c.self.inside.remembered
    c.self.inside.accounts c.self.inside.opened c.self.inside.taken c.self.inside.finalised c.self.invariant c.extend.new.self
    c.extend.ensures.listed) c.args.mutator c.args.command.now c.apply.new.self c.extend-2.new.self (rw (← c.self.view_is) at c.requires).mutator
    (ap (λ (p : World × Reply).
    p.0) (sym c.in_ok-apply.ensures.step)) c.in_ok-apply.ensures.closed c.in_ok-apply.ensures.grows.mutators (c.in_ok-extend-2.ensures.ok ∙
    rw (c.as_slice-3.ensures.value, c.in_ok-ends.ensures) refl)) c.extend-3.new.self c.extend-3.ensures.listed

pub invariant_of-self-in_err-extend_from_slice : goal.invariant_of-self-in_err-extend_from_slice
invariant_of-self-in_err-extend_from_slice c =
    with_opened c.apply.new.self c.self.inside.snapshot c.self.inside.remembered c.self.inside.accounts c.extend.new.self
    c.self.inside.taken c.extend-2.new.self (cycle_stepped c.self.inside.world c.self.inside.snapshot c.self.inside.remembered c.self.inside.accounts c.extend.new.self
    c.self.inside.taken c.self.inside.finalised (with_opened c.self.inside.world c.self.inside.snapshot c.self.inside.remembered
    c.self.inside.accounts c.self.inside.opened c.self.inside.taken c.self.inside.finalised c.self.invariant c.extend.new.self
    c.extend.ensures.listed) c.args.mutator c.args.command.now c.apply.new.self c.extend-2.new.self (rw (← c.self.view_is) at c.requires).mutator
    (ap (λ (p : World × Reply).
    p.0) (sym c.in_ok-apply.ensures.step)) c.in_ok-apply.ensures.closed c.in_ok-apply.ensures.grows.mutators (c.in_ok-extend-2.ensures.ok ∙
    rw (c.as_slice-3.ensures.value, c.in_ok-ends.ensures) refl)) c.extend-3.new.self c.extend-3.ensures.listed

pub invariant_of-self-in_err-came : goal.invariant_of-self-in_err-came
invariant_of-self-in_err-came c =
    with_opened c.apply.new.self c.self.inside.snapshot c.self.inside.remembered c.self.inside.accounts c.extend.new.self
    c.self.inside.taken c.extend-2.new.self (cycle_stepped c.self.inside.world c.self.inside.snapshot c.self.inside.remembered c.self.inside.accounts c.extend.new.self
    c.self.inside.taken c.self.inside.finalised (with_opened c.self.inside.world c.self.inside.snapshot c.self.inside.remembered
    c.self.inside.accounts c.self.inside.opened c.self.inside.taken c.self.inside.finalised c.self.invariant c.extend.new.self
    c.extend.ensures.listed) c.args.mutator c.args.command.now c.apply.new.self c.extend-2.new.self (rw (← c.self.view_is) at c.requires).mutator
    (ap (λ (p : World × Reply).
    p.0) (sym c.in_ok-apply.ensures.step)) c.in_ok-apply.ensures.closed c.in_ok-apply.ensures.grows.mutators (c.in_ok-extend-2.ensures.ok ∙
    rw (c.as_slice-3.ensures.value, c.in_ok-ends.ensures) refl)) c.extend-3.new.self c.extend-3.ensures.listed

pub owe-requires-clause-are : goal.owe-requires-clause-are
owe-requires-clause-are c = c.self.invariant.accounts

pub owe-requires-clause-mutator : goal.owe-requires-clause-mutator
owe-requires-clause-mutator c = subst (λ (n : ℕ). c.args.mutator < n) (sym c.self.invariant.count) (rw (← c.self.view_is) at c.requires).mutator

pub invariant_of-self-in_err-owe : goal.invariant_of-self-in_err-owe
invariant_of-self-in_err-owe c =
    with_accounts c.apply.new.self c.self.inside.snapshot c.self.inside.remembered c.self.inside.accounts c.extend-3.new.self c.self.inside.taken
    c.extend-2.new.self (with_opened c.apply.new.self c.self.inside.snapshot c.self.inside.remembered c.self.inside.accounts c.extend.new.self
    c.self.inside.taken c.extend-2.new.self (cycle_stepped c.self.inside.world c.self.inside.snapshot c.self.inside.remembered c.self.inside.accounts c.extend.new.self
    c.self.inside.taken c.self.inside.finalised (with_opened c.self.inside.world c.self.inside.snapshot c.self.inside.remembered
    c.self.inside.accounts c.self.inside.opened c.self.inside.taken c.self.inside.finalised c.self.invariant c.extend.new.self
    c.extend.ensures.listed) c.args.mutator c.args.command.now c.apply.new.self c.extend-2.new.self (rw (← c.self.view_is) at c.requires).mutator
    (ap (λ (p : World × Reply).
    p.0) (sym c.in_ok-apply.ensures.step)) c.in_ok-apply.ensures.closed c.in_ok-apply.ensures.grows.mutators (c.in_ok-extend-2.ensures.ok ∙
    rw (c.as_slice-3.ensures.value, c.in_ok-ends.ensures) refl)) c.extend-3.new.self c.extend-3.ensures.listed) c.owe.new.self c.owe.ensures.are c.owe.ensures.count

pub invariant_of-self-2 : goal.invariant_of-self-2
invariant_of-self-2 c =
    with_accounts c.apply.new.self c.self.inside.snapshot c.self.inside.remembered c.self.inside.accounts c.extend-3.new.self c.self.inside.taken
    c.extend-2.new.self (with_opened c.apply.new.self c.self.inside.snapshot c.self.inside.remembered c.self.inside.accounts c.extend.new.self
    c.self.inside.taken c.extend-2.new.self (cycle_stepped c.self.inside.world c.self.inside.snapshot c.self.inside.remembered c.self.inside.accounts c.extend.new.self
    c.self.inside.taken c.self.inside.finalised (with_opened c.self.inside.world c.self.inside.snapshot c.self.inside.remembered
    c.self.inside.accounts c.self.inside.opened c.self.inside.taken c.self.inside.finalised c.self.invariant c.extend.new.self
    c.extend.ensures.listed) c.args.mutator c.args.command.now c.apply.new.self c.extend-2.new.self (rw (← c.self.view_is) at c.requires).mutator
    (ap (λ (p : World × Reply).
    p.0) (sym c.in_ok-apply.ensures.step)) c.in_ok-apply.ensures.closed c.in_ok-apply.ensures.grows.mutators (c.in_ok-extend-2.ensures.ok ∙
    rw (c.as_slice-3.ensures.value, c.in_ok-ends.ensures) refl)) c.extend-3.new.self c.extend-3.ensures.listed) c.owe.new.self c.owe.ensures.are c.owe.ensures.count

pub returns-clause-taken : goal.returns-clause-taken
returns-clause-taken c =
    rw (← c.self.view_is)
    (taken_then c.self.inside.world c.self.inside.snapshot c.self.inside.remembered c.self.inside.accounts c.self.inside.opened c.self.inside.taken
    c.self.inside.finalised c.self.invariant c.args.scans.now c.args.line c.args.mutator c.args.command.now (rw (← c.self.view_is) at c.requires)
    c.in_ok-fields.fields c.coming_field-coming.result c.in_ok-fields.ensures c.coming_field-coming.ensures c.apply.new.self c.owe.new.self c.extend.new.self
    c.extend-3.new.self c.extend-2.new.self c.as_slice-9.result.now
    (ap (λ (p : World × Reply). p.0) (sym c.in_ok-apply.ensures.step))
    (subst (λ (l : List Name). Joins c.self.inside.snapshot c.self.inside.opened.names l c.extend.new.self.names) (c.as_slice-2.ensures.value ∙
    c.in_ok-opens.ensures) c.in_ok-extend.ensures.joins)
    (subst (λ (l : List Name). Joins c.self.inside.snapshot c.extend.new.self.names l c.extend-3.new.self.names) (c.as_slice-4.ensures.value ∙ (c.in_ok-handed.ensures ∙
    rw (c.is_set-seen.ensures, c.next_name-made.ensures, ap (λ (p : World × Reply). p.0) (sym c.in_ok-apply.ensures.step)) refl))
    c.in_ok-extend-3.ensures.joins)
    (c.in_ok-extend-2.ensures.ok ∙ rw (c.as_slice-3.ensures.value, c.in_ok-ends.ensures) refl)
    (rw (
      c.as_slice-9.ensures.value,
      c.in_ok-extend_from_slice.ensures.items,
      c.in_ok-names.ensures,
      c.as_slice-7.ensures.value,
      c.in_ok-handed.ensures,
      c.is_set-seen.ensures,
      c.next_name-made.ensures,
      c.items-2.ensures,
      c.in_ok-lost.ensures,
      c.items.ensures,
      c.as_slice-5.ensures.value,
      c.in_ok-opens.ensures,
      c.as_slice-6.ensures.value,
      c.in_ok-kept.ensures,
      c.as_slice.ensures.value,
      c.in_ok-ends.ensures,
      ap (λ (p : World × Reply). p.0) (sym c.in_ok-apply.ensures.step),
    ) refl)
    c.in_ok-owe.ensures.owing)

pub returns-clause-dues : goal.returns-clause-dues
returns-clause-dues c =
    rw (← c.self.view_is) (
      c.in_ok-came.came,
      counts_due c.self.inside.world c.self.inside.snapshot c.self.inside.remembered c.self.inside.accounts c.self.inside.opened c.self.inside.taken
          c.self.inside.finalised c.self.invariant c.args.scans.now c.args.line c.args.mutator c.args.command.now (rw (← c.self.view_is) at c.requires)
          c.in_ok-fields.fields c.coming_field-coming.result c.in_ok-fields.ensures c.coming_field-coming.ensures c.as_slice-8.result.now c.in_ok-came.came
          (rw (
            c.as_slice-8.ensures.value,
            c.in_ok-extend_from_slice.ensures.items,
            c.in_ok-names.ensures,
            c.as_slice-7.ensures.value,
            c.in_ok-handed.ensures,
            c.is_set-seen.ensures,
            c.next_name-made.ensures,
            c.items-2.ensures,
            c.in_ok-lost.ensures,
            c.items.ensures,
            c.as_slice-5.ensures.value,
            c.in_ok-opens.ensures,
            c.as_slice-6.ensures.value,
            c.in_ok-kept.ensures,
            c.as_slice.ensures.value,
            c.in_ok-ends.ensures,
            ap (λ (p : World × Reply). p.0) (sym c.in_ok-apply.ensures.step),
          ) refl)
          c.in_ok-came.ensures,
      c.saturating_add.ensures,
    )
