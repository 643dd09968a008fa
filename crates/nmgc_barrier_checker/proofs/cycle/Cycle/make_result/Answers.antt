use Rattle.nmgc_barrier_checker.proofs.{Vocabulary.◌∙◌, Vocabulary.refl, Vocabulary.sym, Vocabulary.subst, Vocabulary.List, Vocabulary.All, Vocabulary.IsSome, Vocabulary.Name, Vocabulary.node_of, ClosingLaws.both_there}
use Rattle.nmgc_barrier_checker.proofs.cycle.Cycle.make_result.Goals as goal

pub kept-requires : goal.kept-requires
kept-requires c = subst (λ (l : List Name). All (λ name. IsSome (node_of c.self.inside.snapshot name)) l) (sym (c.as_slice.ensures.value ∙
    (c.in_ok-all.ensures ∙
    rw (c.items.ensures, c.items-2.ensures) refl))) (both_there c.self.inside.world c.self.inside.snapshot c.self.inside.remembered
    c.self.inside.opened c.self.inside.taken c.self.inside.accounts c.self.inside.finalised c.self.invariant)

pub new-requires : goal.new-requires
new-requires c = c.in_ok-kept.ensures.ordered

pub returns-clause-kept : goal.returns-clause-kept
returns-clause-kept c = rw (← c.self.view_is, c.new.ensures) (rw (
  c.as_slice.ensures.value,
  c.in_ok-all.ensures,
  c.items.ensures,
  c.items-2.ensures,
  c.items-3.ensures,
) at c.in_ok-kept.ensures)

pub returns-clause-needed : goal.returns-clause-needed
returns-clause-needed c = rw c.new-2.ensures c.in_ok-needed.ensures

pub returns-clause-old : goal.returns-clause-old
returns-clause-old c = rw (← c.self.view_is) c.in_ok-old.ensures
