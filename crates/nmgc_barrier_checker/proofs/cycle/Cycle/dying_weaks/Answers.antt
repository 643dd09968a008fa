use Rattle.nmgc_barrier_checker.proofs.{Vocabulary.◌∙◌, Vocabulary.refl, Vocabulary.sym, Vocabulary.subst, Vocabulary.List, Vocabulary.All, Vocabulary.IsSome, Vocabulary.Name, Vocabulary.node_of, ClosingLaws.both_there}
use Rattle.nmgc_barrier_checker.proofs.cycle.Cycle.dying_weaks.Goals as goal

pub dead_weaks-requires : goal.dead_weaks-requires
dead_weaks-requires c = subst (λ (l : List Name). All (λ name. IsSome (node_of c.self.inside.snapshot name)) l) (sym (c.as_slice.ensures.value ∙
    (c.in_ok-all.ensures ∙
    rw (c.items.ensures, c.items-2.ensures) refl))) (both_there c.self.inside.world c.self.inside.snapshot c.self.inside.remembered
    c.self.inside.opened c.self.inside.taken c.self.inside.accounts c.self.inside.finalised c.self.invariant)

pub returns : goal.returns
returns c = rw (← c.self.view_is) (rw (
  c.as_slice.ensures.value,
  c.in_ok-all.ensures,
  c.items.ensures,
  c.items-2.ensures,
  c.items-3.ensures,
) at c.in_ok-dead.ensures)
