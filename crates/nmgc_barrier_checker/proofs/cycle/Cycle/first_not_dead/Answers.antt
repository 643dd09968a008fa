use Rattle.nmgc_barrier_checker.proofs.{Vocabulary.sym, Vocabulary.subst, Vocabulary.List, Vocabulary.All, Vocabulary.IsSome, Vocabulary.Name, Vocabulary.node_of, ClosingLaws.opened_there, ClosingLaws.opened_with_there, ClosingLaws.dead_if, CycleLaws.seen}
use Rattle.nmgc_barrier_checker.proofs.cycle.Cycle.first_not_dead.Goals as goal

pub dead_weaks-requires : goal.dead_weaks-requires
dead_weaks-requires c = subst (λ (l : List Name). All (λ name. IsSome (node_of c.self.inside.snapshot name)) l) (sym c.as_slice.ensures.value)
    (opened_with_there (seen c.self.inside.world c.self.inside.snapshot c.self.inside.remembered c.self.inside.accounts
    c.self.inside.opened c.self.inside.taken c.self.inside.finalised) c.self.invariant.snapshot
    (opened_there c.self.inside.world c.self.inside.snapshot c.self.inside.remembered c.self.inside.opened c.self.inside.taken
    c.self.inside.accounts c.self.inside.finalised c.self.invariant)
    c.args.named.now _ (rw (← c.self.view_is) at c.in_ok-names.ensures))

pub returns : goal.returns
returns c = rw (← c.self.view_is) (dead_if (seen c.self.inside.world c.self.inside.snapshot c.self.inside.remembered c.self.inside.accounts
    c.self.inside.opened c.self.inside.taken c.self.inside.finalised) c.args.named.now _ (rw (← c.self.view_is) at c.in_ok-names.ensures)
    c.in_ok-dead.dead c.in_ok-other.other (rw (c.as_slice.ensures.value, c.items.ensures) at c.in_ok-dead.ensures)
    (rw c.items-2.ensures at c.in_ok-other.ensures))
