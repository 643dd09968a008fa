use Rattle.nmgc_barrier_checker.proofs.{Vocabulary.◌∙◌, Vocabulary.sym, Vocabulary.subst, Vocabulary.List, Vocabulary.All, Vocabulary.Name, Vocabulary.IsAliveWeak, ClosingLaws.dying_alive}
use Rattle.nmgc_barrier_checker.proofs.cycle.Cycle.close_result.Goals as goal

pub copy_and_close-requires-clause-alive : goal.copy_and_close-requires-clause-alive
copy_and_close-requires-clause-alive c =
    subst (λ (l : List Name). All (IsAliveWeak c.self.inside.world) l) (sym c.items.ensures)
    (dying_alive c.self.inside.world c.self.inside.snapshot c.self.inside.remembered c.self.inside.opened c.self.inside.taken c.self.inside.accounts
    c.self.inside.finalised c.self.invariant _ c.in_ok-dead.dead (rw (← c.self.view_is) at c.in_ok-dead.ensures))

pub returns : goal.returns
returns c =
    rw (← c.self.view_is) (record {
      dead = c.in_ok-dead.dead;
      ends = record {
        debts = rw (← c.self.view_is) at c.requires.none;
        taken = rw (← c.self.view_is) at c.requires.taken;
        lists = rw (← c.self.view_is) at c.in_ok-dead.ensures;
        next_is = c.in_ok-left.ensures.world ∙ (rw c.items.ensures at c.in_ok-world.ensures);
      };
      kept = rw (← c.self.view_is) at c.in_ok-left.ensures.kept;
      needed = rw (← c.self.view_is) at (rw c.items-2.ensures at c.in_ok-left.ensures.needed);
      old = rw (← c.self.view_is) at c.in_ok-left.ensures.old;
    })
