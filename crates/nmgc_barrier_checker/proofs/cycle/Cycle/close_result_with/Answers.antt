use Rattle.nmgc_barrier_checker.proofs.{Vocabulary.◌∙◌, Vocabulary.sym, Vocabulary.subst, Vocabulary.List, Vocabulary.All, Vocabulary.Name, Vocabulary.IsAliveWeak, ClosingLaws.alive_named, ClosingLaws.named_lists, CycleLaws.seen}
use Rattle.nmgc_barrier_checker.proofs.cycle.Cycle.close_result_with.Goals as goal

pub copy_and_close-requires-clause-alive : goal.copy_and_close-requires-clause-alive
copy_and_close-requires-clause-alive c =
    let may = rw (← c.self.view_is) at c.requires.dead in
    subst (λ (l : List Name). All (IsAliveWeak c.self.inside.world) l) (sym c.items.ensures)
    (alive_named c.self.inside.world c.self.inside.snapshot c.self.inside.remembered c.self.inside.opened c.self.inside.taken c.self.inside.accounts
    c.self.inside.finalised c.self.invariant c.args.named.now c.in_ok-dead.dead may
    (named_lists (seen c.self.inside.world c.self.inside.snapshot c.self.inside.remembered c.self.inside.accounts c.self.inside.opened c.self.inside.taken
    c.self.inside.finalised) c.args.named.now c.in_ok-dead.dead c.in_ok-set.set c.in_ok-set.ensures may c.in_ok-dead.ensures))

pub returns : goal.returns
returns c =
    let may = rw (← c.self.view_is) at c.requires.dead in
    rw (← c.self.view_is) (record {
      dead = c.in_ok-dead.dead;
      ends = record {
        debts = rw (← c.self.view_is) at c.requires.none;
        taken = rw (← c.self.view_is) at c.requires.taken;
        may = may;
        lists = named_lists (seen c.self.inside.world c.self.inside.snapshot c.self.inside.remembered c.self.inside.accounts c.self.inside.opened
            c.self.inside.taken c.self.inside.finalised) c.args.named.now c.in_ok-dead.dead c.in_ok-set.set c.in_ok-set.ensures may c.in_ok-dead.ensures;
        next_is = c.in_ok-left.ensures.world ∙ (rw c.items.ensures at c.in_ok-world.ensures);
      };
      kept = rw (← c.self.view_is) at c.in_ok-left.ensures.kept;
      needed = rw (← c.self.view_is) at c.in_ok-left.ensures.needed;
      old = rw (← c.self.view_is) at c.in_ok-left.ensures.old;
    })
