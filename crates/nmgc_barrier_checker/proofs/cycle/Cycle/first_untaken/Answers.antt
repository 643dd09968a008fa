use Rattle.nmgc_barrier_checker.proofs.{Vocabulary.◌∙◌, Vocabulary.◌≡◌, Vocabulary.true, Vocabulary.false, Vocabulary.sym, Vocabulary.subst, Vocabulary.List, Vocabulary.inl, Vocabulary.Name, Vocabulary.IsUntakenIn, CycleLaws.untaken_if}
use Rattle.nmgc_barrier_checker.proofs.cycle.Cycle.first_untaken.Goals as goal

pub returns-then-is_empty : goal.returns-then-is_empty
returns-then-is_empty c = rw (← c.self.view_is) (inl (c.is_empty.ensures.0 c.if-is_empty.true))

pub returns : goal.returns
returns c =
    rw (← c.self.view_is) (untaken_if c.self.inside.world c.self.inside.snapshot c.self.inside.remembered c.self.inside.accounts
    c.self.inside.opened c.self.inside.taken c.self.inside.finalised c.self.invariant c.first_untaken_in.result
    (λ e. let yes : c.is_empty.result ≡ true = c.is_empty.ensures.1 e in let bad : true ≡ false = sym yes ∙ c.if-is_empty.false in cc)
    (subst (λ (l : List Name). IsUntakenIn c.self.inside.taken l c.first_untaken_in.result) c.items.ensures c.first_untaken_in.ensures))
