use Rattle.nmgc_graph.proofs.{Vocabulary.ap, Vocabulary.◌∙◌, Vocabulary.lent, Lent.values_known}
use Rattle.nmgc_graph.proofs.world.World.values.Goals as goal

pub returns-clause-known : goal.returns-clause-known
returns-clause-known c =
    rw (← c.self.view_is) (values_known (record {
      shared = c.self.inside.shared;
      mutators = c.self.inside.mutators;
    }) c.args.mutator c.self.invariant (rw (← c.self.view_is) at c.requires.mutator) c.args.operands.now
    c.requires.operands c.items-2.result.now
    (c.items-2.ensures ∙ ap (λ s. s.registers) (lent (record {
      shared = c.self.inside.shared;
      mutators = c.self.inside.mutators;
    }) c.self.invariant c.args.mutator (rw (← c.self.view_is) at c.requires.mutator) c.items.result.now
    c.items.ensures c.index-items-mutator.result c.index-items-mutator.result))
    c.values_at.result c.values_at.ensures)
