use Rattle.nmgc_graph.proofs.world.World.object.Goals as goal

pub returns-in-Ref-clause-node : goal.returns-in-Ref-clause-node
returns-in-Ref-clause-node c = rw (c.node.ensures, ← c.self.view_is) (c.self.invariant.nodes c.in-Ref.name)
