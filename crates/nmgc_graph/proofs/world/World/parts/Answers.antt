use Rattle.nmgc_graph.proofs.Weaks.{in_node_known}
use Rattle.nmgc_graph.proofs.world.World.parts.Goals as goal

pub returns-in-Some-clause-known : goal.returns-in-Some-clause-known
returns-in-Some-clause-known c = rw c.parts_in.ensures (in_node_known c.args.self.now c.in-Some.node.now c.in-Some.ensures.node)
