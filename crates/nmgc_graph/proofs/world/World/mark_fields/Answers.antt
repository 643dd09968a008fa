use Rattle.nmgc_graph.proofs.Follows.{node_placed}
use Rattle.nmgc_graph.proofs.world.World.mark_fields.Goals as goal

pub mark_fields-requires : goal.mark_fields-requires
mark_fields-requires c = node_placed c.args.self.now c.args.search.now.marks c.requires c.in-Some.node.now c.in-Some.ensures.node
