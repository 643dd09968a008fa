use Rattle.nmgc_graph.specs.laws.Bare.{bare_world}
use Rattle.nmgc_graph.proofs.world.World.copy_without_registers.Goals as goal

pub invariant_of-result : goal.invariant_of-result
invariant_of-result c = rw (c.in_ok-shared.ensures, c.in_ok-mutators.ensures, c.items.ensures) (bare_world (record {
  shared = c.self.inside.shared;
  mutators = c.self.inside.mutators;
}) c.self.invariant)
