use Rattle.nmgc_graph.proofs.Vocabulary.{◌≡◌, replicate, new_mutator}
use Rattle.nmgc_graph.proofs.world.new_mutators.Given as goal

abbrev pub invariant-loop : goal.invariant-loop
invariant-loop l = l.states ≡ replicate l.counter new_mutator
