use Rattle.std.proofs.Common.{◌≡◌, map, take}
use Rattle.nmgc_graph.specs.Bare.{cleared}
use Rattle.nmgc_graph.proofs.readers.cleared_states.Given as goal

abbrev pub invariant-loop-state : goal.invariant-loop-state
invariant-loop-state l = l.copies ≡ map cleared (take l.state-index l.states)
