use Rattle.nmgc_barrier_checker.proofs.Vocabulary.{◌≡◌, length, map, take, MutatorState}
use Rattle.nmgc_barrier_checker.proofs.closing.name_counts.Given as goal

abbrev pub invariant-loop-mutator : goal.invariant-loop-mutator
invariant-loop-mutator l = l.serials ≡ map (λ (own : MutatorState). length own.nodes) (take l.mutator l.world.mutators)
