use Rattle.nmgc_cli.proofs.Vocabulary.{◌≡◌, ◌++◌, List, ℕ, drop, flat_map, MutatorEnd, root_words, registers_of}
use Rattle.nmgc_cli.proofs.marks.root_words.Given as goal

-- the registers so far with the registers of the mutators left are all registers
abbrev pub invariant-loop-mutator : goal.invariant-loop-mutator
invariant-loop-mutator l = l.roots.items ++ registers_of (drop l.mutator-index l.mutators) ≡ registers_of l.mutators

-- and then the queues
abbrev pub invariant-loop-mutator-2 : goal.invariant-loop-mutator-2
invariant-loop-mutator-2 l = l.roots.items ++ flat_map (λ (m : MutatorEnd). m.queue) (drop l.mutator-index l.mutators) ≡ root_words l.mutators
