-- The mutators' roots at a stop, and the mutators after a promotion.
use Rattle.std.specs.Prelude.{ℕ, ◌≡◌, List, length, map}
use Rattle.nmgc_limits.specs.declared.mutators.TheConstants.{REGISTERS}
use Rattle.nmgc_object.specs.FinQueue.{FinQueue}
use Rattle.nmgc_heap_spec.specs.Emptied.{emptied}
use Rattle.nmgc_mutator.specs.{AtStop.cleared, declared.mutator.Mutator.Mutator}

-- the queues of all mutators
abbrev pub queues_in : List Mutator → List FinQueue
queues_in mutators = map (λ (m : Mutator). m.queue) mutators

-- a mutator with all its registers
abbrev pub HasRegisters : Mutator → Type 0
HasRegisters m = length m.registers ≡ REGISTERS

-- the mutator after a promotion forwarded its words: it has an empty nursery, and of the round only remembered entries
abbrev pub promoted_by : (ℕ → ℕ) → Mutator → Mutator
promoted_by forward m = record m {
  registers = map forward m.registers;
  queue = record m.queue { words = map forward m.queue.words };
  nursery = emptied m.nursery;
  recorded = cleared m.recorded;
  young_weaks = cleared m.young_weaks;
  finalised = cleared m.finalised;
}
