-- A world before any command is within the limits.
use Rattle.nmgc_world_laws.specs.{laws.Vocabulary.refl, laws.Vocabulary.arith, laws.Vocabulary.All, laws.Vocabulary.All-nil, laws.Vocabulary.All-replicate, laws.Vocabulary.REGISTERS, laws.Vocabulary.SHARED_SLOTS, laws.Vocabulary.Nil, laws.Vocabulary.MutatorState, laws.Vocabulary.IsSmall, laws.Vocabulary.IsNodeWithin, laws.Vocabulary.NewIsWithin, laws.NewWorlds.each_new, laws.NewWorlds.new_nodes}

pub new_is_within : NewIsWithin
new_is_within words count = record {
  registers = each_new (λ (s : MutatorState). All IsSmall s.registers) (All-replicate IsSmall REGISTERS Nil tt) (All-nil IsSmall) count;
  queues = each_new (λ (s : MutatorState). All IsSmall s.queue) (All-nil IsSmall) (All-nil IsSmall) count;
  nodes = new_nodes (IsNodeWithin words) (record {
    held = All-replicate IsSmall SHARED_SLOTS Nil tt;
    shape = omega arith;
    size = λ ne. absurd (ne refl);
  }) count;
}
