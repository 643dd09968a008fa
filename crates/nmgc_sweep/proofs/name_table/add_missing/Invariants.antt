use Rattle.nmgc_sweep.proofs.Vocabulary.{◌≡◌, ◌++◌}
use Rattle.std.specs.Prelude.{replicate, vec_capacity}
use Rattle.nmgc_world_spec.specs.World.{shared_name}
use Rattle.nmgc_sweep.proofs.name_table.add_missing.Given as goal

abbrev pub invariant-loop-added : goal.invariant-loop-added
invariant-loop-added l = record {
  items : l.entries.items ≡ l.initial.entries.items ++ replicate l._added shared_name;
  room : vec_capacity l.entries ≡ vec_capacity l.initial.entries;
}
