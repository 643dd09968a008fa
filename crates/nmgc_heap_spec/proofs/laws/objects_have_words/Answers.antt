use Rattle.nmgc_heap_spec.specs.laws.Written.{header_is_shape, node_is_written, world_is_written, parts_are_written}
use Rattle.nmgc_heap_spec.proofs.laws.objects_have_words.Goals as goal

pub returns : goal.returns
returns g c = record { shape = header_is_shape; node = node_is_written; world = world_is_written; parts = parts_are_written g.K.KnownNodes.knows }
