use Rattle.nmgc_heap_spec.specs.laws.CommandLaws.{world_is_earlier, step_keeps_earlier, closing_keeps_earlier, step_keeps_headers, closing_keeps_headers}
use Rattle.nmgc_heap_spec.proofs.laws.headers_stay.Goals as goal

pub returns : goal.returns
returns g c = record {
  itself = world_is_earlier;
  step = step_keeps_earlier;
  closing = closing_keeps_earlier;
  step_known = step_keeps_headers g.K.KnownNodes.knows;
  closing_known = closing_keeps_headers g.K.KnownNodes.knows;
}
