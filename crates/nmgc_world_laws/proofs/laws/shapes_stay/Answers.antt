use Rattle.nmgc_world_laws.specs.laws.Shapes.{step_keeps_shapes, rows_keep_shapes, closing_keeps_shapes}
use Rattle.nmgc_world_laws.proofs.laws.shapes_stay.Goals as goal

pub returns : goal.returns
returns c = record { step = step_keeps_shapes; rows = rows_keep_shapes; closing = closing_keeps_shapes }
