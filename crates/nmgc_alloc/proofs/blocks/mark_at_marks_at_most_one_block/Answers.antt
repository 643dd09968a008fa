use Rattle.nmgc_alloc.specs.laws.Blocks.{marks_place}
use Rattle.nmgc_alloc.proofs.blocks.mark_at_marks_at_most_one_block.Goals as goal

pub returns : goal.returns
returns c = marks_place
