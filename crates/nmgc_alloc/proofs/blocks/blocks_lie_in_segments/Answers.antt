use Rattle.nmgc_alloc.specs.laws.Apart.{lies_in}
use Rattle.nmgc_alloc.proofs.blocks.blocks_lie_in_segments.Goals as goal

pub returns : goal.returns
returns c = lies_in
