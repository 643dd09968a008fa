use Rattle.nmgc_alloc.specs.laws.Blocks.{placed_begins}
use Rattle.nmgc_alloc.proofs.blocks.allocate_returns_a_block_in_use.Goals as goal

pub returns : goal.returns
returns c = placed_begins
