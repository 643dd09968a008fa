use Rattle.std.proofs.Common.{arith}
use Rattle.nmgc_limits.specs.Limits.{least_segment_words}
use Rattle.nmgc_decider.specs.laws.Ready.{ready_new}
use Rattle.nmgc_trees.proofs.run.program_of.Goals as goal

pub returns-clause-is : goal.returns-clause-is
returns-clause-is c =
    let fits = c.new-trees.ensures least_segment_words (omega arith) in
    let first = c.new.ensures.waiting in
    let left = c.new.ensures.left in
    ready_new _ _ c.new.result _ first tt fits (omega arith) (omega (arith, left, c))
