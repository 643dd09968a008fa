use Rattle.std.proofs.Common.{arith}
use Rattle.nmgc_limits.specs.Limits.{most_segment_words}
use Rattle.nmgc_decider.specs.laws.Ready.{ready_new}
use Rattle.nmgc_loads.proofs.run.program_of.Goals as goal

pub returns-clause-is : goal.returns-clause-is
returns-clause-is c =
    let fits = c.nil-first.ensures.fits most_segment_words (omega arith) in
    let left = c.new.ensures.left in
    ready_new _ _ c.new.result _ c.new.ensures.waiting tt fits (omega arith) (omega (arith, left, c))
