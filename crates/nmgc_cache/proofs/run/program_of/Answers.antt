use Rattle.std.proofs.Common.{arith}
use Rattle.nmgc_decider.specs.laws.Ready.{ready_new}
use Rattle.nmgc_cache.proofs.run.program_of.Goals as goal

pub returns-clause-is : goal.returns-clause-is
returns-clause-is c =
    let left = c.new-2.ensures.left in
    ready_new _ _ c.new-2.result _ c.new-2.ensures.waiting tt c.in-Some.ensures (omega arith) (omega (arith, left, c))
