use Rattle.std.proofs.Common.{refl}
use Rattle.nmgc_alloc.proofs.SweepLaws.{active_swept}
use Rattle.nmgc_alloc.proofs.cycle_steps.sweep_and_file.Goals as goal

pub set_state-requires-clause-unused : goal.set_state-requires-clause-unused
set_state-requires-clause-unused c = λ e b used. c.in-Free.ensures.free.0 refl b ((c.in-Free.ensures.used b).0 used)

pub returns-in-Active-clause-sweeps : goal.returns-in-Active-clause-sweeps
returns-in-Active-clause-sweeps c =
    let e = c.in-Active.ensures in
    active_swept _ _ _ _ e.used e.marks e.rest e.free e.filled c.set_state-in-Active.ensures.value
