use Rattle.nmgc_fin.proofs.Asking.{one_number}
use Rattle.nmgc_fin.proofs.top.workers_in.Goals as goal

pub returns-then-number-eq0-clause-none : goal.returns-then-number-eq0-clause-none
returns-then-number-eq0-clause-none c workers count same =
    one_number c.args.argument.now c.in_ok-number.number workers c.if-number-eq0.true c.in_ok-number.ensures.found.0 count same
