use Rattle.nmgc_cycle.specs.Lined.{HaveMet}
use Rattle.nmgc_cycle.proofs.round.meet_each.Given as goal

abbrev pub invariant-loop-number : goal.invariant-loop-number
invariant-loop-number l = HaveMet l.number l.initial.inbox l.inbox l.initial.mutators l.mutators
