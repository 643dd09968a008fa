use Rattle.nmgc_cycle.specs.Lined.{HaveForgottenSoFar}
use Rattle.nmgc_cycle.proofs.cycle.forget_all.Given as goal

abbrev pub invariant-loop-number : goal.invariant-loop-number
invariant-loop-number l = HaveForgottenSoFar l.number l.initial.inbox l.inbox l.initial.mutators l.mutators
