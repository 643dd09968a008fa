use Rattle.nmgc_cycle.proofs.Vocabulary.{take, HasAdded, remembered_by, HaveForgottenSoFar}
use Rattle.nmgc_cycle.proofs.cycle.add_all.Given as goal

abbrev pub invariant-loop-number : goal.invariant-loop-number
invariant-loop-number l = record {
  added : HasAdded (remembered_by (take l.number l.initial.mutators)) l.initial.segments l.segments l.initial.marker l.marker;
  forgot : HaveForgottenSoFar l.number l.initial.inbox l.inbox l.initial.mutators l.mutators;
}
