use Rattle.nmgc_barrier_checker.proofs.Vocabulary.{take, AreDone}
use Rattle.nmgc_barrier_checker.specs.CameDue.{AreCounted}
use Rattle.nmgc_barrier_checker.proofs.watch.Watch.act_all.Given as goal

abbrev pub invariant-loop-task : goal.invariant-loop-task
invariant-loop-task l = record {
  done : AreDone l.line l.mutator (take l.task-index l.tasks) l.fn.self l.self;
  counted : AreCounted l.line l.mutator (take l.task-index l.tasks) l.fn.self l.fn.dues l.self l.dues;
}
