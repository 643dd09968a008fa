use Rattle.nmgc_barrier_checker.proofs.{Vocabulary.IfOk-weaker, RunningLaws.taken_in}
use Rattle.nmgc_barrier_checker.proofs.watch.Running.take.Goals as goal

pub returns : goal.returns
returns c =
    IfOk-weaker c.take.result _ _
    (λ why p. taken_in c.args.self.now c.self.inside.cycle.value c.self.inside.scans c.self.view_is c.deref_mut.result.now
    c.deref_mut.ensures.value c.args.name c.take.new.self why p)
    c.take.ensures
