use Rattle.nmgc_barrier_checker.proofs.{Vocabulary.IfOk-weaker, RunningLaws.pushed_in}
use Rattle.nmgc_barrier_checker.proofs.watch.Running.push.Goals as goal

pub returns : goal.returns
returns c =
    IfOk-weaker c.push.result _ _
    (λ why p. pushed_in c.args.self.now c.self.inside.cycle.value c.self.inside.scans c.self.view_is c.deref_mut.result.now
    c.deref_mut.ensures.value c.args.name c.push.new.self why p)
    c.push.ensures.push
