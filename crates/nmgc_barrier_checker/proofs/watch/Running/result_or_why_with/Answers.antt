use Rattle.nmgc_barrier_checker.proofs.{Vocabulary.refl, Vocabulary.subst, Vocabulary.inl, Vocabulary.Cycle, RunningLaws.ending_with_in}
use Rattle.std.specs.Prelude.{IfOk}
use Rattle.nmgc_barrier_checker.specs.Watching.{IsEndingWith}
use Rattle.nmgc_barrier_checker.proofs.watch.Running.result_or_why_with.Goals as goal

pub returns-in-Some : goal.returns-in-Some
returns-in-Some c = inl (c.in-Some.mutator, refl, c.in-Some.ensures)

pub returns-in-None : goal.returns-in-None
returns-in-None c = ending_with_in c.args.self.now c.args.named.now c.result_or_why_with.result c.in-None.ensures
    (subst (λ (h : Cycle). IfOk c.result_or_why_with.result (IsEndingWith h c.args.named.now)) c.cycle.ensures c.result_or_why_with.ensures)
