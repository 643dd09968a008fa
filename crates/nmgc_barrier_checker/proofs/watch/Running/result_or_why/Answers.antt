use Rattle.nmgc_barrier_checker.proofs.{Vocabulary.refl, Vocabulary.subst, Vocabulary.inl, Vocabulary.Cycle, RunningLaws.ending_in}
use Rattle.std.specs.Prelude.{IfOk}
use Rattle.nmgc_barrier_checker.specs.Watching.{IsEnding}
use Rattle.nmgc_barrier_checker.proofs.watch.Running.result_or_why.Goals as goal

pub returns-in-Some : goal.returns-in-Some
returns-in-Some c = inl (c.in-Some.mutator, refl, c.in-Some.ensures)

pub returns-in-None : goal.returns-in-None
returns-in-None c = ending_in c.args.self.now c.result_or_why.result c.in-None.ensures
    (subst (λ (h : Cycle). IfOk c.result_or_why.result (IsEnding h)) c.cycle.ensures c.result_or_why.ensures)
