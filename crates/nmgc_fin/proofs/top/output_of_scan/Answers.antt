use Rattle.nmgc_fin.specs.Jobs.{IsFaultOf}
use Rattle.nmgc_fin.specs.declared.text.JobsFault.{JobsFault}
use Rattle.nmgc_fin.proofs.{Vocabulary.List, Vocabulary.Job, Vocabulary.AreJobsOf, Vocabulary.AreNumbered, Vocabulary.lines_of, Vocabulary.subst, Vocabulary.sym, Scanned.done_says, Scanned.bad_says}
use Rattle.nmgc_fin.proofs.top.output_of_scan.Goals as goal

pub done_text-requires-clause-numbered : goal.done_text-requires-clause-numbered
done_text-requires-clause-numbered g c κs within =
    subst (λ (jobs : List Job). AreNumbered jobs) (sym c.items.ensures) (c.in-Ok.ensures.jobs c.requires.taken.0 c.requires.taken.1).1

pub returns-in-Ok : goal.returns-in-Ok
returns-in-Ok g c = λ bytes h.
    let are : AreJobsOf (lines_of bytes) c.items.result.now =
    subst (λ (jobs : List Job). AreJobsOf (lines_of bytes) jobs) (sym c.items.ensures) (c.in-Ok.ensures.jobs bytes h) in
    done_says c.args.workers bytes c.items.result.now c.done_text.result c.output_with.result are c.done_text.ensures c.output_with.ensures

pub returns-in-Err-Bad : goal.returns-in-Err-Bad
returns-in-Err-Bad g c = λ bytes h.
    bad_says c.args.workers bytes c.in-Err-Bad.line c.bad_text.result c.output_with-in-Err-Bad.result
    (subst (λ (fault : JobsFault). IsFaultOf (lines_of bytes) fault) c.in-Err-Bad.field-0-is (c.in-Err-Bad.ensures.fault bytes h)) c.bad_text.ensures
    c.output_with-in-Err-Bad.ensures
