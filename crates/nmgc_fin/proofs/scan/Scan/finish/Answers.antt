use Rattle.nmgc_fin.proofs.{Vocabulary.lines_of}
use Rattle.nmgc_fin.proofs.scan.Scan.finish.Goals as goal

pub returns-clause-jobs : goal.returns-clause-jobs
returns-clause-jobs c = λ bytes h. c.answer.ensures.jobs (lines_of bytes) (c.in-Ok.ensures bytes h)

pub returns-clause-fault : goal.returns-clause-fault
returns-clause-fault c = λ bytes h. c.answer.ensures.fault (lines_of bytes) (c.in-Ok.ensures bytes h)
