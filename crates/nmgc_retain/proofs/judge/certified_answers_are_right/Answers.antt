use Rattle.nmgc_retain.proofs.Shortest.{certified_right, right_certified}
use Rattle.nmgc_retain.proofs.judge.certified_answers_are_right.Goals as goal

pub returns-clause-right : goal.returns-clause-right
returns-clause-right c = λ image name answer h. certified_right image name answer h

pub returns-clause-back : goal.returns-clause-back
returns-clause-back c = λ image name known answer h right. right_certified image name known answer h right
