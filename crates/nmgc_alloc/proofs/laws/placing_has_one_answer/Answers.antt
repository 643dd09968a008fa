use Rattle.nmgc_alloc.specs.laws.Sound.{stands_sound, one_target, one_placing}
use Rattle.nmgc_alloc.proofs.laws.placing_has_one_answer.Goals as goal

pub returns-clause-sound : goal.returns-clause-sound
returns-clause-sound c = stands_sound

pub returns-clause-target : goal.returns-clause-target
returns-clause-target c = one_target

pub returns-clause-placing : goal.returns-clause-placing
returns-clause-placing c = one_placing
