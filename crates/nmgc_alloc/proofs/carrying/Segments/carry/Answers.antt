use Rattle.nmgc_alloc.proofs.CarryingLaws.{all_sound}
use Rattle.nmgc_alloc.proofs.carrying.Segments.carry.Goals as goal

pub returns-clause-sound : goal.returns-clause-sound
returns-clause-sound c = all_sound c.args.epoch c.requires c.carry_late.new.done c.layout.ensures.sound
