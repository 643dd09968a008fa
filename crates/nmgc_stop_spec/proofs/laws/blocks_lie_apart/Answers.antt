use Rattle.nmgc_stop_spec.proofs.Vocabulary.{refl, occupied_in, occupied_apart, is_block, nursery_place}
use Rattle.nmgc_stop_spec.proofs.laws.blocks_lie_apart.Goals as goal

pub returns-clause-inside : goal.returns-clause-inside
returns-clause-inside c = occupied_in

pub returns-clause-apart : goal.returns-clause-apart
returns-clause-apart c = occupied_apart

pub returns-clause-above : goal.returns-clause-above
returns-clause-above c = λ s at size sound o. (is_block s (nursery_place s.layout 0) at size sound refl o).above

pub returns-clause-below : goal.returns-clause-below
returns-clause-below c = λ s at size sound o. (is_block s (nursery_place s.layout 0) at size sound refl o).below
