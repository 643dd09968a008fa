use Rattle.nmgc_world_laws.specs.laws.{Keeps.step_leaves_others, Deaths.closing_leaves_hands}
use Rattle.nmgc_world_laws.proofs.laws.other_mutators_keep_their_registers.Goals as goal

pub returns : goal.returns
returns c = record { step = step_leaves_others; closing = closing_leaves_hands }
