use Rattle.nmgc_world_laws.specs.laws.Reached.{step_adds_one, closing_adds_none, stays_unreached, never_comes_back}
use Rattle.nmgc_world_laws.proofs.laws.names_out_of_reach_stay_out.Goals as goal

pub returns : goal.returns
returns c = record { step = step_adds_one; closing = closing_adds_none; rows = stays_unreached; run = never_comes_back }
