use Rattle.nmgc_world_laws.specs.laws.LiveRows.{rows_hold_live}
use Rattle.nmgc_world_laws.proofs.laws.only_live_or_new_names_are_held.Goals as goal

pub returns : goal.returns
returns c = rows_hold_live
