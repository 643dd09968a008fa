use Rattle.nmgc_world_laws.specs.laws.{NewLimits.new_is_within, LimitSteps.step_keeps_limits, LimitSteps.rows_keep_limits, LimitSteps.closing_keeps_limits}
use Rattle.nmgc_world_laws.proofs.laws.worlds_stay_within_limits.Goals as goal

pub returns : goal.returns
returns c = record { new = new_is_within; step = step_keeps_limits; rows = rows_keep_limits; closing = closing_keeps_limits }
