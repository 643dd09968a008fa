-- The count of the last stop.
use Rattle.std.specs.Prelude.{◌≡◌, ◌∷◌}
use Rattle.nmgc_run_laws.specs.laws.Vocabulary.{List, [], map, ap, StopRow, Script, Report, Plan, plan_of, free_count, Turn, Stop, AreTurns, last_state, state_after, IsLawful, last_free_count}

turns_free : (plan : Plan) (stop : Stop) (turns : List Turn) → stop.row.free ≡ free_count stop.state → AreTurns plan stop.state turns →
    last_free_count (stop.row ∷ map (λ (turn : Turn). turn.stop.row) turns) ≡ free_count (state_after stop.state turns)
turns_free plan stop [] shown h = shown
turns_free plan stop (turn ∷ turns) shown h = turns_free plan turn.stop turns (ap (λ (row : StopRow). row.free) h.0.stop.shown) h.1

pub last_free : (script : Script) (report : Report) (h : IsLawful script report) → last_free_count report.stops ≡ free_count (last_state h.run)
last_free script report h = cc (h.agrees.stops_are, turns_free (plan_of script) h.run.opening h.run.turns (ap (λ (row : StopRow). row.free) h.is_run.opening.shown) h.is_run.turns)
