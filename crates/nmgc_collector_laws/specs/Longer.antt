-- A collector at a stop of a run is at a stop of the run of longer programs too.
use Rattle.std.specs.Prelude.{◌≡◌, List}
use Rattle.nmgc_world_spec.specs.declared.command.Command.{Command}
use Rattle.nmgc_run_spec.specs.Run.{Plan, Run, last_state}
use Rattle.nmgc_run_laws.specs.Longer.{MayGoOn, longer_plan, longer_run}
use Rattle.nmgc_collector_laws.specs.{Seen.CollectorSeen, Collector.IsAtStop}

-- a collector at a stop is at a stop of longer programs too, with the same places
abbrev pub StopsAreOfLonger : Type 0
StopsAreOfLonger = (plan : Plan) (run : Run) (more : List (List Command)) (seen : CollectorSeen) → (h : IsAtStop plan run seen) →
    MayGoOn (last_state run).left more →
    (then : IsAtStop (longer_plan more plan) (longer_run more run) seen) × (then.heap.places ≡ h.heap.places)
