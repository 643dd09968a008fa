-- The results of a round for its stop: all that its promotion needs, and the worlds that the collector may use afterwards.
use Rattle.std.specs.Prelude.{List, ◌∷◌}
use Rattle.nmgc_world_spec.specs.{declared.command.Reply.Reply, Reach.Row}
use Rattle.nmgc_object.specs.Words.{nursery_place}
use Rattle.nmgc_alloc.specs.Segments.{IsSegments}
use Rattle.nmgc_heap_spec.specs.{Objects.Place, Moves.StillSpoken}
use Rattle.nmgc_stop_spec.specs.Stopped.{Stopped, IsStopped}
use Rattle.nmgc_run_spec.specs.{Run.State, Run.Plan, Run.layout_of, Run.Run, Run.last_state, Terms.registers_of, Terms.queues_of, Terms.serials_of, Heap.snapshots}
use Rattle.nmgc_collector_laws.specs.{Seen.CollectorSeen, Seen.ends_of, Seen.nurseries_of, Seen.recorded_in, Seen.young_weaks_in, Collector.IsAfterRound}
use Rattle.nmgc_run_laws.specs.Sound.{IsRunnable}

-- the heap at a stop, as a round from one state to another left it
abbrev pub stopped_after : State → State → List Place → CollectorSeen → Stopped
stopped_after s t places seen = record {
  world = t.world;
  began = s.world;
  later = snapshots t.progress;
  places = places;
  serials = serials_of (ends_of seen);
}

-- the law that a round leaves all that the promotion of its stop needs
abbrev pub RoundIsRemembered : Type 0
RoundIsRemembered = (plan : Plan) (run : Run) (replies : List (List Reply)) (history : List Row) (t : State) (seen : CollectorSeen) → IsRunnable plan →
    (h : IsAfterRound plan run replies history t seen) → IsSegments seen.segments →
    IsStopped (stopped_after (last_state run) t h.places seen) seen.segments seen.words (nurseries_of seen) (registers_of (ends_of seen))
    (queues_of (ends_of seen)) (recorded_in seen) (young_weaks_in seen)

-- the law that the collector uses only the snapshot, which has no new object, once the round is forgotten
abbrev pub RoundIsForgotten : Type 0
RoundIsForgotten = (plan : Plan) (run : Run) (replies : List (List Reply)) (history : List Row) (t : State) (seen : CollectorSeen) → IsRunnable plan →
    (h : IsAfterRound plan run replies history t seen) → IsSegments seen.segments →
    StillSpoken (nursery_place (layout_of plan) 0) (snapshots t.progress) ((last_state run).world ∷ snapshots t.progress) h.places t.world
