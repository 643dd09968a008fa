use Rattle.nmgc_cycle.proofs.{cycles.FinishingLeads.finishing_now_leads, cycles.FullCycle.finish_leads, cycles.StepReady.close_now_ready, cycles.SweepingRest.sweeping_rest_leads, cycles.SweepingRest.sweep_rest_ready}
use Rattle.nmgc_cycle.proofs.stop_laws.a_finish_leads.Goals as goal

pub returns-clause-close_ready : goal.returns-clause-close_ready
returns-clause-close_ready c =
    close_now_ready c.the_heap_stays_represented.ensures.rests c.a_round_begins_with_a_tied_marker.ensures.snapshot c.a_resolved_cycle_is_closed.ensures.may
    c.queues_close.ensures.room

pub returns-clause-closing : goal.returns-clause-closing
returns-clause-closing c = finishing_now_leads (record {
  rests = c.the_heap_stays_represented.ensures.rests;
  may = c.a_resolved_cycle_is_closed.ensures.may;
  closes = c.a_resolved_cycle_is_closed.ensures.closes;
  holds = c.a_resolved_cycle_is_closed.ensures.holds;
  marked = c.the_heap_stays_represented.ensures.marked;
  sweeps = c.a_resolved_cycle_is_closed.ensures.sweeps;
  waits = c.waiting_segments_stay.ensures.marked;
  left = c.unswept_segments_wait.ensures.stays;
  works = c.closing_begins_work.ensures;
})

pub returns-clause-sweep_ready : goal.returns-clause-sweep_ready
returns-clause-sweep_ready c = sweep_rest_ready

pub returns-clause-sweeping : goal.returns-clause-sweeping
returns-clause-sweeping c = sweeping_rest_leads (record {
  counted = c.unswept_segments_wait.ensures.counted;
  frees = c.freed_places_can_be_dropped.ensures.stop;
  holds = c.freed_places_can_be_dropped.ensures.at_stop;
})

pub returns-clause-leads : goal.returns-clause-leads
returns-clause-leads c = finish_leads (returns-clause-closing c) (returns-clause-sweeping c) c.an_end_leads.ensures
