use Rattle.nmgc_cycle.proofs.{cycles.Closing.closing_leads, cycles.FinishingLeads.finishing_leads, cycles.StepReady.close_ready}
use Rattle.nmgc_cycle.proofs.stop_laws.a_closing_leads.Goals as goal

pub returns-clause-leads : goal.returns-clause-leads
returns-clause-leads c = closing_leads (finishing_leads (record {
  rests = c.the_heap_stays_represented.ensures.rests;
  may = c.a_resolved_cycle_is_closed.ensures.may;
  closes = c.a_resolved_cycle_is_closed.ensures.closes;
  holds = c.a_resolved_cycle_is_closed.ensures.holds;
  marked = c.the_heap_stays_represented.ensures.marked;
  sweeps = c.a_resolved_cycle_is_closed.ensures.sweeps;
  waits = c.waiting_segments_stay.ensures.marked;
  left = c.unswept_segments_wait.ensures.stays;
  works = c.closing_begins_work.ensures;
}))

pub returns-clause-ready : goal.returns-clause-ready
returns-clause-ready c =
    close_ready c.the_heap_stays_represented.ensures.rests c.a_round_begins_with_a_tied_marker.ensures.snapshot c.a_resolved_cycle_is_closed.ensures.may c.queues_close.ensures.room
