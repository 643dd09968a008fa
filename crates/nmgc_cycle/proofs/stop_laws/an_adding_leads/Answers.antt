use Rattle.nmgc_cycle.proofs.stops.AddingLeads.{adding_leads}
use Rattle.nmgc_cycle.proofs.stop_laws.an_adding_leads.Goals as goal

pub returns : goal.returns
returns c = adding_leads (record {
  marking = c.a_cycle_marks_after_each_call.ensures.add;
  soon = c.a_closing_is_in_bounds.ensures.soon;
  paced = c.a_closing_is_in_bounds.ensures.paced;
  waiting = c.a_closing_is_in_bounds.ensures.waits;
  pace = c.the_pace_is_kept.ensures.stop;
  waits = c.waiting_segments_stay.ensures.marked;
  left = c.unswept_segments_wait.ensures.stays;
})
