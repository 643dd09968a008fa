use Rattle.nmgc_cycle.proofs.stop_laws.a_stop_leads.Goals as goal

pub returns : goal.returns
returns c = record {
  promotion = record {
    back = c.places_are_blocks.ensures.back;
    marking = c.a_promotion_keeps_marking.ensures;
    fewer = c.moved_join_the_list.ensures.fewer;
    sweeping = c.waiting_segments_stay.ensures.stays;
    settled = c.waiting_segments_stay.ensures.settled;
    waits = c.waiting_segments_stay.ensures.placed;
    left = c.unswept_segments_wait.ensures.stays;
    work = c.work_goes_on.ensures.goes_on;
  };
  adding = c.an_adding_leads.ensures;
  close_ready = c.a_closing_leads.ensures.ready;
  closing = c.a_closing_leads.ensures.leads;
  ending = c.an_end_leads.ensures;
  begin_ready = c.a_due_cycle_leads.ensures.begin_ready;
  proceeding = c.a_due_cycle_leads.ensures.leads;
}
