use Rattle.nmgc_cycle.proofs.round_laws.a_round_leads.Goals as goal

pub returns : goal.returns
returns c = record {
  opens = c.an_opening_leads.ensures;
  history = c.a_round_is_a_history.ensures;
  stopped = c.a_round_leaves_a_heap_at_a_stop.ensures;
  finalised = c.finalised_are_listed.ensures;
  holds = c.the_heap_stays_represented.ensures.round;
  goes_on = c.the_machine_follows_a_round.ensures;
  is_marking = c.a_cycle_marks_after_each_call.ensures.round;
  pace = c.the_pace_is_kept.ensures.round;
  frees = c.freed_places_can_be_dropped.ensures.round;
  swept_holds = c.freed_places_can_be_dropped.ensures.after_round;
  drops = c.freed_places_can_be_dropped.ensures.remembered;
  grows = c.freed_places_can_be_dropped.ensures.free;
  waits = c.waiting_segments_stay.ensures.marked;
  left = c.unswept_segments_wait.ensures.stays;
  counted = c.unswept_segments_wait.ensures.counted;
}
