use Rattle.nmgc_cycle.proofs.round_laws.an_opening_leads.Goals as goal

pub returns : goal.returns
returns c = record {
  quiet = c.a_heap_at_rest_opens_a_round.ensures;
  marks = c.a_round_opens_while_a_cycle_marks.ensures;
  rests = c.the_heap_stays_represented.ensures.rests;
  snapshot = c.a_round_begins_with_a_tied_marker.ensures.snapshot;
}
