use Rattle.nmgc_cycle.proofs.round_laws.slices_lead.Goals as goal

pub returns : goal.returns
returns c = record {
  opens = c.an_opening_leads.ensures;
  tied = c.a_round_begins_with_a_tied_marker.ensures.begins;
  ready = c.a_round_finds_mutators_ready.ensures;
  gathered = c.slices_are_gathered.ensures;
  parts = c.owed_objects_are_remembered.ensures.gathered;
  owed = c.owed_objects_are_remembered.ensures.owed;
}
