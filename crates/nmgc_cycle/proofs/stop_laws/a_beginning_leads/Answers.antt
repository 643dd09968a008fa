use Rattle.nmgc_cycle.proofs.{cycles.Beginning.beginning_leads, cycles.StartingLeads.starting_leads, cycles.StepReady.begin_ready}
use Rattle.nmgc_cycle.proofs.stop_laws.a_beginning_leads.Goals as goal

pub returns-clause-starting : goal.returns-clause-starting
returns-clause-starting c = starting_leads (record {
  prepares = c.a_stop_is_prepared.ensures.prepared;
  begins = c.marking_begins_on_prepared_heaps.ensures;
  stop = c.a_stop_is_prepared.ensures.begins;
  marked = c.the_heap_stays_represented.ensures.marked;
  marks = c.a_cycle_marks_after_each_call.ensures.snapshot;
  noted = c.start_notes_segments.ensures;
  left = c.unswept_segments_wait.ensures.stays;
  waits = c.waiting_segments_stay.ensures.marked;
  pace = c.the_pace_is_kept.ensures.begins;
  course = c.cycles_are_in_course.ensures.begins;
})

pub returns-clause-leads : goal.returns-clause-leads
returns-clause-leads c = beginning_leads (returns-clause-starting c)

pub returns-clause-ready : goal.returns-clause-ready
returns-clause-ready c = begin_ready c.a_stop_is_prepared.ensures.prepared c.marking_begins_on_prepared_heaps.ensures
