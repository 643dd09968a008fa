use Rattle.nmgc_collector_laws.proofs.runs.Words.{object_is_lawful}
use Rattle.nmgc_collector_laws.proofs.samples.a_run_of_one_object_is_lawful.Goals as goal

pub returns : goal.returns
returns c = object_is_lawful c.new_segments_are_all_free.ensures
