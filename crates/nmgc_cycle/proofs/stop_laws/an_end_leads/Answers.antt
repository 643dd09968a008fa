use Rattle.nmgc_cycle.proofs.cycles.Ending.{end_leads}
use Rattle.nmgc_cycle.proofs.stop_laws.an_end_leads.Goals as goal

pub returns : goal.returns
returns c = end_leads c.end_shows_census.ensures
