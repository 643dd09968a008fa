use Rattle.nmgc_cycle.proofs.{cycles.Filing.filing_leads, cycles.FullCycle.full_leads, cycles.FullCycle.proceeding_leads}
use Rattle.nmgc_cycle.proofs.stop_laws.a_due_cycle_leads.Goals as goal

pub returns-clause-filing : goal.returns-clause-filing
returns-clause-filing c = filing_leads

pub returns-clause-leads : goal.returns-clause-leads
returns-clause-leads c =
    proceeding_leads (full_leads c.a_finish_leads.ensures.leads filing_leads c.a_beginning_leads.ensures.starting) c.a_beginning_leads.ensures.leads
