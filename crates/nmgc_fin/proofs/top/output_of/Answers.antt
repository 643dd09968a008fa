use Rattle.nmgc_fin.proofs.Scanned.{says_taken}
use Rattle.nmgc_fin.proofs.top.output_of.Goals as goal

pub returns-in-Ok-clause-says : goal.returns-in-Ok-clause-says
returns-in-Ok-clause-says g c =
    says_taken _ c.in-Some.workers _ _ _ c.read_report.new.scan c.output_of_scan.result.status _ c.in-Some.ensures.asked c.in-Ok.ensures.read
    c.output_of_scan.ensures
