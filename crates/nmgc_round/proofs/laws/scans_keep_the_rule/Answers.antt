use Rattle.nmgc_round.proofs.Scans.{scan_keeps}
use Rattle.nmgc_round.proofs.laws.scans_keep_the_rule.Goals as goal

pub returns : goal.returns
returns c o words views id v at offset h here can = scan_keeps o words views h id v here at offset can
