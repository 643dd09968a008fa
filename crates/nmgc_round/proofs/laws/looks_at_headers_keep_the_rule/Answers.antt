use Rattle.nmgc_round.proofs.Allows.{look_bears}
use Rattle.nmgc_round.proofs.laws.looks_at_headers_keep_the_rule.Goals as goal

pub returns : goal.returns
returns c o words views id v p at header command h here is can = look_bears o words views h id v here p is at header command can
