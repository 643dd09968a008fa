use Rattle.nmgc_round.proofs.Allows.{look_keeps}
use Rattle.nmgc_round.proofs.laws.unborn_looks_keep_the_rule.Goals as goal

pub returns : goal.returns
returns c o words views id v p at w h here is can = look_keeps o words views h id v here p is at w can
