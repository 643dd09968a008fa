use Rattle.nmgc_round.proofs.Fixes.{take_keeps}
use Rattle.nmgc_round.proofs.laws.fixed_loads_of_commands_keep_the_rule.Goals as goal

pub returns : goal.returns
returns c o words views id v p at offset command h here is can = take_keeps o words views h id v here p is at offset command can
