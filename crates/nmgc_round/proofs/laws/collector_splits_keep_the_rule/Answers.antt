use Rattle.std.specs.Prelude.{[]}
use Rattle.nmgc_round.proofs.Parts.{splits_collector_law}
use Rattle.nmgc_round.proofs.laws.collector_splits_keep_the_rule.Goals as goal

pub returns : goal.returns
returns c o words views id v h here on = splits_collector_law o id v on (record { words = words; homes = []; views = views }) h here
