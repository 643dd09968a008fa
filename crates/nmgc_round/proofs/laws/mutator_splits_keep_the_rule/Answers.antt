use Rattle.std.specs.Prelude.{[]}
use Rattle.nmgc_round.proofs.Parts.{splits_law}
use Rattle.nmgc_round.proofs.laws.mutator_splits_keep_the_rule.Goals as goal

pub returns : goal.returns
returns c o words views id v h here can = splits_law o id v can (record { words = words; homes = []; views = views }) h here
