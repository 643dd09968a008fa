use Rattle.std.specs.Prelude.{[]}
use Rattle.nmgc_round.proofs.Parts.{merged}
use Rattle.nmgc_round.proofs.laws.joins_keep_the_rule.Goals as goal

pub returns : goal.returns
returns c o words views id other v w h here there apart same =
    merged o (record { words = words; homes = []; views = views }) h id other v w here apart there same
