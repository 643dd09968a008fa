use Rattle.std.proofs.Common.{sym, ◌∙◌}
use Rattle.nmgc_mutator.proofs.Refers.{young_at, young_odd}
use Rattle.nmgc_mutator.proofs.mutator.Mutator.is_young.Goals as goal

pub returns-in_default : goal.returns-in_default
returns-in_default c = sym (young_odd c.args.self.now.layout c.args.word c.in_default.ensures.none)

pub returns : goal.returns
returns c =
    young_at c.args.self.now.layout c.args.word c.in-Some.at c.in-Some.ensures.some c.from.result (c.from.ensures ∙ c.nursery_base.ensures)
