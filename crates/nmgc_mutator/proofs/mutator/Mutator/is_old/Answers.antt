use Rattle.nmgc_mutator.proofs.{Vocabulary.◌*◌, Vocabulary.refl, Vocabulary.sym, Vocabulary.◌∙◌, Vocabulary.arith, Vocabulary.lt-leb, Refers.old_at, Refers.old_low}
use Rattle.nmgc_mutator.proofs.mutator.Mutator.is_old.Goals as goal

pub returns-then-at-from : goal.returns-then-at-from
returns-then-at-from c =
    old_at c.args.self.now.layout (2 * c.args.at) c.args.at refl c.from-base.result (c.from-base.ensures ∙ c.nursery_base.ensures)
    (omega (arith, c.if-at-from.true, c.from.ensures))

pub returns-else-at-from : goal.returns-else-at-from
returns-else-at-from c =
    lt-leb c.from.result c.args.at c.if-at-from.false ∙
    sym (old_low c.args.self.now.layout (2 * c.args.at) c.args.at refl (omega (arith, c.if-at-from.false, c.from.ensures)))
