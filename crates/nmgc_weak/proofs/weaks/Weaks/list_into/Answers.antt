use Rattle.nmgc_weak.proofs.{Vocabulary.ap, Vocabulary.Weaks, RowLaws.list_ordered}
use Rattle.nmgc_weak.proofs.weaks.Weaks.list_into.Goals as goal

pub returns-clause-ordered : goal.returns-clause-ordered
returns-clause-ordered c = list_ordered c.self.inside.rows.items c.self.inside.room c.args.self.now.list c.self.invariant.0
    (ap (λ (a : Weaks). a.list) c.self.view_is)
