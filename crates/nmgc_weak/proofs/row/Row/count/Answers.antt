use Rattle.nmgc_weak.proofs.{Vocabulary.length, Vocabulary.ap, Vocabulary.arith, Vocabulary.common_steps, Vocabulary.Row, Entries.listed_few}
use Rattle.nmgc_weak.proofs.row.Row.count.Goals as goal

pub returns : goal.returns
returns c =
    let few = listed_few c.self.inside.entries.items in
    let is = ap (λ (r : Row). length r.list) c.self.view_is in
    grind (arith, common_steps, few, is)
