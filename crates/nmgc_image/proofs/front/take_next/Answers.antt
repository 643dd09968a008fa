use Rattle.nmgc_image.proofs.Vocabulary.{ℕ, List, subst, IsPlain}
use Rattle.nmgc_image.proofs.front.take_next.Goals as goal

pub take_plain-requires : goal.take_plain-requires
take_plain-requires c = subst (λ (l : List ℕ). IsPlain l c.in-Ok.entry c.entry.new.self.rest.now) c.new-cursor.ensures c.in-Ok.ensures
