use Rattle.nmgc_pmark.proofs.Vocabulary.{List, subst, Contains, Address}
use Rattle.nmgc_pmark.proofs.claims.fn.read_all_names.map_vec.Goals as goal

pub read_names-requires-after_bounds : goal.read_names-requires-after_bounds
read_names-requires-after_bounds g c κs within a h = c.requires a (subst (λ (l : List Address). Contains l a) c.items.ensures h)
