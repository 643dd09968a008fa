use Rattle.nmgc_minor.proofs.Vocabulary.{List, length, ap, subst, arith, Contains, Address}
use Rattle.nmgc_minor.proofs.passes.clear.Goals as goal

pub clear_entries-requires : goal.clear_entries-requires
clear_entries-requires c = λ at h.
    let t = c.requires.tabled at.0 (subst (λ (xs : List Address). Contains xs at) c.items.ensures h) in
    let e = ap length c.as_mut_slice.ensures.value in
    (t.0, omega (arith, t.1, e))
