use Rattle.nmgc_sweep.proofs.Vocabulary.{ℕ, ◌≡◌, ◌∙◌, ◌<◌, List, length, slice_get, Some, ap, subst, sym, Name}
use Rattle.nmgc_sweep.proofs.Padded.{padded_get, padded_length}
use Rattle.nmgc_sweep.proofs.name_table.NameTable.name_at.Goals as goal

pub returns : goal.returns
returns c =
    let many : length c.args.self.now ≡ c.self.inside.limit = ap (λ (l : List Name). length l) (sym c.self.view_is) ∙
    padded_length c.self.inside.limit c.self.inside.entries.items c.self.invariant.0 in
    let low : c.entry_of.result < c.self.inside.limit =
    subst (λ (n : ℕ). c.entry_of.result < n) many (subst (λ (i : ℕ). i < length c.args.self.now) (sym c.entry_of.ensures) c.requires) in
    subst (λ (y : List Name × ℕ). slice_get y.0 y.1 ≡ Some c.entry_at.result) (λ i. (c.self.view_is i, c.entry_of.ensures i))
    (padded_get c.self.inside.limit c.self.inside.entries.items c.entry_of.result c.self.invariant.0 low ∙
    ap (λ (x : Name). Some x) (sym c.entry_at.ensures))
