use Rattle.nmgc_sweep.proofs.Vocabulary.{ℕ, ◌≡◌, ◌∙◌, ◌<◌, List, length, set, ap, subst, sym, arith, Name}
use Rattle.nmgc_sweep.proofs.Padded.{padded_length}
use Rattle.nmgc_sweep.proofs.name_table.NameTable.note.Goals as goal

pub set_entry-requires : goal.set_entry-requires
set_entry-requires c =
    let many : length c.args.self.now ≡ c.self.inside.limit = ap (λ (l : List Name). length l) (sym c.self.view_is) ∙
    padded_length c.self.inside.limit c.self.inside.entries.items c.self.invariant.0 in
    let low : c.entry_of-entry.result < c.self.inside.limit =
    subst (λ (n : ℕ). c.entry_of-entry.result < n) many (subst (λ (i : ℕ). i < length c.args.self.now) (sym c.entry_of-entry.ensures) c.requires) in
    omega (arith, low, c.self.invariant.1)

pub invariant_of-self : goal.invariant_of-self
invariant_of-self c =
    let many : length c.args.self.now ≡ c.self.inside.limit = ap (λ (l : List Name). length l) (sym c.self.view_is) ∙
    padded_length c.self.inside.limit c.self.inside.entries.items c.self.invariant.0 in
    let low : c.entry_of-entry.result < c.self.inside.limit =
    subst (λ (n : ℕ). c.entry_of-entry.result < n) many (subst (λ (i : ℕ). i < length c.args.self.now) (sym c.entry_of-entry.ensures) c.requires) in
    (c.set_entry.ensures.few c.self.inside.limit low c.self.invariant.0, omega (arith, c.set_entry.ensures.capacity, c.self.invariant.1))

pub returns : goal.returns
returns c =
    let many : length c.args.self.now ≡ c.self.inside.limit = ap (λ (l : List Name). length l) (sym c.self.view_is) ∙
    padded_length c.self.inside.limit c.self.inside.entries.items c.self.invariant.0 in
    let low : c.entry_of-entry.result < c.self.inside.limit =
    subst (λ (n : ℕ). c.entry_of-entry.result < n) many (subst (λ (i : ℕ). i < length c.args.self.now) (sym c.entry_of-entry.ensures) c.requires) in
    c.set_entry.ensures.items c.self.inside.limit low c.self.invariant.0 ∙
    ap (λ (y : List Name × ℕ). set y.0 y.1 c.args.name) (λ i. (c.self.view_is i, c.entry_of-entry.ensures i))
