use Rattle.nmgc_weak.proofs.{Vocabulary.◌≡◌, Vocabulary.List, Vocabulary.ap, Vocabulary.sym, Vocabulary.subst, Vocabulary.◌∙◌, Vocabulary.arith, Vocabulary.Contains, Vocabulary.common_steps, Vocabulary.with_items_is, Vocabulary.IsInOrder, Vocabulary.OldWeak, Vocabulary.Row, Vocabulary.listed, Vocabulary.entry_names, Vocabulary.names_of, Entries.listed_ordered}
use Rattle.nmgc_weak.proofs.row.Row.remove_dead.Goals as goal

pub flag_dead-requires : goal.flag_dead-requires
flag_dead-requires g c weak there =
    let is : listed c.as_mut_slice.result.now ≡ c.args.self.now.list =
    ap listed c.as_mut_slice.ensures.value ∙ ap (λ (r : Row). r.list) c.self.view_is in
    c.requires weak (subst (λ (l : List OldWeak). Contains l weak) is there)

pub returns-clause-ordered : goal.returns-clause-ordered
returns-clause-ordered g c =
    let names = c.flag_dead.ensures.names ∙ ap entry_names c.as_mut_slice.ensures.value in
    let size = c.as_mut_slice.ensures.len in
    let kept = c.flag_dead.auto.entries in
    let all = with_items_is c.self.inside.entries c.flag_dead.new.entries (grind (arith, common_steps, size, kept)) in
    let list = c.drop_left_entries.ensures.list ∙ ap listed all in
    subst (λ (l : List OldWeak). IsInOrder (names_of l)) (sym list)
    (listed_ordered c.flag_dead.new.entries (subst IsInOrder (sym names) c.self.invariant))
