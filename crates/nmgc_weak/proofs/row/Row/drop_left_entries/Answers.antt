use Rattle.nmgc_weak.proofs.{Vocabulary.◌≡◌, Vocabulary.List, Vocabulary.sym, Vocabulary.ap, Vocabulary.subst, Vocabulary.◌∙◌, Vocabulary.rules, Vocabulary.filter, Vocabulary.IsInOrder, Vocabulary.Entry, Vocabulary.Row, Vocabulary.entry_names, Vocabulary.listed, Vocabulary.not, Entries.together_list, Entries.together_ordered}
use Rattle.std.proofs.lemmas.Fn.{filter_same}
use Rattle.nmgc_weak.proofs.row.Row.drop_left_entries.Goals as goal

pub invariant_of-self : goal.invariant_of-self
invariant_of-self c =
    let kept : c.retain.new.self.items ≡ filter (λ (e : Entry). not e.left) c.self.inside.entries.items =
    filter_same _ (λ (e : Entry). not e.left) _ (λ x b f' k. search rules) _ _ c.retain.ensures.filtered in
    subst (λ (l : List Entry). IsInOrder (entry_names l)) (sym kept) (together_ordered c.self.inside.entries.items c.self.invariant)

pub returns-clause-list : goal.returns-clause-list
returns-clause-list c =
    let kept : c.retain.new.self.items ≡ filter (λ (e : Entry). not e.left) c.self.inside.entries.items =
    filter_same _ (λ (e : Entry). not e.left) _ (λ x b f' k. search rules) _ _ c.retain.ensures.filtered in
    ap listed kept ∙ together_list c.self.inside.entries.items ∙ ap (λ (r : Row). r.list) c.self.view_is
