use Rattle.nmgc_name_lists.proofs.Vocabulary.{◌∙◌, List, ap, subst, sym, Name, AreDistinct, in_order, same_length, spans_in_order}
use Rattle.nmgc_name_lists.proofs.list.NameList.put_in_order.Goals as goal

pub invariant_of-self : goal.invariant_of-self
invariant_of-self c = c.self.invariant ∙ sym (same_length c.self.inside.spans.items c.sort.new.spans.items c.sort.ensures.permutation)

pub returns : goal.returns
returns c =
    spans_in_order c.self.inside.spans.items c.sort.new.spans.items c.sort.ensures.permutation c.sort.ensures.sorted
    (subst (λ (names : List Name). AreDistinct names) (sym c.self.view_is) c.requires) ∙ ap in_order c.self.view_is
