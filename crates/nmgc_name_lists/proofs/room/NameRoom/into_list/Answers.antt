use Rattle.nmgc_name_lists.proofs.Vocabulary.{◌∙◌, List, length, ap, sym, Span, NameRoom, names_in}
use Rattle.nmgc_name_lists.proofs.room.NameRoom.into_list.Goals as goal

pub invariant_of-result : goal.invariant_of-result
invariant_of-result c = c.self.invariant.0 ∙ ap (λ (spans : List Span). length (names_in spans)) (sym c.trim_spans.ensures)

pub returns : goal.returns
returns c = ap names_in c.trim_spans.ensures ∙ ap (λ (r : NameRoom). r.names) c.self.view_is
