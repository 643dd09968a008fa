use Rattle.nmgc_image.proofs.{Vocabulary.ap, Vocabulary.sym, Vocabulary.◌∙◌, Vocabulary.list_all, Vocabulary.test_of, Vocabulary.is_own_in, Vocabulary.is_object_in, Mentions.mentions_in}
use Rattle.nmgc_image.proofs.known.are_mentions_known.Goals as goal

pub returns : goal.returns
returns c = λ is.
    let d = test_of c.args.known.now in
    let owns = ap (list_all (is_own_in d)) (sym c.items.ensures) ∙ sym c.are_owns_known.ensures ∙ c.if-not-are_owns_known.false in
    let current = sym c.is_current_known.ensures ∙ c.if-not-is_current_known.false in
    let nodes = ap (list_all (is_object_in d)) (sym c.items-2.ensures) ∙ sym c.are_objects_known.ensures ∙ c.if-not-are_objects_known.false in
    mentions_in d c.args.reader.now owns current nodes (c.is_end_known.ensures is)
