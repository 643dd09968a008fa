use Rattle.nmgc_pmark.proofs.{Vocabulary.◌≡◌, Vocabulary.◌∙◌, Vocabulary.ap, Vocabulary.IfOk-weaker, Merging.merged, Merging.all}
use Rattle.nmgc_pmark.proofs.merge.names_of.Goals as goal

pub returns : goal.returns
returns c =
    let is : c.in_ok-names.names.items ≡ all c.args.claims.now.by = c.in_ok-names.ensures ∙ ap all c.items.ensures in
    IfOk-weaker c.sort_names.result _ _ (λ names order w roots markers claims.
    merged c.args.claims.now.by c.in_ok-names.names.items names is order.moved order.sorted w roots markers claims) c.sort_names.ensures
