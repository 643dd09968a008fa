use Rattle.nmgc_field_checker.proofs.{Vocabulary.sym, Vocabulary.◌∙◌, NumberLaws.has_iff}
use Rattle.nmgc_field_checker.proofs.numbers.Numbers.has.Goals as goal

pub returns : goal.returns
returns c =
    let i = has_iff c.self.inside.set c.args.number in
    rw (← c.self.view_is) (λ t. i.0 (sym c.contains.ensures ∙ t), λ h. c.contains.ensures ∙ i.1 h)
