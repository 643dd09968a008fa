use Rattle.nmgc_image.proofs.Vocabulary.{◌≡◌, ◌++◌, ◌∙◌, decimal, IfOk-weaker, Name, name_text}
use Rattle.nmgc_image.proofs.plain.Cursor.name.Goals as goal

pub returns-clause-text : goal.returns-clause-text
returns-clause-text c =
    IfOk-weaker c.name_of.result (λ (name : Name). decimal c.in_ok-maker.maker ++ c.number.new.self.rest.now ≡ name_text name ++
    c.name_of.new.self.rest.now) (λ (name : Name). c.args.self.now.rest.now ≡ name_text name ++ c.name_of.new.self.rest.now) (λ name is.
    c.in_ok-maker.ensures.text ∙ is) c.name_of.ensures.text
