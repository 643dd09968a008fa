use Rattle.nmgc_image.proofs.{Vocabulary.◌≡◌, Vocabulary.ℕ, Vocabulary.◌++◌, Vocabulary.◌∙◌, Vocabulary.decimal, Vocabulary.IfOk-weaker, PlainLaws.digit_first}
use Rattle.nmgc_image.proofs.plain.Cursor.number.Goals as goal

pub returns-clause-text : goal.returns-clause-text
returns-clause-text c =
    IfOk-weaker c.number_from.result (λ (n : ℕ). decimal c.in-Some.first ++ c.in-Some.after.now ≡ decimal n ++
    c.number_from.new.self.rest.now) (λ (n : ℕ). c.args.self.now.rest.now ≡ decimal n ++ c.number_from.new.self.rest.now) (λ n is.
    digit_first c.args.self.now.rest.now c.in-Some.after.now c.in-Some.first c.in-Some.ensures.digit c.in-Some.ensures.parts ∙
    is) c.number_from.ensures.text
