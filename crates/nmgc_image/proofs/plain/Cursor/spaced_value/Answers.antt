use Rattle.nmgc_image.proofs.Vocabulary.{◌≡◌, ℕ, List, ◌∷◌, ◌++◌, ◌∙◌, ap, IfOk-weaker, Value, value_text}
use Rattle.nmgc_image.proofs.plain.Cursor.spaced_value.Goals as goal

pub returns-clause-text : goal.returns-clause-text
returns-clause-text c =
    IfOk-weaker c.value.result (λ (v : Value). c.pass.new.self.rest.now ≡ value_text v ++ c.value.new.self.rest.now) (λ (v : Value).
    c.args.self.now.rest.now ≡ 32 ∷ (value_text v ++ c.value.new.self.rest.now)) (λ v is. c.in_ok-pass.ensures ∙
    ap (λ (l : List ℕ). 32 ∷ l) is) c.value.ensures.text
