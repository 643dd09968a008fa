use Rattle.nmgc_image.proofs.{Vocabulary.◌++◌, Vocabulary.List, Vocabulary.ℕ, Vocabulary.ap, Vocabulary.refl, Vocabulary.◌∙◌, Vocabulary.map, Vocabulary.length, Vocabulary.arith, Vocabulary.All-nil, Vocabulary.All-push, Vocabulary.value_text, Vocabulary.IsValue, Vocabulary.after_spaces, Vocabulary.length-append, PlainLaws.value_more}
use Rattle.nmgc_image.proofs.plain.Cursor.any_values.Goals as goal

pub more-init : goal.more-init
more-init c = rw c.new-values.ensures (record { text = refl; valid = All-nil IsValue })

pub more-preserved : goal.more-preserved
more-preserved c = rw c.in_ok-push.ensures.ok (record {
  text = value_more _ _ _ c.more.values c.in_ok-value.value c.more.invariant.text c.in_ok-value.ensures.text;
  valid = All-push IsValue c.more.values c.in_ok-value.value c.more.invariant.valid c.in_ok-value.ensures.valid;
})

pub more-smaller : goal.more-smaller
more-smaller c = omega (arith, ap length c.in_ok-value.ensures.text, length-append (value_text c.in_ok-value.value) c.spaced_value.new.self.rest.now)

pub returns-clause-text : goal.returns-clause-text
returns-clause-text c = c.more.invariant.text ∙ ap (λ (l : List ℕ). after_spaces (map value_text c.more.values) ++ l) c.in_ok-pass.ensures
