use Rattle.nmgc_script.proofs.{Vocabulary.arith, Vocabulary.ap, Vocabulary.◌∙◌, Vocabulary.number_at, WordLaws.number_again}
use Rattle.nmgc_script.proofs.tokens.number.Goals as goal

pub returns-in-Some-clause-gives : goal.returns-in-Some-clause-gives
returns-in-Some-clause-gives c =
    ap (number_at c.args.limit) c.in-Some.ensures.found.0 ∙ number_again c.args.limit c.in-Some.number c.in-Some.ensures.found.1 (omega (
      arith,
      c.in-Some.ensures.found.1,
    ))
