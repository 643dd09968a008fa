use Rattle.nmgc_io.proofs.Vocabulary.{◌≡◌, ◌+◌, ◌∙◌, List, [], ◌∷◌, ◌++◌, ℕ, ap, sym, decimal, decimal_digit}
use Rattle.nmgc_io.proofs.numbers.push_number.Goals as goal

pub returns-then-number-lt10-clause-ok : goal.returns-then-number-lt10-clause-ok
returns-then-number-lt10-clause-ok c =
    let digit : decimal c.args.number ≡ (48 + c.args.number) ∷ [] = decimal_digit c.args.number c.if-number-lt10.true in
    c.in_ok-push.ensures.items ∙ ap (λ (l : List ℕ). c.args.out.now.items ++ l) (sym digit)
