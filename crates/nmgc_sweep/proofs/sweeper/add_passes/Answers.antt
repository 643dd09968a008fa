use Rattle.nmgc_sweep.proofs.{Vocabulary.◌≡◌, Vocabulary.◌≤◌, Vocabulary.◌+◌, Vocabulary.◌-◌, Vocabulary.◌^◌, Vocabulary.◌∙◌, Vocabulary.sym, Vocabulary.arith, Vocabulary.min, Steps.passed_is}
use Rattle.nmgc_sweep.proofs.sweeper.add_passes.Goals as goal

pub returns : goal.returns
returns c =
    let low : c.args.turns ≤ 2 ^ 64 - 1 = omega arith in
    let passes = c.from.ensures in
    let sum = c.saturating_add.ensures in
    let most : c.saturating_add.result ≡ min (c.args.turns + c.args.passes) (2 ^ 64 - 1) = omega (arith, sum, passes) in
    most ∙ sym (passed_is c.args.turns c.args.passes low)
