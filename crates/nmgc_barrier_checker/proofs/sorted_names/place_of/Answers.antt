use Rattle.nmgc_barrier_checker.proofs.{Vocabulary.◌<◌, Vocabulary.◌+◌, Vocabulary.◌-◌, Vocabulary.◌/◌, Vocabulary.◌∙◌, Vocabulary.ℕ, Vocabulary.sym, Vocabulary.length, Vocabulary.get_or, Vocabulary.arith, Vocabulary.false≢true, Vocabulary.get_or_default, Vocabulary.Name, Vocabulary.StandsAt, OrderedLaws.after_middle, OrderedLaws.up_to_middle}
use Rattle.nmgc_barrier_checker.proofs.sorted_names.place_of.Goals as goal

pub loop-least-preserved-then-is_before : goal.loop-least-preserved-then-is_before
loop-least-preserved-then-is_before c =
    let middle : ℕ = c.loop-least.least + (c.loop-least.end - c.loop-least.least) / 2 in
    let less : middle < c.loop-least.end = omega (arith, c.loop-least-test.true) in
    let within : middle < length c.args.names.now = let most = c.loop-least.invariant.1.most in omega arith in
    let a : Name = get_or c.args.names.now middle (record { maker = 0; serial = 0 }) in
    let s : StandsAt c.args.names.now middle a = (within, get_or_default c.args.names.now middle a (record { maker = 0; serial = 0 }) within) in (
      omega arith,
      after_middle c.args.names.now c.args.name c.loop-least.least c.loop-least.end middle c.requires c.loop-least.invariant.1 a s
          (c.is_before.ensures.0 c.if-is_before.true),
    )

pub loop-least-preserved : goal.loop-least-preserved
loop-least-preserved c =
    let middle : ℕ = c.loop-least.least + (c.loop-least.end - c.loop-least.least) / 2 in
    let less : middle < c.loop-least.end = omega (arith, c.loop-least-test.true) in
    let within : middle < length c.args.names.now = let most = c.loop-least.invariant.1.most in omega arith in
    let a : Name = get_or c.args.names.now middle (record { maker = 0; serial = 0 }) in
    let s : StandsAt c.args.names.now middle a = (within, get_or_default c.args.names.now middle a (record { maker = 0; serial = 0 }) within) in (
      omega arith,
      up_to_middle c.args.names.now c.args.name c.loop-least.least c.loop-least.end middle c.requires c.loop-least.invariant.1 a s
          (λ b. false≢true (sym c.if-is_before.false ∙ c.is_before.ensures.1 b)),
    )
