use Rattle.nmgc_cycle.proofs.{Vocabulary.◌≡◌, Vocabulary.◌∙◌, Vocabulary.◌++◌, Vocabulary.◌∷◌, Vocabulary.List, Vocabulary.[], Vocabulary.ap, Vocabulary.replicate, Vocabulary.arith, Vocabulary.Command}
use Rattle.std.proofs.lemmas.List.{replicate_more}
use Rattle.nmgc_cycle.proofs.programs.without_commands.Goals as goal

pub loop-number-preserved : goal.loop-number-preserved
loop-number-preserved c =
    c.in_ok-push.ensures.ok ∙ ap (λ (x : List Command). c.loop-number.threads ++ x ∷ []) c.new.ensures
    ∙ ap (λ (l : List (List Command)). l ++ [] ∷ []) c.loop-number.invariant ∙ replicate_more c.loop-number._number []

pub returns : goal.returns
returns c =
    let end = c.loop-number-test.false in
    let most = c.loop-number.auto._number-end in
    let is : c.loop-number._number ≡ c.args.count = omega (arith, end, most) in
    ap (λ (l : List (List Command)). record { version = 3; config = c.args.config.now; threads = l })
    (c.loop-number.invariant ∙ ap (λ n. replicate n []) is)
