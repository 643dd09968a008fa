use Rattle.nmgc_fin.proofs.{Vocabulary.rules, Vocabulary.◌≡◌, Vocabulary.◌-◌, Vocabulary.◌<◌, Vocabulary.ap, Vocabulary.arith, Vocabulary.Hand, Vocabulary.most_parts, Rules.forks}
use Rattle.nmgc_fin.proofs.run.hire.Goals as goal

pub another-requires-clause-rule : goal.another-requires-clause-rule
another-requires-clause-rule c =
    let parts : c.loop-number.pass.me.view.client.parts ≡ most_parts - c.loop-number._number = ap (λ (v : Hand). v.parts) c.loop-number.invariant.left in
    let few = c.requires.workers in
    let test : c.loop-number._number < c.args.workers = search rules in
    forks c.loop-number.pass.id c.loop-number.pass.me.view.client (omega (arith, parts, few, test))
