use Rattle.nmgc_cycle.proofs.{Vocabulary.◌∙◌, Vocabulary.List, Vocabulary.[], Vocabulary.◌∷◌, Vocabulary.◌++◌, Vocabulary.ap, Vocabulary.set, Vocabulary.Reply, Vocabulary.Mutator, rounds.Taking.taken_more}
use Rattle.nmgc_cycle.proofs.round.take_rows.Goals as goal

pub loop-mutator-preserved : goal.loop-mutator-preserved
loop-mutator-preserved c =
    let l = c.loop-mutator in
    let took = c.in_ok-take_replies.ensures in
    let h = taken_more c.args.mutators.now l.mutator-items l.replies l.mutator-index c.mutator-item.result c.loop-mutator-test.true
    l.auto.mutator-items l.invariant.replies_are l.invariant.mutators_are in
    record {
      replies_are = c.in_ok-push.ensures.ok ∙ ap (λ (own : List Reply). l.replies ++ own ∷ []) took.replies ∙ h.0;
      mutators_are = ap (λ (m : Mutator). set l.mutator-items l.mutator-index m) took.rest ∙ h.1;
    }
