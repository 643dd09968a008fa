use Rattle.nmgc_cli.proofs.{Vocabulary.◌≡◌, Vocabulary.◌∙◌, Vocabulary.ℕ, Vocabulary.List, Vocabulary.sym, Vocabulary.ap, Vocabulary.subst, Vocabulary.IfOk-weaker, Vocabulary.IsStopped, Vocabulary.root_words, Marked.stopped_of, Marked.claims_are}
use Rattle.nmgc_cli.proofs.marks.claims_of.Goals as goal

pub mark_all-requires-clause-stopped : goal.mark_all-requires-clause-stopped
mark_all-requires-clause-stopped g c κs within =
    let s = stopped_of c.a_stop_is_stopped.ensures c.requires.script.script c.args.report.now c.requires.script.limits c.requires.script.run.lawful
    c.layout.ensures.sound in
    let roots : c.as_slice.result.now ≡ root_words c.args.report.now.mutators = c.as_slice.ensures.value ∙ c.in_ok-roots.ensures ∙
    ap root_words c.items.ensures in
    (s.heap, subst (λ (l : List ℕ). IsStopped s.heap c.args.report.now.segments c.args.report.now.words l) (sym roots) s.is)

pub returns : goal.returns
returns g c =
    let roots : c.as_slice.result.now ≡ root_words c.args.report.now.mutators = c.as_slice.ensures.value ∙ c.in_ok-roots.ensures ∙
    ap root_words c.items.ensures in
    IfOk-weaker c.mark_all.result _ _ (λ claims marked. claims_are c.a_stop_is_stopped.ensures c.args.report.now c.args.markers claims.by c.layout.ensures.sound
    (λ h is. marked h (subst (λ (l : List ℕ). IsStopped h c.args.report.now.segments c.args.report.now.words l) (sym roots) is))) c.mark_all.ensures
