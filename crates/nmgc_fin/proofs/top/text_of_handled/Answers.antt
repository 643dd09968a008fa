use Rattle.nmgc_fin.proofs.{Vocabulary.◌≡◌, Vocabulary.◌∙◌, Vocabulary.ap, Vocabulary.length, Vocabulary.IfOk-weaker, Vocabulary.jobs_text, Ordered.handled_within, Ordered.handled_alike, Ordered.are_done}
use Rattle.nmgc_fin.proofs.top.text_of_handled.Goals as goal

pub names_in_order-requires-clause-within : goal.names_in_order-requires-clause-within
names_in_order-requires-clause-within c = handled_within c.args.jobs.now c.args.handled.now.by c.requires.numbered c.requires.handled

pub names_in_order-requires-clause-alike : goal.names_in_order-requires-clause-alike
names_in_order-requires-clause-alike c = handled_alike c.args.jobs.now c.args.handled.now.by c.requires.numbered c.requires.handled

pub returns : goal.returns
returns c =
    let count : length c.in_ok-names.names.items ≡ length c.args.jobs.now = c.in_ok-names.ensures.count in
    IfOk-weaker c.handled_text.result _ _ (λ text reported.
    are_done c.args.jobs.now c.args.handled.now.by c.in_ok-names.names.items text.items c.requires.numbered c.requires.handled count
    c.in_ok-names.ensures.placed (reported ∙ ap jobs_text c.as_slice.ensures.value)) c.handled_text.ensures
