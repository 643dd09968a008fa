use Rattle.nmgc_cycle.proofs.{Vocabulary.◌≤◌, Vocabulary.◌∙◌, Vocabulary.sym, Vocabulary.subst, Vocabulary.arith, Vocabulary.Config, Vocabulary.most_slice, lists.Plans.is_runnable, rounds.RoundWorked.on_ok}
use Rattle.nmgc_cycle.proofs.collector.Collector.make_inbox_room.Goals as goal

pub reserve_inbox-requires-clause-count : goal.reserve_inbox-requires-clause-count
reserve_inbox-requires-clause-count g c κs within = c.requires.programs.count ∙ sym c.requires.stopped.1.kept.inbox

pub reserve_inbox-requires-clause-few : goal.reserve_inbox-requires-clause-few
reserve_inbox-requires-clause-few g c κs within =
    let few = (is_runnable c.args.script.now.value c.requires.limits).few in
    let count = c.requires.stopped.1.kept.inbox in
    omega (arith, few, count)

pub reserve_inbox-requires-clause-slice : goal.reserve_inbox-requires-clause-slice
reserve_inbox-requires-clause-slice g c κs within = subst (λ (x : Config). x.slice ≤ most_slice) (sym c.requires.config) c.requires.limits.fits.config.slice

pub returns-clause-room : goal.returns-clause-room
returns-clause-room g c = on_ok c.reserve_inbox.result c.reserve_inbox.ensures.room (λ room marks. room)
