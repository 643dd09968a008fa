use Rattle.nmgc_cycle.proofs.{Vocabulary.ap, Vocabulary.Config, rounds.FollowedLeft.left_where_given}
use Rattle.nmgc_cycle.proofs.collector.Collector.stop_programs.Goals as goal

pub do_stop-requires-clause-trigger : goal.do_stop-requires-clause-trigger
do_stop-requires-clause-trigger g c κs out = ap (λ (x : Config). x.trigger) c.requires.config

pub do_stop-requires-clause-left : goal.do_stop-requires-clause-left
do_stop-requires-clause-left g c κs out =
    let h = left_where_given g.P.Program.next c.args.script.now.value c.args.self.now.positions.items c.args.programs.now c.requires.follow in
    let some = c.is_some_left-left.ensures in
    (λ t. h.0 (some.0 t), λ l. some.1 (h.1 l))
