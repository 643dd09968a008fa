use Rattle.nmgc_cycle.proofs.{Vocabulary.ap, Vocabulary.◌∙◌, Vocabulary.Collector, cycles.FullCycle.closed_at, stops.Handing.handed_after}
use Rattle.nmgc_cycle.proofs.collector.Collector.finish_cycle.Goals as goal

pub close_now-requires-clause-words : goal.close_now-requires-clause-words
close_now-requires-clause-words g c = c.requires.stands.4.kept.has_words

pub close_now-requires-clause-can : goal.close_now-requires-clause-can
close_now-requires-clause-can g c = c.a_finish_leads.ensures.close_ready c.requires.stands.0 c.args.self.now c.requires.stands.1 c.requires.stands.4

pub sweep_rest-requires-clause-can : goal.sweep_rest-requires-clause-can
sweep_rest-requires-clause-can g c κs within =
    let at = closed_at c.a_finish_leads.ensures.closing c.args.stop c.args.self.now c.close_now.new.self c.requires.stands c.close_now.ensures in
    c.a_finish_leads.ensures.sweep_ready at.0 c.close_now.new.self at.1 at.3

pub returns-clause-finished : goal.returns-clause-finished
returns-clause-finished g c = record {
  closed = c.close_now.new.self;
  closes = c.close_now.ensures;
  swept = c.sweep_rest.new.self;
  sweeps = c.sweep_rest.ensures;
  ends = c.in_ok-try_end.ensures.ends;
}

pub returns-clause-handed : goal.returns-clause-handed
returns-clause-handed g c = handed_after c.args.stop c.args.self.now c.sweep_rest.new.self c.try_end.new.self c.args.rows.now c.try_end.new.rows
    (ap (λ (x : Collector). x.rows.cycles) c.sweep_rest.ensures.rest ∙ ap (λ (x : Collector). x.rows.cycles) c.close_now.ensures.rest)
    c.in_ok-try_end.ensures.handed
