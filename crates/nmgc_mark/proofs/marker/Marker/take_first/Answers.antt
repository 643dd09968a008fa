use Rattle.nmgc_mark.proofs.{Vocabulary.sym, Vocabulary.ap, Vocabulary.places, Vocabulary.reverse, Vocabulary.MarkerSeen, Queues.top_taken}
use Rattle.nmgc_mark.proofs.marker.Marker.take_first.Goals as goal

pub returns-clause-some : goal.returns-clause-some
returns-clause-some c =
    let is = c.self.view_is in
    top_taken c.take_last.result c.self.inside.stack.items c.take_last.new.self.items _ c.args.self.now _ c.take_last.ensures.some
    (sym (ap (λ (m : MarkerSeen). m.queue) is))
    (λ i. record {
      epoch = (is i).epoch;
      queue = places (reverse c.take_last.new.self.items);
      spare = (is i).spare;
      marked = (is i).marked;
      turns = (is i).turns;
    })
