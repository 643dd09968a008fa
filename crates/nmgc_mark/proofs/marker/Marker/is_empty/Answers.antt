use Rattle.nmgc_mark.proofs.{Vocabulary.sym, Vocabulary.ap, Vocabulary.MarkerSeen, Queues.empty_known}
use Rattle.nmgc_mark.proofs.marker.Marker.is_empty.Goals as goal

pub returns : goal.returns
returns c = rw (c.is_empty.ensures, c.items.ensures)
    (empty_known c.args.self.now.queue c.self.inside.stack.items (sym (ap (λ (m : MarkerSeen). m.queue) c.self.view_is)))
