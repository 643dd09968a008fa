use Rattle.nmgc_lists.proofs.Queues.{drop-take}
use Rattle.nmgc_lists.proofs.queue.Queue.truncate.Goals as goal

pub returns : goal.returns
returns g c = rw (← c.self.view_is, c.truncate.ensures.items) (drop-take c.self.inside.first c.args.count c.self.inside.items.items)
