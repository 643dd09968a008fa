use Rattle.std.proofs.Common.{◌+◌, drop, arith}
use Rattle.nmgc_object.proofs.Pointers.{drop_fewer, fewer_up_to}
use Rattle.nmgc_object.proofs.fin_queue.FinQueue.take_first.Goals as goal

pub invariant_of-self-else-self-len : goal.invariant_of-self-else-self-len
invariant_of-self-else-self-len c =
    let q = c.self.inside in (
      grind (arith, c.self.invariant.0),
      fewer_up_to (drop q.first q.words.items) (drop (q.first + 1) q.words.items) q.highest (drop_fewer q.words.items q.first) c.self.invariant.1,
    )
