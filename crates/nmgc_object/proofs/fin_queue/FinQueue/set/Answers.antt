use Rattle.std.proofs.Common.{arith}
use Rattle.nmgc_object.proofs.Pointers.{put_up_to}
use Rattle.nmgc_object.proofs.fin_queue.FinQueue.set.Goals as goal

pub invariant_of-self : goal.invariant_of-self
invariant_of-self c =
    let q = c.self.inside in
    let inv = c.self.invariant in (
      grind (arith, inv.0),
      put_up_to q.words.items q.first c.args.place c.args.word q.highest c.bound_with-self-inside.result inv.1 c.bound_with-self-inside.ensures.kept c.bound_with-self-inside.ensures.pointer,
    )
