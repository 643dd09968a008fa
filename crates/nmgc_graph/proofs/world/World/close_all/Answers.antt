use Rattle.nmgc_graph.proofs.{Vocabulary.take, Vocabulary.sym, Vocabulary.take_more, Vocabulary.Name, Vocabulary.IsWorld, Closings.closed_push, Closings.next_alive}
use Rattle.nmgc_graph.proofs.world.World.close_all.Goals as goal

pub close_one-requires : goal.close_one-requires
close_one-requires c =
    let w = c.args.self.now in
    let h : IsWorld w = rw (← c.self.view_is) c.self.invariant in
    let none : Name = record { maker = 0; serial = 0 } in
    rw c.loop-weak.invariant (next_alive w h c.args.dead.now c.requires.ordered c.requires.alive c.loop-weak.weak-index none c.loop-weak-test.true)

pub loop-weak-preserved : goal.loop-weak-preserved
loop-weak-preserved c =
    let none : Name = record { maker = 0; serial = 0 } in
    let i = c.loop-weak.weak-index in
    rw (
      c.in_ok-close_one.ensures.ok,
      c.loop-weak.invariant,
      take_more c.args.dead.now i none c.loop-weak-test.true,
    ) (sym (closed_push (take i c.args.dead.now) c.args.self.now _))
