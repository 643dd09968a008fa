use Rattle.nmgc_graph.proofs.Vocabulary.{IsAliveWeak, ListsBefore}
use Rattle.nmgc_graph.proofs.world.World.alive_weaks.Given as goal

abbrev pub invariant-loop-maker : goal.invariant-loop-maker
invariant-loop-maker l = ListsBefore (IsAliveWeak l.self) l.maker 0 l.weaks
