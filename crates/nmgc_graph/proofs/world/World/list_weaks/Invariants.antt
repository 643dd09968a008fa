use Rattle.nmgc_graph.proofs.Vocabulary.{IsAliveWeak, ListsBefore}
use Rattle.nmgc_graph.proofs.world.World.list_weaks.Given as goal

abbrev pub invariant-loop-serial : goal.invariant-loop-serial
invariant-loop-serial l = ListsBefore (IsAliveWeak l.self) l.maker l.serial l.weaks
