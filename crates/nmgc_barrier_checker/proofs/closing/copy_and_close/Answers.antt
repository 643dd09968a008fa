use Rattle.nmgc_barrier_checker.proofs.Vocabulary.{sym, subst, All, World, IsAliveWeak}
use Rattle.nmgc_barrier_checker.proofs.closing.copy_and_close.Goals as goal

pub close-requires-clause-alive : goal.close-requires-clause-alive
close-requires-clause-alive c = subst (λ (w : World). All (IsAliveWeak w) c.args.dead.now) (sym c.in_ok-after.ensures) c.requires.alive
