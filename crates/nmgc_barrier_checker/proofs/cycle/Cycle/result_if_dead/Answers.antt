use Rattle.nmgc_barrier_checker.proofs.Vocabulary.{refl, subst, inr, Option, Name, IsDeadIf}
use Rattle.nmgc_barrier_checker.proofs.cycle.Cycle.result_if_dead.Goals as goal

pub returns-in-Some : goal.returns-in-Some
returns-in-Some c = inr (
  c.requires.none,
  c.requires.taken,
  (c.in-Some.weak, refl, subst (λ (o : Option Name). IsDeadIf c.args.self.now c.args.named.now o) c.in-Some.is c.in_ok-weak.ensures),
)
