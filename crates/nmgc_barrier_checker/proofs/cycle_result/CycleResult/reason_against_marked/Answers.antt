use Rattle.nmgc_barrier_checker.proofs.Vocabulary.{subst, Option, Name, IsMissingIf}
use Rattle.nmgc_barrier_checker.proofs.cycle_result.CycleResult.reason_against_marked.Goals as goal

pub returns-in-None : goal.returns-in-None
returns-in-None c =
    let a = subst (λ (o : Option Name). IsMissingIf c.args.names.now c.args.self.now.kept o) c.in_default.is c.in_ok-name.ensures in
    let b = subst (λ (o : Option Name). IsMissingIf c.args.self.now.kept c.args.names.now o) c.in-None.is c.first_missing.ensures in
    λ n. (λ k. b n k, λ k. a n k)
