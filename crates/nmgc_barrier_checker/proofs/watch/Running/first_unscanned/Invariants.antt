use Rattle.nmgc_barrier_checker.proofs.Vocabulary.{◌≡◌, ◌<◌, ℕ, true}
use Rattle.nmgc_barrier_laws.specs.Hybrid.{is_scanned}
use Rattle.nmgc_barrier_checker.proofs.watch.Running.first_unscanned.Given as goal

abbrev pub invariant-loop-mutator : goal.invariant-loop-mutator
invariant-loop-mutator l = (k : ℕ) → k < l.mutator → is_scanned l.self k ≡ true
